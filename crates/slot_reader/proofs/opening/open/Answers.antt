use Rattle.std.proofs.Common.{◌≡◌, ◌<◌, ◌^◌, ap, subst, ◌∙◌, rules, arith}
use Rattle.slot_reader.specs.Fronts.{IsLead, is_clear_lead}
use Rattle.slot_reader.specs.Windows.{Window}
use Rattle.slot_reader.proofs.ReadingLemmas.{opened_short, opened_shut, opened_open, opened_bad, opens_within, opens_storable}
use Rattle.slot_reader.proofs.WindowLemmas.{shows_moved}
use Rattle.slot_reader.proofs.opening.open.Goals as goal

pub returns-then-long-le-SHORT_BYTES-clause-opened :
    goal.returns-then-long-le-SHORT_BYTES-clause-opened
returns-then-long-le-SHORT_BYTES-clause-opened g c =
    let small : c.in_ok-long.long < 2 ^ 64 = first_of (omega arith, search rules) in
    opened_short c.args.slot c.in_ok-long.long (g.D.Outside.stands c.len_of.new.disk).told c.in_ok-long.ensures.len small c.if-long-le-SHORT_BYTES.true

pub returns-in-Shut-clause-opened : goal.returns-in-Shut-clause-opened
returns-in-Shut-clause-opened g c =
    let w = c.lead_of.new.shown in
    let same = c.lead_of.ensures.same in
    let slot_is : w.slot ≡ c.args.slot = same.slot ∙ ap (λ (u : Window). u.slot) c.new-shown.ensures in
    let at_front : w.place ≡ 0 = same.place ∙ ap (λ (u : Window). u.place) c.new-shown.ensures in
    let long : w.long ≡ c.in_ok-long.long = same.long ∙ ap (λ (u : Window). u.long) c.new-shown.ensures in
    let big : 16 < w.long = omega (arith, long, c.if-long-le-SHORT_BYTES.false) in
    let lead = subst (IsLead w.bytes) c.in-Shut.is c.in_ok-lead_of.ensures.lead in
    opened_shut c.args.slot w (g.D.Outside.stands c.lead_of.new.disk).told c.lead_of.ensures.shows c.lead_of.ensures.within slot_is at_front big lead

pub returns-in-Opens-clause-opened : goal.returns-in-Opens-clause-opened
returns-in-Opens-clause-opened g c =
    let w = c.lead_of.new.shown in
    let same = c.lead_of.ensures.same in
    let slot_is : w.slot ≡ c.args.slot = same.slot ∙ ap (λ (u : Window). u.slot) c.new-shown.ensures in
    let at_front : w.place ≡ 0 = same.place ∙ ap (λ (u : Window). u.place) c.new-shown.ensures in
    let long : w.long ≡ c.in_ok-long.long = same.long ∙ ap (λ (u : Window). u.long) c.new-shown.ensures in
    let big : 16 < w.long = omega (arith, long, c.if-long-le-SHORT_BYTES.false) in
    let lead = subst (IsLead w.bytes) c.in-Opens.is c.in_ok-lead_of.ensures.lead in
    opened_open c.args.slot w (g.D.Outside.stands c.lead_of.new.disk).told c.lead_of.ensures.shows c.lead_of.ensures.within slot_is at_front big
    c.in-Opens.begun c.in-Opens.len c.skip.new.self lead c.skip.ensures.slot c.skip.ensures.long c.skip.ensures.place c.skip.ensures.bytes

pub returns-in-Opens-clause-storable : goal.returns-in-Opens-clause-storable
returns-in-Opens-clause-storable g c =
    let w = c.lead_of.new.shown in
    let lead = subst (IsLead w.bytes) c.in-Opens.is c.in_ok-lead_of.ensures.lead in
    opens_storable w.bytes c.in-Opens.begun c.in-Opens.len lead

pub returns-in-Opens-clause-stands : goal.returns-in-Opens-clause-stands
returns-in-Opens-clause-stands g c =
    let w = c.lead_of.new.shown in
    let same = c.lead_of.ensures.same in
    let slot_is : w.slot ≡ c.args.slot = same.slot ∙ ap (λ (u : Window). u.slot) c.new-shown.ensures in
    let lead = subst (IsLead w.bytes) c.in-Opens.is c.in_ok-lead_of.ensures.lead in (
      c.skip.ensures.slot ∙ slot_is,
      c.skip.ensures.within,
      shows_moved w c.skip.new.self (g.D.Outside.stands c.lead_of.new.disk).told c.in-Opens.len c.lead_of.ensures.shows (opens_within w.bytes c.in-Opens.begun c.in-Opens.len lead) c.skip.ensures.slot c.skip.ensures.long c.skip.ensures.place c.skip.ensures.bytes,
    )

pub returns-in-Bad-clause-opened : goal.returns-in-Bad-clause-opened
returns-in-Bad-clause-opened g c =
    let w = c.lead_of.new.shown in
    let same = c.lead_of.ensures.same in
    let slot_is : w.slot ≡ c.args.slot = same.slot ∙ ap (λ (u : Window). u.slot) c.new-shown.ensures in
    let at_front : w.place ≡ 0 = same.place ∙ ap (λ (u : Window). u.place) c.new-shown.ensures in
    let long : w.long ≡ c.in_ok-long.long = same.long ∙ ap (λ (u : Window). u.long) c.new-shown.ensures in
    let big : 16 < w.long = omega (arith, long, c.if-long-le-SHORT_BYTES.false) in
    let lead = subst (IsLead w.bytes) c.in-Bad.is c.in_ok-lead_of.ensures.lead in
    opened_bad c.args.slot w (g.D.Outside.stands c.lead_of.new.disk).told c.lead_of.ensures.shows c.lead_of.ensures.within slot_is at_front big
    c.in-Bad.generation c.in-Bad.at lead (c.in_ok-lead_of.ensures.clear (ap is_clear_lead c.in-Bad.is))
