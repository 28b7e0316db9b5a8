-- What a reader of a slot gives, and what is known of the slot then.
use Rattle.std.proofs.Common.{ℕ, Bool, ◌≡◌, ◌+◌, ◌-◌, ◌<◌, ◌≤◌, ◌^◌, inl, inr, Option, Some, None, List, [], ◌∷◌, ◌++◌, length, take, drop, Ok, Err, length-append, refl, sym, ap, ap₂, ◌∙◌, subst, arith}
use Rattle.std.proofs.lemmas.Option.{none-some, same_Some}
use Rattle.f2b_base.specs.declared.input.Input.{Input}
use Rattle.f2b_base.specs.declared.view.View.{View}
use Rattle.f2b_model.specs.Storable.{IsStorableInput}
use Rattle.f2b_model.specs.StorableViews.{IsStorableView}
use Rattle.f2b_world.specs.Slots.{Slot}
use Rattle.f2b_world.specs.Told.{History, Standing}
use Rattle.journal_slots.specs.declared.head.Head.TheVariants.{Short, Shut}
use Rattle.journal_slots.specs.Fronts.{IsFront}
use Rattle.journal_slots.specs.Grammar.{Bad, parse_slot}
use Rattle.journal_slots.specs.Starts.{start}
use Rattle.journal_slots.proofs.SlotLemmas.{short_empty}
use Rattle.record_codec.specs.Inputs.{input}
use Rattle.record_fields.specs.Codec.{IsHeld}
use Rattle.slot_reader.specs.declared.checked.Checked.{Checked}
use Rattle.slot_reader.specs.declared.checked.Checked.TheVariants.{Open as OpenChecked, Bad as BadChecked}
use Rattle.slot_reader.specs.declared.fault.Fault.{Fault}
use Rattle.slot_reader.specs.declared.item.Item.TheVariants.{Closed, Taken, Bad as BadItem}
use Rattle.slot_reader.specs.declared.lead.Begun.{Begun}
use Rattle.slot_reader.specs.declared.lead.Lead.TheVariants.{Shut as ShutLead, Opens, Bad as BadLead}
use Rattle.slot_reader.specs.declared.opening.Opening.{Opening}
use Rattle.slot_reader.specs.declared.opening.Opening.TheVariants.{Empty as EmptyOpening, Open as OpenOpening, Bad as BadOpening}
use Rattle.slot_reader.specs.declared.checked.OpenSlot.{OpenSlot}
use Rattle.slot_reader.specs.declared.reader.Next.{Next}
use Rattle.slot_reader.specs.declared.reader.Next.TheVariants.{Input as NextInput, Closed as NextClosed, Bad as BadNext}
use Rattle.slot_reader.specs.declared.reader.SlotReader.{SlotReader}
use Rattle.slot_reader.specs.declared.version.Version.{Version}
use Rattle.slot_reader.specs.Fronts.{start_in, IsLead, IsItem}
use Rattle.slot_reader.specs.Reads.{content, OnlyReads, IsAllOf}
use Rattle.slot_reader.specs.Readings.{start_of, HasRead, EndsAt, Reads, TellsNext, GoesOn, IsSameSlot, IsOpened, IsChecked, IsTold, ended_by}
use Rattle.slot_reader.specs.Versions.{spelling}
use Rattle.slot_reader.specs.Windows.{Window, IsWithin, IsWhole, IsOver, Shows, IsAtPlaceOf}
use Rattle.slot_reader.proofs.GrammarLemmas.{input_more, input_closed, input_missing, input_bad, start_shut, shut_head, start_opens, start_is_bad}
use Rattle.slot_reader.proofs.ReadLemmas.{told_before, reads_same, reads_then}
use Rattle.slot_reader.proofs.RecordLemmas.{input_storable, start_storable}
use Rattle.slot_reader.proofs.WindowLemmas.{over_moved}

-- ---- how long an item is

pub taken_within : (version : Version) (bytes : List ℕ) (i : Input) (len : ℕ) → IsItem (spelling version) bytes (Taken i len) → (len ≤ length bytes) × (1 ≤ len)
taken_within version bytes i len is =
    let long = ap length is.4 in
    (omega (arith, long, length-append ((input (spelling version)).spell i) is.1, is.5), omega (arith, is.5))

pub bad_within : (version : Version) (bytes : List ℕ) (at : ℕ) → IsItem (spelling version) bytes (BadItem at) → at ≤ length bytes
bad_within version bytes at (inl none) = omega (arith, none.1)
bad_within version bytes at (inr some) = omega (arith, some.6)

pub opens_within : (bytes : List ℕ) (b : Begun) (len : ℕ) → IsLead bytes (Opens b len) → len ≤ length bytes
opens_within bytes b len is = let long = ap length is.4 in omega (arith, long, length-append (start.spell (start_in b)) is.1, is.5)

-- ---- what was read can be stored

pub taken_storable : (version : Version) (bytes : List ℕ) (i : Input) (len : ℕ) → IsItem (spelling version) bytes (Taken i len) → IsStorableInput i
taken_storable version bytes i len is = input_storable (spelling version) i is.3

pub opens_storable : (bytes : List ℕ) (b : Begun) (len : ℕ) → IsLead bytes (Opens b len) → IsStorableView b.view
opens_storable bytes b len is = start_storable (start_in b) is.3

-- ---- the next input

module _ (failed : Bool) (r : SlotReader) (w : Window) (a b : Standing) (reads : OnlyReads failed a b) (same : IsAtPlaceOf r.shown w) (shows : Shows w b.told) where
  abbrev here : SlotReader
  here = record r { shown = w }

  -- what was read stays read while the disk is read and more is shown
  pub reads_kept : (v : View) (inputs : List Input) → Reads r v inputs a.told → Reads here v inputs b.told
  reads_kept v inputs given h is =
      let t = told_before failed a.told b.told reads.told h is in
      let slots : content h w.slot ≡ content t.0 r.shown.slot = ap (content h) same.slot ∙ ap (λ (s : Slot). s.now) (t.2 r.shown.slot) in
      let old : HasRead r v inputs (content h w.slot) = subst (HasRead r v inputs) (sym slots) (given t.0 t.1) in
      let P : ℕ → Type 0 = λ p. IsFront (start_of r v) inputs (take p (content h w.slot)) in
      record { over = shows h is; held = old.held; big = old.big; spelt = subst P (sym same.place) old.spelt }

  pub next_fails : (v : View) (inputs : List Input) (fault : Fault) → Reads r v inputs a.told → TellsNext here v inputs b.told (Err fault)
  next_fails v inputs fault given h is = reads_kept v inputs given h is

  module _ (within : IsWithin w) where
    pub next_closed : (v : View) (inputs : List Input) → IsItem (spelling r.version) w.bytes Closed → Reads r v inputs a.told → TellsNext here v inputs b.told (Ok NextClosed)
    next_closed v inputs item given h is =
        let now = content h w.slot in
        let k = reads_kept v inputs given h is in
        (k, input_closed w now k.over within (start_of r v) inputs k.held k.spelt item.0 item.1)

    pub next_bad : (v : View) (inputs : List Input) (at : ℕ) → IsItem (spelling r.version) w.bytes (BadItem at) → IsWhole w → Reads r v inputs a.told → TellsNext here v inputs b.told (Ok (BadNext (w.place + at)))
    next_bad v inputs at (inl none) whole given h is =
        let now = content h w.slot in
        let k = reads_kept v inputs given h is in
        let place : w.place ≡ w.place + at = omega (arith, none.1) in
        (k, input_missing w now k.over within (start_of r v) inputs k.held k.spelt k.big none.0 whole ∙ ap (Bad r.generation) place)
    next_bad v inputs at (inr some) whole given h is =
        let now = content h w.slot in
        let k = reads_kept v inputs given h is in
        let place : w.place + (length w.bytes - some.2) ≡ w.place + at = omega (arith, some.6) in
        (k, input_bad w now k.over within (start_of r v) inputs k.held k.spelt some.0 some.2 some.1 some.3 some.4 some.5 whole ∙ ap (Bad r.generation) place)

    pub next_taken : (v : View) (inputs : List Input) (u : Window) (i : Input) (len : ℕ) → IsItem (spelling r.version) w.bytes (Taken i len) → u.slot ≡ w.slot → u.long ≡ w.long → u.place ≡ w.place + len → u.bytes ≡ drop len w.bytes
        → Reads r v inputs a.told → TellsNext (record r { shown = u }) v inputs b.told (Ok (NextInput i))
    next_taken v inputs u i len item slot_is long_is place_is bytes_is given h is =
        let now = content h w.slot in
        let k = reads_kept v inputs given h is in
        let few = taken_within r.version w.bytes i len item in
        let front = input_more w now k.over within (start_of r v) inputs k.held k.spelt item.0 len i item.1 item.2 item.3 item.4 item.5 in
        let P : ℕ → Type 0 = λ p. IsFront (start_of r v) (inputs ++ i ∷ []) (take p now) in
        let done : HasRead (record r { shown = u }) v (inputs ++ i ∷ []) now = record {
          over = over_moved w u now len k.over few.0 long_is place_is bytes_is;
          held = k.held;
          big = k.big;
          spelt = subst P (sym place_is) front;
        } in
        subst (λ (s : ℕ). HasRead (record r { shown = u }) v (inputs ++ i ∷ []) (content h s)) (sym slot_is) done

-- ---- a slot that is opened

-- a slot is held where a machine could say its length
abbrev IsSmall : ℕ → Option History → Type 0
IsSmall slot told = (g : History) → told ≡ Some g → IsHeld (content g slot)

pub small_of : (slot long : ℕ) (told : Option History) → IsAllOf slot long told → long < 2 ^ 64 → IsSmall slot told
small_of slot long told all small h is = omega (arith, all h is, small)

pub opened_short : (slot long : ℕ) (told : Option History) → IsAllOf slot long told → long < 2 ^ 64 → long ≤ 16 → IsTold (λ now. IsOpened now (EmptyOpening Short)) slot told
opened_short slot long told all small short h is =
    let few : length (content h slot) ≤ 16 = omega (arith, all h is, short) in
    (omega (arith, few), (short_empty (content h slot) few, few))

module _ (slot : ℕ) (w : Window) (told : Option History) (shows : Shows w told) (within : IsWithin w) (slot_is : w.slot ≡ slot) (at_front : w.place ≡ 0) (big : 16 < w.long) where
  over_slot : (h : History) → told ≡ Some h → IsOver w (content h slot)
  over_slot h is = subst (λ (s : ℕ). IsOver w (content h s)) slot_is (shows h is)

  is_held : (h : History) → told ≡ Some h → IsHeld (content h slot)
  is_held h is = let over = over_slot h is in omega (arith, over.long, within)

  is_big : (h : History) → told ≡ Some h → 16 < length (content h slot)
  is_big h is = let over = over_slot h is in omega (arith, over.long, big)

  pub opened_shut : IsLead w.bytes ShutLead → IsTold (λ now. IsOpened now (EmptyOpening Shut)) slot told
  opened_shut lead h is =
      let now = content h slot in
      (is_held h is, (start_shut w now (over_slot h is) within at_front lead.0 lead.1, shut_head w now (over_slot h is) within at_front lead.0 lead.1 (is_big h is)))

  pub opened_bad : (number at : ℕ) → IsLead w.bytes (BadLead number at) → IsWhole w → IsTold (λ now. IsOpened now (BadOpening number at)) slot told
  opened_bad number at (inl none) whole h is = absurd (omega (arith, ap length none.0, whole, at_front, big))
  opened_bad number at (inr some) whole h is =
      let now = content h slot in
      (is_held h is, start_is_bad w now (over_slot h is) within at_front some.0 some.2 some.1 some.3 some.4 some.5 whole (is_big h is) ∙ ap₂ Bad (sym some.7) (sym some.6))

  module _ (b : Begun) (len : ℕ) (u : Window) (lead : IsLead w.bytes (Opens b len)) (slot_same : u.slot ≡ w.slot) (long_is : u.long ≡ w.long) (place_is : u.place ≡ w.place + len) (bytes_is : u.bytes ≡ drop len w.bytes) where
    abbrev begun : SlotReader
    begun = record { shown = u; version = b.version; generation = b.generation }

    pub opened_open : IsTold (λ now. IsOpened now (OpenOpening begun b.view)) slot told
    opened_open h is =
        let now = content h slot in
        let over = over_slot h is in
        let front = start_opens w now over within at_front lead.0 len (start_in b) lead.1 lead.2 lead.3 lead.4 lead.5 in
        let P : ℕ → Type 0 = λ p. IsFront (start_in b) [] (take p now) in (
          is_held h is,
          record {
            over = over_moved w u now len over (opens_within w.bytes b len lead) long_is place_is bytes_is;
            held = is_held h is;
            big = is_big h is;
            spelt = subst P (sym place_is) front;
          },
        )

-- ---- a slot that is read to its end

abbrev CheckedOf : SlotReader → ℕ → Option History → Checked → Type 0
CheckedOf r slot told checked = IsTold (λ now. IsChecked now checked) slot told

pub checked_ended : (r s : SlotReader) (v : View) (inputs : List Input) (told : Option History) (next : Next) (checked : Checked) → IsSameSlot r s → TellsNext s v inputs told (Ok next) → ended_by s next ≡ Some checked
    → IsTold (λ now. IsChecked now checked) r.shown.slot told
checked_ended r s v inputs told (NextInput i) checked same tells is = absurd (none-some checked is)
checked_ended r s v inputs told NextClosed checked same tells is =
    let o : OpenSlot = record { generation = s.generation; version = s.version; gate = s.shown.place } in
    let all : CheckedOf s r.shown.slot told (OpenChecked o) = λ h told_is.
    (let e = tells h told_is in
    let P : ℕ → Type 0 = λ k. IsHeld (content h k) × EndsAt s.shown.place (start_of s v) inputs (content h k) in
    let both : P r.shown.slot = subst P same.slot (e.0.held, e.1) in
    (both.0, (start_of s v, inputs, refl, refl, both.1))) in
    subst (CheckedOf s r.shown.slot told) (same_Some (OpenChecked o) checked is) all
checked_ended r s v inputs told (BadNext at) checked same tells is =
    let all : CheckedOf s r.shown.slot told (BadChecked s.generation at) = λ h told_is.
    (let e = tells h told_is in
    let P : ℕ → Type 0 = λ k. IsHeld (content h k) × (parse_slot (content h k) ≡ Bad s.generation at) in
    let both : P r.shown.slot = subst P same.slot (e.0.held, e.1) in
    (both.0, both.1)) in
    subst (CheckedOf s r.shown.slot told) (same_Some (BadChecked s.generation at) checked is) all

pub so_far_more : (s : SlotReader) (v : View) (inputs : List Input) (told : Option History) (next : Next) → TellsNext s v inputs told (Ok next) → ended_by s next ≡ None → (more : List Input) × Reads s v more told
so_far_more s v inputs told (NextInput i) tells is = (inputs ++ i ∷ [], tells)
so_far_more s v inputs told NextClosed tells is = absurd (none-some _ (sym is))
so_far_more s v inputs told (BadNext at) tells is = absurd (none-some _ (sym is))

pub further_on : (r s : SlotReader) (next : Next) → GoesOn r s next → ended_by s next ≡ None → r.shown.place < s.shown.place
further_on r s (NextInput i) on is = on
further_on r s NextClosed on is = absurd (none-some _ (sym is))
further_on r s (BadNext at) on is = absurd (none-some _ (sym is))

-- a slot that was opened is read from its start on
pub opened_reads : (slot : ℕ) (r : SlotReader) (v : View) (told : Option History) → r.shown.slot ≡ slot → IsTold (λ now. IsOpened now (OpenOpening r v)) slot told → Reads r v [] told
opened_reads slot r v told slot_is opened h is = subst (λ (k : ℕ). HasRead r v [] (content h k)) (sym slot_is) ((opened h is).1)

-- what was opened and is not read on was checked
pub checked_opening : (slot : ℕ) (told : Option History) (opening : Opening) (checked : Checked) → ((now : List ℕ) → IsOpened now opening → IsChecked now checked) → IsTold (λ now. IsOpened now opening) slot told → IsTold (λ now. IsChecked now checked) slot told
checked_opening slot told opening checked same is h told_is = let t = is h told_is in (t.0, same (content h slot) t.1)

-- ---- for the functions

pub same_slot_none : (r : SlotReader) → IsSameSlot r r
same_slot_none r = record { slot = refl; long = refl; generation = refl; version = refl }

pub same_slot_then : (r s t : SlotReader) → IsSameSlot r s → IsSameSlot s t → IsSameSlot r t
same_slot_then r s t p q = record { slot = q.slot ∙ p.slot; long = q.long ∙ p.long; generation = q.generation ∙ p.generation; version = q.version ∙ p.version }

pub ruleset inputs_checked = (reads_same, reads_then, same_slot_none, same_slot_then, further_on)

pub ruleset nexts = (taken_within, bad_within, reads_then)

pub ruleset openings = (opens_within, reads_then)

pub ruleset checks = (reads_then)
