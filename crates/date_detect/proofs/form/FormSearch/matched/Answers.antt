use Rattle.std.proofs.Common.{◌≡◌, None, Some, option_map, map, FitsSigned, w32, w64, to_z, of_z, to_z-of_z, rules, ap, ◌∙◌}
use Rattle.f2b_world.specs.Matches.{group_in}
use Rattle.date_detect.specs.Dates.{said_in, found_at}
use Rattle.date_detect.specs.Fields.{said_moment}
use Rattle.date_detect.specs.Texts.{said_texts}
use Rattle.date_detect.specs.declared.form.Form.{Form}
use Rattle.date_detect.proofs.DateLemmas.{said_is, date_is}
use Rattle.date_detect.proofs.form.FormSearch.matched.Goals as goal

pub returns-in_default-clause-found : goal.returns-in_default-clause-found
returns-in_default-clause-found c =
    let form : Form = record { pattern = c.self.inside.matcher; groups = c.self.inside.groups } in
    let zone : FitsSigned w32 c.args.zone = c.ranges.zone in
    let said : said_texts c.said_at.result ≡ said_in form c.args.line.now =
    c.said_at.ensures ∙ said_is form c.args.line.now _ (c.in_ok-cut.ensures.groups ∙ ap (map (group_in form.pattern c.args.line.now)) c.numbers.ensures) in
    let none : None ≡ said_moment (said_in form c.args.line.now) c.args.now c.args.zone =
    rw (to_z-of_z zone) at c.in_default.ensures ∙ ap (λ s. said_moment s c.args.now c.args.zone) said in
    rw (← c.self.view_is)
    (ap (option_map (found_at c.in_ok-cut.cut)) none ∙ date_is form c.args.now c.args.zone c.args.line.now c.in_ok-cut.cut c.in_ok-cut.ensures.whole)

pub returns-clause-found : goal.returns-clause-found
returns-clause-found c =
    let form : Form = record { pattern = c.self.inside.matcher; groups = c.self.inside.groups } in
    let zone : FitsSigned w32 c.args.zone = c.ranges.zone in
    let said : said_texts c.said_at.result ≡ said_in form c.args.line.now =
    c.said_at.ensures ∙ said_is form c.args.line.now _ (c.in_ok-cut.ensures.groups ∙ ap (map (group_in form.pattern c.args.line.now)) c.numbers.ensures) in
    let moment : Some c.in-Some.secs ≡ said_moment (said_in form c.args.line.now) c.args.now c.args.zone =
    rw (to_z-of_z zone) at c.in-Some.ensures ∙ ap (λ s. said_moment s c.args.now c.args.zone) said in
    let secs : to_z w64 (of_z w64 c.in-Some.secs) ≡ c.in-Some.secs = search rules in
    rw (secs, ← c.self.view_is)
    (ap (option_map (found_at c.in_ok-cut.cut)) moment ∙ date_is form c.args.now c.args.zone c.args.line.now c.in_ok-cut.cut c.in_ok-cut.ensures.whole)
