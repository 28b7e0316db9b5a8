use Rattle.std.proofs.Common.{◌≡◌, ◌∙◌, ap, unwrap_or, [], codes}
use Rattle.ini_interp.specs.Sections.{raw}
use Rattle.jail_conf.proofs.PlaceLemmas.{known_more, known_none, copied_or}
use Rattle.jail_conf.proofs.filter.known_of.Goals as goal

pub returns-in_default : goal.returns-in_default
returns-in_default c = known_none c.args.sections.now c.places.known c.places.index c.places.invariant c.in_default.ensures

pub places-preserved : goal.places-preserved
places-preserved c =
    let value : c.in_ok-from_str-2.field-0 ≡ unwrap_or (raw c.args.sections.now (codes "Definition") c.in-Some.name.now) [] =
    c.in_ok-from_str-2.ensures ∙ (ap (λ text. text.now) c.unwrap_or-raw.ensures ∙ (copied_or c.raw.result _ ∙ ap (λ found. unwrap_or found []) c.raw.ensures)) in
    rw c.in_ok-push.ensures.ok
    (rw (c.in_ok-from_str.ensures, value) (known_more c.args.sections.now c.places.known c.places.index c.in-Some.name.now c.places.invariant c.in-Some.ensures))
