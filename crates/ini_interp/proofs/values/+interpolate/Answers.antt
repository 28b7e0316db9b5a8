use Rattle.std.proofs.Common.{◌≡◌, ◌∙◌, ◌++◌, ◌-◌, ◌<◌, List, ℕ, Ok, ap, refl, sym, length, rules, codes}
use Rattle.ini_interp.specs.declared.parts.Part.{Part}
use Rattle.ini_interp.specs.InTurn.{in_turn}
use Rattle.ini_interp.specs.Parts.{pieces_of}
use Rattle.ini_interp.specs.References.{Reference}
use Rattle.ini_interp.specs.Values.{text_of, replaced}
use Rattle.ini_interp.proofs.ValuesLemmas.{goes_on, ends, plain_text, in_turn-one}
use Rattle.ini_interp.proofs.values.+interpolate.Goals as goal
use Rattle.ini_interp.proofs.values.+interpolate.Goals.{in-Plain+in_ok-push_str-in-Plain, in-Sign+in_ok-push_str-in-Sign, in-Named+in_ok-text-in-Named+in_ok-interpolate-in-Named}

pub loop-cut-preserved : goal.loop-cut-preserved
loop-cut-preserved t c =
    let replace = replaced c.args.sections.now c.args.scope.now c.args.depth in
    let at : ℕ = length c.args.raw.now - length c.loop-cut.rest.now in
    let next = goes_on (text_of replace) c.args.raw.now c.loop-cut.rest.now c.args.out.now c.loop-cut.out c.loop-cut.invariant.1 c.in-Some.cut c.match-cut.out in
    let taken = λ (more : List ℕ). next more c.in-Some.ensures.first c.in-Some.ensures.shorter in
    elim c.match-cut.branch [
      | in-Plain+in_ok-push_str-in-Plain w ↦ (
        search rules,
        taken w.in-Plain.text.now (ap (λ (part : Part). in_turn (text_of replace) (pieces_of at part)) w.in-Plain.is ∙ plain_text replace w.in-Plain.text.now)
            (w.out-is ∙ w.in_ok-push_str-in-Plain.ensures.ok),
      )
      | in-Sign+in_ok-push_str-in-Sign w ↦ (
        search rules,
        taken (codes "%") (ap (λ (part : Part). in_turn (text_of replace) (pieces_of at part)) w.in-Sign.is) (w.out-is ∙ w.in_ok-push_str-in-Sign.ensures.ok),
      )
      | in-Named+in_ok-text-in-Named+in_ok-interpolate-in-Named w ↦
          let read = w.in_ok-interpolate-in-Named.ensures.ok in (
            search rules,
            taken read.text
                (ap (λ (part : Part). in_turn (text_of replace) (pieces_of at part)) w.in-Named.is
                ∙ in_turn-one (text_of replace) (Reference w.in-Named.reference.now) ∙ w.in_ok-text-in-Named.ensures.ok ∙ read.given)
                (w.out-is ∙ read.added),
          )
    ]

pub returns-clause-ok : goal.returns-clause-ok
returns-clause-ok t c =
    ends (text_of (replaced c.args.sections.now c.args.scope.now c.args.depth)) c.args.raw.now c.loop-cut.rest.now c.args.out.now c.loop-cut.out c.loop-cut.invariant.1
    (c.in_default.ensures.none.0 refl)
