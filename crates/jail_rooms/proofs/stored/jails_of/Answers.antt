use Rattle.std.proofs.Common.{◌≡◌, ◌+◌, ◌++◌, [], ◌∷◌, List, length, ◌∙◌, ap, subst, sym, arith, length-append}
use Rattle.jail_rooms.specs.declared.jail.Jail.{Jail}
use Rattle.jail_rooms.proofs.StoredLemmas.{AreBack, IsBack, back_jails, back_kept, back_one_more, stored_at, stored_length}
use Rattle.jail_rooms.proofs.stored.jails_of.Goals as goal

pub bounds-definitions-index : goal.bounds-definitions-index
bounds-definitions-index c =
    let same = stored_length c.args.at c.requires.0 c.args.definitions.now c.args.views.now c.requires.1 in
    omega (arith, same, c.loop-index-test.true)

pub of-requires-clause-bounded : goal.of-requires-clause-bounded
of-requires-clause-bounded c =
    let ds = c.args.definitions.now in
    let vs = c.args.views.now in
    let same = stored_length c.args.at c.requires.0 ds vs c.requires.1 in
    let there = c.loop-index-test.true in
    (stored_at c.args.at c.requires.0 c.loop-index.index ds vs c.index-definitions-index.result c.index-views-index.result (omega arith) c.requires.1
    c.index-definitions-index.is c.index-views-index.is).0

pub of-requires-clause-stored : goal.of-requires-clause-stored
of-requires-clause-stored c =
    let ds = c.args.definitions.now in
    let vs = c.args.views.now in
    let same = stored_length c.args.at c.requires.0 ds vs c.requires.1 in
    let there = c.loop-index-test.true in (
      c.requires.0,
      (stored_at c.args.at c.requires.0 c.loop-index.index ds vs c.index-definitions-index.result c.index-views-index.result (omega arith) c.requires.1
          c.index-definitions-index.is c.index-views-index.is).1,
    )

pub loop-index-preserved : goal.loop-index-preserved
loop-index-preserved c =
    let at = c.args.at in
    let i = c.loop-index.index in
    let ds = c.args.definitions.now in
    let vs = c.args.views.now in
    let d = c.index-definitions-index.result in
    let v = c.index-views-index.result in
    let old : List Jail = c.loop-index.jails.items in
    let jail : Jail = c.in_ok-of.field-0 in
    let same = stored_length at c.requires.0 ds vs c.requires.1 in
    let there = c.loop-index-test.true in
    let many = c.loop-index.invariant.0 in
    let is : IsBack at d v jail = record { jail = c.in_ok-of.ensures.jail; kept = c.in_ok-of.ensures.kept } in
    let pushed : c.push.new.self.items ≡ old ++ jail ∷ [] = c.in_ok-push.ensures.items in
    let more = length-append old (jail ∷ []) in
    let longer : length (old ++ jail ∷ []) ≡ i + 1 = omega arith in (
      ap length pushed ∙ longer,
      subst (AreBack at ds vs) (sym pushed)
          (back_one_more at i ds vs old d v jail (omega arith) there many c.loop-index.invariant.1 c.index-definitions-index.is c.index-views-index.is is),
    )

pub returns-clause-jails : goal.returns-clause-jails
returns-clause-jails c =
    let same = stored_length c.args.at c.requires.0 c.args.definitions.now c.args.views.now c.requires.1 in
    let many = c.loop-index.invariant.0 in
    let all : length c.loop-index.jails.items ≡ length c.args.definitions.now = omega (arith, same, many, c.loop-index-test.false, c.loop-index.auto.index-end) in
    back_jails c.args.at c.args.definitions.now c.args.views.now c.loop-index.jails.items all c.loop-index.invariant.1

pub returns-clause-kept : goal.returns-clause-kept
returns-clause-kept c = λ next stored. back_kept c.args.at next c.args.definitions.now c.args.views.now c.loop-index.jails.items c.loop-index.invariant.1 stored
