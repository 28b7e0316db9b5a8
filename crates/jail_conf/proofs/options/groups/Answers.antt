use Rattle.std.proofs.Common.{◌≡◌, ◌∙◌, None, Some, false, sym, lit<}
use Rattle.std.proofs.lemmas.Str.Pattern.{strip_prefix_char}
use Rattle.jail_conf.specs.Words.{is_empty}
use Rattle.jail_conf.proofs.OptionLemmas.{groups_begin, outside_stops, no_blank_first, group_is_read, group_shorter}
use Rattle.jail_conf.proofs.options.groups.Goals as goal

pub groups-init : goal.groups-init
groups-init c = (
  c.trim_start-left.utf8,
  groups_begin _ c.args.text.now c.trim_start-left.result.now c.new-options.ensures c.trim_start-left.ensures,
  rw c.trim_start-left.ensures (no_blank_first c.args.text.now),
)

pub returns-in_default : goal.returns-in_default
returns-in_default c =
    let left = c.groups.left.now in
    let some : is_empty left ≡ false = sym c.is_empty.ensures ∙ c.groups-test.true in
    sym (outside_stops left c.groups.options c.groups.invariant.2 some (strip_prefix_char 91 left None c.in_default.ensures.cases (lit< tt))) ∙ c.groups.invariant.1

pub groups-smaller : goal.groups-smaller
groups-smaller c =
    let begins = strip_prefix_char 91 c.groups.left.now (Some c.in-Some.inside) c.in-Some.ensures.cases (lit< tt) in
    group_shorter c.groups.left.now c.in-Some.inside.now c.trim_start-left-in-groups.result.now c.in_ok-rest.field-0 c.in-Some-2.rest c.in-Some-2.is begins
    c.in_ok-rest.ensures.shorter c.trim_start-left-in-groups.ensures

pub groups-preserved : goal.groups-preserved
groups-preserved c =
    let begins = strip_prefix_char 91 c.groups.left.now (Some c.in-Some.inside) c.in-Some.ensures.cases (lit< tt) in (
      c.trim_start-left-in-groups.utf8,
      group_is_read c.groups.options c.push_group.new.options c.groups.left.now c.in-Some.inside.now c.trim_start-left-in-groups.result.now c.args.text.now c.in_ok-rest.field-0
          c.in-Some-2.rest c.in-Some-2.is begins c.in_ok-rest.ensures.some c.trim_start-left-in-groups.ensures c.groups.invariant.1,
      rw c.trim_start-left-in-groups.ensures (no_blank_first c.in-Some-2.rest.now),
    )
