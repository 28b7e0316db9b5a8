use Rattle.std.proofs.Common.{◌≡◌, ◌∙◌, ◌+◌, Ok, codes, refl, ap, subst, drop}
use Rattle.ini_interp.specs.Merges.{Files}
use Rattle.jail_conf.specs.declared.source.Source.{Source}
use Rattle.jail_conf.specs.Conf.{next_jail, jails_behind}
use Rattle.jail_conf.specs.Sources.{bases_of, names_for, with_items}
use Rattle.jail_conf.proofs.BaseLemmas.{sections_are}
use Rattle.jail_conf.proofs.FewLemmas.{next_fits}
use Rattle.jail_conf.proofs.ListedLemmas.{jails_step, name_at, next_found}
use Rattle.jail_conf.proofs.OwnLemmas.{as_before}
use Rattle.jail_conf.proofs.configuration.jails_in.Goals as goal

pub push_next-requires-clause-few : goal.push_next-requires-clause-few
push_next-requires-clause-few c =
    let given : next_jail (bases_of c.args.files.now) c.in_ok-jail.jail c.as_slice.result.now ≡ Ok c.in_ok-next.next =
    subst (λ (files : Files). next_jail (bases_of files) c.in_ok-jail.jail c.as_slice.result.now ≡ Ok c.in_ok-next.next) c.loop-name.invariant.files c.in_ok-next.ensures.defined in
    let next = next_found (bases_of c.args.files.now) c.args.merged c.loop-name.sections c.in_ok-jail.jail c.name-item.result c.as_str.result.now c.loop-name.jails
    c.as_slice.result.now c.in_ok-next.next c.loop-name.invariant.sections c.in_ok-jail.ensures c.as_str.ensures.value c.as_slice.ensures given in
    next_fits (bases_of c.args.files.now) _ c.loop-name.jails c.in_ok-next.next c.loop-name.patterns next c.loop-name.invariant.counted c.loop-name.invariant.few

pub loop-name-preserved : goal.loop-name-preserved
loop-name-preserved c =
    let given : next_jail (bases_of c.args.files.now) c.in_ok-jail.jail c.as_slice.result.now ≡ Ok c.in_ok-next.next =
    subst (λ (files : Files). next_jail (bases_of files) c.in_ok-jail.jail c.as_slice.result.now ≡ Ok c.in_ok-next.next) c.loop-name.invariant.files c.in_ok-next.ensures.defined in
    let next = next_found (bases_of c.args.files.now) c.args.merged c.loop-name.sections c.in_ok-jail.jail c.name-item.result c.as_str.result.now c.loop-name.jails
    c.as_slice.result.now c.in_ok-next.next c.loop-name.invariant.sections c.in_ok-jail.ensures c.as_str.ensures.value c.as_slice.ensures given in
    let at = name_at c.args.names.now c.loop-name.name-index c.name-item.result c.loop-name-test.true c.name-item.is in
    let made : c.in_ok-jail.jail.sections ≡ with_items (codes "]name") (names_for c.as_str.result.now) c.args.merged =
    ap (λ (jail : Source). jail.sections) c.in_ok-jail.ensures ∙ ap (with_items (codes "]name") (names_for c.as_str.result.now)) c.loop-name.invariant.sections in
    record {
      jails =
          ap (λ jails. jails_behind (bases_of c.args.files.now) c.args.merged jails (drop (c.loop-name.name-index + 1) c.args.names.now)) c.in_ok-patterns.ensures.jails
          ∙ jails_step (bases_of c.args.files.now) c.args.merged c.loop-name.jails c.args.names.now c.loop-name.name-index c.name-item.result c.in_ok-next.next _
          c.loop-name.invariant.jails at next;
      counted = c.in_ok-patterns.ensures.counted;
      few = c.in_ok-patterns.ensures.few;
      sections =
          c.given_back-sections.ensures
          ∙ as_before (codes "]known") c.args.merged c.in_ok-jail.jail.sections c.next_jail.new.jail.sections (names_for c.as_str.result.now) refl
          (sections_are c.args.files.now (codes "jail") c.args.merged c.requires) made
          c.in_ok-next.ensures.known;
      files = c.in_ok-next.ensures.files ∙ c.loop-name.invariant.files;
    }
