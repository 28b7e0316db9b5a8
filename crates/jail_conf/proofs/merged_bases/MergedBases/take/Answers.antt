-- What was kept is what the files come to, and the rest stays kept.
use Rattle.std.proofs.Common.{◌≡◌, Some, Ok, string_bytes, sym, ap, subst}
use Rattle.std.specs.Cmp.Lexicographic.{slice_cmp}
use Rattle.std.specs.Map.{lookup}
use Rattle.std.specs.Ordering.{nat_cmp, is_eq}
use Rattle.ini_interp.specs.Merges.{Files, merged_in}
use Rattle.jail_conf.specs.Sources.{or_merge_refusal}
use Rattle.jail_conf.proofs.KeptLemmas.{found_of_base, left_of_bases}
use Rattle.jail_conf.proofs.merged_bases.MergedBases.take.Goals as goal
use Rattle.jail_conf.proofs.merged_bases.MergedBases.take.Goals.{in-Some, in-None}

pub invariant_of-self : goal.invariant_of-self
invariant_of-self c = rw c.remove.ensures.entries (left_of_bases c.self.inside.files.now _ c.self.inside.kept.entries c.self.invariant)

pub returns-clause-merged : goal.returns-clause-merged
returns-clause-merged c = elim c.match-remove.branch [
  | in-Some w ↦
      let found : lookup (λ k. is_eq (slice_cmp nat_cmp c.args.file.now (string_bytes k))) c.self.inside.kept.entries ≡ Some w.in-Some.sections = sym w.in-Some.ensures.value in
      let merged : merged_in c.self.inside.files.now c.args.base.now ≡ Ok w.in-Some.sections =
      found_of_base c.self.inside.files.now c.args.file.now w.in-Some.sections c.self.inside.kept.entries c.self.invariant found c.args.base.now c.requires in
      rw w.result-is (ap or_merge_refusal (subst (λ (files : Files). merged_in files c.args.base.now ≡ Ok w.in-Some.sections) c.self.view_is merged))
  | in-None w ↦ rw (w.result-is, ← c.self.view_is) w.sections_of.ensures
]
