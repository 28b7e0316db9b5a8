use Rattle.std.proofs.Common.{◌≡◌, ℕ, map, take, Ok}
use Rattle.host_ident.specs.Expanded.{expanded}
use Rattle.filter_regex.specs.Builds.{MakesAll}
use Rattle.filter_regex.specs.Rules.{numbered}
use Rattle.filter_regex.specs.Roles.{place_of}
use Rattle.filter_regex.proofs.make.made_list.Given as goal

abbrev pub invariant-loop-text : goal.invariant-loop-text
invariant-loop-text g l = record {
  number : l.number ≡ l.text-index;
  value : l.built.items ≡ map expanded (take l.text-index l.texts);
  calls : MakesAll {A = ℕ} (numbered (place_of l.role) 1 (map expanded (take l.text-index l.texts))) (Ok 0) (g.P.Outside.stands l.fn.patterns) (g.P.Outside.stands l.patterns);
}
