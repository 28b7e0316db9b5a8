use Rattle.std.proofs.Common.{◌≡◌, ◌≤◌, [], drop}
use Rattle.std.specs.Prelude.{sum_by}
use Rattle.jail_conf.specs.Conf.{patterns_in, jails_behind}
use Rattle.jail_conf.specs.Sources.{bases_of}
use Rattle.jail_conf.proofs.configuration.jails_in.Given as goal

abbrev pub invariant-loop-name : goal.invariant-loop-name
invariant-loop-name l = record {
  jails : jails_behind (bases_of l.files) l.fn.merged l.jails (drop l.name-index l.names) ≡ jails_behind (bases_of l.files) l.fn.merged [] l.names;
  counted : sum_by patterns_in l.jails ≡ l.patterns;
  few : l.patterns ≤ 512;
  sections : l.sections ≡ l.fn.merged;
  files : l.bases ≡ l.files;
}
