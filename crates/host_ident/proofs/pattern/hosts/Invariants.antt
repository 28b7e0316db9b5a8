use Rattle.std.proofs.Common.{◌≡◌, ◌+◌, ◌-◌, ◌^◌, ◌<◌, min, option_copied}
use denote.Text.{Utf8}
use denote.Shadow.{shadow}
use Rattle.host_ident.specs.Expanded.{hosts_after, hosts_in, parts_of}
use Rattle.f2b_base.proofs.PartLemmas.{left_of}
use Rattle.host_ident.proofs.pattern.hosts.Given as goal

abbrev pub invariant-parts : goal.invariant-parts
invariant-parts l =
    shadow (Utf8 l.before)
    × (min (l.count + hosts_after l.before (parts_of (option_copied l.rest))) (2 ^ 32 - 1) ≡ hosts_in l.fn.pattern)
    × (l.count < 2 ^ 32)

abbrev pub decreases-parts : goal.decreases-parts
decreases-parts l = left_of (option_copied l.rest)
