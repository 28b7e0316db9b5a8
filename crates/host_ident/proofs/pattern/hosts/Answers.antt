use Rattle.std.proofs.Common.{◌≡◌, ◌+◌, ◌-◌, ◌^◌, min, ap, rules, arith}
use Rattle.host_ident.specs.Expanded.{hosts_in, hosts_of_parts}
use Rattle.host_ident.proofs.pattern.hosts.Goals as goal

pub parts-init : goal.parts-init
unfolding hosts_in
parts-init c = (
  search rules,
  omega (arith, ap (λ parts. min (hosts_of_parts parts) (2 ^ 32 - 1)) c.cut.ensures.parts),
  search rules,
)

pub returns : goal.returns
returns c =
    let all : min (c.parts.count + 0) (2 ^ 32 - 1) ≡ hosts_in c.args.pattern.now = rw c.in_default.is at c.parts.invariant.1 in
    omega (arith, all, c.parts.invariant.2)
