use Rattle.std.proofs.Common.{◌≡◌, map, take}
use Rattle.client_replies.specs.Texts.{view_holders_line}
use Rattle.client_replies.proofs.holders.holders_lines.Given as goal

-- a line for each address so far
abbrev pub invariant-loop-addr : goal.invariant-loop-addr
invariant-loop-addr l = l.lines ≡ map (view_holders_line l.jails) (take l.addr-index l.addrs)
