use Rattle.std.proofs.Common.{◌≡◌, false, map, replicate}
use Rattle.std.specs.Prelude.{is_some}
use Rattle.gate_socket.proofs.connections.Connections.new.Given as goal

abbrev pub invariant-loop : goal.invariant-loop
invariant-loop l = map is_some l.places.items ≡ replicate l.counter false
