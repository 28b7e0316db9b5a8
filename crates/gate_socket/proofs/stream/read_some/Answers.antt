use Rattle.gate_socket.proofs.stream.read_some.Goals as goal

pub returns-in-Err-clause-bounds : goal.returns-in-Err-clause-bounds
returns-in-Err-clause-bounds c = c.read_failed.ensures.bounds c.args.max
