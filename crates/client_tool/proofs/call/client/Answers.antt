use Rattle.std.proofs.Common.{map, string_bytes}
use Rattle.client_tool.proofs.AskLemmas.{asks_bounded}
use Rattle.client_tool.proofs.call.client.Goals as goal

pub carry_out-requires : goal.carry_out-requires
carry_out-requires g c = rw c.in-Ok.ensures (asks_bounded (map string_bytes c.args.words.now))
