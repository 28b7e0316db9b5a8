use Rattle.std.proofs.Common.{All, IsUtf8, take}
use Rattle.fail2ban_server.proofs.names.know_texts.Given as goal

abbrev pub invariant-loop-name : goal.invariant-loop-name
invariant-loop-name l = All IsUtf8 (take l.name-index l.names)
