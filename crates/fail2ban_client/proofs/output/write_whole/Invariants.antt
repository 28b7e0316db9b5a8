use Rattle.std.proofs.Common.{length}
use Rattle.fail2ban_client.proofs.output.write_whole.Given as goal

abbrev pub decreases-loop-rest : goal.decreases-loop-rest
decreases-loop-rest g l = length l.rest
