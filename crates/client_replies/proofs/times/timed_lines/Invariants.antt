use Rattle.std.proofs.Common.{◌≡◌, map, take}
use Rattle.client_replies.specs.Texts.{timed_text}
use Rattle.client_replies.proofs.times.timed_lines.Given as goal

-- a line for each ban so far
abbrev pub invariant-loop-ban : goal.invariant-loop-ban
invariant-loop-ban l = l.lines ≡ map timed_text (take l.ban-index l.bans)
