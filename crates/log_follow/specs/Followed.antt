-- What a follower stands for.
use Rattle.std.specs.Prelude.{◌≡◌}
use Rattle.f2b_base.specs.Limits.{head_bytes, look_bytes}
use Rattle.log_follow.specs.Carried.{Carries}
use Rattle.log_follow.specs.Watches.{Watch, is_placed, reading_place, head_in}
use Rattle.log_follow.specs.declared.follower.Follower.{Follower}
use Rattle.log_follow.specs.declared.step.Ask.{Ask}

-- what the follower asks for next
abbrev pub ask_of : Follower → Ask
ask_of follower = record { head = head_bytes; from = follower.from; max = look_bytes }

-- the follower keeps what is derived from the watch, and not the bytes that were seen
pub record StandsFor (follower : Follower) (w : Watch) : Type 0 where
  pub placed : follower.placed ≡ is_placed w.base
  pub from : follower.from ≡ reading_place w
  pub carry : Carries follower.carry w.seen
  pub head : follower.head ≡ head_in w
