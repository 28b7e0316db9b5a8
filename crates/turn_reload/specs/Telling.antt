-- What a client is told that asked for the configuration to be read again.
use Rattle.std.specs.Prelude.{ℕ, ◌≡◌, true, codes}
use Rattle.client_frames.specs.declared.answer.Answer.{Answer}
use Rattle.client_table.specs.Clients.{answered, changed_at}
use Rattle.run_steps.specs.declared.running.Running.{Running}

-- that it is taken
abbrev pub ok_answer : Answer
ok_answer = record { accepted = true; text = codes "OK" }

-- the client of a place is told so, and all else is as before
pub record IsTold (place : ℕ) (answer : Answer) (before after : Running) : Type 0 where
  pub clocked : after.clocked ≡ before.clocked
  pub logs : after.logs ≡ before.logs
  pub children : after.children ≡ before.children
  pub clients : after.clients ≡ changed_at place (answered answer) before.clients
  pub left : after.left ≡ before.left
