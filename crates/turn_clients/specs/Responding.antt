-- What is made of what is heard of a client, as the law has it, whatever server the code keeps.
use Rattle.std.specs.Prelude.{ℕ, ◌≡◌, ◌<◌, ◌≤◌, ◌^◌, List, [], length, Option, Some, None, IfSome, option_map}
use Rattle.client_frames.specs.Comes.{Heard, Words}
use Rattle.client_frames.specs.Frames.{most_text}
use Rattle.f2b_base.specs.declared.input.What.{What}
use Rattle.f2b_base.specs.declared.input.What.TheVariants.{Stop, Ban, Unban, Attempt, Ignore, Findtime, Bantime, Maxretry, Idle}
use Rattle.f2b_model.specs.Storable.{IsStorableWhat}
use Rattle.f2b_model.specs.Whole.{State}
use Rattle.run_law.specs.Requests.{Response as LawResponse, Answers, ReadsAgain as Rereads, to_heard}
use Rattle.run_law.specs.Server.{Server}
use Rattle.run_steps.specs.Keeping.{KeepsClocked}
use Rattle.run_steps.specs.declared.clocked.Clocked.{Clocked}
use Rattle.turn_clients.specs.declared.response.Reply.{Reply}
use Rattle.turn_clients.specs.declared.response.Response.{Response}
use Rattle.turn_clients.specs.declared.response.Response.TheVariants.{Replies, ReadsAgain}

-- the same in the words of the law
abbrev pub told_by : Response → LawResponse
told_by (Replies given) = Answers given.answer (record { before = []; what = given.what; behind = given.behind })
told_by ReadsAgain = Rereads

-- the moment and the state of a server that is kept so make this of it
abbrev pub RespondsAs : Clocked → (ℕ → State → LawResponse) → Response → Type 0
RespondsAs kept made given = (s : Server) → KeepsClocked s kept → told_by given ≡ made s.now s.state

-- it is responded to so; memory that was wanted is responded to by nothing
abbrev pub RespondsTo : Clocked → Option Heard → Option Response → Type 0
RespondsTo kept None given = ⊥
RespondsTo kept (Some heard) given = (s : Server) → KeepsClocked s kept → option_map told_by given ≡ to_heard s.now s.state heard

-- a request is one of fewer words than 2^32
abbrev pub HasFewWords : Heard → Type 0
HasFewWords (Words words) = length words < 2 ^ 32
HasFewWords _ = Unit {0}

-- what a client can make happen
abbrev pub IsAskedFor : What → Type 0
IsAskedFor Stop = Unit {0}
IsAskedFor (Ban jail addrs) = Unit {0}
IsAskedFor (Unban jail addrs) = Unit {0}
IsAskedFor (Attempt jail addr) = Unit {0}
IsAskedFor (Ignore jail cidr add) = Unit {0}
IsAskedFor (Findtime jail secs) = Unit {0}
IsAskedFor (Bantime jail secs) = Unit {0}
IsAskedFor (Maxretry jail number) = Unit {0}
IsAskedFor (Idle jail idle) = Unit {0}
IsAskedFor _ = ⊥

-- The reply can be sent, and what happens is what a client can make happen, and can be stored.
pub record IsFitReply (given : Reply) : Type 0 where
  pub short : length given.answer.text ≤ most_text
  pub asked : IfSome given.what IsAskedFor
  pub storable : IfSome given.what IsStorableWhat

abbrev pub IsFit : Response → Type 0
IsFit (Replies given) = IsFitReply given
IsFit ReadsAgain = Unit {0}
