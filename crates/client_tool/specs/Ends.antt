-- How a call of the client ends: why, and what was said.
use Rattle.std.specs.Prelude.{◌≡◌, ◌⊎◌, ◌&&◌, ℕ, Bool, true, false, List, Option, Some, None, Ok, Err}
use Rattle.client_frames.specs.declared.answer.Answer.{Answer}
use Rattle.client_frames.specs.declared.error.ReceiveError.{ReceiveError}
use Rattle.client_frames.specs.declared.error.ReceiveError.TheVariants as error
use Rattle.f2b_world.specs.Faults.{OfLink, OfSink, Rose}
use Rattle.f2b_world.specs.Told.{Standing, Called}
use Rattle.f2b_world.specs.declared.answer.Said.TheVariants.{Done as SaidDone, Failed as SayFailed}
use Rattle.f2b_world.specs.declared.event.Event.TheVariants.{Say}
use Rattle.client_tool.specs.Asks.{Asks, Request, Seconds, frame_of}
use Rattle.client_tool.specs.Lines.{reply_line, seconds_line}
use Rattle.client_tool.specs.Talks.{Hears, SendsAtMost, Talks}
use Rattle.client_tool.specs.declared.status.ClientStatus.{ClientStatus}
use Rattle.client_tool.specs.declared.status.ClientStatus.TheVariants.{Done, Refused, Usage, LinkFault, SinkFault, BadReply, LinkEnded, NoMemory}

abbrev pub status_number : ClientStatus → ℕ
status_number Done = 0
status_number Refused = 1
status_number Usage = 2
status_number LinkFault = 8
status_number SinkFault = 9
status_number BadReply = 12
status_number LinkEnded = 13
status_number NoMemory = 71

-- how a call ends that received no reply
abbrev pub as_status : ReceiveError → ClientStatus
as_status error.LinkFault = LinkFault
as_status error.LinkEnded = LinkEnded
as_status error.BadReply = BadReply
as_status error.NoMemory = NoMemory

-- how a call ends whose reply was said
abbrev pub status_of : Bool → ClientStatus
status_of true = Done
status_of false = Refused

-- whether a call that ends so has said a text, or tried to
abbrev pub is_said : ClientStatus → Bool
is_said Done = true
is_said Refused = true
is_said SinkFault = true
is_said _ = false

-- The text is said, and the status is the one that is wanted; or it cannot be said, and the status tells that.
abbrev pub Closes : (text : List ℕ) (wanted : ClientStatus) (old new : Standing) → ClientStatus → Type 0
Closes text wanted old new status =
    ((status ≡ wanted) × Called old (Say text SaidDone) new) ⊎ ((status ≡ SinkFault) × Called old (Say text SayFailed) new)

-- It is so, or memory was wanted.
abbrev pub MayClose : (text : List ℕ) (wanted : ClientStatus) (old new : Standing) → ClientStatus → Type 0
MayClose text wanted old new status = (status ≡ NoMemory) ⊎ Closes text wanted old new status

-- nothing is said, and the status is the one that is wanted; or the text may be
abbrev pub MayTell : (quiet : Bool) (text : List ℕ) (wanted : ClientStatus) (old new : Standing) → ClientStatus → Type 0
MayTell true text wanted old new status = (status ≡ wanted) × (new ≡ old)
MayTell false text wanted old new status = MayClose text wanted old new status

-- ---- why a call ends

-- nothing was said, or the text was
abbrev pub Tells : (quiet : Bool) (text : List ℕ) (old new : Standing) → Type 0
Tells true text old new = new ≡ old
Tells false text old new = Called old (Say text SaidDone) new

-- A whole reply to the words came of the server at the path, accepted or not, and one text was said, which is the line of that reply; or none was, where
-- that was asked for and it is accepted.
pub record Replied (accepted quiet : Bool) (socket : List ℕ) (words : List (List ℕ)) (old_link new_link old new : Standing) : Type 0 where
  pub answer : Answer
  pub verdict : answer.accepted ≡ accepted
  pub hears : Hears socket words (Ok answer) old_link new_link
  pub said : Tells (quiet && accepted) (reply_line words answer) old new

-- what was asked for is done
abbrev pub IsDone : Option Asks → (old_link new_link old new : Standing) → Type 0
IsDone (Some (Request quiet socket words)) old_link new_link old new = Replied true quiet socket words old_link new_link old new
IsDone (Some (Seconds seconds)) old_link new_link old new = Called old (Say (seconds_line seconds) SaidDone) new
IsDone None old_link new_link old new = ⊥

-- a request was asked for, which was refused
abbrev pub IsRefused : Option Asks → (old_link new_link old new : Standing) → Type 0
IsRefused (Some (Request quiet socket words)) old_link new_link old new = Replied false quiet socket words old_link new_link old new
IsRefused _ old_link new_link old new = ⊥

-- a request was asked for, and no reply came of the server for this cause
abbrev pub IsUnanswered : ReceiveError → Option Asks → (old_link new_link : Standing) → Type 0
IsUnanswered cause (Some (Request quiet socket words)) old_link new_link = Hears socket words (Err cause) old_link new_link
IsUnanswered cause _ old_link new_link = ⊥

-- the words asked for nothing, or memory was wanted
abbrev pub IsUsage : ClientStatus → Type 0
IsUsage status = (status ≡ Usage) ⊎ (status ≡ NoMemory)

-- ---- all of it

-- why a call ends so that was asked for this
abbrev pub HasCause : Option Asks → (old_link new_link old new : Standing) → ClientStatus → Type 0
HasCause asks old_link new_link old new Done = IsDone asks old_link new_link old new
HasCause asks old_link new_link old new Refused = IsRefused asks old_link new_link old new
HasCause asks old_link new_link old new Usage = asks ≡ None
HasCause asks old_link new_link old new LinkFault = Rose (old_link.faults OfLink) (new_link.faults OfLink)
HasCause asks old_link new_link old new SinkFault = Rose (old.faults OfSink) (new.faults OfSink)
HasCause asks old_link new_link old new BadReply = IsUnanswered error.BadReply asks old_link new_link
HasCause asks old_link new_link old new LinkEnded = IsUnanswered error.LinkEnded asks old_link new_link
HasCause asks old_link new_link old new NoMemory = Unit {0}

pub record Ends (asks : Option Asks) (old_link new_link old new : Standing) (status : ClientStatus) : Type 0 where
  pub cause : HasCause asks old_link new_link old new status
  pub nothing : asks ≡ None → IsUsage status
  pub talks : Talks old_link new_link (SendsAtMost (frame_of asks))
