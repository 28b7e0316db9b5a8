-- What a request asks for, whatever the state is.
use Rattle.std.specs.Prelude.{◌≡◌, ℕ, true, false, Option, Some, None, is_some}
use Rattle.f2b_base.specs.declared.input.What.{What}
use Rattle.f2b_base.specs.declared.input.What.TheVariants as what
use Rattle.f2b_model.specs.Steps.{done, moves_now}
use Rattle.f2b_model.specs.Whole.{Now}
use Rattle.client_words.specs.declared.request.Request.{Request}
use Rattle.client_words.specs.declared.request.Request.TheVariants.{UnbanAll, Unban, Stop, SetBanip, SetUnbanip, SetAttempt, AddIgnore, DelIgnore, SetFindtime, SetBantime, SetMaxretry, SetIdle}
use Rattle.client_replies.specs.Refusals.{refusal}

-- what its words name, of all addresses that stand there; that of a reload is made of the configuration that is read
abbrev pub asked_for : Request → What
asked_for UnbanAll = what.Unban None None
asked_for (Unban addrs) = what.Unban None (Some addrs)
asked_for Stop = what.Stop
asked_for (SetBanip jail addrs) = what.Ban jail addrs
asked_for (SetUnbanip jail addrs) = what.Unban (Some jail) (Some addrs)
asked_for (SetAttempt jail addr) = what.Attempt jail addr
asked_for (AddIgnore jail cidr) = what.Ignore jail cidr true
asked_for (DelIgnore jail cidr) = what.Ignore jail cidr false
asked_for (SetFindtime jail secs) = what.Findtime jail secs
asked_for (SetBantime jail secs) = what.Bantime jail secs
asked_for (SetMaxretry jail number) = what.Maxretry jail number
asked_for (SetIdle jail idle) = what.Idle jail idle
asked_for _ = what.Tick

-- what happens by an input, or nothing but time where none was made
abbrev pub or_tick : Option What → What
or_tick None = what.Tick
or_tick (Some happens) = happens

-- Where a request is not refused, what was made of it does to the jails what it asks for: nothing that would change them is left out.
abbrev pub DoesAsAsked : Now → Request → (made : Option What) → Type 0
DoesAsAsked now asked made =
    is_some (refusal now asked) ≡ false → (word : ℕ) → done moves_now word (or_tick made) now.jails ≡ done moves_now word (asked_for asked) now.jails
