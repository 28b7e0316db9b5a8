-- What a request changes: the input that it makes.
use Rattle.std.specs.Prelude.{ℕ, ◌==◌, Bool, true, false, not, List, length, Option, Some, None, option_and_then, is_some, if◌then◌else◌}
use Rattle.std.specs.Ordering.{int_eq}
use Rattle.std.specs.List.{list_any}
use Rattle.f2b_base.specs.declared.addr.Addr.{Addr}
use Rattle.f2b_base.specs.declared.addr.Cidr.{Cidr}
use Rattle.f2b_base.specs.declared.input.What.{What}
use Rattle.f2b_base.specs.declared.input.What.TheVariants as what
use Rattle.f2b_base.specs.declared.jail.JailDef.{JailDef}
use Rattle.f2b_model.specs.Moves.{is_banned, same_cidr}
use Rattle.f2b_model.specs.Whole.{Now}
use Rattle.f2b_model.specs.declared.jail_now.JailNow.{JailNow}
use Rattle.client_words.specs.declared.request.Request.{Request}
use Rattle.client_words.specs.declared.request.Request.TheVariants as request
use Rattle.client_replies.specs.Banned.{ended, ended_in, new_addrs}
use Rattle.client_replies.specs.Refusals.{jail_in, named, refusal}

-- this happens, unless it is about none
abbrev pub if_any : ℕ → What → Option What
if_any count happens = if count == 0 then None else Some happens

-- this happens, unless it is so already
abbrev pub unless : Bool → What → Option What
unless already happens = if already then None else Some happens

-- a ban of those who are not banned
abbrev pub ban_of : List ℕ → (addrs : List Addr) → Option What
ban_of jail addrs = if_any (length addrs) (what.Ban jail addrs)

-- whether a mask is one of these
abbrev pub has_mask : Cidr → List Cidr → Bool
has_mask cidr masks = list_any (same_cidr cidr) masks

abbrev pub is_same : Bool → Bool → Bool
is_same true b = b
is_same false b = not b

-- what changes of a definition
abbrev pub change_of_definition : JailDef → Request → Option What
change_of_definition d (request.AddIgnore jail cidr) = unless (has_mask cidr d.ignore) (what.Ignore jail cidr true)
change_of_definition d (request.DelIgnore jail cidr) = unless (not (has_mask cidr d.ignore)) (what.Ignore jail cidr false)
change_of_definition d (request.SetFindtime jail secs) = unless (secs == d.findtime) (what.Findtime jail secs)
change_of_definition d (request.SetBantime jail secs) = unless (int_eq secs d.rule.base) (what.Bantime jail secs)
change_of_definition d (request.SetMaxretry jail number) = unless (number == d.maxretry) (what.Maxretry jail number)
change_of_definition d _ = None

-- what changes in the jail that a request names
abbrev pub change_in : JailNow → Request → Option What
change_in j (request.SetBanip jail addrs) = ban_of jail (new_addrs j.bans addrs)
change_in j (request.SetUnbanip jail addrs) = if_any (ended_in (Some addrs) j) (what.Unban (Some jail) (Some addrs))
change_in j (request.SetAttempt jail addr) = unless (is_banned addr j.bans) (what.Attempt jail addr)
change_in j (request.SetIdle jail idle) = unless (is_same idle j.idle) (what.Idle jail idle)
change_in j asked = change_of_definition j.definition asked

-- what changes in all, or in the jail that is named
abbrev pub change_of : Now → Request → Option What
change_of now request.UnbanAll = if_any (ended None now) (what.Unban None None)
change_of now (request.Unban addrs) = if_any (ended (Some addrs) now) (what.Unban None (Some addrs))
change_of now request.Stop = unless now.lanes.stopping what.Stop
change_of now asked = option_and_then (λ (j : JailNow). change_in j asked) (option_and_then (jail_in now) (named asked))

-- The input that a request makes, where it is not refused and something changes. That of a reload is made of the configuration that is read.
unfoldable pub effect : Now → Request → Option What
effect now asked = if is_some (refusal now asked) then None else change_of now asked
