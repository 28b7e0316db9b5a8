-- Why a request is refused by the state.
use Rattle.std.specs.Prelude.{ℕ, ◌&&◌, Bool, true, false, List, ◌++◌, Option, Some, None, option_and_then, codes, if◌then◌else◌}
use Rattle.f2b_model.specs.Steps.{find_jail, moves_now}
use Rattle.f2b_model.specs.Whole.{Now}
use Rattle.f2b_model.specs.declared.jail_now.JailNow.{JailNow}
use Rattle.client_words.specs.declared.request.Request.{Request}
use Rattle.client_words.specs.declared.request.Request.TheVariants.{StatusOf, UnbanAll, Unban, Reload, SetBanip, SetUnbanip, SetAttempt, AddIgnore, DelIgnore, SetFindtime, SetBantime, SetMaxretry, SetIdle, GetBanip, GetFindtime, GetBantime, GetMaxretry, GetIgnoreip, GetLogpath, GetFailregex, GetBantimes, GetIgnoreregex, GetDatepattern, GetMaxmatches, GetIncrement, GetActions}

-- ---- jails that are not there

-- the jail that a request names, if it names one
abbrev pub named : Request → Option (List ℕ)
named (StatusOf jail) = Some jail
named (SetBanip jail addrs) = Some jail
named (SetUnbanip jail addrs) = Some jail
named (SetAttempt jail addr) = Some jail
named (AddIgnore jail cidr) = Some jail
named (DelIgnore jail cidr) = Some jail
named (SetFindtime jail secs) = Some jail
named (SetBantime jail secs) = Some jail
named (SetMaxretry jail number) = Some jail
named (SetIdle jail idle) = Some jail
named (GetBanip jail) = Some jail
named (GetFindtime jail) = Some jail
named (GetBantime jail) = Some jail
named (GetMaxretry jail) = Some jail
named (GetIgnoreip jail) = Some jail
named (GetLogpath jail) = Some jail
named (GetFailregex jail) = Some jail
named (GetBantimes jail) = Some jail
named (GetIgnoreregex jail) = Some jail
named (GetDatepattern jail) = Some jail
named (GetMaxmatches jail) = Some jail
named (GetIncrement jail) = Some jail
named (GetActions jail) = Some jail
named _ = None

-- the jail of a name
abbrev pub jail_in : Now → List ℕ → Option JailNow
jail_in now name = find_jail moves_now name now.jails.jails

-- this name, where it is no jail's
abbrev pub unless_there : Option JailNow → List ℕ → Option (List ℕ)
unless_there None name = Some name
unless_there (Some j) name = None

-- the name that a request names and no jail has
abbrev pub missing : Now → Request → Option (List ℕ)
missing now request = option_and_then (λ name. unless_there (jail_in now name) name) (named request)

abbrev pub no_jail_text : List ℕ → List ℕ
no_jail_text name = codes "Sorry but the jail '" ++ name ++ codes "' does not exist"

-- ---- while the server is stopping

-- whether a request changes something, or may; a stop that was asked for can be asked for again
abbrev pub is_change : Request → Bool
is_change UnbanAll = true
is_change (Unban addrs) = true
is_change Reload = true
is_change (SetBanip jail addrs) = true
is_change (SetUnbanip jail addrs) = true
is_change (SetAttempt jail addr) = true
is_change (AddIgnore jail cidr) = true
is_change (DelIgnore jail cidr) = true
is_change (SetFindtime jail secs) = true
is_change (SetBantime jail secs) = true
is_change (SetMaxretry jail number) = true
is_change (SetIdle jail idle) = true
is_change _ = false

-- whether a request would change something while the server is stopping
abbrev pub comes_late : Now → Request → Bool
comes_late now request = now.lanes.stopping && is_change request

-- ---- refusals

abbrev pub refusal_by : (missing : Option (List ℕ)) → (late : Bool) → Option (List ℕ)
refusal_by (Some name) late = Some (no_jail_text name)
refusal_by None late = if late then Some (codes "Server is stopping") else None

-- Why a request is refused, if it is: that there is no such jail comes before that the server is stopping.
unfoldable pub refusal : Now → Request → Option (List ℕ)
refusal now request = refusal_by (missing now request) (comes_late now request)
