-- Who is banned, and which bans a request is about.
use Rattle.std.specs.Prelude.{ℕ, ◌||◌, Bool, List, [], ◌∷◌, length, filter, Option, if◌then◌else◌}
use Rattle.std.specs.List.{list_any, sum_by}
use Rattle.f2b_base.specs.Addresses.{same_addr}
use Rattle.f2b_base.specs.declared.addr.Addr.{Addr}
use Rattle.f2b_base.specs.declared.ban.Ban.{Ban}
use Rattle.f2b_model.specs.Moves.{is_banned}
use Rattle.f2b_model.specs.Steps.{is_meant}
use Rattle.f2b_model.specs.Whole.{Now}
use Rattle.f2b_model.specs.declared.jail_now.JailNow.{JailNow}

-- whether an address is one of these
abbrev pub is_among : List Addr → Addr → Bool
is_among addrs addr = list_any (same_addr addr) addrs

-- the addresses that are not banned, each once, in the order in which they stand first; `seen` stood before them
abbrev pub new_after : (seen : List Addr) → List Ban → List Addr → List Addr
new_after seen bans [] = []
new_after seen bans (addr ∷ addrs) =
    if is_banned addr bans || is_among seen addr then new_after seen bans addrs else addr ∷ new_after (addr ∷ seen) bans addrs

abbrev pub new_addrs : List Ban → List Addr → List Addr
new_addrs bans addrs = new_after [] bans addrs

-- how many of these bans a request means: those of its addresses, or all
abbrev pub count_meant : Option (List Addr) → List Ban → ℕ
count_meant addrs bans = length (filter (is_meant addrs) bans)

-- how many of one jail
abbrev pub ended_in : Option (List Addr) → JailNow → ℕ
ended_in addrs j = count_meant addrs j.bans

-- how many of all jails
abbrev pub ended : Option (List Addr) → Now → ℕ
ended addrs now = sum_by (ended_in addrs) now.jails.jails
