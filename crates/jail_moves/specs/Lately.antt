-- How many addresses failed lately.
use Rattle.std.specs.Prelude.{ℕ, cond, List, [], ◌∷◌, length, map, filter}
use Rattle.std.specs.List.{list_any}
use Rattle.f2b_base.specs.declared.addr.Addr.{Addr}
use Rattle.f2b_base.specs.declared.ban.Failure.{Failure}
use Rattle.f2b_base.specs.Addresses.{same_addr}
use Rattle.fail_window.specs.Times.{is_within_findtime}

-- each address of a list once
abbrev pub each_once : List Addr → List Addr
each_once [] = []
each_once (addr ∷ addrs) = cond (list_any (same_addr addr) addrs) (each_once addrs) (addr ∷ each_once addrs)

-- how many addresses have a failure that is later than `findtime` before a moment
abbrev pub failed_lately : ℕ → ℕ → List Failure → ℕ
failed_lately now findtime fs = length (each_once (map (λ (f : Failure). f.addr) (filter (is_within_findtime now findtime) fs)))
