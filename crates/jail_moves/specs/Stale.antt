-- The addresses of which failures are kept that no longer matter.
use Rattle.std.specs.Prelude.{ℕ, Bool, ◌&&◌, not, List, map, filter}
use Rattle.std.specs.List.{list_any}
use Rattle.f2b_base.specs.declared.addr.Addr.{Addr}
use Rattle.f2b_base.specs.declared.ban.Failure.{Failure}
use Rattle.f2b_model.specs.Full.{is_of, is_recent}
use Rattle.jail_moves.specs.Lately.{each_once}

-- whether an address has a failure that is recent at a moment
abbrev pub has_recent : ℕ → ℕ → List Failure → Addr → Bool
has_recent moment findtime fs addr = list_any (λ (f : Failure). is_of addr f && is_recent moment findtime f) fs

-- the addresses of which failures are kept though none is recent at a moment, each once
abbrev pub stale_addrs : ℕ → ℕ → List Failure → List Addr
stale_addrs moment findtime fs = filter (λ (addr : Addr). not (has_recent moment findtime fs addr)) (each_once (map (λ (f : Failure). f.addr) fs))
