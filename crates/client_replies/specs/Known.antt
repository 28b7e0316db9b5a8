-- Addresses that are known.
use Rattle.std.specs.Prelude.{◌≡◌, Bool}
use Rattle.std.specs.BTreeSet as sorted
use Rattle.ban_table.specs.Places.{key_of, pair_cmp}
use Rattle.f2b_base.specs.declared.addr.Addr.{Addr}
use Rattle.client_replies.specs.declared.known.Known.{Known}

-- those are known that pass the test
pub record IsKnown (known : Known) (test : Addr → Bool) : Type 0 where
  pub has : (addr : Addr) → sorted.contains pair_cmp known.keys (key_of addr) ≡ test addr
