-- Which numbers have a prefix of a table.
use Rattle.std.specs.Prelude.{ℕ, ◌≡◌, ◌==◌, ◌||◌, All, Bool, List}
use Rattle.std.specs.List.{list_any}
use Rattle.std.specs.List.Sorted.{IsSorted}
use Rattle.std.specs.Ordering.{nat_cmp}
use Rattle.f2b_base.specs.declared.addr.Addr.TheVariants.{V4, V6}
use Rattle.f2b_base.specs.declared.addr.Cidr.{Cidr}
use Rattle.f2b_base.specs.Masks.{first_bits, holds}
use Rattle.ignore_set.specs.declared.prefix_table.Group.{Group}

-- the first bits of the number are in the group
abbrev pub in_group : ℕ → ℕ → Group → Bool
in_group width number group = list_any (λ first. first == first_bits width group.bits number) group.firsts.items

-- some group has the first bits of the number
abbrev pub in_table : ℕ → List Group → ℕ → Bool
in_table width groups number = list_any (in_group width number) groups

-- a group that can be searched, and a table whose groups all can
abbrev pub IsInOrder : Group → Type 0
IsInOrder group = IsSorted nat_cmp group.firsts.items

abbrev pub AreSorted : List Group → Type 0
AreSorted groups = All IsInOrder groups

-- the tables of both families hold the addresses that the masks hold
pub record HoldAlike (masks : List Cidr) (short long : List Group) : Type 0 where
  pub v4 : (number : ℕ) → in_table 32 short number ≡ list_any (λ mask. holds mask (V4 number)) masks
  pub v6 : (number : ℕ) → in_table 128 long number ≡ list_any (λ mask. holds mask (V6 number)) masks

-- the tables of both families hold what they held, and what the mask holds
pub record HoldMore (mask : Cidr) (short long shorter longer : List Group) : Type 0 where
  pub v4 : (number : ℕ) → in_table 32 shorter number ≡ (in_table 32 short number || holds mask (V4 number))
  pub v6 : (number : ℕ) → in_table 128 longer number ≡ (in_table 128 long number || holds mask (V6 number))
