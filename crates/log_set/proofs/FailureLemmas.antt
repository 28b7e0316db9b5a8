-- What is known of a failure that a line shows: it can be stored.
use Rattle.std.proofs.Common.{◌≡◌, ℕ, zero, suc, ◌+◌, ◌<◌, ◌≤◌, ◌^◌, ◌/◌, ℤ, pos, negsuc, inl, inr, Bool, true, false, List, [], ◌∷◌, ◌++◌, length, take, Option, Some, None, IfSome, refl, sym, ap, ◌∙◌, subst, arith}
use Rattle.std.specs.Prelude.{◌≢◌, nat_le, min, option_map}
use Rattle.std.specs.List.{cons_option, filter_map}
use Rattle.std.proofs.lemmas.Bool.{cases_Bool, eqb-false}
use Rattle.date_detect.specs.Dates.{date_in}
use Rattle.f2b_base.specs.Addresses.{IsAddr, canonical, is_mapped, read_addr, written_addr}
use Rattle.f2b_base.specs.Limits.{kept_line_bytes, last_moment}
use Rattle.f2b_base.specs.declared.addr.Addr.{Addr}
use Rattle.f2b_base.specs.declared.addr.Addr.TheVariants.{V4, V6}
use Rattle.f2b_base.specs.declared.addr.Cidr.{Cidr}
use Rattle.f2b_base.specs.declared.ban.Failure.{Failure}
use Rattle.f2b_model.specs.Lists.{AllOf}
use Rattle.f2b_model.specs.Storable.{IsShortText, IsStorableFailure}
use Rattle.filter_regex.specs.Findings.{content, dated, failure, finding, first_match, is_ignored, looked_at, matched, moment_of, part, time_at, timed, unless_ignored, without}
use Rattle.filter_regex.specs.Rules.{Rules}
use Rattle.filter_regex.specs.declared.finding.Finding.{Finding}
use Rattle.filter_regex.specs.declared.finding.Finding.TheVariants.{Failure as Failed}
use Rattle.host_ident.specs.Hosts.{host_of}

-- ---- the address

-- the number fits its family
abbrev pub FitsFamily : Addr → Type 0
FitsFamily (V4 number) = number < 2 ^ 32
FitsFamily (V6 number) = number < 2 ^ 128

-- the number stands for no IPv4 address
abbrev pub IsUnmapped : Addr → Type 0
IsUnmapped (V4 number) = Unit {0}
IsUnmapped (V6 number) = number / 2 ^ 32 ≢ 0xffff

addr_from : (addr : Addr) → FitsFamily addr → IsUnmapped addr → IsAddr addr
addr_from (V4 number) fits unmapped = fits
addr_from (V6 number) fits unmapped = (fits, unmapped)

canonical_unmapped : (addr : Addr) → IsUnmapped (canonical addr)
canonical_unmapped (V4 number) = tt
canonical_unmapped (V6 number) = elim (cases_Bool (is_mapped number)) [
  | inl mapped ↦ rw mapped tt
  | inr other ↦ rw other (eqb-false (number / 2 ^ 32) 0xffff other)
]

each_unmapped : (written : Option Addr) → IfSome (option_map canonical written) IsUnmapped
each_unmapped None = tt
each_unmapped (Some addr) = canonical_unmapped addr

read_unmapped : (text : List ℕ) → IfSome (read_addr text) IsUnmapped
unfolding read_addr
read_unmapped text = each_unmapped (written_addr text)

host_unmapped : (ip4 ip6 : Option (List ℕ)) → IfSome (host_of ip4 ip6) IsUnmapped
host_unmapped (Some text) ip6 = read_unmapped text
host_unmapped None (Some text) = read_unmapped text
host_unmapped None None = tt

-- ---- a finding

-- a failure is not later than now, and its address stands for no other
abbrev pub IsTimely : ℕ → Finding → Type 0
IsTimely now (Failed addr time index) = IsUnmapped addr × (time ≤ now)
IsTimely now _ = Unit {0}

timed_timely : (now findtime index : ℕ) (addr : Addr) (moment : ℤ) → IsUnmapped addr → IsTimely now (timed now findtime index addr (time_at now moment))
timed_timely now findtime index addr (pos moment) unmapped = elim (cases_Bool (nat_le (min moment now + findtime) now)) [
  | inl old ↦ rw old tt
  | inr counts ↦ rw counts (unmapped, omega arith)
]
timed_timely now findtime index addr (negsuc n) unmapped = tt

failure_timely : (masks : List Cidr) (now findtime : ℕ) (moment : ℤ) (index : ℕ) (host : Option Addr) → IfSome host IsUnmapped
    → IsTimely now (failure masks now findtime moment index host)
failure_timely masks now findtime moment index None unmapped = tt
failure_timely masks now findtime moment index (Some addr) unmapped = elim (cases_Bool (is_ignored masks addr)) [
  | inl ignored ↦ rw ignored tt
  | inr counts ↦ rw counts (timed_timely now findtime index addr moment unmapped)
]

matched_timely : (masks : List Cidr) (now findtime : ℕ) (moment : ℤ) (text : List ℕ) (found : Option _) → IsTimely now (matched masks now findtime moment text found)
matched_timely masks now findtime moment text None = tt
matched_timely masks now findtime moment text (Some h) =
    let ip4 = part text h.spans.ip4 in
    let ip6 = part text h.spans.ip6 in
    failure_timely masks now findtime moment h.number (host_of ip4 ip6) (host_unmapped ip4 ip6)

looked_timely : (rules : Rules) (masks : List Cidr) (now findtime : ℕ) (moment : ℤ) (text : Option (List ℕ))
    → IsTimely now (looked_at rules masks now findtime moment text)
looked_timely rules masks now findtime moment None = tt
looked_timely rules masks now findtime moment (Some text) = matched_timely masks now findtime moment text (first_match 1 rules.fail text)

dated_timely : (rules : Rules) (masks : List Cidr) (now findtime : ℕ) (rest : List ℕ) (moment : Option ℤ) → IsTimely now (dated rules masks now findtime rest moment)
dated_timely rules masks now findtime rest None = tt
dated_timely rules masks now findtime rest (Some moment) = looked_timely rules masks now findtime moment (content rules.pref rest)

unless_timely : (now : ℕ) (found : Option _) (otherwise : Finding) → IsTimely now otherwise → IsTimely now (unless_ignored found otherwise)
unless_timely now (Some h) otherwise timely = tt
unless_timely now None otherwise timely = timely

finding_timely : (rules : Rules) (masks : List Cidr) (now findtime : ℕ) (line : List ℕ) → IsTimely now (finding rules masks now findtime line)
unfolding finding
finding_timely rules masks now findtime line =
    let date = date_in rules.dates now rules.zone line in
    let rest = without line date in
    let moment = moment_of rules.undated now date in
    unless_timely now (first_match 1 rules.ignore_lines rest) (dated rules masks now findtime rest moment) (dated_timely rules masks now findtime rest moment)

-- ---- a failure, and a list of them

-- a failure that was found, with what it keeps of its line
pub failed_well : (rules : Rules) (masks : List Cidr) (now findtime : ℕ) (line kept : List ℕ) (addr : Addr) (time index : ℕ)
    → Failed addr time index ≡ finding rules masks now findtime line → now < 2 ^ 40 → FitsFamily addr → IsShortText kept_line_bytes kept
    → IsStorableFailure (record { addr = addr; time = time; line = kept })
failed_well rules masks now findtime line kept addr time index is early fits short =
    let timely : IsTimely now (Failed addr time index) = subst (IsTimely now) (sym is) (finding_timely rules masks now findtime line) in
    let past : time ≤ now = timely.1 in
    record { addr = addr_from addr fits timely.0; time = omega arith; line = short }

-- one more, or none
pub all_more : {A : Type 0} (P : A → Type 0) (xs : List A) (more : Option A) → AllOf P xs → IfSome more P → AllOf P (xs ++ cons_option more [])
all_more P [] None all one = tt
all_more P [] (Some x) all one = (one, tt)
all_more P (x ∷ xs) more all one = (all.0, all_more P xs more all.1 one)

cons_few : {A : Type 0} (n : ℕ) (more : Option A) (xs : List A) → length xs ≤ n → length (cons_option more xs) ≤ suc n
cons_few n None xs few = omega arith
cons_few n (Some x) xs few = omega arith

-- what is found in some of the first lines is no more than there are lines
pub few_taken : {A B : Type 0} (f : A → Option B) (n : ℕ) (xs : List A) → length (filter_map f (take n xs)) ≤ length xs
few_taken f zero xs = omega arith
few_taken f (suc n) [] = omega arith
few_taken f (suc n) (x ∷ xs) = cons_few (length xs) (f x) (filter_map f (take n xs)) (few_taken f n xs)
