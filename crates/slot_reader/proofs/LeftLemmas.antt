-- A reader that stops has left no more bytes than there were, whether it reads a value or finds none.
use Rattle.std.proofs.Common.{ℕ, zero, suc, ◌+◌, ◌-◌, ◌*◌, ◌^◌, ◌≤◌, Bool, true, false, cond, ◌==◌, ◌&&◌, nat_lt, nat_le, List, [], ◌∷◌, ◌++◌, length, take, drop, Option, Some, None, Result, Ok, Err, option_and_then, arith}
use Rattle.std.specs.Int.{Width, w32, w64, byte_len, from_be_bytes}
use Rattle.std.specs.Str.{is_utf8}
use Rattle.std.proofs.lemmas.List.{length-drop}
use Rattle.f2b_base.specs.declared.addr.Addr.TheVariants.{V6}
use Rattle.f2b_base.specs.Addresses.{is_mapped}
use Rattle.record_fields.specs.Addresses.{fixed_at, sixteen_at, addr_at, addr, bits_of, bits, cidr}
use Rattle.record_fields.specs.Codec.{◌>>=◌, Reads, as_made, Codec, and_then, both, made, fit, checked, coded, Cases, case, no_case, field, option_of}
use Rattle.record_fields.specs.Lists.{is_few, items_at, list_at, each_at, each_list_at, listed, each_of}
use Rattle.record_fields.specs.Numbers.{digits_at, number_at, number, at_most, between, signed}
use Rattle.record_fields.specs.Small.{flag}
use Rattle.record_fields.specs.Texts.{string_at, string, text, short}

-- at most so many bytes are left
abbrev pub LeavesUpTo : {A : Type 0} → ℕ → Result (A × List ℕ) ℕ → Type 0
LeavesUpTo most (Ok x) = length x.1 ≤ most
LeavesUpTo most (Err left) = left ≤ most

-- no more bytes are left than there were
abbrev pub StaysWithin : {A : Type 0} → Reads A → Type 0
StaysWithin read = (bytes : List ℕ) → LeavesUpTo (length bytes) (read bytes)

pub record LeavesNoMore {A : Type 0} (c : Codec A) : Type 0 where
  pub within : StaysWithin c.read

-- ---- fields behind fields

pub leaves_more : {A : Type 0} (few most : ℕ) (r : Result (A × List ℕ) ℕ) → few ≤ most → LeavesUpTo few r → LeavesUpTo most r
leaves_more few most (Ok x) le h = omega (arith, le, h)
leaves_more few most (Err left) le h = omega (arith, le, h)

pub leaves_then : {A B : Type 0} (most : ℕ) (r : Result (A × List ℕ) ℕ) (f : A × List ℕ → Result (B × List ℕ) ℕ) → LeavesUpTo most r
    → ((x : A × List ℕ) → length x.1 ≤ most → LeavesUpTo most (f x)) → LeavesUpTo most (r >>= f)
leaves_then most (Ok x) f first next = next x first
leaves_then most (Err left) f first next = first

leaves_if : {A : Type 0} (most : ℕ) (t : Bool) (r s : Result (A × List ℕ) ℕ) → LeavesUpTo most r → LeavesUpTo most s → LeavesUpTo most (cond t r s)
leaves_if most true r s h k = h
leaves_if most false r s h k = k

-- a reader that goes on behind what was left
go_on : {A : Type 0} (read : Reads A) → StaysWithin read → (most : ℕ) (rest : List ℕ) → length rest ≤ most → LeavesUpTo most (read rest)
go_on read h most rest le = leaves_more (length rest) most (read rest) le (h rest)

pub then_leaves : {A B : Type 0} (first : Codec A) (next : A → Codec B) → LeavesNoMore first → ((a : A) → LeavesNoMore (next a)) → LeavesNoMore (and_then first next)
then_leaves first next p q = record {
  within = λ bytes.
      leaves_then (length bytes) (first.read bytes) _ (p.within bytes) (λ a le.
      leaves_then (length bytes) ((next a.0).read a.1) _ (go_on (next a.0).read (q a.0).within (length bytes) a.1 le) (λ b less. less));
}

pub both_leaves : {A B : Type 0} (first : Codec A) (next : Codec B) → LeavesNoMore first → LeavesNoMore next → LeavesNoMore (both first next)
both_leaves first next p q = then_leaves first (λ _. next) p (λ _. q)

pub as_made_leaves : {A B : Type 0} (make : A → B) (c : Codec A) → LeavesNoMore c → StaysWithin (as_made make c)
as_made_leaves make c p bytes = leaves_then (length bytes) (c.read bytes) _ (p.within bytes) (λ a le. le)

pub made_leaves : {A B : Type 0} (make : A → B) (parts : B → A) (c : Codec A) → LeavesNoMore c → LeavesNoMore (made make parts c)
made_leaves make parts c p = record { within = as_made_leaves make c p }

pub fit_leaves : {A : Type 0} (Fits : A → Type 0) (c : Codec A) → LeavesNoMore c → LeavesNoMore (fit Fits c)
fit_leaves Fits c p = record { within = p.within }

pub checked_leaves : {A : Type 0} (test : A → Bool) (c : Codec A) → LeavesNoMore c → LeavesNoMore (checked test c)
checked_leaves test c p = record {
  within = λ bytes.
      leaves_then (length bytes) (c.read bytes) _ (p.within bytes) (λ a le.
      leaves_if (length bytes) (test a.0) (Ok a) (Err (length bytes)) le (omega arith));
}

-- ---- single bytes

coded_byte : {A : Type 0} (o : Option A) (rest : List ℕ) → LeavesUpTo (suc (length rest)) (elim o as (λ _. Result (A × List ℕ) ℕ) [ Some a ↦ Ok (a, rest) | None ↦ Err (length rest + 1) ])
coded_byte (Some a) rest = omega arith
coded_byte None rest = omega arith

coded_within : {A : Type 0} (code : A → ℕ) (decode : ℕ → Option A) (Fits : A → Type 0) → StaysWithin (coded code decode Fits).read
coded_within code decode Fits [] = omega arith
coded_within code decode Fits (b ∷ rest) = coded_byte (decode b) rest

pub coded_leaves : {A : Type 0} (code : A → ℕ) (decode : ℕ → Option A) (Fits : A → Type 0) → LeavesNoMore (coded code decode Fits)
coded_leaves code decode Fits = record { within = coded_within code decode Fits }

-- what follows a byte leaves no more than was left with it
abbrev pub CasesLeave : {A : Type 0} → Cases A → Type 0
CasesLeave cases = (b left : ℕ) (bytes : List ℕ) → length bytes ≤ left → LeavesUpTo left (cases b left bytes)

pub none_leave : (A : Type 0) → CasesLeave (no_case {A = A})
none_leave A b left bytes le = omega arith

pub case_leaves : {A : Type 0} (k : ℕ) (read : Reads A) (others : Cases A) → StaysWithin read → CasesLeave others → CasesLeave (case k read others)
case_leaves k read others p q b left bytes le = leaves_if left (b == k) (read bytes) (others b left bytes) (go_on read p left bytes le) (q b left bytes le)

pub alone_leaves : {A : Type 0} (x : A) → StaysWithin (λ bytes. Ok (x, bytes))
alone_leaves x bytes = omega arith

pub field_leaves : {A : Type 0} (cases : Cases A) → CasesLeave cases → StaysWithin (field cases)
field_leaves cases p [] = omega arith
field_leaves cases p (b ∷ bytes) = leaves_more (length bytes + 1) (suc (length bytes)) (cases b (length bytes + 1) bytes) (omega arith) (p b (length bytes + 1) bytes (omega arith))

pub option_leaves : {A : Type 0} (c : Codec A) → LeavesNoMore c → LeavesNoMore (option_of c)
option_leaves {A} c p = record { within = field_leaves _ (case_leaves 0 _ _ (alone_leaves {A = Option A} None) (case_leaves 1 _ no_case (as_made_leaves (λ (x : A). Some x) c p) (none_leave (Option A)))) }

-- ---- numbers

abbrev KeepsUpTo : ℕ → Option (ℕ × List ℕ) → Type 0
KeepsUpTo most (Some x) = length x.1 ≤ most
KeepsUpTo most None = Unit {0}

keeps_if : (most : ℕ) (t : Bool) (o p : Option (ℕ × List ℕ)) → KeepsUpTo most o → KeepsUpTo most p → KeepsUpTo most (cond t o p)
keeps_if most true o p h k = h
keeps_if most false o p h k = k

keeps_then : (few most : ℕ) (o : Option (ℕ × List ℕ)) (f : ℕ × List ℕ → Option (ℕ × List ℕ)) → few ≤ most → KeepsUpTo few o → ((x : ℕ × List ℕ) → length x.1 ≤ most → KeepsUpTo most (f x)) → KeepsUpTo most (option_and_then f o)
keeps_then few most None f le h next = tt
keeps_then few most (Some x) f le h next = next x (omega (arith, le, h))

digits_keep : (k : ℕ) (bytes : List ℕ) → KeepsUpTo (length bytes) (digits_at k bytes)
unfolding digits_at
digits_keep zero bytes = tt
digits_keep (suc k) [] = tt
digits_keep (suc k) (b ∷ bytes) =
    keeps_if (suc (length bytes)) (nat_lt b 128) (Some (b, bytes)) _ (omega arith)
    (keeps_then (length bytes) (suc (length bytes)) (digits_at k bytes) _ (omega arith) (digits_keep k bytes) (λ x le.
    keeps_if (suc (length bytes)) (nat_lt 0 x.0 && nat_lt x.0 (2 ^ 57)) (Some (b - 128 + 128 * x.0, x.1)) None le tt))

of_kept : (most : ℕ) (o : Option (ℕ × List ℕ)) → KeepsUpTo most o → LeavesUpTo most (elim o as (λ _. Result (ℕ × List ℕ) ℕ) [ Some x ↦ Ok x | None ↦ Err most ])
of_kept most (Some x) h = h
of_kept most None h = omega arith

number_within : StaysWithin number_at
unfolding number_at
number_within bytes = of_kept (length bytes) (digits_at 10 bytes) (digits_keep 10 bytes)

pub number_leaves : LeavesNoMore number
number_leaves = record { within = number_within }

pub at_most_leaves : (most : ℕ) → LeavesNoMore (at_most most)
at_most_leaves most = fit_leaves _ _ (checked_leaves (λ n. nat_le n most) number number_leaves)

pub between_leaves : (least most : ℕ) → LeavesNoMore (between least most)
between_leaves least most = fit_leaves _ _ (checked_leaves (λ n. nat_le least n && nat_le n most) number number_leaves)

pub signed_leaves : LeavesNoMore signed
signed_leaves = fit_leaves _ _ (made_leaves _ _ number number_leaves)

pub flag_leaves : LeavesNoMore flag
flag_leaves = coded_leaves _ _ _

-- ---- bytes and texts

string_within : StaysWithin string_at
unfolding string_at
string_within bytes =
    leaves_then (length bytes) (number_at bytes) _ (number_within bytes) (λ n le.
    leaves_if (length bytes) (nat_lt (length n.1) n.0) (Err (length bytes)) (Ok (take n.0 n.1, drop n.0 n.1)) (omega arith) (omega (arith, le, length-drop n.0 n.1)))

pub string_leaves : LeavesNoMore string
string_leaves = record { within = string_within }

pub text_leaves : LeavesNoMore text
text_leaves = fit_leaves _ _ (checked_leaves is_utf8 string string_leaves)

pub short_leaves : (most : ℕ) → LeavesNoMore (short most)
short_leaves most = fit_leaves _ _ (checked_leaves (λ s. nat_le (length s) most) text text_leaves)

-- ---- numbers of a width, and addresses

pub fixed_leaves : (w : Width) (left most : ℕ) (bytes : List ℕ) → left ≤ most → length bytes ≤ most → LeavesUpTo most (fixed_at w left bytes)
unfolding fixed_at
fixed_leaves w left most bytes few le =
    leaves_if most (nat_lt (length bytes) (byte_len w)) (Err left) (Ok (from_be_bytes w (take (byte_len w) bytes), drop (byte_len w) bytes)) few (omega (arith, le, length-drop (byte_len w) bytes))

sixteen_leaves : (left most : ℕ) (bytes : List ℕ) → left ≤ most → length bytes ≤ most → LeavesUpTo most (sixteen_at left bytes)
unfolding sixteen_at
sixteen_leaves left most bytes few le =
    leaves_then most (fixed_at w64 left bytes) _ (fixed_leaves w64 left most bytes few le) (λ high less.
    leaves_then most (fixed_at w64 left high.1) _ (fixed_leaves w64 left most high.1 few less) (λ low least. least))

addr_within : StaysWithin addr_at
unfolding addr_at
addr_within [] = omega arith
addr_within (b ∷ bytes) =
    let most = suc (length bytes) in
    leaves_if most (b == 4) _ _
    (leaves_then most (fixed_at w32 (length bytes + 1) bytes) _ (fixed_leaves w32 (length bytes + 1) most bytes (omega arith) (omega arith)) (λ n le. le))
    (leaves_if most (b == 6) _ (Err (length bytes + 1))
    (leaves_then most (sixteen_at (length bytes + 1) bytes) _ (sixteen_leaves (length bytes + 1) most bytes (omega arith) (omega arith)) (λ n le.
    leaves_if most (is_mapped n.0) (Err (length bytes + 1)) (Ok (V6 n.0, n.1)) (omega arith) le))
    (omega arith))

pub addr_leaves : LeavesNoMore addr
addr_leaves = record { within = addr_within }

pub cidr_leaves : LeavesNoMore cidr
unfolding cidr
cidr_leaves = made_leaves _ _ (and_then addr bits) (then_leaves addr bits addr_leaves (λ base. coded_leaves _ (bits_of base) _))

-- ---- lists

items_leave : {A : Type 0} (allowed : List A → A → Bool) (read : Reads A) → StaysWithin read → (before : List A) (n most : ℕ) (bytes : List ℕ) → length bytes ≤ most → LeavesUpTo most (items_at allowed read before n bytes)
unfolding items_at
items_leave allowed read p before zero most bytes le = le
items_leave allowed read p before (suc n) most bytes le =
    leaves_then most (read bytes) _ (go_on read p most bytes le) (λ first less.
    leaves_if most (allowed before first.0) _ (Err (length bytes))
    (leaves_then most (items_at allowed read (before ++ first.0 ∷ []) n first.1) _ (items_leave allowed read p (before ++ first.0 ∷ []) n most first.1 less) (λ others least. least))
    le)

list_within : {A : Type 0} (most : Option ℕ) (allowed : List A → A → Bool) (read : Reads A) → StaysWithin read → StaysWithin (list_at most allowed read)
unfolding list_at
list_within most allowed read p bytes =
    leaves_then (length bytes) (number_at bytes) _ (number_within bytes) (λ n le.
    leaves_if (length bytes) (is_few most n.0) _ (Err (length bytes)) (items_leave allowed read p [] n.0 (length bytes) n.1 le) (omega arith))

pub list_leaves : {A : Type 0} (most : Option ℕ) (allowed : List A → A → Bool) (c : Codec A) → LeavesNoMore c → LeavesNoMore (listed most allowed c)
list_leaves most allowed c p = record { within = list_within most allowed c.read p.within }

each_leave : {D A : Type 0} (read : D → Reads A) → ((d : D) → StaysWithin (read d)) → (ds : List D) (most : ℕ) (bytes : List ℕ) → length bytes ≤ most → LeavesUpTo most (each_at read ds bytes)
unfolding each_at
each_leave read p [] most bytes le = le
each_leave read p (d ∷ ds) most bytes le =
    leaves_then most (read d bytes) _ (go_on (read d) (p d) most bytes le) (λ first less.
    leaves_then most (each_at read ds first.1) _ (each_leave read p ds most first.1 less) (λ others least. least))

each_list_within : {D A : Type 0} (read : D → Reads A) → ((d : D) → StaysWithin (read d)) → (ds : List D) → StaysWithin (each_list_at read ds)
unfolding each_list_at
each_list_within read p ds bytes =
    leaves_then (length bytes) (number_at bytes) _ (number_within bytes) (λ n le.
    leaves_if (length bytes) (n.0 == length ds) _ (Err (length bytes)) (each_leave read p ds (length bytes) n.1 le) (omega arith))

pub each_leaves : {D A : Type 0} (spell : A → List ℕ) (codec : D → Codec A) (ds : List D) → ((d : D) → LeavesNoMore (codec d)) → LeavesNoMore (each_of spell codec ds)
each_leaves spell codec ds p = record { within = each_list_within (λ d. (codec d).read) (λ d. (p d).within) ds }
