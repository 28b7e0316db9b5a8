-- What is kept of a rest, by its length.
use Rattle.std.proofs.Common.{ℕ, ◌≡◌, ◌<◌, ◌≤◌, ◌+◌, nat_lt, Bool, true, false, ◌==◌, List, [], ◌∷◌, ◌++◌, Result, Ok, Err, IfOk, length, refl, sym, ap, ◌∙◌, arith, length-append}
use Rattle.std.proofs.lemmas.Bool.{lt-ltb, le-ltb, ltb-true, ltb-false, eqb-true}
use Rattle.log_follow.proofs.LineLemmas.{line_of-long}
use Rattle.log_follow.specs.Carried.{carry_of, length_of}
use Rattle.f2b_base.specs.declared.memory.NoMemory.{NoMemory}
use Rattle.log_follow.specs.Lines.{line_of}
use Rattle.log_follow.specs.declared.line.Line.{Line}
use Rattle.log_follow.specs.declared.line.Line.TheVariants.{Long as LongLine}
use Rattle.log_follow.specs.declared.carry.Carry.{Carry}
use Rattle.log_follow.specs.declared.carry.Carry.TheVariants.{Kept, Long}

pub carry_of-long : (rest : List ℕ) → 65536 < length rest → carry_of rest ≡ Long (length rest)
unfolding carry_of
carry_of-long rest over = rw (lt-ltb 65536 (length rest) over) refl

pub carry_of-short : (rest : List ℕ) → length rest ≤ 65536 → carry_of rest ≡ Kept rest
unfolding carry_of
carry_of-short rest short = rw (le-ltb 65536 (length rest) short) refl

kept_by : (rest bytes : List ℕ) (over : Bool) → nat_lt 65536 (length rest) ≡ over → Kept bytes ≡ carry_of rest → bytes ≡ rest
kept_by rest bytes true is same = let long : carry_of rest ≡ Long (length rest) = carry_of-long rest (ltb-true _ _ is) in absurd (cc)
kept_by rest bytes false is same = let short : carry_of rest ≡ Kept rest = carry_of-short rest (ltb-false _ _ is) in cc

-- bytes that are kept are the whole rest
pub kept_rest : (rest bytes : List ℕ) → Kept bytes ≡ carry_of rest → bytes ≡ rest
kept_rest rest bytes same = kept_by rest bytes (nat_lt 65536 (length rest)) refl same

long_by : (rest : List ℕ) (count : ℕ) (over : Bool) → nat_lt 65536 (length rest) ≡ over → Long count ≡ carry_of rest → (65536 < length rest) × (count ≡ length rest)
long_by rest count true is same =
    let long : carry_of rest ≡ Long (length rest) = carry_of-long rest (ltb-true _ _ is) in (ltb-true _ _ is, cc)
long_by rest count false is same = let short : carry_of rest ≡ Kept rest = carry_of-short rest (ltb-false _ _ is) in absurd (cc)

-- where only a length is kept, it is the rest's
pub long_rest : (rest : List ℕ) (count : ℕ) → Long count ≡ carry_of rest → (65536 < length rest) × (count ≡ length rest)
long_rest rest count same = long_by rest count (nat_lt 65536 (length rest)) refl same

-- the carry of a rest stands for as many bytes
length_by : (rest : List ℕ) (over : Bool) → nat_lt 65536 (length rest) ≡ over → length_of (carry_of rest) ≡ length rest
length_by rest true is = ap length_of (carry_of-long rest (ltb-true _ _ is))
length_by rest false is = ap length_of (carry_of-short rest (ltb-false _ _ is))

pub length_of-carry_of : (rest : List ℕ) → length_of (carry_of rest) ≡ length rest
length_of-carry_of rest = length_by rest (nat_lt 65536 (length rest)) refl

-- bytes that come behind kept ones and still fit
pub join_kept : (carry : Carry) (rest bytes kept joined : List ℕ) → carry ≡ Kept kept → carry ≡ carry_of rest → joined ≡ kept ++ bytes
    → length_of carry + length bytes ≤ 65536 → Kept joined ≡ carry_of (rest ++ bytes)
join_kept carry rest bytes kept joined is stands all fits =
    let whole : kept ≡ rest = kept_rest rest kept (sym is ∙ stands) in
    let count : length_of carry ≡ length rest = ap length_of stands ∙ length_of-carry_of rest in
    ap Kept (all ∙ ap (λ (front : List ℕ). front ++ bytes) whole) ∙ sym (carry_of-short (rest ++ bytes) (omega (arith, length-append rest bytes)))

-- bytes that come behind others and are too many
pub join_long : (carry : Carry) (rest bytes : List ℕ) (count : ℕ) → carry ≡ carry_of rest → count ≡ length_of carry + length bytes → 65536 < count
    → Long count ≡ carry_of (rest ++ bytes)
join_long carry rest bytes count stands all over =
    let before : length_of carry ≡ length rest = ap length_of stands ∙ length_of-carry_of rest in
    let whole : count ≡ length (rest ++ bytes) = omega (arith, length-append rest bytes) in
    ap Long whole ∙ sym (carry_of-long (rest ++ bytes) (omega arith))

-- the same behind those that are too many already
pub join_longer : (carry : Carry) (rest bytes : List ℕ) (before count : ℕ) → carry ≡ Long before → carry ≡ carry_of rest → count ≡ length_of carry + length bytes
    → Long count ≡ carry_of (rest ++ bytes)
join_longer carry rest bytes before count is stands all =
    let long = long_rest rest before (sym is ∙ stands) in
    let counted : length_of carry ≡ before = ap length_of is in
    join_long carry rest bytes count stands all (omega (arith, long.0, long.1))

-- the line that ends behind a rest of which only the length is kept
pub line_after_long : (carry : Carry) (rest front : List ℕ) (count : ℕ) → carry ≡ Long count → carry ≡ carry_of rest → LongLine ≡ line_of (rest ++ front)
line_after_long carry rest front count is stands =
    let long = long_rest rest count (sym is ∙ stands) in
    sym (line_of-long (rest ++ front) (omega (arith, long.0, length-append rest front)))

-- what holds for these bytes holds behind each rest that makes them
each_rest : (part : List ℕ) (carry : Carry) (front : List ℕ) (made : Result Line NoMemory) → ((rest : List ℕ) → carry ≡ carry_of rest → rest ++ front ≡ part)
    → IfOk made (λ line. line ≡ line_of part) → IfOk made (λ line. (rest : List ℕ) → carry ≡ carry_of rest → line ≡ line_of (rest ++ front))
each_rest part carry front (Ok line) same is = λ rest stands. is ∙ ap line_of (sym (same rest stands))
each_rest part carry front (Err none) same is = is

-- the line behind kept bytes
pub line_after_kept : (carry : Carry) (kept front part : List ℕ) (made : Result Line NoMemory) → carry ≡ Kept kept → part ≡ kept ++ front
    → IfOk made (λ line. line ≡ line_of part) → IfOk made (λ line. (rest : List ℕ) → carry ≡ carry_of rest → line ≡ line_of (rest ++ front))
line_after_kept carry kept front part made is all =
    each_rest part carry front made (λ rest stands. ap (λ (before : List ℕ). before ++ front) (sym (kept_rest rest kept (sym is ∙ stands))) ∙ sym all)

none_before : (kept front : List ℕ) → true ≡ (length kept == 0) → front ≡ kept ++ front
none_before [] front none = refl
none_before (byte ∷ kept) front none = absurd (omega (arith, eqb-true _ _ (sym none)))

-- the line behind none
pub line_after_none : (carry : Carry) (kept front : List ℕ) (made : Result Line NoMemory) → carry ≡ Kept kept → true ≡ (length kept == 0)
    → IfOk made (λ line. line ≡ line_of front) → IfOk made (λ line. (rest : List ℕ) → carry ≡ carry_of rest → line ≡ line_of (rest ++ front))
line_after_none carry kept front made is none = line_after_kept carry kept front front made is (none_before kept front none)
