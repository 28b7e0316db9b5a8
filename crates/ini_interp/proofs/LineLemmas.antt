-- Where a line is cut.
use Rattle.std.proofs.Common.{◌≡◌, ◌≢◌, ℕ, zero, suc, ◌-◌, ◌<◌, ◌≤◌, ◌==◌, ◌&&◌, ◌||◌, eqb-true, Bool, true, false, cond, List, [], ◌∷◌, length, get_or, take, drop, position, Some, None, option_map, refl, sym, ap, ◌∙◌, arith}
use Rattle.std.specs.List.{position_or_len}
use Rattle.std.proofs.lemmas.Bool.{lt-ltb, le-ltb}
use Rattle.std.proofs.lemmas.Bool.Decides.{nat_tests}
use Rattle.std.proofs.lemmas.List.Sums.{prefix_len_is, suffix_len_is, position_or_len_is}
use Rattle.std.specs.List.{before_first}
use Rattle.ini_interp.specs.Lines.{is_blank, trimmed_start, trimmed_end, without_comment, opened_by, Broken, Sets, named, item_of, divided_at}

-- the first byte that is no blank
pub trimmed_start_at : (text : List ℕ) (place : ℕ) → place ≤ length text → ((k : ℕ) → k < place → is_blank (get_or text k 0) ≡ true) →
    (place < length text → is_blank (get_or text place 0) ≡ false) → drop place text ≡ trimmed_start text
unfolding trimmed_start
trimmed_start_at text place within blanks stop = ap (λ n. drop n text) (sym (prefix_len_is is_blank text place 0 within blanks stop))

-- the last byte that is no blank
pub trimmed_end_at : (text : List ℕ) (end : ℕ) → end ≤ length text → ((k : ℕ) → end ≤ k → k < length text → is_blank (get_or text k 0) ≡ true) →
    (0 < end → is_blank (get_or text (end - 1) 0) ≡ false) → take end text ≡ trimmed_end text
unfolding trimmed_end
trimmed_end_at text end within blanks stop =
    let count = suffix_len_is is_blank text end 0 within blanks stop in
    ap (λ n. take n text) (omega (arith, count))

-- whether a comment begins behind the byte at this place
abbrev pub begins_comment : List ℕ → ℕ → Bool
begins_comment line place = is_blank (get_or line place 0) && get_or line (suc place) 0 == 59

-- no comment begins
pub no_comment : (line : List ℕ) → ((k : ℕ) → suc k < length line → begins_comment line k ≡ false) → line ≡ without_comment line
no_comment [] none = refl
no_comment (one ∷ []) none = refl
no_comment (one ∷ next ∷ rest) none =
    ap (λ l. one ∷ l) (no_comment (next ∷ rest) (λ k within. none (suc k) (omega arith)))
    ∙ sym (ap (λ b. cond b (one ∷ []) (one ∷ without_comment (next ∷ rest))) (none zero (omega arith)))

-- the first comment begins behind the byte at this place
pub first_comment : (line : List ℕ) (place : ℕ) → suc place < length line → begins_comment line place ≡ true →
    ((k : ℕ) → k < place → begins_comment line k ≡ false) → take (suc place) line ≡ without_comment line
first_comment [] place within here none = absurd (omega arith)
first_comment (one ∷ []) place within here none = absurd (omega arith)
first_comment (one ∷ next ∷ rest) zero within here none =
    sym (ap (λ b. cond b (one ∷ []) (one ∷ without_comment (next ∷ rest))) here)
first_comment (one ∷ next ∷ rest) (suc place) within here none =
    ap (λ l. one ∷ l) (first_comment (next ∷ rest) place (omega arith) here (λ k below. none (suc k) (omega arith)))
    ∙ sym (ap (λ b. cond b (one ∷ []) (one ∷ without_comment (next ∷ rest))) (none zero (omega arith)))

-- a blank is ASCII
pub blank_is_ascii : (byte : ℕ) → is_blank byte ≡ true → byte < 128
blank_is_ascii byte blank = grind (arith, nat_tests)

-- a text that does not begin with `[` opens no section
pub opens_none : (text : List ℕ) → ((rest : List ℕ) → text ≢ 91 ∷ rest) → None ≡ opened_by text
unfolding opened_by
opens_none [] other = refl
opens_none (first ∷ rest) other = by (first == 91) refl
  where
    by : (b : Bool) → (first == 91) ≡ b → None ≡ cond b (option_map (λ place. take place rest) (position (λ byte. byte == 93) rest)) None
    by true here = absurd (other rest (ap (λ n. n ∷ rest) (eqb-true first 91 here)))
    by false here = refl

-- nor does one without `]`
pub opens_no_end : (text rest : List ℕ) → text ≡ 91 ∷ rest → position_or_len (λ byte. byte == 93) rest ≡ length rest → None ≡ opened_by text
unfolding opened_by
opens_no_end text rest begins none = rw begins (ap (λ b. option_map (λ place. take place rest) (cond b (Some (position_or_len (λ byte. byte == 93) rest)) None)) (sym (le-ltb _ _ (omega (arith, none)))))

-- the name of the section stands before the first `]`
pub opens_name : (text rest name : List ℕ) → text ≡ 91 ∷ rest → position_or_len (λ byte. byte == 93) rest < length rest →
    name ≡ before_first (λ byte. byte == 93) rest → Some name ≡ opened_by text
unfolding opened_by
opens_name text rest name begins within is = rw (begins, is) (ap (λ b. option_map (λ place. take place rest) (cond b (Some (position_or_len (λ byte. byte == 93) rest)) None)) (sym (lt-ltb _ _ within)))

-- whether a byte divides name and value
abbrev pub is_divider : ℕ → Bool
is_divider byte = byte == 61 || byte == 58

-- the first divider
pub divider_at : (text : List ℕ) (place : ℕ) → place < length text → ((k : ℕ) → k < place → is_divider (get_or text k 0) ≡ false) →
    is_divider (get_or text place 0) ≡ true → divided_at text (Some place) ≡ item_of text
unfolding item_of
divider_at text place within none here =
    let at = position_or_len_is is_divider text place 0 (omega arith) none (λ _. here) in
    let found : position is_divider text ≡ Some place = rw at (ap (λ b. cond b (Some place) None) (lt-ltb _ _ within)) in
    ap (divided_at text) (sym found)

-- no divider
pub no_divider : (text : List ℕ) → ((k : ℕ) → k < length text → is_divider (get_or text k 0) ≡ false) → Broken ≡ item_of text
unfolding item_of
no_divider text none =
    let at = position_or_len_is is_divider text (length text) 0 (omega arith) none (λ within. absurd (omega arith)) in
    let missed : position is_divider text ≡ None = rw at (ap (λ b. cond b (Some (length text)) None) (le-ltb (length text) (length text) (omega arith))) in
    ap (divided_at text) (sym missed)

-- an empty name
pub names_none : (name value : List ℕ) → length name ≡ 0 → Broken ≡ named name value
names_none [] value empty = refl
names_none (first ∷ rest) value empty = absurd (omega arith)

pub names_some : (name value : List ℕ) → ¬ (length name ≡ 0) → Sets name value ≡ named name value
names_some [] value some = absurd (some refl)
names_some (first ∷ rest) value some = refl
