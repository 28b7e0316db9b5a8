-- How a text with tags is read, from one `>` to the next.
use Rattle.std.proofs.Common.{◌≡◌, ◌≢◌, ℕ, zero, suc, ◌+◌, ◌-◌, ◌<◌, ◌≤◌, inl, inr, false, ◌==◌, nat_lt, max, List, [], ◌∷◌, ◌++◌, length, get_or, drop, replicate, append_assoc, append-nil, Option, Some, None, Result, Ok, Err, refl, sym, subst, ap, ap₂, ◌∙◌, arith}
use Rattle.std.specs.Prelude.{fold, ◌&&◌, not}
use Rattle.std.proofs.Common.{ne_eqb}
use Rattle.std.proofs.lemmas.Bool.{cases_Bool, and_parts, ltb-false, eqb-true}
use Rattle.ini_interp.specs.declared.value_error.InterpError.{InterpError}
use Rattle.ini_interp.specs.Values.{most_depth}
use Rattle.tag_subst.specs.declared.substitutes.Replacement.{Replacement}
use Rattle.tag_subst.specs.declared.tag_error.TagError.{TagError}
use Rattle.tag_subst.specs.Marked.{Marked, added, cut}
use Rattle.tag_subst.specs.Names.{name_start, is_open, open_name, is_reserved}
use Rattle.tag_subst.specs.Tags.{Valuation, tag_depth, replacement, asked, closed, onward, replaced_by, read_byte, read_bytes, read}

-- ---- what is kept

marked : (a b : Marked) → a.text ≡ b.text → a.depths ≡ b.depths → a ≡ b
marked a b text depths = ap₂ (λ (t d : List ℕ). let m : Marked = record { text = t; depths = d } in m) text depths

added-nothing : (depth : ℕ) (kept : Marked) → added [] depth kept ≡ kept
added-nothing depth kept = marked (added [] depth kept) kept (append-nil kept.text) (append-nil kept.depths)

added-more : (b depth : ℕ) (text : List ℕ) (kept : Marked) → added text depth (added (b ∷ []) depth kept) ≡ added (b ∷ text) depth kept
added-more b depth text kept =
    marked (added text depth (added (b ∷ []) depth kept)) (added (b ∷ text) depth kept) (append_assoc kept.text (b ∷ []) text)
    (append_assoc kept.depths (depth ∷ []) (replicate (length text) depth))

-- ---- a replacement

-- what is known of the one that a `>` asks for
pub record IsTag (depth : ℕ) (kept : Marked) (r : Replacement) : Type 0 where
  pub begins : get_or kept.text r.place 0 ≡ 60
  pub deeper : depth < r.depth
  pub within : r.depth ≤ 10

le_fold : (xs : List ℕ) (m : ℕ) → m ≤ fold max m xs
le_fold [] m = omega arith
le_fold (x ∷ xs) m = omega (arith, le_fold xs (max m x))

replacement-tag : (depth place d : ℕ) (kept : Marked) (found : Result (Option (List ℕ)) InterpError) (r : Replacement) → get_or kept.text place 0 ≡ 60 →
    depth < d → d ≤ 10 → replacement place d found ≡ Ok (Some r) → IsTag depth kept r
replacement-tag depth place d kept (Err fault) r begins deeper within is = absurd (cc)
replacement-tag depth place d kept (Ok None) r begins deeper within is = absurd (cc)
replacement-tag depth place d kept (Ok (Some text)) r begins deeper within is =
    let made : Replacement = record { place = place; depth = d; text = text } in
    let same : made ≡ r = cc in
    let goal : Replacement → Type 0 = λ (one : Replacement). IsTag depth kept one in
    subst goal same record { begins = begins; deeper = deeper; within = within }

asked-tag : (value : Valuation) (tag : List ℕ) (depth place d : ℕ) (kept : Marked) (r : Replacement) → get_or kept.text place 0 ≡ 60 → depth < d →
    asked value tag place d ≡ Ok (Some r) → IsTag depth kept r
asked-tag value tag depth place d kept r begins deeper is = elim (cases_Bool (nat_lt most_depth d)) [
  | inl y ↦ absurd (let no = rw y at is in cc)
  | inr n ↦ replacement-tag depth place d kept (value tag) r begins deeper (ltb-false most_depth d n) (rw n at is)
]

pub closed-tag : (value : Valuation) (depth : ℕ) (kept : Marked) (r : Replacement) → closed value depth kept ≡ Ok (Some r) → IsTag depth kept r
closed-tag value depth kept r is = elim (cases_Bool (is_open kept.text && not (is_reserved (open_name kept.text)))) [
  | inr n ↦ absurd (let no = rw n at is in cc)
  | inl y ↦
      let asks = and_parts (is_open kept.text) (not (is_reserved (open_name kept.text))) y in
      let start = name_start kept.text in
      let parts = and_parts (nat_lt 0 start) _ asks.0 in
      let begins = and_parts (get_or kept.text (start - 1) 0 == 60) _ parts.1 in
      asked-tag value (open_name kept.text) depth (start - 1) (tag_depth depth kept) kept r (eqb-true (get_or kept.text (start - 1) 0) 60 begins.0)
      (omega (arith, le_fold (drop (start - 1) kept.depths) depth)) (rw y at is)
]

-- ---- byte by byte

onward_both : (f g h : Marked → Result Marked TagError) (r : Result Marked TagError) → ((kept : Marked) → f kept ≡ onward g (h kept)) → onward f r ≡ onward g (onward h r)
onward_both f g h (Err fault) each = refl
onward_both f g h (Ok kept) each = each kept

onward_alike : (f g : Marked → Result Marked TagError) (r : Result Marked TagError) → ((kept : Marked) → f kept ≡ g kept) → onward f r ≡ onward g r
onward_alike f g (Err fault) each = refl
onward_alike f g (Ok kept) each = each kept

module _ (value : Valuation) (depth : ℕ) where
  read_bytes-append : (deeper : Replacement → Marked → Result Marked TagError) (xs ys : List ℕ) (kept : Marked) →
      read_bytes value deeper depth (xs ++ ys) kept ≡ onward (read_bytes value deeper depth ys) (read_bytes value deeper depth xs kept)
  read_bytes-append deeper [] ys kept = refl
  read_bytes-append deeper (x ∷ xs) ys kept =
      onward_both (read_bytes value deeper depth (xs ++ ys)) (read_bytes value deeper depth ys) (read_bytes value deeper depth xs)
      (read_byte value deeper depth x kept) (read_bytes-append deeper xs ys)

  -- no `>` asks for a replacement
  read_bytes-plain : (deeper : Replacement → Marked → Result Marked TagError) (xs : List ℕ) (kept : Marked) →
      ((i : ℕ) → i < length xs → get_or xs i 0 ≢ 62) → read_bytes value deeper depth xs kept ≡ Ok (added xs depth kept)
  read_bytes-plain deeper [] kept none = ap (λ (m : Marked). Ok m) (sym (added-nothing depth kept))
  read_bytes-plain deeper (x ∷ xs) kept none =
      let other : (x == 62) ≡ false = ne_eqb x 62 (none 0 (omega arith)) in
      rw other
      (read_bytes-plain deeper xs (added (x ∷ []) depth kept) (λ i within. none (suc i) (omega (arith, within)))
      ∙ ap (λ (m : Marked). Ok m) (added-more x depth xs kept))

  replaced_by-alike : (f g : Replacement → Marked → Result Marked TagError) (kept same : Marked) (found : Result (Option Replacement) TagError) →
      ((r : Replacement) → found ≡ Ok (Some r) → f r (cut r.place kept) ≡ g r (cut r.place kept)) → replaced_by f kept same found ≡ replaced_by g kept same found
  replaced_by-alike f g kept same (Err fault) each = refl
  replaced_by-alike f g kept same (Ok None) each = refl
  replaced_by-alike f g kept same (Ok (Some r)) each = each r refl

  read_bytes-alike : (f g : Replacement → Marked → Result Marked TagError) (xs : List ℕ) (kept : Marked) →
      ((r : Replacement) (m before : Marked) → IsTag depth m r → f r before ≡ g r before) → read_bytes value f depth xs kept ≡ read_bytes value g depth xs kept
  read_bytes-alike f g [] kept each = refl
  read_bytes-alike f g (x ∷ xs) kept each =
      let one : read_byte value f depth x kept ≡ read_byte value g depth x kept =
      elim (cases_Bool (x == 62)) [
        | inr n ↦ rw n refl
        | inl y ↦ rw y (replaced_by-alike f g kept (added (x ∷ []) depth kept) (closed value depth kept)
            (λ r is. each r kept (cut r.place kept) (closed-tag value depth kept r is)))
      ] in
      ap (onward (read_bytes value f depth xs)) one
      ∙ onward_alike (read_bytes value f depth xs) (read_bytes value g depth xs) (read_byte value g depth x kept) (λ m. read_bytes-alike f g xs m each)

-- ---- a whole text

-- what reads a value where so many more replacements may be asked for
abbrev pub deeper_in : Valuation → ℕ → Replacement → Marked → Result Marked TagError
deeper_in value zero r before = Ok before
deeper_in value (suc left) r before = read value left r.depth r.text before

pub read-bytes : (value : Valuation) (left depth : ℕ) (text : List ℕ) (kept : Marked) → read value left depth text kept ≡ read_bytes value (deeper_in value left) depth text kept
unfolding read
read-bytes value zero depth text kept = refl
read-bytes value (suc left) depth text kept = refl

-- it does not matter how many more replacements are asked for than there may be
pub read-left : (value : Valuation) (left other depth : ℕ) (text : List ℕ) (kept : Marked) → 10 ≤ left + depth → 10 ≤ other + depth →
    read value left depth text kept ≡ read value other depth text kept
read-left value zero other depth text kept enough also =
    read-bytes value zero depth text kept
    ∙ read_bytes-alike value depth (deeper_in value zero) (deeper_in value other) text kept (λ r m before tag. absurd (omega (arith, enough, tag.deeper, tag.within)))
    ∙ sym (read-bytes value other depth text kept)
read-left value (suc left) zero depth text kept enough also =
    read-bytes value (suc left) depth text kept
    ∙ read_bytes-alike value depth (deeper_in value (suc left)) (deeper_in value zero) text kept (λ r m before tag. absurd (omega (arith, also, tag.deeper, tag.within)))
    ∙ sym (read-bytes value zero depth text kept)
read-left value (suc left) (suc other) depth text kept enough also =
    read-bytes value (suc left) depth text kept
    ∙ read_bytes-alike value depth (deeper_in value (suc left)) (deeper_in value (suc other)) text kept
    (λ r m before tag. read-left value left other r.depth r.text before (omega (arith, enough, tag.deeper)) (omega (arith, also, tag.deeper)))
    ∙ sym (read-bytes value (suc other) depth text kept)

-- ---- from one `>` to the next

module _ (value : Valuation) (left depth : ℕ) where
  pub read-plain : (rest : List ℕ) (kept : Marked) → ((i : ℕ) → i < length rest → get_or rest i 0 ≢ 62) → read value left depth rest kept ≡ Ok (added rest depth kept)
  read-plain rest kept none = read-bytes value left depth rest kept ∙ read_bytes-plain value depth (deeper_in value left) rest kept none

  -- what a `>` does behind a text without one
  read-at_end : (rest plain behind : List ℕ) (kept : Marked) → rest ≡ plain ++ 62 ∷ behind → ((i : ℕ) → i < length plain → get_or plain i 0 ≢ 62) →
      read value left depth rest kept
      ≡ onward (read_bytes value (deeper_in value left) depth behind)
      (replaced_by (deeper_in value left) (added plain depth kept) (added (62 ∷ []) depth (added plain depth kept)) (closed value depth (added plain depth kept)))
  read-at_end rest plain behind kept split none =
      read-bytes value left depth rest kept
      ∙ ap (λ (xs : List ℕ). read_bytes value (deeper_in value left) depth xs kept) split
      ∙ read_bytes-append value depth (deeper_in value left) plain (62 ∷ behind) kept
      ∙ ap (onward (read_bytes value (deeper_in value left) depth (62 ∷ behind))) (read_bytes-plain value depth (deeper_in value left) plain kept none)

  module _ (rest plain behind : List ℕ) (kept next : Marked) (split : rest ≡ plain ++ 62 ∷ behind) (none : (i : ℕ) → i < length plain → get_or plain i 0 ≢ 62)
      (before : next ≡ added plain depth kept) where
    after : Result (Option Replacement) TagError → Result Marked TagError
    after found = onward (read_bytes value (deeper_in value left) depth behind) (replaced_by (deeper_in value left) next (added (62 ∷ []) depth next) found)

    at_end : (found : Result (Option Replacement) TagError) → closed value depth next ≡ found → read value left depth rest kept ≡ after found
    unfolding after
    at_end found is =
        read-at_end rest plain behind kept split none
        ∙ ap (λ (m : Marked). onward (read_bytes value (deeper_in value left) depth behind)
        (replaced_by (deeper_in value left) m (added (62 ∷ []) depth m) (closed value depth m))) (sym before)
        ∙ ap after is

    pub read-kept : closed value depth next ≡ Ok None → read value left depth rest kept ≡ read value left depth behind (added (62 ∷ []) depth next)
    unfolding after
    read-kept is = at_end (Ok None) is ∙ sym (read-bytes value left depth behind (added (62 ∷ []) depth next))

    pub read-fault : (fault : TagError) → closed value depth next ≡ Err fault → read value left depth rest kept ≡ Err fault
    unfolding after
    read-fault fault is = at_end (Err fault) is

    read-value : (r : Replacement) (result : Result Marked TagError) → 10 ≤ left + depth → closed value depth next ≡ Ok (Some r) →
        read value (10 - r.depth) r.depth r.text (cut r.place next) ≡ result → deeper_in value left r (cut r.place next) ≡ result
    read-value r result enough is read_it = by left enough
      where
        tag : IsTag depth next r
        tag = closed-tag value depth next r is

        by : (l : ℕ) → 10 ≤ l + depth → deeper_in value l r (cut r.place next) ≡ result
        by zero e = absurd (omega (arith, e, tag.deeper, tag.within))
        by (suc l) e = read-left value l (10 - r.depth) r.depth r.text (cut r.place next) (omega (arith, e, tag.deeper)) (omega (arith, tag.within)) ∙ read_it

    pub read-replaced : (r : Replacement) (done : Marked) → 10 ≤ left + depth → closed value depth next ≡ Ok (Some r) →
        read value (10 - r.depth) r.depth r.text (cut r.place next) ≡ Ok done → read value left depth rest kept ≡ read value left depth behind done
    unfolding after
    read-replaced r done enough is read_it =
        at_end (Ok (Some r)) is
        ∙ ap (onward (read_bytes value (deeper_in value left) depth behind)) (read-value r (Ok done) enough is read_it)
        ∙ sym (read-bytes value left depth behind done)

    pub read-value_fault : (r : Replacement) (fault : TagError) → 10 ≤ left + depth → closed value depth next ≡ Ok (Some r) →
        read value (10 - r.depth) r.depth r.text (cut r.place next) ≡ Err fault → read value left depth rest kept ≡ Err fault
    unfolding after
    read-value_fault r fault enough is read_it =
        at_end (Ok (Some r)) is
        ∙ ap (onward (read_bytes value (deeper_in value left) depth behind)) (read-value r (Err fault) enough is read_it)

pub read-same : (value : Valuation) (left depth : ℕ) (text other : List ℕ) (kept same : Marked) → text ≡ other → kept ≡ same →
    read value left depth text kept ≡ read value left depth other same
read-same value left depth text other kept same texts kepts = ap₂ (λ (t : List ℕ) (k : Marked). read value left depth t k) texts kepts
