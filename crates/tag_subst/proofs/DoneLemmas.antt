-- When nothing is left to be replaced in a text, and which faults there are.
use Rattle.std.proofs.Common.{◌≡◌, ℕ, zero, suc, ◌-◌, ◌⊎◌, inl, inr, ◌==◌, nat_lt, max, List, [], ◌∷◌, ◌++◌, length, take, drop, replicate, append_assoc, append-nil, Option, Some, None, Result, Ok, Err, refl, sym, subst, ap, ap₂, ◌∙◌, take-append-drop}
use Rattle.std.specs.Prelude.{fold, ◌&&◌, not}
use Rattle.std.proofs.lemmas.Bool.{cases_Bool, eqb-true, both_ways}
use Rattle.ini_interp.specs.declared.value_error.InterpError.{InterpError}
use Rattle.ini_interp.specs.declared.value_error.InterpError.TheVariants as interp
use Rattle.ini_interp.specs.Sections.{Sections}
use Rattle.ini_interp.specs.Values.{Scope, most_depth}
use Rattle.tag_subst.specs.declared.substitutes.Replacement.{Replacement}
use Rattle.tag_subst.specs.declared.tag_error.TagError.{TagError}
use Rattle.tag_subst.specs.declared.tag_error.TagError.TheVariants.{Interp, NoMemory}
use Rattle.tag_subst.specs.Errors.{tag_fault}
use Rattle.tag_subst.specs.Marked.{Marked, no_text, added, cut}
use Rattle.tag_subst.specs.Names.{name_start, is_open, open_name, is_reserved}
use Rattle.tag_subst.specs.TagLaws.{IsWithoutValue, IsDone}
use Rattle.tag_subst.specs.Tags.{Valuation, tag_depth, replacement, asked, closed, onward, replaced_by, read_byte, read_bytes, read, text_of, substituted}
use Rattle.tag_subst.specs.Values.{tag_value}
use Rattle.tag_subst.proofs.ReadLemmas.{deeper_in, read-bytes}

-- ---- the last byte of a text

pub nothing : (bs rest : List ℕ) (c : ℕ) → [] ≡ bs ++ c ∷ rest → ⊥
nothing [] rest c is = cc
nothing (b ∷ bs) rest c is = cc

split_last : (xs before rest : List ℕ) (b c : ℕ) → xs ++ b ∷ [] ≡ before ++ c ∷ rest → ((xs ≡ before) × (b ≡ c)) ⊎ ((more : List ℕ) × (xs ≡ before ++ c ∷ more))
split_last [] [] rest b c is = inl (refl, (cc))
split_last [] (y ∷ before) rest b c is = absurd (nothing before rest c (cc))
split_last (x ∷ xs) [] rest b c is = inr (xs, (cc))
split_last (x ∷ xs) (y ∷ before) rest b c is =
    let same : x ≡ y = cc in
    elim (split_last xs before rest b c (cc)) [
      | inl end ↦ inl (ap₂ (λ (z : ℕ) (t : List ℕ). z ∷ t) same end.0, end.1)
      | inr more ↦ inr (more.0, ap₂ (λ (z : ℕ) (t : List ℕ). z ∷ t) same more.1)
    ]

module _ (value : Valuation) where
  pub done_taken : (n : ℕ) (text : List ℕ) → IsDone value text → IsDone value (take n text)
  done_taken n text done before behind is =
      done before (behind ++ drop n text) (sym (take-append-drop n text) ∙ ap (λ (t : List ℕ). t ++ drop n text) is ∙ append_assoc before (62 ∷ behind) (drop n text))

  done_more : (b : ℕ) (text : List ℕ) → (b ≡ 62 → IsWithoutValue value text) → IsDone value text → IsDone value (text ++ b ∷ [])
  done_more b text last done before behind is = elim (split_last text before behind b 62 is) [
    | inl end ↦ subst (IsWithoutValue value) end.0 (last end.1)
    | inr more ↦ done before more.0 more.1
  ]

  -- ---- one tag

  unfounded : (place depth : ℕ) (found : Result (Option (List ℕ)) InterpError) → replacement place depth found ≡ Ok None → found ≡ Ok None
  unfounded place depth (Err fault) is = absurd (cc)
  unfounded place depth (Ok None) is = refl
  unfounded place depth (Ok (Some text)) is = absurd (cc)

  unasked : (tag : List ℕ) (place depth : ℕ) → asked value tag place depth ≡ Ok None → value tag ≡ Ok None
  unasked tag place depth is = elim (cases_Bool (nat_lt most_depth depth)) [
    | inl y ↦ absurd (let no = rw y at is in cc)
    | inr n ↦ unfounded place depth (value tag) (rw n at is)
  ]

  closed-none : (depth : ℕ) (kept : Marked) → closed value depth kept ≡ Ok None → IsWithoutValue value kept.text
  closed-none depth kept is static = unasked (open_name kept.text) (name_start kept.text - 1) (tag_depth depth kept) (rw static at is)

  -- ---- what is kept is done

  pub onward_ok : (f : Marked → Result Marked TagError) (r : Result Marked TagError) (done : Marked) → onward f r ≡ Ok done → (kept : Marked) × (r ≡ Ok kept) × (f kept ≡ Ok done)
  onward_ok f (Err fault) done is = absurd (cc)
  onward_ok f (Ok kept) done is = (kept, refl, is)

  abbrev pub IsKeeping : (Replacement → Marked → Result Marked TagError) → Type 0
  IsKeeping deeper = (r : Replacement) (before after : Marked) → IsDone value before.text → deeper r before ≡ Ok after → IsDone value after.text

  done_replaced : (deeper : Replacement → Marked → Result Marked TagError) (kept same after : Marked) (found : Result (Option Replacement) TagError) → IsKeeping deeper →
      IsDone value kept.text → (found ≡ Ok None → IsDone value same.text) → replaced_by deeper kept same found ≡ Ok after → IsDone value after.text
  done_replaced deeper kept same after (Err fault) keeps done none is = absurd (cc)
  done_replaced deeper kept same after (Ok None) keeps done none is = let here : same ≡ after = cc in subst (λ (m : Marked). IsDone value m.text) here (none refl)
  done_replaced deeper kept same after (Ok (Some r)) keeps done none is = keeps r (cut r.place kept) after (done_taken r.place kept.text done) is

  pub done_byte : (deeper : Replacement → Marked → Result Marked TagError) (depth b : ℕ) (kept after : Marked) → IsKeeping deeper → IsDone value kept.text →
      read_byte value deeper depth b kept ≡ Ok after → IsDone value after.text
  done_byte deeper depth b kept after keeps done is = elim (cases_Bool (b == 62)) [
    | inl y ↦
        done_replaced deeper kept (added (b ∷ []) depth kept) after (closed value depth kept) keeps done
        (λ none. done_more b kept.text (λ end. closed-none depth kept none) done) (rw y at is)
    | inr n ↦
        let here : added (b ∷ []) depth kept ≡ after = let other = rw n at is in cc in
        subst (λ (m : Marked). IsDone value m.text) here
        (done_more b kept.text (λ end. absurd (both_ways (b == 62) n (ap (λ (c : ℕ). c == 62) end))) done)
  ]

  done_bytes : (deeper : Replacement → Marked → Result Marked TagError) (depth : ℕ) (text : List ℕ) (kept after : Marked) → IsKeeping deeper → IsDone value kept.text →
      read_bytes value deeper depth text kept ≡ Ok after → IsDone value after.text
  done_bytes deeper depth [] kept after keeps done is = let here : kept ≡ after = cc in subst (λ (m : Marked). IsDone value m.text) here done
  done_bytes deeper depth (b ∷ text) kept after keeps done is =
      let next = onward_ok (read_bytes value deeper depth text) (read_byte value deeper depth b kept) after is in
      done_bytes deeper depth text next.0 after keeps (done_byte deeper depth b kept next.0 keeps done next.1) next.2

  pub done_read : (left depth : ℕ) (text : List ℕ) (kept after : Marked) → IsDone value kept.text → read value left depth text kept ≡ Ok after → IsDone value after.text
  done_read zero depth text kept after done is =
      done_bytes (deeper_in value zero) depth text kept after
      (λ r before later so_far same. let here : before ≡ later = cc in subst (λ (m : Marked). IsDone value m.text) here so_far) done
      (sym (read-bytes value zero depth text kept) ∙ is)
  done_read (suc left) depth text kept after done is =
      done_bytes (deeper_in value (suc left)) depth text kept after (λ r before later so_far same. done_read left r.depth r.text before later so_far same) done
      (sym (read-bytes value (suc left) depth text kept) ∙ is)

  -- ---- a text that is done stays

  zeros : (n k : ℕ) → fold max 0 (drop n (replicate k 0)) ≡ 0
  zeros zero zero = refl
  zeros (suc n) zero = refl
  zeros zero (suc k) = zeros zero k
  zeros (suc n) (suc k) = zeros n k

  closed-stays : (front : List ℕ) → IsWithoutValue value front → closed value 0 (added front 0 no_text) ≡ Ok None
  closed-stays front without = elim (cases_Bool (is_open front && not (is_reserved (open_name front)))) [
    | inr n ↦ rw n refl
    | inl y ↦
        let flat : fold max 0 (drop (name_start front - 1) (replicate (length front) 0)) ≡ 0 = zeros (name_start front - 1) (length front) in
        rw (y, flat) (ap (replacement (name_start front - 1) 1) (without y))
  ]

  added_behind : (front : List ℕ) (b : ℕ) → added (b ∷ []) 0 (added front 0 no_text) ≡ added (front ++ b ∷ []) 0 no_text
  added_behind front b = ap (λ (d : List ℕ). let m : Marked = record { text = front ++ b ∷ []; depths = d } in m) (zeros_behind front)
    where
      zeros_behind : (front : List ℕ) → ◌++◌ {A = ℕ} (replicate (length front) 0) (0 ∷ []) ≡ replicate (length (front ++ b ∷ [])) 0
      zeros_behind [] = refl
      zeros_behind (x ∷ front) = ap (λ (d : List ℕ). 0 ∷ d) (zeros_behind front)

  stays_from : (deeper : Replacement → Marked → Result Marked TagError) (text front : List ℕ) → IsDone value (front ++ text) →
      read_bytes value deeper 0 text (added front 0 no_text) ≡ Ok (added (front ++ text) 0 no_text)
  stays_from deeper [] front done = ap (λ (t : List ℕ). Ok (added t 0 no_text)) (sym (append-nil front))
  stays_from deeper (b ∷ text) front done =
      let all : (front ++ b ∷ []) ++ text ≡ front ++ b ∷ text = append_assoc front (b ∷ []) text in
      let one : read_byte value deeper 0 b (added front 0 no_text) ≡ Ok (added (front ++ b ∷ []) 0 no_text) =
      elim (cases_Bool (b == 62)) [
        | inr n ↦ rw n (ap (λ (m : Marked). Ok m) (added_behind front b))
        | inl y ↦
            let end : b ≡ 62 = eqb-true b 62 y in
            let without : IsWithoutValue value front = done front text (ap (λ (c : ℕ). front ++ c ∷ text) end) in
            rw (y, closed-stays front without) (ap (λ (m : Marked). Ok m) (added_behind front b))
      ] in
      ap (onward (read_bytes value deeper 0 text)) one
      ∙ stays_from deeper text (front ++ b ∷ []) (subst (IsDone value) (sym all) done)
      ∙ ap (λ (t : List ℕ). Ok (added t 0 no_text)) all

-- ---- the laws

pub text_ok : (r : Result Marked TagError) (done : List ℕ) → text_of r ≡ Ok done → (kept : Marked) × (r ≡ Ok kept) × (kept.text ≡ done)
text_ok (Err fault) done is = absurd (cc)
text_ok (Ok kept) done is = (kept, refl, (cc))

pub done_stays : (sections : Sections) (scope : Scope) (text : List ℕ) → IsDone (tag_value sections scope) text → substituted sections scope text ≡ Ok text
done_stays sections scope text done =
    let value = tag_value sections scope in
    ap text_of (read-bytes value most_depth 0 text no_text ∙ stays_from value (deeper_in value most_depth) text [] done)

-- no tag stands in no text
pub nothing_is_done : (value : Valuation) → IsDone value []
nothing_is_done value before behind none = absurd (nothing before behind 62 none)

pub ends_done : (sections : Sections) (scope : Scope) (text done : List ℕ) → substituted sections scope text ≡ Ok done → IsDone (tag_value sections scope) done
ends_done sections scope text done is =
    let value = tag_value sections scope in
    let kept = text_ok (read value most_depth 0 text no_text) done is in
    subst (IsDone value) kept.2 (done_read value most_depth 0 text no_text kept.0 (nothing_is_done value) kept.1)

-- ---- no fault is want of memory by another name

abbrev misled : TagError
misled = Interp interp.NoMemory

told_fault : (fault : InterpError) → tag_fault fault ≡ misled → ⊥
told_fault (interp.Missing name) is = cc
told_fault (interp.TooDeep name) is = cc
told_fault (interp.BadPercent at) is = cc
told_fault interp.NoMemory is = cc

told_replacement : (place depth : ℕ) (found : Result (Option (List ℕ)) InterpError) → replacement place depth found ≡ Err misled → ⊥
told_replacement place depth (Err fault) is = told_fault fault (cc)
told_replacement place depth (Ok None) is = cc
told_replacement place depth (Ok (Some text)) is = cc

told_closed : (value : Valuation) (depth : ℕ) (kept : Marked) → closed value depth kept ≡ Err misled → ⊥
told_closed value depth kept is = elim (cases_Bool (is_open kept.text && not (is_reserved (open_name kept.text)))) [
  | inr n ↦ let no = rw n at is in cc
  | inl y ↦ elim (cases_Bool (nat_lt most_depth (tag_depth depth kept))) [
    | inl deep ↦ let no = rw (y, deep) at is in cc
    | inr fits ↦ told_replacement (name_start kept.text - 1) (tag_depth depth kept) (value (open_name kept.text)) (rw (y, fits) at is)
  ]
]

told_replaced : (deeper : Replacement → Marked → Result Marked TagError) (kept same : Marked) (found : Result (Option Replacement) TagError) →
    ((r : Replacement) (before : Marked) → deeper r before ≡ Err misled → ⊥) → (found ≡ Err misled → ⊥) → replaced_by deeper kept same found ≡ Err misled → ⊥
told_replaced deeper kept same (Err fault) each told is = told (cc)
told_replaced deeper kept same (Ok None) each told is = cc
told_replaced deeper kept same (Ok (Some r)) each told is = each r (cut r.place kept) is

told_bytes : (value : Valuation) (deeper : Replacement → Marked → Result Marked TagError) (depth : ℕ) (text : List ℕ) (kept : Marked) →
    ((r : Replacement) (before : Marked) → deeper r before ≡ Err misled → ⊥) → read_bytes value deeper depth text kept ≡ Err misled → ⊥
told_bytes value deeper depth [] kept each is = cc
told_bytes value deeper depth (b ∷ text) kept each is =
    by (read_byte value deeper depth b kept)
    (λ told. elim (cases_Bool (b == 62)) [
      | inl y ↦ told_replaced deeper kept (added (b ∷ []) depth kept) (closed value depth kept) each (told_closed value depth kept) (rw y at told)
      | inr n ↦ let no = rw n at told in cc
    ])
    (λ m. told_bytes value deeper depth text m each) is
  where
    by : (r : Result Marked TagError) → (r ≡ Err misled → ⊥) → ((m : Marked) → read_bytes value deeper depth text m ≡ Err misled → ⊥) →
        onward (read_bytes value deeper depth text) r ≡ Err misled → ⊥
    by (Err fault) one more is = one is
    by (Ok m) one more is = more m is

told_read : (value : Valuation) (left depth : ℕ) (text : List ℕ) (kept : Marked) → read value left depth text kept ≡ Err misled → ⊥
told_read value zero depth text kept is =
    told_bytes value (deeper_in value zero) depth text kept (λ r before told. let no = told in cc) (sym (read-bytes value zero depth text kept) ∙ is)
told_read value (suc left) depth text kept is =
    told_bytes value (deeper_in value (suc left)) depth text kept (λ r before told. told_read value left r.depth r.text before told)
    (sym (read-bytes value (suc left) depth text kept) ∙ is)

-- no reading of a whole text ends so
pub told_at : (sections : Sections) (scope : Scope) (text : List ℕ) (kept : Marked) (fault : TagError) → kept ≡ no_text →
    ((fault ≡ NoMemory → ⊥) → read (tag_value sections scope) most_depth 0 text kept ≡ Err fault) → fault ≡ misled → ⊥
told_at sections scope text kept fault empty ends is =
    let other : fault ≡ NoMemory → ⊥ = λ (none : fault ≡ NoMemory). different (sym is ∙ none) in
    told_read (tag_value sections scope) most_depth 0 text kept (ends other ∙ ap (λ (f : TagError). Err f) is)
  where
    different : misled ≡ NoMemory → ⊥
    different same = cc
