-- By which steps a text with tags is replaced.
use Rattle.std.proofs.Common.{◌≡◌, ℕ, zero, suc, ◌+◌, ◌-◌, ◌≤◌, ◌⊎◌, inl, inr, ◌==◌, nat_lt, List, [], ◌∷◌, ◌++◌, take, append_assoc, append-nil, Option, Some, None, Result, Ok, Err, IsTrue, refl, sym, subst, ap, ap₂, ◌∙◌, arith}
use Rattle.std.specs.Prelude.{◌&&◌, not}
use Rattle.std.proofs.lemmas.Bool.{cases_Bool, eqb-true}
use Rattle.ini_interp.specs.declared.value_error.InterpError.{InterpError}
use Rattle.ini_interp.specs.Sections.{Sections}
use Rattle.ini_interp.specs.Values.{Scope, most_depth}
use Rattle.tag_subst.specs.declared.substitutes.Replacement.{Replacement}
use Rattle.tag_subst.specs.declared.tag_error.TagError.{TagError}
use Rattle.tag_subst.specs.Marked.{Marked, no_text, added, cut}
use Rattle.tag_subst.specs.Names.{name_start, is_open, open_name, is_reserved}
use Rattle.tag_subst.specs.TagLaws.{IsDone, IsStep, AreSteps, TagLaw}
use Rattle.tag_subst.specs.Tags.{Valuation, tag_depth, replacement, closed, replaced_by, read_byte, read_bytes, read, substituted}
use Rattle.tag_subst.specs.Values.{tag_value}
use Rattle.tag_subst.proofs.DoneLemmas.{done_taken, onward_ok, IsKeeping, done_byte, done_read, text_ok, done_stays, nothing_is_done, ends_done}
use Rattle.tag_subst.proofs.ReadLemmas.{IsTag, closed-tag, deeper_in, read-bytes}

-- what a tag that is replaced has
record IsFound (value : Valuation) (kept : Marked) (r : Replacement) : Type 0 where
  pub is_tag : IsTrue (is_open kept.text && not (is_reserved (open_name kept.text)))
  pub place : r.place ≡ name_start kept.text - 1
  pub value_is : value (open_name kept.text) ≡ Ok (Some r.text)

module _ (value : Valuation) where
  found_is : (kept : Marked) (depth : ℕ) (r : Replacement) (found : Result (Option (List ℕ)) InterpError) → value (open_name kept.text) ≡ found →
      IsTrue (is_open kept.text && not (is_reserved (open_name kept.text))) → replacement (name_start kept.text - 1) depth found ≡ Ok (Some r) → IsFound value kept r
  found_is kept depth r (Err fault) has static is = absurd (cc)
  found_is kept depth r (Ok None) has static is = absurd (cc)
  found_is kept depth r (Ok (Some text)) has static is =
      let made : Replacement = record { place = name_start kept.text - 1; depth = depth; text = text } in
      let same : made ≡ r = cc in
      let goal : Replacement → Type 0 = λ (one : Replacement). IsFound value kept one in
      subst goal same record { is_tag = static; place = refl; value_is = has }

  closed_found : (depth : ℕ) (kept : Marked) (r : Replacement) → closed value depth kept ≡ Ok (Some r) → IsFound value kept r
  closed_found depth kept r is = elim (cases_Bool (is_open kept.text && not (is_reserved (open_name kept.text)))) [
    | inr n ↦ absurd (let no = rw n at is in cc)
    | inl y ↦ elim (cases_Bool (nat_lt most_depth (tag_depth depth kept))) [
      | inl deep ↦ absurd (let no = rw (y, deep) at is in cc)
      | inr fits ↦ found_is kept (tag_depth depth kept) r (value (open_name kept.text)) refl y (rw (y, fits) at is)
    ]
  ]

  -- ---- by steps from a text to another

  abbrev Reaches : List ℕ → List ℕ → Type 0
  Reaches old new = (texts : List (List ℕ)) × AreSteps value old texts new

  reaches-same : (old new : List ℕ) → old ≡ new → Reaches old new
  reaches-same old new is = ([], is)

  reaches-step : (old next new : List ℕ) → IsStep value old next → Reaches next new → Reaches old new
  reaches-step old next new step on = (next ∷ on.0, (step, on.1))

  reaches-through : (old : List ℕ) (texts : List (List ℕ)) (next new : List ℕ) → AreSteps value old texts next → Reaches next new → Reaches old new
  reaches-through old [] next new is on = let from : List ℕ → Type 0 = λ (text : List ℕ). Reaches text new in subst from (sym is) on
  reaches-through old (one ∷ texts) next new steps on = reaches-step old one new steps.0 (reaches-through one texts next new steps.1 on)

  -- ---- as a text is read

  -- what reads a value goes by steps, whatever stands behind it
  abbrev GoesBySteps : (Replacement → Marked → Result Marked TagError) → ℕ → Type 0
  GoesBySteps deeper depth =
      (r : Replacement) (asks before after : Marked) → IsTag depth asks r → IsDone value before.text → deeper r before ≡ Ok after → (behind : List ℕ) →
      Reaches (before.text ++ (r.text ++ behind)) (after.text ++ behind)

  kept_on : (b depth : ℕ) (kept after : Marked) (behind : List ℕ) → added (b ∷ []) depth kept ≡ after → Reaches (kept.text ++ b ∷ behind) (after.text ++ behind)
  kept_on b depth kept after behind is =
      reaches-same (kept.text ++ b ∷ behind) (after.text ++ behind)
      (sym (append_assoc kept.text (b ∷ []) behind) ∙ ap (λ (m : Marked). m.text ++ behind) is)

  replaced_on : (deeper : Replacement → Marked → Result Marked TagError) (depth : ℕ) (kept after : Marked) (behind : List ℕ) (found : Result (Option Replacement) TagError) →
      GoesBySteps deeper depth → IsDone value kept.text → closed value depth kept ≡ found → replaced_by deeper kept (added (62 ∷ []) depth kept) found ≡ Ok after →
      Reaches (kept.text ++ 62 ∷ behind) (after.text ++ behind)
  replaced_on deeper depth kept after behind (Err fault) goes done asks is = absurd (cc)
  replaced_on deeper depth kept after behind (Ok None) goes done asks is = kept_on 62 depth kept after behind (cc)
  replaced_on deeper depth kept after behind (Ok (Some r)) goes done asks is =
      let found : IsFound value kept r = closed_found depth kept r asks in
      let step : IsStep value (kept.text ++ 62 ∷ behind) (take r.place kept.text ++ (r.text ++ behind)) = record {
        before = kept.text;
        behind = behind;
        old_is = refl;
        first = done;
        is_tag = found.is_tag;
        text = r.text;
        value_is = found.value_is;
        new_is =
            sym (append_assoc (take r.place kept.text) r.text behind) ∙ ap (λ (place : ℕ). (take place kept.text ++ r.text) ++ behind) found.place;
      } in
      reaches-step (kept.text ++ 62 ∷ behind) (take r.place kept.text ++ (r.text ++ behind)) (after.text ++ behind) step
      (goes r kept (cut r.place kept) after (closed-tag value depth kept r asks) (done_taken value r.place kept.text done) is behind)

  byte_on : (deeper : Replacement → Marked → Result Marked TagError) (depth b : ℕ) (kept after : Marked) (behind : List ℕ) → GoesBySteps deeper depth →
      IsDone value kept.text → read_byte value deeper depth b kept ≡ Ok after → Reaches (kept.text ++ b ∷ behind) (after.text ++ behind)
  byte_on deeper depth b kept after behind goes done is = elim (cases_Bool (b == 62)) [
    | inl y ↦
        let end : b ≡ 62 = eqb-true b 62 y in
        let from : ℕ → Type 0 = λ (c : ℕ). Reaches (kept.text ++ c ∷ behind) (after.text ++ behind) in
        let taken : replaced_by deeper kept (added (b ∷ []) depth kept) (closed value depth kept) ≡ Ok after = rw y at is in
        let at_end : replaced_by deeper kept (added (62 ∷ []) depth kept) (closed value depth kept) ≡ Ok after =
        ap (λ (c : ℕ). replaced_by deeper kept (added (c ∷ []) depth kept) (closed value depth kept)) (sym end) ∙ taken in
        subst from (sym end) (replaced_on deeper depth kept after behind (closed value depth kept) goes done refl at_end)
    | inr n ↦ kept_on b depth kept after behind (let other = rw n at is in cc)
  ]

  bytes_on : (deeper : Replacement → Marked → Result Marked TagError) (depth : ℕ) (text : List ℕ) (kept after : Marked) (behind : List ℕ) → IsKeeping value deeper →
      GoesBySteps deeper depth → IsDone value kept.text → read_bytes value deeper depth text kept ≡ Ok after → Reaches (kept.text ++ (text ++ behind)) (after.text ++ behind)
  bytes_on deeper depth [] kept after behind keeps goes done is =
      reaches-same (kept.text ++ behind) (after.text ++ behind) (let here : kept ≡ after = cc in ap (λ (m : Marked). m.text ++ behind) here)
  bytes_on deeper depth (b ∷ text) kept after behind keeps goes done is =
      let next = onward_ok value (read_bytes value deeper depth text) (read_byte value deeper depth b kept) after is in
      let one = byte_on deeper depth b kept next.0 (text ++ behind) goes done next.1 in
      reaches-through (kept.text ++ b ∷ (text ++ behind)) one.0 (next.0.text ++ (text ++ behind)) (after.text ++ behind) one.1
      (bytes_on deeper depth text next.0 after behind keeps goes (done_byte value deeper depth b kept next.0 keeps done next.1) next.2)

  keeps_in : (left : ℕ) → IsKeeping value (deeper_in value left)
  keeps_in zero r before after done is = let here : before ≡ after = cc in subst (λ (m : Marked). IsDone value m.text) here done
  keeps_in (suc left) r before after done is = done_read value left r.depth r.text before after done is

  read_on : (left depth : ℕ) (text : List ℕ) (kept after : Marked) (behind : List ℕ) → 10 ≤ left + depth → IsDone value kept.text → read value left depth text kept ≡ Ok after →
      Reaches (kept.text ++ (text ++ behind)) (after.text ++ behind)
  read_on zero depth text kept after behind enough done is =
      bytes_on (deeper_in value zero) depth text kept after behind (keeps_in zero)
      (λ r asks before later tag so_far same more. absurd (omega (arith, tag.deeper, tag.within, enough))) done (sym (read-bytes value zero depth text kept) ∙ is)
  read_on (suc left) depth text kept after behind enough done is =
      bytes_on (deeper_in value (suc left)) depth text kept after behind (keeps_in (suc left))
      (λ r asks before later tag so_far same more. read_on left r.depth r.text before later more (omega (arith, tag.deeper, enough)) so_far same) done
      (sym (read-bytes value (suc left) depth text kept) ∙ is)

substituted_by_steps : (sections : Sections) (scope : Scope) (text done : List ℕ) → substituted sections scope text ≡ Ok done →
    (texts : List (List ℕ)) × AreSteps (tag_value sections scope) text texts done
substituted_by_steps sections scope text done is =
    let value = tag_value sections scope in
    let kept = text_ok (read value most_depth 0 text no_text) done is in
    let on = read_on value most_depth 0 text no_text kept.0 [] (omega arith) (nothing_is_done value) kept.1 in
    let both : List ℕ → List ℕ → Type 0 = λ (old new : List ℕ). (texts : List (List ℕ)) × AreSteps value old texts new in
    subst (λ (old : List ℕ). both old done) (append-nil text) (subst (both (text ++ [])) (append-nil kept.0.text ∙ kept.2) on)

-- ---- one way

-- two places of one byte in a text: the same, or one before the other
places : (byte : ℕ) (one other behind rest : List ℕ) → one ++ byte ∷ behind ≡ other ++ byte ∷ rest →
    ((one ≡ other) × (behind ≡ rest)) ⊎ (((more : List ℕ) × (other ≡ one ++ byte ∷ more)) ⊎ ((more : List ℕ) × (one ≡ other ++ byte ∷ more)))
places byte [] [] behind rest is = inl (refl, (cc))
places byte [] (y ∷ other) behind rest is = inr (inl (other, (cc)))
places byte (x ∷ one) [] behind rest is = inr (inr (one, (cc)))
places byte (x ∷ one) (y ∷ other) behind rest is =
    let first : x ≡ y = cc in
    elim (places byte one other behind rest (cc)) [
      | inl same ↦ inl (ap₂ (λ (z : ℕ) (t : List ℕ). z ∷ t) first same.0, same.1)
      | inr apart ↦ inr (elim apart [
        | inl more ↦ inl (more.0, ap₂ (λ (z : ℕ) (t : List ℕ). z ∷ t) (sym first) more.1)
        | inr more ↦ inr (more.0, ap₂ (λ (z : ℕ) (t : List ℕ). z ∷ t) first more.1)
      ])
    ]

-- no tag with a value ends in a text that is done
none_before : (value : Valuation) (before text done more : List ℕ) → IsTrue (is_open before && not (is_reserved (open_name before))) → value (open_name before) ≡ Ok (Some text) →
    IsDone value done → done ≡ before ++ 62 ∷ more → ⊥
none_before value before text done more tag has without is = differ (value (open_name before)) has (without before more is tag)
  where
    differ : (found : Result (Option (List ℕ)) InterpError) → found ≡ Ok (Some text) → found ≡ Ok None → ⊥
    differ found one other = cc

-- a name has one value
value_same : (found : Result (Option (List ℕ)) InterpError) (one two : List ℕ) → found ≡ Ok (Some one) → found ≡ Ok (Some two) → one ≡ two
value_same found one two first second = cc

one_way : (value : Valuation) (old new other : List ℕ) → IsStep value old new → IsStep value old other → new ≡ other
one_way value old new other step also = elim (places 62 step.before also.before step.behind also.behind (sym step.old_is ∙ also.old_is)) [
  | inl same ↦
      let text : step.text ≡ also.text = value_same (value (open_name step.before)) step.text also.text step.value_is (ap (λ (b : List ℕ). value (open_name b)) same.0 ∙ also.value_is) in
      step.new_is
      ∙ ap₂ (λ (b t : List ℕ). take (name_start b - 1) b ++ t ++ step.behind) same.0 text
      ∙ ap (λ (t : List ℕ). take (name_start also.before - 1) also.before ++ also.text ++ t) same.1 ∙ sym also.new_is
  | inr apart ↦ absurd (elim apart [
    | inl more ↦ none_before value step.before step.text also.before more.0 step.is_tag step.value_is also.first more.1
    | inr more ↦ none_before value also.before also.text step.before more.0 also.is_tag also.value_is step.first more.1
  ])
]

pub tag_law : TagLaw
tag_law = record { stays = done_stays; ends = ends_done; steps = substituted_by_steps; one_way = one_way }
