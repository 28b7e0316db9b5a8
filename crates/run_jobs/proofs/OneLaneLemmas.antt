-- One lane while its jobs are tried, as lists of numbers alone.
use Rattle.std.proofs.Common.{ℕ, ◌≡◌, ◌⊎◌, inl, inr, Bool, true, false, not, List, [], ◌∷◌, ◌++◌, filter, refl, sym, ap, ◌∙◌, append_assoc, subst}
use Rattle.std.specs.Prelude.{◌==◌}
use Rattle.std.proofs.lemmas.Bool.{cases_Bool, cases_eq, ne_eqb, eqb-true, both_ways, or_right, not_from_true, not_from_false}
use Rattle.f2b_model.proofs.ListLemmas.{filter-append, filter_both, filter_swap}
use Rattle.child_table.specs.Children.{has}
use Rattle.run_jobs.specs.Tried.{each_once}
use Rattle.run_jobs.proofs.OnceLemmas.{again, apart_of, first_try, has_here, has_last, has_more, has_part, once_part}

-- all but this one
abbrev pub other_than : ℕ → ℕ → Bool
other_than job other = not (other == job)

abbrev pub without : ℕ → List ℕ → List ℕ
without job jobs = filter (other_than job) jobs

-- nothing was started for it
abbrev pub is_untried : List ℕ → ℕ → Bool
is_untried started job = not (has job started)

abbrev pub untried : List ℕ → List ℕ → List ℕ
untried started jobs = filter (is_untried started) jobs

-- Of a lane: the jobs that count, the starts, and the pending jobs. What was tried stands in front, and behind it what is pending and
-- was not tried; at most the first pending job was tried, and then it is the one that was tried last.
pub record IsLaneInOrder (started counting starts left : List ℕ) : Type 0 where
  pub first : counting ≡ each_once starts ++ untried started left
  pub front : (left ≡ untried started left) ⊎ ((job : ℕ) × (before : List ℕ) × (starts ≡ before ++ job ∷ []) × (left ≡ job ∷ untried started left))

-- ---- filters

pub filter_on : (p q : ℕ → Bool) (xs : List ℕ) → ((x : ℕ) → has x xs ≡ true → p x ≡ q x) → filter p xs ≡ filter q xs
filter_on p q [] same = refl
filter_on p q (x ∷ xs) same =
    let rest = filter_on p q xs (λ y is. same y (or_right (x == y) (has y xs) is)) in
    rw (same x (has_here x xs), rest) refl

pub filter_whole : (p : ℕ → Bool) (xs : List ℕ) → ((x : ℕ) → has x xs ≡ true → p x ≡ true) → filter p xs ≡ xs
filter_whole p [] all = refl
filter_whole p (x ∷ xs) all = rw (all x (has_here x xs)) (ap (λ ys. x ∷ ys) (filter_whole p xs (λ y is. all y (or_right (x == y) (has y xs) is))))

pub without_none : (v : ℕ) (xs : List ℕ) → has v xs ≡ false → without v xs ≡ xs
without_none v xs absent = filter_whole (other_than v) xs (λ x is. not_from_false (x == v) (ne_eqb x v (apart_of x v xs is absent)))

-- an untried job is no tried one
untried_other : (v : ℕ) (started : List ℕ) → has v started ≡ true → (x : ℕ) → is_untried started x ≡ true → other_than v x ≡ true
untried_other v started is x un = elim (cases_Bool (x == v)) [
  | inl h ↦ absurd (let gone : not (has v started) ≡ true = subst (λ (y : ℕ). not (has y started) ≡ true) (eqb-true x v h) un in both_ways (not (has v started)) (not_from_true (has v started) is) gone)
  | inr h ↦ not_from_false (x == v) h
]

-- the same is untried where the same was started
same_untried : (started more : List ℕ) (x : ℕ) → has x more ≡ has x started → is_untried started x ≡ is_untried more x
same_untried started more x is = ap not (sym is)

-- one more that is there already
tried_again : (started : List ℕ) (q : ℕ) → has q started ≡ true → (x : ℕ) → is_untried started x ≡ is_untried (started ++ q ∷ []) x
tried_again started q is x = same_untried started (started ++ q ∷ []) x (elim (cases_eq q x) [
  | inl same ↦ subst (λ (y : ℕ). has y (started ++ q ∷ []) ≡ has y started) same (has_last q started ∙ sym is)
  | inr apart ↦ has_more x q started apart
])

-- one more that is another one than each of these
untried_more : (started xs : List ℕ) (q : ℕ) → has q xs ≡ false → untried started xs ≡ untried (started ++ q ∷ []) xs
untried_more started xs q absent =
    filter_on (is_untried started) (is_untried (started ++ q ∷ [])) xs
    (λ x is. same_untried started (started ++ q ∷ []) x (has_more x q started (λ same. apart_of x q xs is absent (sym same))))

-- a first element that is there nowhere else
tail_same : (q r : ℕ) (xs ys : List ℕ) → q ∷ xs ≡ r ∷ ys → (q ≡ r) × (xs ≡ ys)
tail_same q r xs ys is = (cc, cc)

module _ (started counting starts left : List ℕ) (fine : IsLaneInOrder started counting starts left) where
  -- ---- jobs are made

  pub fine_more : (new : List ℕ) → ((x : ℕ) → has x new ≡ true → has x started ≡ false) → IsLaneInOrder started (counting ++ new) starts (left ++ new)
  fine_more new none =
      let all : untried started new ≡ new = filter_whole (is_untried started) new (λ x is. not_from_false (has x started) (none x is)) in
      let both : untried started (left ++ new) ≡ untried started left ++ new = filter-append (is_untried started) left new ∙ ap (λ xs. untried started left ++ xs) all in
      record {
        first = ap (λ xs. xs ++ new) fine.first ∙ append_assoc (each_once starts) (untried started left) new ∙ ap (λ xs. each_once starts ++ xs) (sym both);
        front = elim (fine.front) [
          | inl is ↦ inl (ap (λ xs. xs ++ new) is ∙ sym both)
          | inr is ↦ inr (is.0, is.1, is.2, ap (λ xs. xs ++ new) is.3 ∙ ap (λ xs. is.0 ∷ xs) (sym both))
        ];
      }

  -- ---- a job that was tried is settled

  pub fine_settled : (v : ℕ) → has v started ≡ true → IsLaneInOrder started counting starts (without v left)
  fine_settled v is =
      let same : untried started (without v left) ≡ untried started left = filter_both (other_than v) (is_untried started) (untried_other v started is) left in
      let stays : without v (untried started left) ≡ untried started left = sym (filter_swap (other_than v) (is_untried started) left) ∙ same in
      record {
        first = fine.first ∙ ap (λ xs. each_once starts ++ xs) (sym same);
        front = elim (fine.front) [
          | inl all ↦ inl (ap (without v) all ∙ stays ∙ sym same)
          | inr led ↦
              let gone : without v left ≡ without v (led.0 ∷ untried started left) = ap (without v) led.3 in
              elim (cases_Bool (led.0 == v)) [
                | inl h ↦ (let out : without v (led.0 ∷ untried started left) ≡ without v (untried started left) = rw h refl in inl (gone ∙ out ∙ stays ∙ sym same))
                | inr h ↦ (let on : without v (led.0 ∷ untried started left) ≡ led.0 ∷ without v (untried started left) = rw h refl in
                    inr (led.0, led.1, led.2, gone ∙ on ∙ ap (λ xs. led.0 ∷ xs) (stays ∙ sym same)))
              ]
        ];
      }

  -- ---- a job that was not tried is voided

  pub fine_voided : (v : ℕ) → has v started ≡ false → ((x : ℕ) → has x starts ≡ true → has x started ≡ true) → IsLaneInOrder started (without v counting) starts (without v left)
  fine_voided v absent within =
      let swap : without v (untried started left) ≡ untried started (without v left) = sym (filter_swap (other_than v) (is_untried started) left) in
      let none : has v starts ≡ false = elim (cases_Bool (has v starts)) [ inl h ↦ absurd (both_ways (has v started) absent (within v h)) | inr h ↦ h ] in
      let kept : without v (each_once starts) ≡ each_once starts = without_none v (each_once starts) (once_part v starts none) in
      record {
        first = ap (without v) fine.first ∙ filter-append (other_than v) (each_once starts) (untried started left) ∙ ap (λ xs. xs ++ without v (untried started left)) kept ∙ ap (λ xs. each_once starts ++ xs) swap;
        front = elim (fine.front) [
          | inl all ↦ inl (ap (without v) all ∙ swap)
          | inr led ↦
              let tried : has led.0 started ≡ true = within led.0 (ap (has led.0) led.2 ∙ has_last led.0 led.1) in
              let apart : (led.0 == v) ≡ false = ne_eqb led.0 v (apart_of led.0 v started tried absent) in
              let on : without v (led.0 ∷ untried started left) ≡ led.0 ∷ without v (untried started left) = rw apart refl in
              inr (led.0, led.1, led.2, ap (without v) led.3 ∙ on ∙ ap (λ xs. led.0 ∷ xs) swap)
        ];
      }

  -- ---- a job is tried

  -- a job of another lane
  pub fine_other : (q : ℕ) → has q left ≡ false → IsLaneInOrder (started ++ q ∷ []) counting starts left
  fine_other q absent =
      let same : untried started left ≡ untried (started ++ q ∷ []) left = untried_more started left q absent in
      record {
        first = fine.first ∙ ap (λ xs. each_once starts ++ xs) same;
        front = elim (fine.front) [
          | inl all ↦ inl (all ∙ same)
          | inr led ↦ inr (led.0, led.1, led.2, led.3 ∙ ap (λ xs. led.0 ∷ xs) same)
        ];
      }

  -- the first pending job of the lane: once more, or for the first time
  pub fine_tried : (q : ℕ) (behind : List ℕ) → left ≡ q ∷ behind → has q behind ≡ false → ((x : ℕ) → has x starts ≡ true → has x started ≡ true)
      → IsLaneInOrder (started ++ q ∷ []) counting (starts ++ q ∷ []) left
  fine_tried q behind leads once within = elim (cases_Bool (has q started)) [ inl is ↦ once_more is | inr absent ↦ at_first absent ]
    where
      once_more : has q started ≡ true → IsLaneInOrder (started ++ q ∷ []) counting (starts ++ q ∷ []) left
      once_more is =
          let same : untried started left ≡ untried (started ++ q ∷ []) left = filter_on (is_untried started) (is_untried (started ++ q ∷ [])) left (λ x _. tried_again started q is x) in
          let skips : is_untried started q ≡ false = not_from_true (has q started) is in
          let out : untried started (q ∷ behind) ≡ untried started behind = rw skips refl in
          let less : untried started left ≡ untried started behind = ap (untried started) leads ∙ out in
          elim (fine.front) [
            | inl all ↦ absurd (both_ways (has q left) (ap (has q) (all ∙ less) ∙ has_part q (is_untried started) behind once) (ap (has q) leads ∙ has_here q behind))
            | inr led ↦
                let both = tail_same q led.0 behind (untried started left) (sym leads ∙ led.3) in
                let ends : starts ≡ led.1 ++ q ∷ [] = led.2 ∙ ap (λ j. led.1 ++ j ∷ []) (sym both.0) in
                let folds : each_once (starts ++ q ∷ []) ≡ each_once starts = ap (λ xs. each_once (xs ++ q ∷ [])) ends ∙ again led.1 q ∙ ap each_once (sym ends) in
                record {
                  first = fine.first ∙ ap (λ xs. xs ++ untried started left) (sym folds) ∙ ap (λ xs. each_once (starts ++ q ∷ []) ++ xs) same;
                  front = inr (q, starts, refl, leads ∙ ap (λ xs. q ∷ xs) (both.1 ∙ same));
                }
          ]

      at_first : has q started ≡ false → IsLaneInOrder (started ++ q ∷ []) counting (starts ++ q ∷ []) left
      at_first absent =
          let counts : is_untried started q ≡ true = not_from_false (has q started) absent in
          let skips : is_untried (started ++ q ∷ []) q ≡ false = not_from_true (has q (started ++ q ∷ [])) (has_last q started) in
          let others : untried started behind ≡ untried (started ++ q ∷ []) behind = untried_more started behind q once in
          let on : untried started (q ∷ behind) ≡ q ∷ untried started behind = rw counts refl in
          let out : untried (started ++ q ∷ []) (q ∷ behind) ≡ untried (started ++ q ∷ []) behind = rw skips refl in
          elim (fine.front) [
            | inl all ↦
                let rest : behind ≡ untried started behind = (tail_same q q behind (untried started behind) (sym leads ∙ all ∙ ap (untried started) leads ∙ on)).1 in
                let new : untried (started ++ q ∷ []) left ≡ behind = ap (untried (started ++ q ∷ [])) leads ∙ out ∙ sym (rest ∙ others) in
                let fresh : has q starts ≡ false = elim (cases_Bool (has q starts)) [ inl h ↦ absurd (both_ways (has q started) absent (within q h)) | inr h ↦ h ] in
                record {
                  first = fine.first ∙ ap (λ xs. each_once starts ++ xs) (sym all ∙ leads) ∙ sym (append_assoc (each_once starts) (q ∷ []) behind)
                      ∙ ap (λ xs. xs ++ behind) (sym (first_try starts q fresh)) ∙ ap (λ xs. each_once (starts ++ q ∷ []) ++ xs) (sym new);
                  front = inr (q, starts, refl, leads ∙ ap (λ xs. q ∷ xs) (sym new));
                }
            | inr led ↦
                let both = tail_same q led.0 behind (untried started left) (sym leads ∙ led.3) in
                let there : has q starts ≡ true = ap (has q) (led.2 ∙ ap (λ j. led.1 ++ j ∷ []) (sym both.0)) ∙ has_last q led.1 in
                absurd (both_ways (has q started) absent (within q there))
          ]
