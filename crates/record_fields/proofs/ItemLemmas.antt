-- Reading items one after the other, as a loop does.
use Rattle.std.proofs.Common.{◌≡◌, ℕ, zero, suc, ◌-◌, ◌+◌, ◌≤◌, ◌<◌, Bool, true, false, List, [], ◌∷◌, ◌++◌, length, Result, Ok, Err, get_or, drop, refl, sym, ap, ◌∙◌, append_assoc, arith}
use Rattle.std.proofs.lemmas.List.{append-nil}
use Rattle.record_fields.specs.Codec.{◌>>=◌, Fails, Reads}
use Rattle.record_fields.specs.declared.fault.Fault.{Fault}
use Rattle.record_fields.specs.declared.fault.Fault.TheVariants as faults
use Rattle.std.proofs.lemmas.List.{drop_more}
use Rattle.std.proofs.Math.Seq.{drop-nil}
use Rattle.record_fields.specs.Lists.{items_at, each_at}

-- what was read before, and what is still read
abbrev pub with_front : {A : Type 0} → List A → Result (List A × List ℕ) ℕ → Result (List A × List ℕ) ℕ
with_front front read = read >>= λ x. Ok (front ++ x.0, x.1)

module _ {A : Type 0} (allowed : List A → A → Bool) (read : Reads A) where
  regroup : (front : List A) (n : A) (others : Result (List A × List ℕ) ℕ) → with_front front (others >>= λ x. Ok (n ∷ x.0, x.1)) ≡ with_front (front ++ n ∷ []) others
  regroup front n (Ok x) = ap (λ (ns : List A). Ok (ns, x.1)) (simp append_assoc)
  regroup front n (Err f) = refl

  pub goes_on : (front : List A) (count i : ℕ) (bytes : List ℕ) (n : A) (after : List ℕ) (total : Result (List A × List ℕ) ℕ) → i < count → read bytes ≡ Ok (n, after)
      → allowed front n ≡ true → with_front front (items_at allowed read front (count - i) bytes) ≡ total → with_front (front ++ n ∷ []) (items_at allowed read (front ++ n ∷ []) (count - (i + 1)) after) ≡ total
  unfolding items_at
  goes_on front count i bytes n after total lt h may so_far =
      let k : count - i ≡ suc (count - (i + 1)) = omega arith in
      let one : with_front front (items_at allowed read front (count - i) bytes) ≡ with_front (front ++ n ∷ []) (items_at allowed read (front ++ n ∷ []) (count - (i + 1)) after) = rw (k, h, may) (regroup front n (items_at allowed read (front ++ n ∷ []) (count - (i + 1)) after)) in
      sym one ∙ so_far

  pub ends : (e : Fault) (front : List A) (count i : ℕ) (bytes : List ℕ) (total : Result (List A × List ℕ) ℕ) → i < count → Fails e (read bytes)
      → with_front front (items_at allowed read front (count - i) bytes) ≡ total → Fails e total
  unfolding items_at
  ends faults.NoMemory front count i bytes total lt h so_far = tt
  ends (faults.Left f) front count i bytes total lt h so_far =
      let k : count - i ≡ suc (count - (i + 1)) = omega arith in
      let one : with_front front (items_at allowed read front (count - i) bytes) ≡ Err f = rw (k, h) refl in
      sym so_far ∙ one

  pub is_refused : (front : List A) (count i : ℕ) (bytes : List ℕ) (n : A) (after : List ℕ) (total : Result (List A × List ℕ) ℕ) → i < count → read bytes ≡ Ok (n, after)
      → allowed front n ≡ false → with_front front (items_at allowed read front (count - i) bytes) ≡ total → total ≡ Err (length bytes)
  unfolding items_at
  is_refused front count i bytes n after total lt h may so_far =
      let k : count - i ≡ suc (count - (i + 1)) = omega arith in
      let one : with_front front (items_at allowed read front (count - i) bytes) ≡ Err (length bytes) = rw (k, h, may) refl in
      sym so_far ∙ one

  pub is_done : (front : List A) (count i : ℕ) (bytes : List ℕ) (total : Result (List A × List ℕ) ℕ) → count ≤ i → with_front front (items_at allowed read front (count - i) bytes) ≡ total → total ≡ Ok (front, bytes)
  unfolding items_at
  is_done front count i bytes total le so_far =
      let k : count - i ≡ 0 = omega arith in
      let one : with_front front (items_at allowed read front (count - i) bytes) ≡ Ok (front, bytes) = rw k (ap (λ (ns : List A). Ok (ns, bytes)) (append-nil front)) in
      sym so_far ∙ one

-- ---- as many as there are definitions

drop_past : {D : Type 0} (ds : List D) (i : ℕ) → length ds ≤ i → drop i ds ≡ []
drop_past [] i le = drop-nil i
drop_past (d ∷ ds) zero le = absurd (omega (arith, le))
drop_past (d ∷ ds) (suc i) le = drop_past ds i (omega (arith, le))

rest_from : {D : Type 0} (ds : List D) (i : ℕ) (d : D) → i < length ds → d ≡ get_or ds i d → drop i ds ≡ d ∷ drop (i + 1) ds
rest_from ds i d lt is = drop_more ds i d lt ∙ ap (λ (e : _). e ∷ drop (i + 1) ds) (sym is)

module _ {D A : Type 0} (read : D → Reads A) (ds : List D) where
  together : (front : List A) (n : A) (others : Result (List A × List ℕ) ℕ) → with_front front (others >>= λ x. Ok (n ∷ x.0, x.1)) ≡ with_front (front ++ n ∷ []) others
  together front n (Ok x) = ap (λ (ns : List A). Ok (ns, x.1)) (simp append_assoc)
  together front n (Err f) = refl

  pub each_on : (front : List A) (i : ℕ) (d : D) (bytes : List ℕ) (n : A) (after : List ℕ) (total : Result (List A × List ℕ) ℕ) → i < length ds → d ≡ get_or ds i d → read d bytes ≡ Ok (n, after)
      → with_front front (each_at read (drop i ds) bytes) ≡ total → with_front (front ++ n ∷ []) (each_at read (drop (i + 1) ds) after) ≡ total
  unfolding each_at
  each_on front i d bytes n after total lt is h so_far =
      let one : with_front front (each_at read (drop i ds) bytes) ≡ with_front (front ++ n ∷ []) (each_at read (drop (i + 1) ds) after) =
      rw (rest_from ds i d lt is) (rw h (together front n (each_at read (drop (i + 1) ds) after))) in
      sym one ∙ so_far

  pub each_ends : (e : Fault) (front : List A) (i : ℕ) (d : D) (bytes : List ℕ) (total : Result (List A × List ℕ) ℕ) → i < length ds → d ≡ get_or ds i d → Fails e (read d bytes)
      → with_front front (each_at read (drop i ds) bytes) ≡ total → Fails e total
  unfolding each_at
  each_ends faults.NoMemory front i d bytes total lt is h so_far = tt
  each_ends (faults.Left f) front i d bytes total lt is h so_far =
      let one : with_front front (each_at read (drop i ds) bytes) ≡ Err f = rw (rest_from ds i d lt is) (rw h refl) in
      sym so_far ∙ one

  pub each_done : (front : List A) (i : ℕ) (bytes : List ℕ) (total : Result (List A × List ℕ) ℕ) → length ds ≤ i → with_front front (each_at read (drop i ds) bytes) ≡ total → total ≡ Ok (front, bytes)
  unfolding each_at
  each_done front i bytes total le so_far =
      let one : with_front front (each_at read (drop i ds) bytes) ≡ Ok (front, bytes) = rw (drop_past ds i le) (ap (λ (ns : List A). Ok (ns, bytes)) (append-nil front)) in
      sym so_far ∙ one
