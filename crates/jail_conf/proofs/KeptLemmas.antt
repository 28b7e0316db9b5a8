-- What is kept of bases: what is found there, what is left, and what is put in.
use Rattle.std.proofs.Common.{◌≡◌, ◌∙◌, ℕ, Bool, true, false, cond, List, [], ◌∷◌, Some, Ok, String, string_bytes, refl, sym, ap}
use Rattle.std.proofs.lemmas.Map.Text.{is_eq-slice_cmp}
use Rattle.std.proofs.lemmas.Option.{none-some}
use Rattle.std.proofs.lemmas.Slice.Eq.{bytes_eq-Decides}
use Rattle.std.specs.BTreeMap.{insert_entry}
use Rattle.std.specs.Cmp.Lexicographic.{slice_cmp}
use Rattle.std.specs.Map.{lookup, remove_entry}
use Rattle.std.specs.Ordering.{nat_cmp, is_eq, match_ordering}
use Rattle.std.specs.String.{string_cmp}
use Rattle.std.specs.declared.cmp.Ordering.{Ordering}
use Rattle.std.specs.declared.cmp.Ordering.TheVariants.{Less, Equal, Greater}
use Rattle.ini_interp.specs.Merges.{Files}
use Rattle.ini_interp.specs.Sections.{Sections}
use Rattle.jail_conf.specs.MergedBases.{IsOfBase, AreOfBases}

-- of two paths that compare as equal each is the other
same_path : (one other : List ℕ) → is_eq (slice_cmp nat_cmp one other) ≡ true → one ≡ other
same_path one other is = (bytes_eq-Decides one other).0 (sym (is_eq-slice_cmp one other) ∙ is)

module _ {A : Type 0} (files : Files) where
  -- what stands under the file
  pub found_of_base : (file : List ℕ) (sections : Sections) (kept : List (String A × Sections)) → AreOfBases files kept →
      lookup (λ k. is_eq (slice_cmp nat_cmp file (string_bytes k))) kept ≡ Some sections → IsOfBase files file sections
  found_of_base file sections [] all found = absurd (none-some _ found)
  found_of_base file sections (one ∷ kept) all found =
      by (is_eq (slice_cmp nat_cmp file (string_bytes one.0))) refl found (found_of_base file sections kept all.1)
    where
      by : (b : Bool) → is_eq (slice_cmp nat_cmp file (string_bytes one.0)) ≡ b →
          cond b (Some one.1) (lookup (λ k. is_eq (slice_cmp nat_cmp file (string_bytes k))) kept) ≡ Some sections →
          (lookup (λ k. is_eq (slice_cmp nat_cmp file (string_bytes k))) kept ≡ Some sections → IsOfBase files file sections) → IsOfBase files file sections
      by true is there rest base named =
          let same : file ≡ string_bytes one.0 = same_path file (string_bytes one.0) is in
          let value : one.1 ≡ sections = cc in
          all.0 base (sym same ∙ named) ∙ ap Ok value
      by false is there rest base named = rest there base named

  -- what is left behind one that was taken out
  pub left_of_bases : (test : String A → Bool) (kept : List (String A × Sections)) → AreOfBases files kept → AreOfBases files (remove_entry test kept)
  left_of_bases test [] all = all
  left_of_bases test (one ∷ kept) all = by (test one.0) (left_of_bases test kept all.1)
    where
      by : (b : Bool) → AreOfBases files (remove_entry test kept) → AreOfBases files (cond b kept (one ∷ remove_entry test kept))
      by true rest = all.1
      by false rest = (all.0, rest)

  -- one more
  pub more_of_bases : (file : String A) (sections : Sections) (kept : List (String A × Sections)) → IsOfBase files (string_bytes file) sections → AreOfBases files kept →
      AreOfBases files (insert_entry string_cmp kept file sections)
  more_of_bases file sections [] own all = (own, tt)
  more_of_bases file sections (one ∷ kept) own all = by (string_cmp file one.0) refl (more_of_bases file sections kept own all.1)
    where
      by : (o : Ordering) → string_cmp file one.0 ≡ o → AreOfBases files (insert_entry string_cmp kept file sections) →
          AreOfBases files (match_ordering o ((file, sections) ∷ one ∷ kept) ((one.0, sections) ∷ kept) (one ∷ insert_entry string_cmp kept file sections))
      by Less is rest = (own, all)
      by Equal is rest =
          let same : string_bytes file ≡ string_bytes one.0 = same_path (string_bytes file) (string_bytes one.0) (ap is_eq is) in
          ((λ base named. own base (same ∙ named)), all.1)
      by Greater is rest = (all.0, rest)
