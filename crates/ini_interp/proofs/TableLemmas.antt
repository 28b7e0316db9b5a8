-- The files under their paths, as a map keeps them.
use Rattle.std.proofs.Common.{◌≡◌, ℕ, zero, suc, ◌+◌, ◌<◌, not, Bool, true, false, cond, List, [], ◌∷◌, ◌++◌, length, map, filter, drop, Option, None, Some, is_some, option_map, String, string_bytes, refl, sym, ap, ◌∙◌, arith}
use Rattle.std.specs.Ordering.{nat_cmp, is_lt, is_eq, match_ordering}
use Rattle.std.specs.declared.cmp.Ordering.{Ordering}
use Rattle.std.specs.declared.cmp.Ordering.TheVariants.{Less, Equal, Greater}
use Rattle.std.specs.Cmp.Lexicographic.{slice_cmp}
use Rattle.std.specs.BTreeMap.{insert_entry}
use Rattle.std.specs.Map.{lookup}
use Rattle.std.specs.Str.{bytes_eq}
use Rattle.std.specs.String.{string_cmp}
use Rattle.std.specs.List.{list_any, after_first, position_or_len, fold}
use Rattle.std.proofs.Common.{◌≤◌, drop_of_length-le}
use Rattle.std.proofs.lemmas.Map.Text.{is_eq-slice_cmp}
use denote.Ref.{Bor}
use Rattle.f2b_base.specs.declared.outside.TreeFile.{TreeFile}
use Rattle.ini_interp.specs.Paths.{contents_of}
use Rattle.ini_interp.specs.Merges.{Files, placed, with_file}
use Rattle.ini_interp.specs.Sections.{value_of}
use Rattle.ini_interp.specs.Values.{is_slash}

module _ {A : Type 0} where
  -- a look-up
  pub content_is : (path : List ℕ) (es : List (String A × Bor (List ℕ))) →
      option_map (λ (b : Bor (List ℕ)). b.now) (lookup (λ k. is_eq (slice_cmp nat_cmp path (string_bytes k))) es) ≡ value_of path (contents_of es)
  content_is path [] = refl
  content_is path (e ∷ es) = by (is_eq (slice_cmp nat_cmp path (string_bytes e.0))) (bytes_eq path (string_bytes e.0)) (is_eq-slice_cmp path (string_bytes e.0)) (content_is path es)
    where
      by : (a b : Bool) → a ≡ b →
          option_map (λ (b : Bor (List ℕ)). b.now) (lookup (λ k. is_eq (slice_cmp nat_cmp path (string_bytes k))) es) ≡ value_of path (contents_of es) →
          option_map (λ (b : Bor (List ℕ)). b.now) (cond a (Some e.1) (lookup (λ k. is_eq (slice_cmp nat_cmp path (string_bytes k))) es))
          ≡ cond b (Some e.1.now) (value_of path (contents_of es))
      by a true same rest = ap (λ (t : Bool). option_map (λ (b : Bor (List ℕ)). b.now) (cond t (Some e.1) (lookup (λ k. is_eq (slice_cmp nat_cmp path (string_bytes k))) es))) same
      by a false same rest = ap (λ (t : Bool). option_map (λ (b : Bor (List ℕ)). b.now) (cond t (Some e.1) (lookup (λ k. is_eq (slice_cmp nat_cmp path (string_bytes k))) es))) same ∙ rest

  -- whether there is one
  pub is_there : (path : List ℕ) (es : List (String A × Bor (List ℕ))) →
      is_some (lookup (λ k. is_eq (slice_cmp nat_cmp path (string_bytes k))) es) ≡ is_some (value_of path (contents_of es))
  is_there path es = kept (lookup (λ k. is_eq (slice_cmp nat_cmp path (string_bytes k))) es) ∙ ap is_some (content_is path es)
    where
      kept : (o : Option (Bor (List ℕ))) → is_some o ≡ is_some (option_map (λ (b : Bor (List ℕ)). b.now) o)
      kept None = refl
      kept (Some b) = refl

  -- a new entry
  pub inserted : (key : String A) (content : Bor (List ℕ)) (es : List (String A × Bor (List ℕ))) → is_some (value_of (string_bytes key) (contents_of es)) ≡ false →
      contents_of (insert_entry string_cmp es key content) ≡ placed (string_bytes key, content.now) (contents_of es)
  inserted key content [] none = refl
  inserted key content (e ∷ es) none =
      by (string_cmp key e.0) (bytes_eq (string_bytes key) (string_bytes e.0)) (is_eq-slice_cmp (string_bytes key) (string_bytes e.0)) none (inserted key content es)
    where
      by : (o : Ordering) (b : Bool) → is_eq o ≡ b → is_some (cond b (Some e.1.now) (value_of (string_bytes key) (contents_of es))) ≡ false →
          (is_some (value_of (string_bytes key) (contents_of es)) ≡ false → contents_of (insert_entry string_cmp es key content) ≡ placed (string_bytes key, content.now) (contents_of es)) →
          contents_of (match_ordering o ((key, content) ∷ e ∷ es) ((e.0, content) ∷ es) (e ∷ insert_entry string_cmp es key content))
          ≡ cond (is_lt o) ((string_bytes key, content.now) ∷ contents_of (e ∷ es)) ((string_bytes e.0, e.1.now) ∷ placed (string_bytes key, content.now) (contents_of es))
      by Less b same absent rest = refl
      by Equal true same absent rest = cc
      by Equal false same absent rest = cc
      by Greater true same absent rest = cc
      by Greater false same absent rest = ap (λ (l : Files). (string_bytes e.0, e.1.now) ∷ l) (rest absent)

-- One more file.
pub with_file-old : (files : Files) (file : TreeFile) → is_some (value_of file.path files) ≡ true → with_file files file ≡ files
with_file-old files file there = ap (λ (b : Bool). cond b files (placed (file.path, file.content) files)) there

pub with_file-new : (files : Files) (file : TreeFile) → is_some (value_of file.path files) ≡ false → with_file files file ≡ placed (file.path, file.content) files
with_file-new files file absent = ap (λ (b : Bool). cond b files (placed (file.path, file.content) files)) absent

-- a file that was inserted
pub added : {A : Type 0} (key : String A) (content : Bor (List ℕ)) (es new : List (String A × Bor (List ℕ))) (files : Files) (file : TreeFile) →
    contents_of es ≡ files → string_bytes key ≡ file.path → content.now ≡ file.content → is_some (value_of file.path files) ≡ false →
    new ≡ insert_entry string_cmp es key content → contents_of new ≡ with_file files file
added key content es new files file seen path is absent written =
    let none : is_some (value_of (string_bytes key) (contents_of es)) ≡ false =
    ap (λ (p : List ℕ). is_some (value_of p (contents_of es))) path ∙ ap (λ (fs : Files). is_some (value_of file.path fs)) seen ∙ absent in
    ap contents_of written ∙ inserted key content es none
    ∙ ap (λ (p : List ℕ). placed (p, content.now) (contents_of es)) path
    ∙ ap (λ (b : List ℕ). placed (file.path, b) (contents_of es)) is
    ∙ ap (placed (file.path, file.content)) seen ∙ sym (with_file-new files file absent)

-- all files were added
pub all_added : (files : Files) (all : List TreeFile) (index : ℕ) → fold with_file [] all ≡ fold with_file files (drop index all) → length all ≤ index →
    files ≡ fold with_file [] all
all_added files all index so_far past = sym (so_far ∙ ap (fold with_file files) (drop_of_length-le all past))
