-- The files of a base, one after the other.
use Rattle.std.proofs.Common.{◌≡◌, ℕ, ◌+◌, List, [], ◌∷◌, ◌++◌, drop, slice_get, append-nil, Option, None, Some, Result, Ok, Err, refl, sym, ap, ◌∙◌}
use Rattle.std.specs.List.{fold}
use Rattle.ini_interp.specs.declared.merge_error.MergeError.{MergeError}
use Rattle.ini_interp.specs.declared.merge_error.MergeError.TheVariants.{NoMemory}
use Rattle.std.specs.Result.{IfOk, IfErr}
use Rattle.std.proofs.Common.{◌≢◌}
use Rattle.ini_interp.specs.Frames.{IsKept}
use Rattle.ini_interp.specs.InTurn.{followed, in_turn}
use Rattle.ini_interp.specs.Joins.{joined}
use Rattle.ini_interp.specs.Merges.{Files, FilesRead, all_read, base_file, base_files, joined_all, merged_in}
use Rattle.ini_interp.specs.Sections.{Sections}
use Rattle.ini_interp.proofs.FramesLemmas.{kept_on, kept_fault}
use Rattle.ini_interp.proofs.PlacesLemmas.{drop_at_place}
use Rattle.ini_interp.proofs.ValuesLemmas.{followed-nothing, followed-end}

module _ (give : List ℕ → FilesRead) (whole : FilesRead) (paths : List (List ℕ)) (index : ℕ) (path : List ℕ) (old between : Sections)
    (there : Some path ≡ slice_get paths index) (kept : IsKept whole (in_turn give (drop index paths)) old between) where
  pub turn : (new : Sections) → IsKept (give path) (Ok []) between new → IsKept whole (in_turn give (drop (index + 1) paths)) old new
  turn new file = kept_on whole (in_turn give (drop index paths)) (in_turn give (drop (index + 1) paths)) old between new kept (record {
    done = file.done;
    pending =
        ap (in_turn give) (drop_at_place paths index path there)
        ∙ ap (λ (r : FilesRead). followed r (in_turn give (drop (index + 1) paths))) (file.pending ∙ followed-end {E = MergeError} (Ok file.done));
    merged = file.merged;
  })

  pub turn_fault : (fault : MergeError) → give path ≡ Err fault → whole ≡ Err fault
  turn_fault fault faulty = kept_fault whole (in_turn give (drop index paths)) old between fault kept
      (ap (in_turn give) (drop_at_place paths index path there) ∙ ap (λ (r : FilesRead). followed r (in_turn give (drop (index + 1) paths))) faulty)

pub merged_is : (base : List ℕ) (files : Files) (sections : Sections) →
    IsKept (in_turn (base_file files) (base_files files base)) (Ok []) [] sections → merged_in files base ≡ Ok sections
unfolding merged_in all_read
merged_is base files sections kept =
    ap joined_all (kept.pending ∙ followed-end {E = MergeError} (Ok kept.done)) ∙ ap (λ (s : Sections). Ok s) (sym kept.merged)

pub merged_fault : (base : List ℕ) (files : Files) (fault : MergeError) →
    in_turn (base_file files) (base_files files base) ≡ Err fault → merged_in files base ≡ Err fault
unfolding merged_in all_read
merged_fault base files fault faulty = ap joined_all faulty

-- what is answered
pub merged_answer : (base : List ℕ) (files : Files) (result : Result Sections MergeError) →
    IfOk result (λ (sections : Sections). IsKept (in_turn (base_file files) (base_files files base)) (Ok []) [] sections) →
    IfOk result (λ (sections : Sections). merged_in files base ≡ Ok sections)
merged_answer base files (Ok sections) kept = merged_is base files sections kept
merged_answer base files (Err fault) kept = tt

pub merged_failure : (base : List ℕ) (files : Files) (result : Result Sections MergeError) →
    IfErr result (λ (fault : MergeError). fault ≢ NoMemory → in_turn (base_file files) (base_files files base) ≡ Err fault) →
    IfErr result (λ (fault : MergeError). fault ≢ NoMemory → merged_in files base ≡ Err fault)
merged_failure base files (Ok sections) faulty = tt
merged_failure base files (Err fault) faulty = λ memory. merged_fault base files fault (faulty memory)

-- before the first file
pub base_starts : (files : Files) (base : List ℕ) (paths items : List (List ℕ)) (new : Sections) → items ≡ paths → paths ≡ base_files files base → new ≡ [] →
    IsKept (in_turn (base_file files) (base_files files base)) (in_turn (base_file files) (drop 0 items)) [] new
base_starts files base paths items new seen is empty = record {
  done = [];
  pending =
      ap (in_turn (base_file files)) (sym (seen ∙ is)) ∙ sym (followed-nothing (in_turn (base_file files) items));
  merged = empty;
}
