-- The names of the files that stand in a directory.
use Rattle.std.specs.Prelude.{ℕ, ◌≢◌, ◌++◌, All, Contains, EachIndex, IsSome, List, [], ◌∷◌, slice_index}
use Rattle.std.specs.Ordering.{nat_cmp}
use Rattle.std.specs.Cmp.Lexicographic.{slice_cmp}
use Rattle.std.specs.List.Sorted.{IsStrictlySortedBy}
use Rattle.f2b_world.specs.Trees.{with_slash}
use Rattle.f2b_world.specs.declared.answer.NamesAnswer.{NamesAnswer}
use Rattle.f2b_world.specs.declared.answer.NamesAnswer.TheVariants.{Names, Absent, Failed as NamesFailed, NoMemory as NamesNoMemory}
use Rattle.f2b_mem.specs.Script.{content_at}
use Rattle.f2b_mem.specs.declared.script.FileChange.{FileChange}

-- a name is not empty and has no slash
pub record IsName (name : List ℕ) : Type 0 where
  pub some : name ≢ []
  pub bare : EachIndex name (λ k. slice_index name k ≢ 47)

-- the name of a file that stands directly in a directory after so many pauses
abbrev pub IsListed : List FileChange → List ℕ → ℕ → List ℕ → Type 0
IsListed changes dir pauses name = IsName name × IsSome (content_at changes (with_slash dir ++ name) pauses)

-- all names of the files in a directory, each once, in byte order
pub record AreNames (changes : List FileChange) (dir : List ℕ) (pauses : ℕ) (names : List (List ℕ)) : Type 0 where
  pub found : All (IsListed changes dir pauses) names
  pub whole : (name : List ℕ) → IsListed changes dir pauses name → Contains names name
  pub ordered : IsStrictlySortedBy (slice_cmp nat_cmp) names

-- these names, of which none are told as no directory
abbrev pub listing_of : List (List ℕ) → NamesAnswer
listing_of [] = Absent
listing_of (name ∷ names) = Names (name ∷ names)

-- a listing that was given has all names, and a directory without any is absent
abbrev pub IsListing : List FileChange → List ℕ → ℕ → NamesAnswer → Type 0
IsListing changes dir pauses (Names names) = AreNames changes dir pauses names × (names ≢ [])
IsListing changes dir pauses Absent = AreNames changes dir pauses []
IsListing changes dir pauses NamesFailed = ⊥
IsListing changes dir pauses NamesNoMemory = ⊥
