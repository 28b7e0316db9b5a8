-- The files of a configuration: which they are, and the bounds that a tree of them keeps.
use Rattle.std.specs.Prelude.{ℕ, ◌≡◌, ◌==◌, ◌⊎◌, ◌<◌, ◌≤◌, All, Contains, IsSome, Option, Some, List, [], ◌∷◌, ◌++◌, codes, count_by, if◌then◌else◌, length, map, sum_by}
use Rattle.std.specs.Ordering.{nat_cmp}
use Rattle.std.specs.Cmp.Lexicographic.{slice_cmp}
use Rattle.std.specs.List.Sorted.{IsSorted, IsStrictlySortedBy}
use Rattle.f2b_base.specs.declared.outside.Tree.{Tree}
use Rattle.f2b_base.specs.declared.outside.TreeAnswer.{TreeAnswer}
use Rattle.f2b_base.specs.declared.outside.TreeAnswer.TheVariants.{Tree as IsATree, Failed as TreeFailed, TooLarge, NoMemory as TreeNoMemory}
use Rattle.f2b_base.specs.declared.outside.TreeFile.{TreeFile}
use Rattle.f2b_world.specs.Shelves.{Shelf}

-- texts in byte order
abbrev pub IsInByteOrder : List (List ℕ) → Type 0
IsInByteOrder = IsSorted (slice_cmp nat_cmp)

abbrev pub paths : List TreeFile → List (List ℕ)
paths = map (λ file. file.path)

abbrev pub bytes_in : List TreeFile → ℕ
bytes_in = sum_by (λ file. length file.content)

-- a path that stands in the directory itself or in a direct subdirectory, and ends in `.conf` or `.local`
pub record IsConfigured (path : List ℕ) : Type 0 where
  pub near : count_by (λ byte. byte == 47) path ≤ 1
  pub ending : ((stem : List ℕ) × (path ≡ stem ++ codes ".conf")) ⊎ ((stem : List ℕ) × (path ≡ stem ++ codes ".local"))

-- at most 4,096 files of a configuration, with at most 16,777,216 bytes in all, in byte order of their paths
pub record IsTree (tree : Tree) : Type 0 where
  pub few : length tree.files ≤ 4096
  pub small : bytes_in tree.files ≤ 16777216
  pub ordered : IsInByteOrder (paths tree.files)
  pub configured : All IsConfigured (paths tree.files)

-- a tree that is given keeps to its bounds, in every world
abbrev pub KeepsTree : TreeAnswer → Type 0
KeepsTree (IsATree tree) = IsTree tree
KeepsTree _ = Unit {0}

-- What follows is said where files tell what they hold.

-- a directory's path, with a slash at its end
abbrev pub with_slash : List ℕ → List ℕ
with_slash [] = 47 ∷ []
with_slash (byte ∷ []) = if byte == 47 then byte ∷ [] else byte ∷ 47 ∷ []
with_slash (byte ∷ next ∷ bytes) = byte ∷ with_slash (next ∷ bytes)

-- what a file holds whose path is relative to a directory
abbrev pub content_below : Shelf → List ℕ → List ℕ → Option (List ℕ)
content_below shelf dir path = shelf (with_slash dir ++ path)

-- all files of the configuration in a directory, each once, in byte order of their paths
pub record AreConfiguration (shelf : Shelf) (dir : List ℕ) (files : List TreeFile) : Type 0 where
  pub found : All (λ file. IsConfigured file.path × (content_below shelf dir file.path ≡ Some file.content)) files
  pub whole : (path : List ℕ) → IsConfigured path → IsSome (content_below shelf dir path) → Contains (paths files) path
  pub ordered : IsStrictlySortedBy (slice_cmp nat_cmp) (paths files)

-- a tree is all of them, and it is too large only where they are too many or have too many bytes
abbrev pub IsTreeOf : List ℕ → TreeAnswer → Shelf → Type 0
IsTreeOf dir (IsATree tree) shelf = AreConfiguration shelf dir tree.files
IsTreeOf dir TooLarge shelf = (files : List TreeFile) × AreConfiguration shelf dir files × ((4096 < length files) ⊎ (16777216 < bytes_in files))
IsTreeOf dir TreeFailed shelf = Unit {0}
IsTreeOf dir TreeNoMemory shelf = Unit {0}
