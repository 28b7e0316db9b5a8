-- Whether files keep to the bounds of a tree.
use Rattle.std.specs.Prelude.{ℕ, ◌-◌, ◌==◌, Bool, true, not, ◌&&◌, ◌||◌, leb, List, [], ◌∷◌, codes, count_by, drop, length}
use Rattle.std.specs.Ordering.{is_lt, nat_cmp}
use Rattle.std.specs.Cmp.Lexicographic.{slice_cmp}
use Rattle.std.specs.Str.{bytes_eq}
use Rattle.f2b_base.specs.declared.outside.TreeFile.{TreeFile}
use Rattle.f2b_world.specs.Trees.{bytes_in}

-- whether the paths are in byte order, from this one on
abbrev pub are_ordered : List ℕ → List TreeFile → Bool
are_ordered before [] = true
are_ordered before (file ∷ files) = not (is_lt (slice_cmp nat_cmp file.path before)) && are_ordered file.path files

-- whether a text ends in this one
abbrev pub ends_in : List ℕ → List ℕ → Bool
ends_in text end = bytes_eq (drop (length text - length end) text) end

-- whether a path is one of a configuration
abbrev pub is_configured : List ℕ → Bool
is_configured path = leb (count_by (λ byte. byte == 47) path) 1 && (ends_in path (codes ".conf") || ends_in path (codes ".local"))

-- whether all paths are those of a configuration
abbrev pub are_configured : List TreeFile → Bool
are_configured [] = true
are_configured (file ∷ files) = is_configured file.path && are_configured files

-- at most 4,096 files of a configuration, with at most 16,777,216 bytes in all, in byte order of their paths
abbrev pub is_tree : List TreeFile → Bool
is_tree files = leb (length files) 4096 && (leb (bytes_in files) 16777216 && (are_ordered [] files && are_configured files))
