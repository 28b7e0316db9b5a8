-- Which names a pattern stands for, and the logs that a path with wildcards stands for.
use Rattle.std.specs.Prelude.{ℕ, ◌≡◌, ◌==◌, ◌-◌, Bool, true, false, ◌&&◌, ◌||◌, if◌then◌else◌, List, [], ◌∷◌, ◌++◌, length, take, filter, map}
use Rattle.std.specs.List.{list_any}
use Rattle.std.specs.List.Sorted.{IsPermutation, IsSorted}
use Rattle.std.specs.Ordering.{nat_cmp}
use Rattle.std.specs.Cmp.Lexicographic.{slice_cmp}
use Rattle.std.specs.Str.{chars}
use Rattle.f2b_base.specs.declared.jail.WatchDef.{WatchDef}

-- some end of the list passes, the whole list and the empty one counted
abbrev pub any_end : (List ℕ → Bool) → List ℕ → Bool
any_end passes [] = passes []
any_end passes (x ∷ xs) = passes (x ∷ xs) || any_end passes xs

-- the list begins with a character that the pattern's stands for, as `?` (63) does for any, and what follows passes
abbrev pub one_and : ℕ → (List ℕ → Bool) → List ℕ → Bool
one_and c passes [] = false
one_and c passes (x ∷ xs) = (c == 63 || c == x) && passes xs

-- the characters of a pattern stand for those of a name: `*` (42) for any run, `?` for one, and all else for itself
abbrev pub globs : List ℕ → List ℕ → Bool
globs [] [] = true
globs [] (x ∷ name) = false
globs (c ∷ pattern) name = if c == 42 then any_end (globs pattern) name else one_and c (globs pattern) name

-- a path has a wildcard where it has a `*` or a `?`
abbrev pub has_wildcard : List ℕ → Bool
has_wildcard path = list_any (λ byte. byte == 42 || byte == 63) path

-- what follows the last slash (47), or all where there is none
abbrev pub behind_slash : List ℕ → List ℕ
behind_slash [] = []
behind_slash (byte ∷ path) = if list_any (λ b. b == 47) path then behind_slash path else (if byte == 47 then path else byte ∷ path)

-- all up to and with the last slash, or nothing where there is none
abbrev pub to_slash : List ℕ → List ℕ
to_slash path = take (length path - length (behind_slash path)) path

-- a pattern stands for the name
abbrev pub fits : List ℕ → List ℕ → Bool
fits pattern name = globs (chars pattern) (chars name)

-- the watch of a name in that directory
abbrev pub watch_at : WatchDef → List ℕ → WatchDef
watch_at watch name = record { path = to_slash watch.path ++ name; tail = watch.tail }

-- the watches of the first 64 of the names that the path's pattern stands for, in byte order
pub record IsExpansion (watch : WatchDef) (names : List (List ℕ)) (watches : List WatchDef) : Type 0 where
  pub ordered : List (List ℕ)
  pub same : IsPermutation (filter (fits (behind_slash watch.path)) names) ordered
  pub sorted : IsSorted (slice_cmp nat_cmp) ordered
  pub first : watches ≡ map (watch_at watch) (take 64 ordered)
