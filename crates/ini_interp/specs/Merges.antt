-- Which files are read, in which order, and what their sections come to.
use Rattle.std.specs.Prelude.{ℕ, zero, suc, ◌==◌, ◌&&◌, ◌||◌, not, nat_eq, slice_index, List, [], ◌∷◌, ◌++◌, length, map, filter, fold, Option, None, Some, is_some, Result, Ok, Err, if◌then◌else◌, Bool, false, codes}
use Rattle.std.specs.List.{list_any, flat_map, slice_split, starts_with, ends_with, after_first}
use Rattle.std.specs.Ordering.{nat_cmp, is_lt}
use Rattle.std.specs.Cmp.Lexicographic.{slice_cmp}
use Rattle.std.specs.Str.{bytes_eq}
use Rattle.f2b_base.specs.declared.outside.Tree.{Tree}
use Rattle.f2b_base.specs.declared.outside.TreeFile.{TreeFile}
use Rattle.ini_interp.specs.declared.merge_error.MergeError.{MergeError}
use Rattle.ini_interp.specs.declared.merge_error.MergeError.TheVariants.{Ini, MissingInclude, IncludeLoop}
use Rattle.ini_interp.specs.declared.error.IniError.{IniError}
use Rattle.ini_interp.specs.Files.{file_of}
use Rattle.ini_interp.specs.InTurn.{followed, in_turn}
use Rattle.ini_interp.specs.Joins.{joined}
use Rattle.ini_interp.specs.Sections.{Sections, raw, value_of}
use Rattle.ini_interp.specs.Values.{is_slash}

-- Files.

-- contents under paths
abbrev pub Files : Type 0
Files = List (List ℕ × List ℕ)

-- the files with one more, in byte order of the paths
abbrev pub placed : List ℕ × List ℕ → Files → Files
placed file [] = file ∷ []
placed file (next ∷ files) = if is_lt (slice_cmp nat_cmp file.0 next.0) then file ∷ next ∷ files else next ∷ placed file files

-- of two files of one path the first counts
abbrev pub with_file : Files → TreeFile → Files
with_file files file = if is_some (value_of file.path files) then files else placed (file.path, file.content) files

-- the files of a tree, in byte order of their paths
unfoldable pub files_of : Tree → Files
files_of tree = fold with_file [] tree.files

-- the file stands in this directory, which is written with its slash, and its name ends so
abbrev pub stands_in : List ℕ → List ℕ → List ℕ → Bool
stands_in directory ending path =
    starts_with nat_eq path directory && not (list_any is_slash (after_first is_slash path)) && ends_with nat_eq path ending

-- the paths of the files there, in byte order
abbrev pub paths_in : Files → List ℕ → List ℕ → List (List ℕ)
paths_in files directory ending = filter (stands_in directory ending) (map (λ file. file.0) files)

abbrev pub has_directory : List ℕ → Bool
has_directory base = bytes_eq base (codes "jail") || bytes_eq base (codes "fail2ban")

-- the files of a base with this ending: its own, and for `jail` and `fail2ban` those in its directory
abbrev pub files_ending : Files → List ℕ → List ℕ → List (List ℕ)
files_ending files base ending =
    (base ++ ending) ∷ (if has_directory base then paths_in files (base ++ codes ".d/") ending else [])

-- the files of a base, in the order in which they are read
abbrev pub base_files : Files → List ℕ → List (List ℕ)
base_files files base = files_ending files base (codes ".conf") ++ files_ending files base (codes ".local")

-- Includes.

abbrev pub is_newline : ℕ → Bool
is_newline x = x == 10

-- the lines of a text, the empty ones too
abbrev pub all_lines : Option (List ℕ) → List (List ℕ)
all_lines None = []
all_lines (Some text) = slice_split is_newline text

abbrev pub lines_of : Option (List ℕ) → List (List ℕ)
lines_of text = filter (λ line. not (length line == 0)) (all_lines text)

-- the names on the lines of this item of [INCLUDES]
abbrev pub includes : Sections → List ℕ → List (List ℕ)
includes file name = lines_of (raw file (codes "INCLUDES") name)

-- the path up to its last slash
abbrev pub directory : List ℕ → List ℕ
directory [] = []
directory (x ∷ xs) = if list_any is_slash (x ∷ xs) then x ∷ directory xs else []

-- two dots stand side by side
abbrev pub has_dots : List ℕ → Bool
has_dots [] = false
has_dots (x ∷ xs) = x == 46 && slice_index xs 0 == 46 || has_dots xs

-- an absolute name, or one that may lead out of the directory
abbrev pub is_outside : List ℕ → Bool
is_outside name = slice_index name 0 == 47 || has_dots name

abbrev pub is_among : List (List ℕ) → List ℕ → Bool
is_among paths path = list_any (bytes_eq path) paths

-- Reading a file reads its includes too: those before it, the file itself, those after it. Each answer is the files that are read,
-- in order, or the first fault.

abbrev pub FilesRead : Type 0
FilesRead = Result (List Sections) MergeError

-- a file that is not there is skipped where its name ends in `.local`
abbrev pub missing : List ℕ → List ℕ → FilesRead
missing file name = if ends_with nat_eq name (codes ".local") then Ok [] else Err (MissingInclude file name)

abbrev pub if_there : (List ℕ → FilesRead) → FilesRead → Option (List ℕ) → FilesRead
if_there read missing None = missing
if_there read missing (Some content) = read content

-- what a name in `file` adds, where the files on `way` are being read
abbrev pub included : Files → (List ℕ → List ℕ → FilesRead) → List (List ℕ) → List ℕ → List ℕ → FilesRead
included files read way file name =
    if is_outside name then Err (MissingInclude file name)
    else if is_among way (directory file ++ name) then Err (IncludeLoop (directory file ++ name))
    else if_there (read (directory file ++ name)) (missing file name) (value_of (directory file ++ name) files)

-- the sections of a file, with what it includes
abbrev pub with_includes : (List ℕ → FilesRead) → Sections → FilesRead
with_includes include file =
    followed (in_turn include (includes file (codes "before")))
    (followed (Ok (file ∷ [])) (in_turn include (includes file (codes "after"))))

abbrev pub if_well_formed : List ℕ → (Sections → FilesRead) → Result Sections IniError → FilesRead
if_well_formed file read (Err error) = Err (Ini file error)
if_well_formed file read (Ok sections) = read sections

-- the files that are read with this one, where those on `way` are being read, the innermost first. A way on which no file stands
-- twice is not longer than there are files: so `left`, at first their number, never comes to its end.
unfoldable pub read_with : Files → ℕ → List (List ℕ) → List ℕ → List ℕ → FilesRead
read_with files zero way path content = Err (IncludeLoop path)
read_with files (suc left) way path content =
    if_well_formed path (with_includes (included files (read_with files left (path ∷ way)) (path ∷ way) path)) (file_of content)

-- a file of the base, where it is there
abbrev pub base_file : Files → List ℕ → FilesRead
base_file files path = if_there (read_with files (length files) [] path) (Ok []) (value_of path files)

-- all files that are read for a base, in order
unfoldable pub all_read : Files → List ℕ → FilesRead
all_read files base = in_turn (base_file files) (base_files files base)

-- Merging.

abbrev pub joined_all : FilesRead → Result Sections MergeError
joined_all (Err error) = Err error
joined_all (Ok files) = Ok (fold joined [] files)

-- what the files of a base come to among these, or the first fault
unfoldable pub merged_in : Files → List ℕ → Result Sections MergeError
merged_in files base = joined_all (all_read files base)

abbrev pub merged : Tree → List ℕ → Result Sections MergeError
merged tree base = merged_in (files_of tree) base
