-- The names in sections that several files come to, and the faults that are told.
use Rattle.std.proofs.Common.{◌≡◌, ◌≢◌, ℕ, zero, suc, ◌+◌, ◌==◌, not, Bool, true, false, cond, List, [], ◌∷◌, ◌++◌, map, length, Option, None, Some, is_none, Result, Ok, Err, refl, sym, ap, subst, ◌∙◌}
use Rattle.std.proofs.lemmas.List.Elements.{All-from_recursion, recursion_from_All}
use Rattle.std.specs.List.{All, AllByRecursion as Each, fold, flat_map}
use Rattle.std.specs.Prelude.{codes, nat_eq}
use Rattle.std.specs.List.{ends_with}
use Rattle.std.specs.Result.{IfOk, IfErr}
use Rattle.std.specs.Str.{bytes_eq, is_utf8, str_to_ascii_lowercase}
use Rattle.std.specs.Str.Lines.{lines}
use Rattle.std.specs.Str.Lossy.{utf8_valid_len}
use Rattle.ini_interp.specs.declared.error.IniError.{IniError}
use Rattle.ini_interp.specs.declared.error.IniError.TheVariants.{NoSection, Indent, NotUtf8, NoMemory}
use Rattle.ini_interp.specs.declared.merge_error.MergeError.{MergeError}
use Rattle.ini_interp.specs.declared.merge_error.MergeError.TheVariants.{Ini, MissingInclude}
use Rattle.ini_interp.specs.declared.merge_error.MergeError.TheVariants as merge
use Rattle.ini_interp.specs.AreSections.{has_bracket, AreItems, AreSections}
use Rattle.ini_interp.specs.Files.{fault, first_fault, or_else, entries, open_lines, open_section, unless_at_fault, meaning_of, file_of}
use Rattle.ini_interp.specs.InTurn.{followed, in_turn}
use Rattle.ini_interp.specs.Joins.{Setting, Opens, Sets, section_settings, settings, without_includes, with_setting, joined}
use Rattle.ini_interp.specs.Known.{known_replaced}
use Rattle.ini_interp.specs.Lines.{Form, form_of}
use Rattle.ini_interp.specs.Lines as lines
use Rattle.ini_interp.specs.Merges.{Files, FilesRead, includes, included, missing, if_there, if_well_formed, with_includes, read_with, base_file, base_files, all_read, joined_all, merged_in, is_outside, is_among, directory}
use Rattle.ini_interp.specs.Sections.{Items, Sections, value_of, with_value, items_of, items_or_none, opened, with_raw}
use Rattle.ini_interp.proofs.CaseLemmas.{lowercase-again}
use Rattle.ini_interp.proofs.AreSectionsLemmas.{each-with_value, apart-with_value, each-value_of, fold-keeps, each-append, items-with_value, no_items, no_sections, file_are, ok_is}

-- Settings.

-- a section that is set
put-keeps : (section : List ℕ) (items : Items) (sections : Sections) → has_bracket section ≡ false → AreItems items → AreSections sections →
    AreSections (with_value section items sections)
put-keeps section items sections named new are = record {
  apart = apart-with_value section items sections are.apart;
  no_bracket =
      All-from_recursion _ (with_value section items sections)
      (each-with_value (λ section. has_bracket section.0 ≡ false) section items sections named (recursion_from_All _ sections are.no_bracket));
  items =
      All-from_recursion _ (with_value section items sections)
      (each-with_value (λ section. AreItems section.1) section items sections new (recursion_from_All _ sections are.items));
}

items_of_are : (section : List ℕ) (sections : Sections) → AreSections sections → AreItems (items_of section sections)
unfolding items_of
items_of_are section sections are = by (value_of section sections) refl
  where
    by : (items : Option Items) → value_of section sections ≡ items → AreItems (items_or_none items)
    by None there = no_items
    by (Some items) there = each-value_of AreItems section items sections (recursion_from_All _ sections are.items) there

-- the section that a setting is of
abbrev pub section_of : Setting → List ℕ
section_of (Opens section) = section
section_of (Sets section name value) = section

setting-keeps : (sections : Sections) (setting : Setting) → AreSections sections → has_bracket (section_of setting) ≡ false → AreSections (with_setting sections setting)
unfolding opened with_raw
setting-keeps sections (Opens section) are named = put-keeps section (items_of section sections) sections named (items_of_are section sections are) are
setting-keeps sections (Sets section name value) are named =
    put-keeps section (with_value (str_to_ascii_lowercase name) value (items_of section sections)) sections named
    (items-with_value (str_to_ascii_lowercase name) value (items_of section sections) (lowercase-again name) (items_of_are section sections are)) are

-- what the sections of a file have, the sections of its settings have
module _ (P : List ℕ → Type 0) (before : Sections) where
  pub section-each : (section : List ℕ × Items) → P section.0 → Each (λ setting. P (section_of setting)) (section_settings before section)
  section-each section is = (is, by section.1)
    where
      by : (items : Items) → Each (λ setting. P (section_of setting)) (map (λ item. Sets section.0 item.0 (known_replaced before section.0 item.1)) items)
      by [] = tt
      by (item ∷ items) = (is, by items)

  pub settings-each : (file : Sections) → Each (λ section. bytes_eq section.0 (codes "INCLUDES") ≡ false → P section.0) file →
      Each (λ setting. P (section_of setting)) (settings before file)
  settings-each [] each = tt
  settings-each (section ∷ file) each = by (bytes_eq section.0 (codes "INCLUDES")) refl (settings-each file each.1)
    where
      by : (b : Bool) → bytes_eq section.0 (codes "INCLUDES") ≡ b → Each (λ setting. P (section_of setting)) (settings before file) →
          Each (λ setting. P (section_of setting)) (flat_map (section_settings before) (cond (not b) (section ∷ without_includes file) (without_includes file)))
      by true is rest = rest
      by false is rest =
          each-append (λ setting. P (section_of setting)) (section_settings before section) (settings before file) (section-each section (each.0 is)) rest

each-weaker : {X : Type 0} (P Q : X → Type 0) → ((x : X) → P x → Q x) → (xs : List X) → Each P xs → Each Q xs
each-weaker P Q weaker [] each = tt
each-weaker P Q weaker (x ∷ xs) each = (weaker x each.0, each-weaker P Q weaker xs each.1)

-- a file laid over sections
pub joined_are : (before file : Sections) → AreSections before → AreSections file → AreSections (joined before file)
unfolding joined
joined_are before file are new =
    fold-keeps AreSections (λ setting. has_bracket (section_of setting) ≡ false) with_setting setting-keeps (settings before file) before
    (settings-each (λ name. has_bracket name ≡ false) before file
    (each-weaker _ _ (λ section named not_includes. named) file (recursion_from_All _ file new.no_bracket))) are

-- Faults.

-- want of memory is no fault of a line
abbrev IsLineFault : Option IniError → Type 0
IsLineFault fault = fault ≢ Some NoMemory

fault_is : (before : List Form) (line : Form) → IsLineFault (fault before line)
fault_is before lines.Nothing = λ is. cc
fault_is before (lines.Opens section) = λ is. cc
fault_is before (lines.Continues value) = by (length (entries (open_lines before)) == 0)
  where
    by : (b : Bool) → IsLineFault (cond b (Some (Indent (length before + 1))) None)
    by true = λ is. cc
    by false = λ is. cc
fault_is before (lines.Sets name value) = by (is_none (open_section before))
  where
    by : (b : Bool) → IsLineFault (cond b (Some (NoSection (length before + 1))) None)
    by true = λ is. cc
    by false = λ is. cc
fault_is before lines.Broken = λ is. cc

first_fault_is : (before rest : List Form) → IsLineFault (first_fault before rest)
first_fault_is before [] = λ is. cc
first_fault_is before (line ∷ rest) = by (fault before line) (fault_is before line) (first_fault_is (before ++ line ∷ []) rest)
  where
    by : (first : Option IniError) → IsLineFault first → IsLineFault (first_fault (before ++ line ∷ []) rest) → IsLineFault (or_else first (first_fault (before ++ line ∷ []) rest))
    by None first later = later
    by (Some error) first later = first

meaning_fault : (lines : List Form) → meaning_of lines ≢ Err NoMemory
unfolding meaning_of
meaning_fault lines = by (first_fault [] lines) (first_fault_is [] lines)
  where
    same : (error : IniError) → unless_at_fault lines (Some error) ≡ Err NoMemory → Some error ≡ Some NoMemory
    same error is = cc

    by : (fault : Option IniError) → IsLineFault fault → unless_at_fault lines fault ≢ Err NoMemory
    by None line = λ is. cc
    by (Some error) line = λ is. line (same error is)

file_fault : (bytes : List ℕ) → file_of bytes ≢ Err NoMemory
unfolding file_of
file_fault bytes = by (is_utf8 bytes) (meaning_fault (map form_of (lines bytes)))
  where
    by : (b : Bool) → meaning_of (map form_of (lines bytes)) ≢ Err NoMemory → cond b (meaning_of (map form_of (lines bytes))) (Err (NotUtf8 (utf8_valid_len bytes))) ≢ Err NoMemory
    by true means = means
    by false means = λ is. cc

-- Files.

-- want of memory is no fault of a file
abbrev pub IsTold : MergeError → Type 0
IsTold fault = (file : List ℕ) → fault ≢ Ini file NoMemory

-- each file that is read has well-formed names, and a fault is told
abbrev AreRead : FilesRead → Type 0
AreRead (Ok files) = Each AreSections files
AreRead (Err fault) = IsTold fault

followed_are : (first then : FilesRead) → AreRead first → AreRead then → AreRead (followed first then)
followed_are (Err fault) then told all = told
followed_are (Ok files) (Err fault) each told = told
followed_are (Ok files) (Ok more) each all = each-append AreSections files more each all

in_turn_are : (give : List ℕ → FilesRead) → ((name : List ℕ) → AreRead (give name)) → (names : List (List ℕ)) → AreRead (in_turn give names)
in_turn_are give each [] = tt
in_turn_are give each (name ∷ names) = followed_are (give name) (in_turn give names) (each name) (in_turn_are give each names)

one_of_both : (b : Bool) (one other : FilesRead) → AreRead one → AreRead other → AreRead (cond b one other)
one_of_both true one other first second = first
one_of_both false one other first second = second

if_there_are : (read : List ℕ → FilesRead) (gone : FilesRead) (content : Option (List ℕ)) → ((content : List ℕ) → AreRead (read content)) → AreRead gone → AreRead (if_there read gone content)
if_there_are read gone None all none = none
if_there_are read gone (Some content) all none = all content

included_are : (files : Files) (read : List ℕ → List ℕ → FilesRead) (way : List (List ℕ)) (file name : List ℕ) →
    ((path content : List ℕ) → AreRead (read path content)) → AreRead (included files read way file name)
included_are files read way file name all =
    one_of_both (is_outside name) _ _ (λ other is. cc)
    (one_of_both (is_among way (directory file ++ name)) _ _ (λ other is. cc)
    (if_there_are (read (directory file ++ name)) (missing file name) (value_of (directory file ++ name) files) (all (directory file ++ name))
    (one_of_both (ends_with nat_eq name (codes ".local")) (Ok []) (Err (MissingInclude file name)) tt (λ other is. cc))))

with_includes_are : (include : List ℕ → FilesRead) → ((name : List ℕ) → AreRead (include name)) → (path content : List ℕ) →
    AreRead (if_well_formed path (with_includes include) (file_of content))
with_includes_are include all path content = by (file_of content) refl
  where
    same : (error : IniError) (other : List ℕ) → Ini path error ≡ Ini other NoMemory → error ≡ NoMemory
    same error other is = cc

    by : (file : Result Sections IniError) → file_of content ≡ file → AreRead (if_well_formed path (with_includes include) file)
    by (Err error) means = λ other is. file_fault content (means ∙ ap (λ (e : IniError). Err e) (same error other is))
    by (Ok file) means =
        followed_are (in_turn include (includes file (codes "before"))) _ (in_turn_are include all (includes file (codes "before")))
        (followed_are (Ok (file ∷ [])) (in_turn include (includes file (codes "after"))) (file_are content file means, tt)
        (in_turn_are include all (includes file (codes "after"))))

read_with_are : (files : Files) (left : ℕ) (way : List (List ℕ)) (path content : List ℕ) → AreRead (read_with files left way path content)
unfolding read_with
read_with_are files zero way path content = λ other is. cc
read_with_are files (suc left) way path content =
    with_includes_are (included files (read_with files left (path ∷ way)) (path ∷ way) path)
    (λ name. included_are files (read_with files left (path ∷ way)) (path ∷ way) path name (read_with_are files left (path ∷ way))) path content

all_read_are : (files : Files) (base : List ℕ) → AreRead (all_read files base)
unfolding all_read
all_read_are files base =
    in_turn_are (base_file files)
    (λ path. if_there_are (read_with files (length files) [] path) (Ok []) (value_of path files) (read_with_are files (length files) [] path) tt)
    (base_files files base)

pub files_are : (files : Files) (base : List ℕ) (all : List Sections) → all_read files base ≡ Ok all → All AreSections all
files_are files base all comes = by (all_read files base) (all_read_are files base) comes
  where
    by : (read : FilesRead) → AreRead read → read ≡ Ok all → All AreSections all
    by (Err fault) told is = cc
    by (Ok files) each is = subst (All AreSections) (ok_is {E = MergeError} (Ok files) files all refl is) (All-from_recursion AreSections files each)

-- what the files of a base come to
pub merged_are : (files : Files) (base : List ℕ) (sections : Sections) → merged_in files base ≡ Ok sections → AreSections sections
unfolding merged_in
merged_are files base sections comes = by (all_read files base) (all_read_are files base) comes
  where
    by : (read : FilesRead) → AreRead read → joined_all read ≡ Ok sections → AreSections sections
    by (Err fault) told is = cc
    by (Ok all) each is =
        subst AreSections (ok_is {E = MergeError} (joined_all (Ok all)) (fold joined [] all) sections refl is)
        (fold-keeps AreSections AreSections joined joined_are all [] each no_sections)

pub merged_told : (files : Files) (base : List ℕ) (fault : MergeError) → merged_in files base ≡ Err fault → IsTold fault
unfolding merged_in
merged_told files base fault comes = by (all_read files base) (all_read_are files base) comes
  where
    same : (one : MergeError) → joined_all (Err one) ≡ Err fault → one ≡ fault
    same one is = cc

    by : (read : FilesRead) → AreRead read → joined_all read ≡ Err fault → IsTold fault
    by (Err other) told is = subst IsTold (same other is) told
    by (Ok all) each is = cc

-- what is answered
pub named_answer : (base : List ℕ) (files : Files) (result : Result Sections MergeError) →
    IfOk result (λ (sections : Sections). merged_in files base ≡ Ok sections) → IfOk result AreSections
named_answer base files (Ok sections) comes = merged_are files base sections comes
named_answer base files (Err fault) comes = tt

pub told_answer : (base : List ℕ) (files : Files) (result : Result Sections MergeError) →
    IfErr result (λ (fault : MergeError). fault ≢ merge.NoMemory → merged_in files base ≡ Err fault) →
    IfErr result (λ (fault : MergeError). (file : List ℕ) → fault ≢ Ini file NoMemory)
told_answer base files (Ok sections) comes = tt
told_answer base files (Err fault) comes = λ file is. merged_told files base fault (comes (λ memory. differ file (sym is ∙ memory))) file is
  where
    differ : (file : List ℕ) → Ini file NoMemory ≢ merge.NoMemory
    differ file = λ same. cc
