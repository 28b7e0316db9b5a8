-- What is kept behind some lines is what they mean so far.
use Rattle.std.proofs.Common.{◌≡◌, ℕ, zero, suc, ◌+◌, ◌==◌, false, cond, List, [], ◌∷◌, ◌++◌, length, map, fold, Option, None, Some, is_none, option_map, option_and_then, true≢false, ne_eqb, arith, refl, sym, ap, ap₂, ◌∙◌, append_assoc, append-nil}
use Rattle.std.proofs.lemmas.List.{map-append}
use Rattle.std.proofs.lemmas.List.Sums.{fold_push}
use Rattle.std.proofs.lemmas.Option.{none-some}
use Rattle.std.specs.List.{last_or}
use Rattle.std.specs.Option.{option_map_or}
use Rattle.std.specs.Str.{str_to_ascii_lowercase}
use Rattle.ini_interp.specs.declared.error.IniError.TheVariants.{NoSection, Indent}
use Rattle.ini_interp.specs.Files.{blocks, lines_or_none, lines_in, with_block, gathered, entries, items_in, sections_of, open_section, open_lines, fault}
use Rattle.ini_interp.specs.Kept.{Kept, Read, place_of, at_place, changed_at, changed, with_item, last_value, with_more, kept_or_none, without_last, with_open, with_changed, with_line, open_kept, open_value, fault_of}
use Rattle.ini_interp.specs.Lines.{Form, Nothing, Opens, Continues, Sets, Broken}
use Rattle.ini_interp.specs.Sections.{Items, value_of, with_value}
use Rattle.ini_interp.proofs.BlockLemmas.{IsPlain, onto_last, onto_last_value, blocks-opens, blocks-line, entries-sets, entries-nothing, entries-broken, entries-continues}
use Rattle.ini_interp.proofs.Named.{some_value, value_of-with_value, with_value-again, place_of-with_value, changed_at-place_of, at_place_of, place_of-changed_at, valued, valued-with_value, value_of-valued, place_of-valued}

-- The last of a list.

last_or-push : {A : Type 0} (o : Option A) (xs : List A) (x : A) → last_or o (xs ++ x ∷ []) ≡ Some x
last_or-push o [] x = refl
last_or-push o (y ∷ xs) x = last_or-push (Some y) xs x

last_or-some : {A : Type 0} (x : A) (xs : List A) → is_none (last_or (Some x) xs) ≡ false
last_or-some x [] = refl
last_or-some x (y ∷ xs) = last_or-some y xs

-- what an option's name gives
by_name : {A : Type 0} (f : List ℕ → A) (o : Option (List ℕ × List ℕ)) (name : List ℕ) → option_map (λ e. e.0) o ≡ Some name → option_map (λ e. f e.0) o ≡ Some (f name)
by_name f None name is = absurd (none-some _ is)
by_name f (Some e) name is = ap (λ n. Some (f n)) (some_value e.0 name is)

-- Items.

-- the items that entries make
abbrev pub items_from : Items → Items → Items
items_from items es = fold (λ items item. with_value item.0 item.1 items) items es

-- what is kept of entries
abbrev pub kept_of : Items → Kept
kept_of es = record { items = items_from [] es; last = option_map (λ e. place_of e.0 (items_from [] es)) (last_or None es) }

-- what is kept of the lines of a section
abbrev pub block_of : List Form → Kept
block_of lines = kept_of (entries lines)

-- the last entry is there
last_there : (items es : Items) (e : List ℕ × List ℕ) → last_or None es ≡ Some e → value_of e.0 (items_from items es) ≡ Some e.1
last_there items [] e is = absurd (none-some _ is)
last_there items (first ∷ []) e is = rw (some_value first e is) (value_of-with_value e.0 e.1 items)
last_there items (first ∷ next ∷ es) e is = last_there (with_value first.0 first.1 items) (next ∷ es) e is

-- a text that goes to the last entry goes to the item that was set last
more_items : (text : List ℕ) (items es : Items) (e : List ℕ × List ℕ) → last_or None es ≡ Some e →
    changed_at (λ value. value ++ 10 ∷ text) (items_from items es) (place_of e.0 (items_from items es)) ≡ items_from items (onto_last_value text es)
more_items text items [] e is = absurd (none-some _ is)
more_items text items (first ∷ []) e is =
    rw (some_value first e is)
    (changed_at-place_of (λ value. value ++ 10 ∷ text) e.0 e.1 (with_value e.0 e.1 items) (value_of-with_value e.0 e.1 items) ∙ with_value-again e.0 e.1 (e.1 ++ 10 ∷ text) items)
more_items text items (first ∷ next ∷ es) e is = more_items text (with_value first.0 first.1 items) (next ∷ es) e is

last_more : (text : List ℕ) (es : Items) → option_map (λ e. e.0) (last_or None (onto_last_value text es)) ≡ option_map (λ e. e.0) (last_or None es)
last_more text [] = refl
last_more text (first ∷ []) = refl
last_more text (first ∷ next ∷ []) = refl
last_more text (first ∷ next ∷ more ∷ es) = last_more text (next ∷ more ∷ es)

-- What one more line does to what is kept of a section.

pub block_of-sets : (lines : List Form) (name value : List ℕ) → with_item (str_to_ascii_lowercase name) value (block_of lines) ≡ block_of (lines ++ Sets name value ∷ [])
block_of-sets lines name value =
    let low = str_to_ascii_lowercase name in
    let es = entries lines in
    let items : with_value low value (items_from [] es) ≡ items_from [] (es ++ (low, value) ∷ []) = sym (fold_push (λ items item. with_value item.0 item.1 items) [] es (low, value)) in
    let place : place_of low (items_from [] es) ≡ place_of low (items_from [] (es ++ (low, value) ∷ [])) = sym (place_of-with_value low value (items_from [] es)) ∙ ap (place_of low) items in
    let last : Some (place_of low (items_from [] es)) ≡ option_map (λ e. place_of e.0 (items_from [] (es ++ (low, value) ∷ []))) (last_or None (es ++ (low, value) ∷ [])) =
    ap Some place ∙ ap (option_map (λ e. place_of e.0 (items_from [] (es ++ (low, value) ∷ [])))) (sym (last_or-push None es (low, value))) in
    let made : with_item low value (kept_of es) ≡ kept_of (es ++ (low, value) ∷ []) = λ i. record { items = items i; last = last i } in
    made ∙ ap kept_of (sym (entries-sets lines name value))

more_kept : (text : List ℕ) (es : Items) (last : Option (List ℕ × List ℕ)) → last_or None es ≡ last → with_more text (kept_of es) ≡ kept_of (onto_last_value text es)
more_kept text [] last is = refl
more_kept text (first ∷ es) None is = absurd (true≢false (sym (ap is_none is) ∙ last_or-some first es))
more_kept text (first ∷ es) (Some e) is =
    let all = first ∷ es in
    let more : List ℕ → List ℕ = λ value. value ++ 10 ∷ text in
    let named : option_map (λ e. place_of e.0 (items_from [] all)) (last_or None all) ≡ Some (place_of e.0 (items_from [] all)) =
    ap (option_map (λ e. place_of e.0 (items_from [] all))) is in
    let items : changed more (items_from [] all) (option_map (λ e. place_of e.0 (items_from [] all)) (last_or None all)) ≡ items_from [] (onto_last_value text all) =
    ap (changed more (items_from [] all)) named ∙ more_items text [] all e is in
    let same : place_of e.0 (items_from [] all) ≡ place_of e.0 (items_from [] (onto_last_value text all)) =
    sym (place_of-changed_at more e.0 (items_from [] all) (place_of e.0 (items_from [] all))) ∙ ap (place_of e.0) (more_items text [] all e is) in
    let name : option_map (λ e. e.0) (last_or None (onto_last_value text all)) ≡ Some e.0 = last_more text all ∙ ap (option_map (λ e. e.0)) is in
    let last : option_map (λ e. place_of e.0 (items_from [] all)) (last_or None all) ≡ option_map (λ e. place_of e.0 (items_from [] (onto_last_value text all))) (last_or None (onto_last_value text all)) =
    named ∙ ap Some same ∙ sym (by_name (λ n. place_of n (items_from [] (onto_last_value text all))) (last_or None (onto_last_value text all)) e.0 name) in
    λ i. record { items = items i; last = last i }

pub block_of-continues : (lines : List Form) (text : List ℕ) → with_more text (block_of lines) ≡ block_of (lines ++ Continues text ∷ [])
block_of-continues lines text = more_kept text (entries lines) (last_or None (entries lines)) refl ∙ ap kept_of (sym (entries-continues lines text))

-- whether there is a value that was set last
last_kept : (es : Items) (last : Option (List ℕ × List ℕ)) → last_or None es ≡ last → is_none (last_value (kept_of es)) ≡ (length es == 0)
last_kept [] last is = refl
last_kept (first ∷ es) None is = absurd (true≢false (sym (ap is_none is) ∙ last_or-some first es))
last_kept (first ∷ es) (Some e) is =
    let all = first ∷ es in
    ap (λ o. is_none (at_place (items_from [] all) (option_map (λ e. place_of e.0 (items_from [] all)) o))) is
    ∙ ap is_none (at_place_of e.0 (items_from [] all) ∙ last_there [] all e is) ∙ sym (ne_eqb (length all) 0 (λ none. absurd (omega arith)))

-- Sections.

-- the last block is there
block_there : (sections bs : List (List ℕ × List Form)) (section : List ℕ) → last_or None (map (λ block. block.0) bs) ≡ Some section →
    value_of section (fold with_block sections bs) ≡ Some (lines_in section (fold with_block sections bs))
block_there sections [] section is = absurd (none-some _ is)
block_there sections (block ∷ []) section is =
    let same : block.0 ≡ section = some_value block.0 section is in
    let lines = lines_in block.0 sections ++ block.1 in
    let there : value_of block.0 (with_block sections block) ≡ Some lines = value_of-with_value block.0 lines sections in
    rw (← same) (there ∙ ap Some (ap lines_or_none (sym there)))
block_there sections (block ∷ next ∷ bs) section is = block_there (with_block sections block) (next ∷ bs) section is

-- a line that goes to the last block goes to the section that is open
block_more : (line : Form) (sections bs : List (List ℕ × List Form)) (section : List ℕ) → last_or None (map (λ block. block.0) bs) ≡ Some section →
    fold with_block sections (onto_last line bs) ≡ with_value section (lines_in section (fold with_block sections bs) ++ line ∷ []) (fold with_block sections bs)
block_more line sections [] section is = absurd (none-some _ is)
block_more line sections (block ∷ []) section is =
    let same : block.0 ≡ section = some_value block.0 section is in
    let lines = lines_in block.0 sections ++ block.1 in
    let there : lines_in block.0 (with_block sections block) ≡ lines = ap lines_or_none (value_of-with_value block.0 lines sections) in
    rw (← same)
    (ap (λ l. with_value block.0 l sections) (sym (append_assoc (lines_in block.0 sections) block.1 (line ∷ [])))
    ∙ sym (with_value-again block.0 lines (lines ++ line ∷ []) sections)
    ∙ ap (λ l. with_value block.0 (l ++ line ∷ []) (with_block sections block)) (sym there))
block_more line sections (block ∷ next ∷ bs) section is = block_more line (with_block sections block) (next ∷ bs) section is

no_block : (line : Form) (bs : List (List ℕ × List Form)) → last_or None (map (λ block. block.0) bs) ≡ None → onto_last line bs ≡ bs
no_block line [] is = refl
no_block line (block ∷ bs) is = absurd (true≢false (sym (ap is_none is) ∙ last_or-some block.0 (map (λ block. block.0) bs)))

same_names : (line : Form) (bs : List (List ℕ × List Form)) → map (λ block. block.0) (onto_last line bs) ≡ map (λ block. block.0) bs
same_names line [] = refl
same_names line (block ∷ []) = refl
same_names line (block ∷ next ∷ bs) = ap (λ l. block.0 ∷ l) (same_names line (next ∷ bs))

pub open_section-opens : (lines : List Form) (section : List ℕ) → open_section (lines ++ Opens section ∷ []) ≡ Some section
open_section-opens lines section =
    ap (λ bs. last_or None (map (λ block. block.0) bs)) (blocks-opens lines section)
    ∙ ap (last_or None) (map-append (λ block. block.0) (blocks lines) ((section, []) ∷ []))
    ∙ last_or-push None (map (λ block. block.0) (blocks lines)) section

pub open_section-line : (lines : List Form) (line : Form) → IsPlain line → open_section (lines ++ line ∷ []) ≡ open_section lines
open_section-line lines line plain =
    ap (λ bs. last_or None (map (λ block. block.0) bs)) (blocks-line lines line plain) ∙ ap (last_or None) (same_names line (blocks lines))

pub gathered-opens : (lines : List Form) (section : List ℕ) → gathered (lines ++ Opens section ∷ []) ≡ with_value section (lines_in section (gathered lines)) (gathered lines)
gathered-opens lines section =
    ap (fold with_block []) (blocks-opens lines section) ∙ fold_push with_block [] (blocks lines) (section, [])
    ∙ ap (λ l. with_value section l (gathered lines)) (append-nil (lines_in section (gathered lines)))

pub gathered-line : (lines : List Form) (line : Form) (section : List ℕ) → IsPlain line → open_section lines ≡ Some section →
    gathered (lines ++ line ∷ []) ≡ with_value section (lines_in section (gathered lines) ++ line ∷ []) (gathered lines)
gathered-line lines line section plain is = ap (fold with_block []) (blocks-line lines line plain) ∙ block_more line [] (blocks lines) section is

pub gathered-none : (lines : List Form) (line : Form) → IsPlain line → open_section lines ≡ None → gathered (lines ++ line ∷ []) ≡ gathered lines
gathered-none lines line plain is = ap (fold with_block []) (blocks-line lines line plain ∙ no_block line (blocks lines) is)

-- What is read.

-- what is read behind some lines
abbrev pub read_of : List Form → Read
read_of lines = record { sections = valued block_of (gathered lines); at = option_map (λ section. place_of section (gathered lines)) (open_section lines) }

kept_lines : (found : Option (List Form)) → block_of (lines_or_none found) ≡ kept_or_none (option_map block_of found)
kept_lines None = refl
kept_lines (Some lines) = refl

pub read_of-opens : (lines : List Form) (section : List ℕ) → with_open section (read_of lines) ≡ read_of (lines ++ Opens section ∷ [])
read_of-opens lines section =
    let g = gathered lines in
    let kept : block_of (lines_in section g) ≡ kept_or_none (value_of section (valued block_of g)) = kept_lines (value_of section g) ∙ ap kept_or_none (sym (value_of-valued block_of section g)) in
    let sections : with_value section (kept_or_none (value_of section (valued block_of g))) (valued block_of g) ≡ valued block_of (gathered (lines ++ Opens section ∷ [])) =
    ap (λ k. with_value section k (valued block_of g)) (sym kept) ∙ sym (valued-with_value block_of section (lines_in section g) g) ∙ ap (valued block_of) (sym (gathered-opens lines section)) in
    let place : place_of section (valued block_of g) ≡ place_of section (gathered (lines ++ Opens section ∷ [])) =
    place_of-valued block_of section g ∙ sym (place_of-with_value section (lines_in section g) g) ∙ ap (place_of section) (sym (gathered-opens lines section)) in
    let at : Some (place_of section (valued block_of g)) ≡ option_map (λ s. place_of s (gathered (lines ++ Opens section ∷ []))) (open_section (lines ++ Opens section ∷ [])) =
    ap Some place ∙ ap (option_map (λ s. place_of s (gathered (lines ++ Opens section ∷ [])))) (sym (open_section-opens lines section)) in
    λ i. record { sections = sections i; at = at i }

-- a line that changes the open section
read_of-line : (lines : List Form) (line : Form) (change : Kept → Kept) (found : Option (List ℕ)) → IsPlain line → open_section lines ≡ found →
    ((ls : List Form) → change (block_of ls) ≡ block_of (ls ++ line ∷ [])) → with_changed change (read_of lines) ≡ read_of (lines ++ line ∷ [])
read_of-line lines line change None plain is changes =
    let g = gathered lines in
    let none : option_map (λ s. place_of s g) (open_section lines) ≡ None = ap (option_map (λ s. place_of s g)) is in
    let same = gathered-none lines line plain is in
    let sections : changed change (valued block_of g) (option_map (λ s. place_of s g) (open_section lines)) ≡ valued block_of (gathered (lines ++ line ∷ [])) =
    ap (changed change (valued block_of g)) none ∙ ap (valued block_of) (sym same) in
    let at : option_map (λ s. place_of s g) (open_section lines) ≡ option_map (λ s. place_of s (gathered (lines ++ line ∷ []))) (open_section (lines ++ line ∷ [])) =
    ap₂ (λ h o. option_map (λ s. place_of s h) o) (sym same) (sym (open_section-line lines line plain)) in
    λ i. record { sections = sections i; at = at i }
read_of-line lines line change (Some section) plain is changes =
    let g = gathered lines in
    let more = gathered-line lines line section plain is in
    let named : option_map (λ s. place_of s g) (open_section lines) ≡ Some (place_of section g) = ap (option_map (λ s. place_of s g)) is in
    let there : value_of section (valued block_of g) ≡ Some (block_of (lines_in section g)) =
    value_of-valued block_of section g ∙ ap (option_map block_of) (block_there [] (blocks lines) section is) in
    let sections : changed change (valued block_of g) (option_map (λ s. place_of s g) (open_section lines)) ≡ valued block_of (gathered (lines ++ line ∷ [])) =
    ap (changed change (valued block_of g)) (named ∙ ap Some (sym (place_of-valued block_of section g)))
    ∙ changed_at-place_of change section (block_of (lines_in section g)) (valued block_of g) there
    ∙ ap (λ k. with_value section k (valued block_of g)) (changes (lines_in section g))
    ∙ sym (valued-with_value block_of section (lines_in section g ++ line ∷ []) g) ∙ ap (valued block_of) (sym more) in
    let at : option_map (λ s. place_of s g) (open_section lines) ≡ option_map (λ s. place_of s (gathered (lines ++ line ∷ []))) (open_section (lines ++ line ∷ [])) =
    named ∙ ap Some (sym (place_of-with_value section (lines_in section g ++ line ∷ []) g) ∙ ap (place_of section) (sym more))
    ∙ ap (option_map (λ s. place_of s (gathered (lines ++ line ∷ [])))) (sym (open_section-line lines line plain ∙ is)) in
    λ i. record { sections = sections i; at = at i }

-- a change that changes nothing
unchanged_at : {V : Type 0} (es : List (List ℕ × V)) (place : ℕ) → changed_at (λ v. v) es place ≡ es
unchanged_at [] place = refl
unchanged_at (e ∷ es) zero = refl
unchanged_at (e ∷ es) (suc place) = ap (λ l. e ∷ l) (unchanged_at es place)

unchanged : (read : Read) → with_changed (λ kept. kept) read ≡ read
unchanged read = λ i. record { sections = same read.at i; at = read.at }
  where
    same : (at : Option ℕ) → changed (λ kept. kept) read.sections at ≡ read.sections
    same None = refl
    same (Some place) = unchanged_at read.sections place

-- what is read behind one more line
pub read_of-more : (lines : List Form) (line : Form) → with_line line (read_of lines) ≡ read_of (lines ++ line ∷ [])
read_of-more lines Nothing =
    sym (unchanged (read_of lines)) ∙ read_of-line lines Nothing (λ kept. kept) (open_section lines) (record { body = refl; none = refl }) refl (λ ls. ap kept_of (sym (entries-nothing ls)))
read_of-more lines (Opens section) = read_of-opens lines section
read_of-more lines (Continues text) = read_of-line lines (Continues text) (with_more text) (open_section lines) (record { body = refl; none = refl }) refl (λ ls. block_of-continues ls text)
read_of-more lines (Sets name value) =
    read_of-line lines (Sets name value) (with_item (str_to_ascii_lowercase name) value) (open_section lines) (record { body = refl; none = refl }) refl (λ ls. block_of-sets ls name value)
read_of-more lines Broken =
    sym (unchanged (read_of lines)) ∙ read_of-line lines Broken (λ kept. kept) (open_section lines) (record { body = refl; none = refl }) refl (λ ls. ap kept_of (sym (entries-broken ls)))

-- Faults.

-- what is kept of the section that is open
open_there : (lines : List Form) (section : List ℕ) → open_section lines ≡ Some section → open_kept (read_of lines) ≡ Some (block_of (lines_in section (gathered lines)))
open_there lines section is =
    let g = gathered lines in
    ap (λ o. at_place (valued block_of g) (option_map (λ s. place_of s g) o)) is
    ∙ ap (λ n. at_place (valued block_of g) (Some n)) (sym (place_of-valued block_of section g))
    ∙ at_place_of section (valued block_of g) ∙ value_of-valued block_of section g ∙ ap (option_map block_of) (block_there [] (blocks lines) section is)

-- whether a section is open
open_is : (lines : List Form) (found : Option (List ℕ)) → open_section lines ≡ found → is_none (open_kept (read_of lines)) ≡ is_none (open_section lines)
open_is lines None is =
    ap (λ o. is_none (at_place (valued block_of (gathered lines)) (option_map (λ s. place_of s (gathered lines)) o))) is ∙ ap is_none (sym is)
open_is lines (Some section) is = ap is_none (open_there lines section is) ∙ ap is_none (sym is)

-- whether an item was set in it
set_is : (lines : List Form) (found : Option (List ℕ)) → open_section lines ≡ found → is_none (open_value (read_of lines)) ≡ (length (entries (open_lines lines)) == 0)
set_is lines None is =
    ap (λ o. is_none (option_and_then last_value (at_place (valued block_of (gathered lines)) (option_map (λ s. place_of s (gathered lines)) o)))) is
    ∙ ap (λ o. length (entries (option_map_or (λ s. lines_in s (gathered lines)) o [])) == 0) (sym is)
set_is lines (Some section) is =
    ap (λ o. is_none (option_and_then last_value o)) (open_there lines section is)
    ∙ last_kept (entries (lines_in section (gathered lines))) (last_or None (entries (lines_in section (gathered lines)))) refl
    ∙ ap (λ o. length (entries (option_map_or (λ s. lines_in s (gathered lines)) o [])) == 0) (sym is)

-- the fault of a line is that which its reader finds
pub fault_of-read : (lines : List Form) (line : Form) → fault_of line (length lines + 1) (read_of lines) ≡ fault lines line
fault_of-read lines Nothing = refl
fault_of-read lines (Opens section) = refl
fault_of-read lines (Continues text) = ap (λ b. cond b (Some (Indent (length lines + 1))) None) (set_is lines (open_section lines) refl)
fault_of-read lines (Sets name value) = ap (λ b. cond b (Some (NoSection (length lines + 1))) None) (open_is lines (open_section lines) refl)
fault_of-read lines Broken = refl

-- the sections that are read are those that the lines mean
pub sections-read : (lines : List Form) → without_last (read_of lines).sections ≡ sections_of lines
sections-read lines = fused (gathered lines)
  where
    fused : (g : List (List ℕ × List Form)) → without_last (valued block_of g) ≡ valued items_in g
    fused [] = refl
    fused (s ∷ g) = ap (λ l. (s.0, items_in s.1) ∷ l) (fused g)
