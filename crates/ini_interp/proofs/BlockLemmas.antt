-- What one more line does to the blocks of a file and to the entries of a section.
use Rattle.std.proofs.Common.{◌≡◌, ℕ, List, [], ◌∷◌, ◌++◌, refl, sym, ap, ap₂, ◌∙◌, append_assoc}
use Rattle.std.specs.List.{join_with_byte}
use Rattle.std.specs.Str.{str_to_ascii_lowercase}
use Rattle.ini_interp.specs.Lines.{Form, Nothing, Opens, Continues, Sets, Broken}
use Rattle.ini_interp.specs.Files.{before_header, blocks, continued, entries}
use Rattle.ini_interp.specs.Sections.{Items}

-- Blocks.

pub before_header-opens : (lines : List Form) (section : List ℕ) → before_header (lines ++ Opens section ∷ []) ≡ before_header lines
before_header-opens [] section = refl
before_header-opens (Nothing ∷ lines) section = ap (λ l. Nothing ∷ l) (before_header-opens lines section)
before_header-opens (Opens other ∷ lines) section = refl
before_header-opens (Continues value ∷ lines) section = ap (λ l. Continues value ∷ l) (before_header-opens lines section)
before_header-opens (Sets name value ∷ lines) section = ap (λ l. Sets name value ∷ l) (before_header-opens lines section)
before_header-opens (Broken ∷ lines) section = ap (λ l. Broken ∷ l) (before_header-opens lines section)

-- a header begins a block
pub blocks-opens : (lines : List Form) (section : List ℕ) → blocks (lines ++ Opens section ∷ []) ≡ blocks lines ++ (section, []) ∷ []
blocks-opens [] section = refl
blocks-opens (Nothing ∷ lines) section = blocks-opens lines section
blocks-opens (Opens other ∷ lines) section = ap₂ (λ body more. (other, body) ∷ more) (before_header-opens lines section) (blocks-opens lines section)
blocks-opens (Continues value ∷ lines) section = blocks-opens lines section
blocks-opens (Sets name value ∷ lines) section = blocks-opens lines section
blocks-opens (Broken ∷ lines) section = blocks-opens lines section

-- another line goes to the last block
abbrev pub onto_last : Form → List (List ℕ × List Form) → List (List ℕ × List Form)
onto_last line [] = []
onto_last line (block ∷ []) = (block.0, block.1 ++ line ∷ []) ∷ []
onto_last line (block ∷ next ∷ more) = block ∷ onto_last line (next ∷ more)

-- the lines before the first header of a list that has these blocks, with one more
abbrev pub more_before : Form → List (List ℕ × List Form) → List Form → List Form
more_before line [] front = front ++ line ∷ []
more_before line (block ∷ more) front = front

-- a line that is no header
pub record IsPlain (line : Form) : Type 0 where
  pub body : before_header (line ∷ []) ≡ line ∷ []
  pub none : blocks (line ∷ []) ≡ []

onto_first : (line : Form) (section : List ℕ) (front : List Form) (more : List (List ℕ × List Form)) →
    (section, more_before line more front) ∷ onto_last line more ≡ onto_last line ((section, front) ∷ more)
onto_first line section front [] = refl
onto_first line section front (block ∷ more) = refl

more_before-cons : (line first : Form) (front : List Form) (more : List (List ℕ × List Form)) → first ∷ more_before line more front ≡ more_before line more (first ∷ front)
more_before-cons line first front [] = refl
more_before-cons line first front (block ∷ more) = refl

pub before_header-line : (lines : List Form) (line : Form) → IsPlain line → before_header (lines ++ line ∷ []) ≡ more_before line (blocks lines) (before_header lines)
before_header-line [] line plain = plain.body
before_header-line (Nothing ∷ lines) line plain = ap (λ l. Nothing ∷ l) (before_header-line lines line plain) ∙ more_before-cons line Nothing (before_header lines) (blocks lines)
before_header-line (Opens other ∷ lines) line plain = refl
before_header-line (Continues value ∷ lines) line plain = ap (λ l. Continues value ∷ l) (before_header-line lines line plain) ∙ more_before-cons line (Continues value) (before_header lines) (blocks lines)
before_header-line (Sets name value ∷ lines) line plain = ap (λ l. Sets name value ∷ l) (before_header-line lines line plain) ∙ more_before-cons line (Sets name value) (before_header lines) (blocks lines)
before_header-line (Broken ∷ lines) line plain = ap (λ l. Broken ∷ l) (before_header-line lines line plain) ∙ more_before-cons line Broken (before_header lines) (blocks lines)

pub blocks-line : (lines : List Form) (line : Form) → IsPlain line → blocks (lines ++ line ∷ []) ≡ onto_last line (blocks lines)
blocks-line [] line plain = plain.none
blocks-line (Nothing ∷ lines) line plain = blocks-line lines line plain
blocks-line (Opens other ∷ lines) line plain =
    ap₂ (λ body more. (other, body) ∷ more) (before_header-line lines line plain) (blocks-line lines line plain) ∙ onto_first line other (before_header lines) (blocks lines)
blocks-line (Continues value ∷ lines) line plain = blocks-line lines line plain
blocks-line (Sets name value ∷ lines) line plain = blocks-line lines line plain
blocks-line (Broken ∷ lines) line plain = blocks-line lines line plain

-- Entries.

pub continued-sets : (lines : List Form) (name value : List ℕ) → continued (lines ++ Sets name value ∷ []) ≡ continued lines
continued-sets [] name value = refl
continued-sets (Nothing ∷ lines) name value = continued-sets lines name value
continued-sets (Opens other ∷ lines) name value = continued-sets lines name value
continued-sets (Continues text ∷ lines) name value = ap (λ l. text ∷ l) (continued-sets lines name value)
continued-sets (Sets other text ∷ lines) name value = refl
continued-sets (Broken ∷ lines) name value = continued-sets lines name value

-- an item is a further entry
pub entries-sets : (lines : List Form) (name value : List ℕ) → entries (lines ++ Sets name value ∷ []) ≡ entries lines ++ (str_to_ascii_lowercase name, value) ∷ []
entries-sets [] name value = refl
entries-sets (Nothing ∷ lines) name value = entries-sets lines name value
entries-sets (Opens other ∷ lines) name value = entries-sets lines name value
entries-sets (Continues text ∷ lines) name value = entries-sets lines name value
entries-sets (Sets other text ∷ lines) name value =
    ap₂ (λ texts more. (str_to_ascii_lowercase other, join_with_byte 10 (text ∷ texts)) ∷ more) (continued-sets lines name value) (entries-sets lines name value)
entries-sets (Broken ∷ lines) name value = entries-sets lines name value

-- a line that says nothing
pub continued-nothing : (lines : List Form) → continued (lines ++ Nothing ∷ []) ≡ continued lines
continued-nothing [] = refl
continued-nothing (Nothing ∷ lines) = continued-nothing lines
continued-nothing (Opens other ∷ lines) = continued-nothing lines
continued-nothing (Continues text ∷ lines) = ap (λ l. text ∷ l) (continued-nothing lines)
continued-nothing (Sets other text ∷ lines) = refl
continued-nothing (Broken ∷ lines) = continued-nothing lines

pub entries-nothing : (lines : List Form) → entries (lines ++ Nothing ∷ []) ≡ entries lines
entries-nothing [] = refl
entries-nothing (Nothing ∷ lines) = entries-nothing lines
entries-nothing (Opens other ∷ lines) = entries-nothing lines
entries-nothing (Continues text ∷ lines) = entries-nothing lines
entries-nothing (Sets other text ∷ lines) =
    ap₂ (λ texts more. (str_to_ascii_lowercase other, join_with_byte 10 (text ∷ texts)) ∷ more) (continued-nothing lines) (entries-nothing lines)
entries-nothing (Broken ∷ lines) = entries-nothing lines

-- a line that is none of them
pub continued-broken : (lines : List Form) → continued (lines ++ Broken ∷ []) ≡ continued lines
continued-broken [] = refl
continued-broken (Nothing ∷ lines) = continued-broken lines
continued-broken (Opens other ∷ lines) = continued-broken lines
continued-broken (Continues text ∷ lines) = ap (λ l. text ∷ l) (continued-broken lines)
continued-broken (Sets other text ∷ lines) = refl
continued-broken (Broken ∷ lines) = continued-broken lines

pub entries-broken : (lines : List Form) → entries (lines ++ Broken ∷ []) ≡ entries lines
entries-broken [] = refl
entries-broken (Nothing ∷ lines) = entries-broken lines
entries-broken (Opens other ∷ lines) = entries-broken lines
entries-broken (Continues text ∷ lines) = entries-broken lines
entries-broken (Sets other text ∷ lines) =
    ap₂ (λ texts more. (str_to_ascii_lowercase other, join_with_byte 10 (text ∷ texts)) ∷ more) (continued-broken lines) (entries-broken lines)
entries-broken (Broken ∷ lines) = entries-broken lines

-- a further text goes to the last entry
abbrev pub onto_last_value : List ℕ → Items → Items
onto_last_value text [] = []
onto_last_value text (entry ∷ []) = (entry.0, entry.1 ++ 10 ∷ text) ∷ []
onto_last_value text (entry ∷ next ∷ more) = entry ∷ onto_last_value text (next ∷ more)

-- the texts before the first item of a list that has these entries, with one more
abbrev pub more_texts : List ℕ → Items → List (List ℕ) → List (List ℕ)
more_texts text [] texts = texts ++ text ∷ []
more_texts text (entry ∷ more) texts = texts

more_texts-cons : (text first : List ℕ) (texts : List (List ℕ)) (more : Items) → first ∷ more_texts text more texts ≡ more_texts text more (first ∷ texts)
more_texts-cons text first texts [] = refl
more_texts-cons text first texts (entry ∷ more) = refl

joined-more : (value text : List ℕ) (texts : List (List ℕ)) → join_with_byte 10 (value ∷ (texts ++ text ∷ [])) ≡ join_with_byte 10 (value ∷ texts) ++ 10 ∷ text
joined-more value text [] = refl
joined-more value text (next ∷ texts) =
    ap (λ l. value ++ 10 ∷ l) (joined-more next text texts) ∙ sym (append_assoc value (10 ∷ join_with_byte 10 (next ∷ texts)) (10 ∷ text))

onto_first_value : (text name value : List ℕ) (texts : List (List ℕ)) (more : Items) →
    (name, join_with_byte 10 (value ∷ more_texts text more texts)) ∷ onto_last_value text more ≡ onto_last_value text ((name, join_with_byte 10 (value ∷ texts)) ∷ more)
onto_first_value text name value texts [] = ap (λ v. (name, v) ∷ []) (joined-more value text texts)
onto_first_value text name value texts (entry ∷ more) = refl

pub continued-continues : (lines : List Form) (text : List ℕ) → continued (lines ++ Continues text ∷ []) ≡ more_texts text (entries lines) (continued lines)
continued-continues [] text = refl
continued-continues (Nothing ∷ lines) text = continued-continues lines text
continued-continues (Opens other ∷ lines) text = continued-continues lines text
continued-continues (Continues first ∷ lines) text = ap (λ l. first ∷ l) (continued-continues lines text) ∙ more_texts-cons text first (continued lines) (entries lines)
continued-continues (Sets other value ∷ lines) text = refl
continued-continues (Broken ∷ lines) text = continued-continues lines text

pub entries-continues : (lines : List Form) (text : List ℕ) → entries (lines ++ Continues text ∷ []) ≡ onto_last_value text (entries lines)
entries-continues [] text = refl
entries-continues (Nothing ∷ lines) text = entries-continues lines text
entries-continues (Opens other ∷ lines) text = entries-continues lines text
entries-continues (Continues first ∷ lines) text = entries-continues lines text
entries-continues (Sets other value ∷ lines) text =
    ap₂ (λ texts more. (str_to_ascii_lowercase other, join_with_byte 10 (value ∷ texts)) ∷ more) (continued-continues lines text) (entries-continues lines text)
    ∙ onto_first_value text (str_to_ascii_lowercase other) value (continued lines) (entries lines)
entries-continues (Broken ∷ lines) text = entries-continues lines text
