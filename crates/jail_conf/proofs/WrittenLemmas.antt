-- What is written as a name with options is read as it, and nothing else is.
use Rattle.std.proofs.Common.{◌≡◌, ℕ, suc, ◌+◌, true, false, cond, not, List, [], ◌∷◌, ◌++◌, length, take, drop, codes, None, Some, refl, sym, ap, ◌∙◌, append_assoc, arith}
use Rattle.std.specs.List.{position_or_len, before_first}
use Rattle.std.specs.Str.{str_to_ascii_lowercase}
use Rattle.std.proofs.lemmas.Bool.{and_parts}
use Rattle.std.proofs.lemmas.Bool.Decides.{nat_tests}
use Rattle.std.proofs.lemmas.List.{append-nil}
use Rattle.std.proofs.lemmas.List.Recursion.{is_position_or_len}
use Rattle.std.proofs.Math.Seq.{take-append_seam, drop-append_seam}
use Rattle.ini_interp.specs.Lines.{is_blank, trimmed}
use Rattle.ini_interp.specs.Sections.{Items}
use Rattle.jail_conf.specs.declared.options.Named.{Named}
use Rattle.jail_conf.specs.Options.{Place, Outside, Key, Value, Closed, read_byte, options_from, ends_value, behind_value, IsPlain, opens, from_first, groups, named, ReadsAs, ReadsOption}
use Rattle.jail_conf.specs.Words.{is_among_bytes, HasNone}
use Rattle.jail_conf.specs.WrittenOptions.{AreBlanks, IsValue, plain, quoted, IsKey, AreOptions, last, more, AreGroups, none, group, IsNamed, NamesNothing}
use Rattle.jail_conf.proofs.OptionLemmas.{step, outside_stays, value_stays, closed_stays, key_ends, quote_opens, quoted_ends, plain_ends}

-- ---- what is written is read

module _ (place : Place) (stays : (byte : ℕ) (options : Items) → is_blank byte ≡ true →
    read_byte place byte (record { place = place; options = options }) ≡ record { place = place; options = options }) where
  blanks_read : (blanks rest : List ℕ) → AreBlanks blanks → ReadsAs place (blanks ++ rest) place rest
  blanks_read [] rest are options = refl
  blanks_read (byte ∷ blanks) rest are options =
      step place byte (blanks ++ rest) options place options (stays byte options (and_parts _ _ are).0) ∙ blanks_read blanks rest (and_parts _ _ are).1 options

ends_plain : (end : ℕ) (text rest : List ℕ) → IsPlain text → ends_value end ≡ true → IsPlain (text ++ end ∷ rest)
ends_plain end [] rest is ends = grind (arith, nat_tests, ends)
ends_plain end (byte ∷ text) rest is ends = is

pub closed_ends : (end : ℕ) (options : Items) → ends_value end ≡ true →
    read_byte Closed end (record { place = Closed; options = options }) ≡ record { place = behind_value end; options = options }
closed_ends end options ends = let blank : is_blank end ≡ false = grind (arith, nat_tests, ends) in rw blank refl

own_quote : (quote : ℕ) → is_among_bytes (quote ∷ []) quote ≡ true
own_quote quote = grind (arith, nat_tests)

value_read : (end : ℕ) (key value text rest : List ℕ) → IsValue value text → ends_value end ≡ true → ReadsOption (Value key) (text ++ end ∷ rest) key value (behind_value end) rest
value_read end key value text rest (plain before shown blanks is alone) ends options =
    ap (options_from (Value key) options) (append_assoc before shown (end ∷ rest))
    ∙ (blanks_read (Value key) (value_stays key) before (shown ++ end ∷ rest) blanks options
    ∙ plain_ends end key shown rest (ends_plain end shown rest is ends) alone ends options)
value_read end key value text rest (quoted quote before inner behind is blanks alone closing) ends options =
    let shape : (before ++ quote ∷ (inner ++ quote ∷ behind)) ++ end ∷ rest ≡ before ++ quote ∷ (inner ++ quote ∷ (behind ++ end ∷ rest)) = simp append_assoc in
    ap (options_from (Value key) options) shape
    ∙ (blanks_read (Value key) (value_stays key) before (quote ∷ (inner ++ quote ∷ (behind ++ end ∷ rest))) blanks options
    ∙ (quote_opens quote key (inner ++ quote ∷ (behind ++ end ∷ rest)) is options
    ∙ (quoted_ends quote quote key inner (behind ++ end ∷ rest) alone (own_quote quote) options
    ∙ (blanks_read Closed closed_stays behind (end ∷ rest) closing (options ++ (str_to_ascii_lowercase key, inner) ∷ [])
    ∙ step Closed end rest (options ++ (str_to_ascii_lowercase key, inner) ∷ []) (behind_value end) (options ++ (str_to_ascii_lowercase key, inner) ∷ [])
    (closed_ends end (options ++ (str_to_ascii_lowercase key, inner) ∷ []) ends)))))

option_read : (end : ℕ) (key value text rest : List ℕ) → IsKey key → IsValue value text → ends_value end ≡ true →
    ReadsOption (Key []) (key ++ 61 ∷ (text ++ end ∷ rest)) (trimmed key) value (behind_value end) rest
option_read end key value text rest is written ends options =
    key_ends key (text ++ end ∷ rest) is.alone is.some options ∙ value_read end (trimmed key) value text rest written ends options

options_read : (items : Items) (text rest : List ℕ) → AreOptions items text → (options : Items) → options_from (Key []) options (text ++ rest) ≡ options_from Outside (options ++ items) rest
options_read items text rest (last key value shown is written) options =
    let shape : (key ++ 61 ∷ (shown ++ 93 ∷ [])) ++ rest ≡ key ++ 61 ∷ (shown ++ 93 ∷ rest) = simp append_assoc in
    ap (options_from (Key []) options) shape ∙ option_read 93 key value shown rest is written refl options
options_read items text rest (more key value shown others texts is written left) options =
    let shape : (key ++ 61 ∷ (shown ++ 44 ∷ texts)) ++ rest ≡ key ++ 61 ∷ (shown ++ 44 ∷ (texts ++ rest)) = simp append_assoc in
    ap (options_from (Key []) options) shape
    ∙ (option_read 44 key value shown (texts ++ rest) is written refl options
    ∙ (options_read others texts rest left (options ++ (str_to_ascii_lowercase (trimmed key), value) ∷ [])
    ∙ ap (λ items. options_from Outside items rest) (append_assoc options ((str_to_ascii_lowercase (trimmed key), value) ∷ []) others)))

groups_read : (items : Items) (text : List ℕ) → AreGroups items text → (options : Items) → options_from Outside options text ≡ Some (options ++ items)
groups_read items text none options = ap Some (sym (append-nil options))
groups_read items text (group first shown behind others texts are blanks left) options =
    options_read first shown (behind ++ texts) are options
    ∙ (blanks_read Outside outside_stays behind texts blanks (options ++ first)
    ∙ (groups_read others texts left (options ++ first) ∙ ap Some (append_assoc options first others)))

-- ---- the name in front

other_byte : (byte : ℕ) → not (is_among_bytes (codes "[") byte) ≡ true → opens byte ≡ false
other_byte byte alone = grind (arith, nat_tests, alone)

-- how many bytes stand before the first `[`
abbrev pub before_open : List ℕ → ℕ
before_open [] = 0
before_open (byte ∷ text) = cond (opens byte) 0 (1 + before_open text)

pub before_open_is : (text : List ℕ) → before_open text ≡ position_or_len opens text
before_open_is text = is_position_or_len before_open opens refl (λ byte rest. refl) text

name_length : (items : Items) (front rest : List ℕ) → HasNone (codes "[") front → AreGroups items rest → before_open (front ++ rest) ≡ length front
name_length items [] rest alone none = refl
name_length items [] rest alone (group first shown behind others texts are blanks left) = refl
name_length items (byte ∷ front) rest alone are =
    let other : opens byte ≡ false = other_byte byte (and_parts _ _ alone).0 in
    let more : 1 + length front ≡ suc (length front) = omega arith in
    ap (λ first. cond first 0 (1 + before_open (front ++ rest))) other ∙ (ap (λ n. 1 + n) (name_length items front rest (and_parts _ _ alone).1 are) ∙ more)

pub written_is_read : (found : Named) (text : List ℕ) → IsNamed found text → named text ≡ Some found
unfolding named
written_is_read found text is =
    let place : position_or_len opens text ≡ length is.front = ap (position_or_len opens) is.whole ∙ (sym (before_open_is (is.front ++ is.groups)) ∙ name_length found.options is.front is.groups is.alone is.options) in
    let front : before_first opens text ≡ is.front = ap (λ n. take n text) place ∙ (ap (take (length is.front)) is.whole ∙ take-append_seam is.front is.groups) in
    let behind : from_first text ≡ is.groups = ap (λ n. drop n text) place ∙ (ap (drop (length is.front)) is.whole ∙ drop-append_seam is.front is.groups) in
    let options : groups (from_first text) ≡ Some found.options = ap groups behind ∙ groups_read found.options is.groups is.options [] in
    let name : trimmed (before_first opens text) ≡ found.name = ap trimmed front ∙ sym is.name in
    rw (options, name, is.some) refl

pub names_nothing : (text : List ℕ) → named text ≡ None → NamesNothing text
names_nothing text refused found is = let read = written_is_read found text is in cc
