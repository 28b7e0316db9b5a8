-- How a name's options are read, part by part.
use Rattle.std.proofs.Common.{◌≡◌, ◌≢◌, ℕ, suc, ◌+◌, ◌<◌, Bool, true, false, cond, not, ◌==◌, ◌||◌, List, [], ◌∷◌, ◌++◌, length, drop, codes, subst, length-drop, get_or, slice_index, unwrap_or, length-append, ◌≤◌, Option, None, Some, IfNone, IfSome, refl, sym, ap, ◌∙◌, append_assoc, ne_eqb, arith}
use Rattle.std.specs.List.{prefix_len, position_or_len}
use denote.Bor.{Bor}
use Rattle.std.specs.Option.{MatchOption}
use Rattle.std.proofs.lemmas.List.Sums.{position_or_len_is}
use Rattle.std.specs.Str.{str_to_ascii_lowercase}
use Rattle.std.proofs.lemmas.List.{append-nil}
use Rattle.std.proofs.lemmas.Bool.{and_parts}
use Rattle.std.proofs.lemmas.Bool.Decides.{nat_tests}
use Rattle.ini_interp.specs.Lines.{is_blank, trimmed_start, trimmed_end, trimmed}
use Rattle.ini_interp.specs.Sections.{Items}
use Rattle.jail_conf.specs.Options.{Place, Outside, Key, Value, Plain, Quoted, Closed, Nowhere, read_byte, outcome, options_from, is_quote, ends_value, behind_value, behind, begins_plain, IsPlain, opens, groups, ReadsNothing, ReadsAs, ReadsOption}
use Rattle.jail_conf.specs.declared.options.Given.{Given}
use Rattle.jail_conf.specs.Sources.{percents_doubled}
use Rattle.jail_conf.specs.Times.{begins_with}
use Rattle.jail_conf.specs.Words.{is_among_bytes, HasNone, is_empty}

pub if_none : {A : Type 0} (o : Option A) {P : Type 0} → P → IfNone o P
if_none None p = p
if_none (Some x) p = tt

-- one byte
pub step : (place : Place) (byte : ℕ) (rest : List ℕ) (options : Items) (next : Place) (more : Items) →
    read_byte place byte (record { place = place; options = options }) ≡ record { place = next; options = more } →
    options_from place options (byte ∷ rest) ≡ options_from next more rest
step place byte rest options next more reads = ap (λ reading. outcome reading rest) reads

none_first : (bytes : List ℕ) (byte : ℕ) (text : List ℕ) → HasNone bytes (byte ∷ text) → not (is_among_bytes bytes byte) ≡ true
none_first bytes byte text none = (and_parts _ _ none).0

none_rest : (bytes : List ℕ) (byte : ℕ) (text : List ℕ) → HasNone bytes (byte ∷ text) → HasNone bytes text
none_rest bytes byte text none = (and_parts _ _ none).1

-- at what is no option nothing is read any more
pub nowhere : (text : List ℕ) → ReadsNothing Nowhere text
nowhere [] options = refl
nowhere (byte ∷ text) options = nowhere text options

-- ---- blanks

module _ (place : Place) (stays : (byte : ℕ) (options : Items) → is_blank byte ≡ true →
    read_byte place byte (record { place = place; options = options }) ≡ record { place = place; options = options }) where
  -- where they change nothing
  over_blanks : (text : List ℕ) → ReadsAs place text place (trimmed_start text)
  unfolding trimmed_start
  over_blanks [] options = refl
  over_blanks (byte ∷ text) options = by (is_blank byte) refl (over_blanks text options)
    where
      by : (blank : Bool) → is_blank byte ≡ blank → options_from place options text ≡ options_from place options (drop (prefix_len is_blank text) text) →
          options_from place options (byte ∷ text) ≡ options_from place options (drop (cond blank (1 + prefix_len is_blank text) 0) (byte ∷ text))
      by false is rest = refl
      by true is rest =
          let more : suc (prefix_len is_blank text) ≡ 1 + prefix_len is_blank text = omega arith in
          step place byte text options place options (stays byte options is) ∙ (rest ∙ ap (λ n. options_from place options (drop n (byte ∷ text))) more)

pub outside_stays : (byte : ℕ) (options : Items) → is_blank byte ≡ true → read_byte Outside byte (record { place = Outside; options = options }) ≡ record { place = Outside; options = options }
outside_stays byte options blank = let other : (byte == 91) ≡ false = grind (arith, nat_tests, blank) in rw (other, blank) refl

pub value_stays : (key : List ℕ) (byte : ℕ) (options : Items) → is_blank byte ≡ true → read_byte (Value key) byte (record { place = Value key; options = options }) ≡ record { place = Value key; options = options }
value_stays key byte options blank = rw blank refl

pub closed_stays : (byte : ℕ) (options : Items) → is_blank byte ≡ true → read_byte Closed byte (record { place = Closed; options = options }) ≡ record { place = Closed; options = options }
closed_stays byte options blank = rw blank refl

pub outside_trimmed : (text : List ℕ) → ReadsAs Outside text Outside (trimmed_start text)
outside_trimmed = over_blanks Outside outside_stays

pub value_trimmed : (key text : List ℕ) → ReadsAs (Value key) text (Value key) (trimmed_start text)
value_trimmed key = over_blanks (Value key) (value_stays key)

pub closed_trimmed : (text : List ℕ) → ReadsAs Closed text Closed (trimmed_start text)
closed_trimmed = over_blanks Closed closed_stays

-- ---- keys

abbrev pub key_stops : List ℕ
key_stops = codes "=,[]\"'"

-- a byte of a key is none of the others
key_byte : (byte : ℕ) (done : List ℕ) (options : Items) → not (is_among_bytes key_stops byte) ≡ true →
    read_byte (Key done) byte (record { place = Key done; options = options }) ≡ record { place = Key (done ++ byte ∷ []); options = options }
key_byte byte done options among =
    let equals : (byte == 61) ≡ false = grind (arith, nat_tests, among) in
    let others : (ends_value byte || byte == 91 || is_quote byte) ≡ false = grind (arith, nat_tests, among) in
    rw (equals, others) refl

key_broken : (byte : ℕ) (done : List ℕ) (options : Items) → is_among_bytes key_stops byte ≡ true → byte ≢ 61 →
    read_byte (Key done) byte (record { place = Key done; options = options }) ≡ record { place = Nowhere; options = options }
key_broken byte done options among other =
    let equals : (byte == 61) ≡ false = ne_eqb byte 61 other in
    let others : (ends_value byte || byte == 91 || is_quote byte) ≡ true = grind (arith, nat_tests, among, other) in
    rw (equals, others) refl

pub key_run : (key done rest : List ℕ) → HasNone key_stops key → ReadsAs (Key done) (key ++ rest) (Key (done ++ key)) rest
key_run [] done rest none options = ap (λ key. options_from (Key key) options rest) (sym (append-nil done))
key_run (byte ∷ key) done rest none options =
    step (Key done) byte (key ++ rest) options (Key (done ++ byte ∷ [])) options (key_byte byte done options (none_first key_stops byte key none))
    ∙ (key_run key (done ++ byte ∷ []) rest (none_rest key_stops byte key none) options
    ∙ ap (λ key. options_from (Key key) options rest) (append_assoc done (byte ∷ []) key))

-- a key that ends at `=`
pub key_ends : (key rest : List ℕ) → HasNone key_stops key → is_empty (trimmed key) ≡ false → ReadsAs (Key []) (key ++ 61 ∷ rest) (Value (trimmed key)) rest
key_ends key rest none some options = key_run key [] (61 ∷ rest) none options ∙ ap (λ b. options_from (cond b Nowhere (Value (trimmed key))) options rest) some

pub key_empty : (key rest : List ℕ) → HasNone key_stops key → is_empty (trimmed key) ≡ true → ReadsNothing (Key []) (key ++ 61 ∷ rest)
key_empty key rest none empty options =
    key_run key [] (61 ∷ rest) none options ∙ (ap (λ b. options_from (cond b Nowhere (Value (trimmed key))) options rest) empty ∙ nowhere rest options)

-- at another byte, or nowhere
pub key_breaks : (key rest : List ℕ) (byte : ℕ) → HasNone key_stops key → is_among_bytes key_stops byte ≡ true → byte ≢ 61 → ReadsNothing (Key []) (key ++ byte ∷ rest)
key_breaks key rest byte none among other options =
    key_run key [] (byte ∷ rest) none options ∙ (step (Key key) byte rest options Nowhere options (key_broken byte key options among other) ∙ nowhere rest options)

pub key_alone : (key : List ℕ) → HasNone key_stops key → ReadsNothing (Key []) key
key_alone key none options = ap (options_from (Key []) options) (sym (append-nil key)) ∙ key_run key [] [] none options

-- ---- values in quotes

quoted_byte : (quote byte : ℕ) (key done : List ℕ) (options : Items) → not (is_among_bytes (quote ∷ []) byte) ≡ true →
    read_byte (Quoted quote key done) byte (record { place = Quoted quote key done; options = options }) ≡ record { place = Quoted quote key (done ++ byte ∷ []); options = options }
quoted_byte quote byte key done options among = let other : (byte == quote) ≡ false = grind (arith, nat_tests, among) in rw other refl

quoted_closed : (quote byte : ℕ) (key done : List ℕ) (options : Items) → is_among_bytes (quote ∷ []) byte ≡ true →
    read_byte (Quoted quote key done) byte (record { place = Quoted quote key done; options = options })
    ≡ record { place = Closed; options = options ++ (str_to_ascii_lowercase key, done) ∷ [] }
quoted_closed quote byte key done options among = let same : (byte == quote) ≡ true = grind (arith, nat_tests, among) in rw same refl

quoted_run : (quote : ℕ) (key value done rest : List ℕ) → HasNone (quote ∷ []) value → ReadsAs (Quoted quote key done) (value ++ rest) (Quoted quote key (done ++ value)) rest
quoted_run quote key [] done rest none options = ap (λ value. options_from (Quoted quote key value) options rest) (sym (append-nil done))
quoted_run quote key (byte ∷ value) done rest none options =
    step (Quoted quote key done) byte (value ++ rest) options (Quoted quote key (done ++ byte ∷ [])) options
    (quoted_byte quote byte key done options (none_first (quote ∷ []) byte value none))
    ∙ (quoted_run quote key value (done ++ byte ∷ []) rest (none_rest (quote ∷ []) byte value none) options
    ∙ ap (λ value. options_from (Quoted quote key value) options rest) (append_assoc done (byte ∷ []) value))

-- to its closing quote
pub quoted_ends : (quote end : ℕ) (key value rest : List ℕ) → HasNone (quote ∷ []) value → is_among_bytes (quote ∷ []) end ≡ true →
    ReadsOption (Quoted quote key []) (value ++ end ∷ rest) key value Closed rest
quoted_ends quote end key value rest none among options =
    quoted_run quote key value [] (end ∷ rest) none options
    ∙ step (Quoted quote key value) end rest options Closed (options ++ (str_to_ascii_lowercase key, value) ∷ []) (quoted_closed quote end key value options among)

pub quoted_open : (quote : ℕ) (key value : List ℕ) → HasNone (quote ∷ []) value → ReadsNothing (Quoted quote key []) value
quoted_open quote key value none options =
    ap (options_from (Quoted quote key []) options) (sym (append-nil value)) ∙ quoted_run quote key value [] [] none options

quote_read : (quote : ℕ) (key : List ℕ) (options : Items) → is_quote quote ≡ true →
    read_byte (Value key) quote (record { place = Value key; options = options }) ≡ record { place = Quoted quote key []; options = options }
quote_read quote key options is = let blank : is_blank quote ≡ false = grind (arith, nat_tests, is) in rw (blank, is) refl

-- it begins
pub quote_opens : (quote : ℕ) (key rest : List ℕ) → is_quote quote ≡ true → ReadsAs (Value key) (quote ∷ rest) (Quoted quote key []) rest
quote_opens quote key rest is options = step (Value key) quote rest options (Quoted quote key []) options (quote_read quote key options is)

pub closed_broken : (byte : ℕ) (options : Items) → is_blank byte ≡ false → (byte == 44) ≡ false → (byte == 93) ≡ false →
    read_byte Closed byte (record { place = Closed; options = options }) ≡ record { place = Nowhere; options = options }
closed_broken byte options blank first second = rw (blank, first, second) refl

-- behind it
pub closed_breaks : (text : List ℕ) → begins_with is_blank text ≡ false → ((rest : List ℕ) → text ≢ 44 ∷ rest) → ((rest : List ℕ) → text ≢ 93 ∷ rest) → ReadsNothing Closed text
closed_breaks [] blank comma bracket options = refl
closed_breaks (byte ∷ text) blank comma bracket options =
    let first : (byte == 44) ≡ false = ne_eqb byte 44 (λ same. comma text (ap (λ b. b ∷ text) same)) in
    let second : (byte == 93) ≡ false = ne_eqb byte 93 (λ same. bracket text (ap (λ b. b ∷ text) same)) in
    step Closed byte text options Nowhere options (closed_broken byte options blank first second) ∙ nowhere text options

-- ---- plain values

abbrev pub plain_stops : List ℕ
plain_stops = codes ",]\"'"

plain_byte : (byte : ℕ) (key done : List ℕ) (options : Items) → not (is_among_bytes plain_stops byte) ≡ true →
    read_byte (Plain key done) byte (record { place = Plain key done; options = options }) ≡ record { place = Plain key (done ++ byte ∷ []); options = options }
plain_byte byte key done options among =
    let ends : ends_value byte ≡ false = grind (arith, nat_tests, among) in
    let quote : is_quote byte ≡ false = grind (arith, nat_tests, among) in
    rw (ends, quote) refl

plain_closed : (byte : ℕ) (key done : List ℕ) (options : Items) → ends_value byte ≡ true →
    read_byte (Plain key done) byte (record { place = Plain key done; options = options })
    ≡ record { place = behind_value byte; options = options ++ (str_to_ascii_lowercase key, trimmed done) ∷ [] }
plain_closed byte key done options ends = rw ends refl

plain_broken : (byte : ℕ) (key done : List ℕ) (options : Items) → is_quote byte ≡ true →
    read_byte (Plain key done) byte (record { place = Plain key done; options = options }) ≡ record { place = Nowhere; options = options }
plain_broken byte key done options is = let ends : ends_value byte ≡ false = grind (arith, nat_tests, is) in rw (ends, is) refl

plain_run : (key value done rest : List ℕ) → HasNone plain_stops value → ReadsAs (Plain key done) (value ++ rest) (Plain key (done ++ value)) rest
plain_run key [] done rest none options = ap (λ value. options_from (Plain key value) options rest) (sym (append-nil done))
plain_run key (byte ∷ value) done rest none options =
    step (Plain key done) byte (value ++ rest) options (Plain key (done ++ byte ∷ [])) options (plain_byte byte key done options (none_first plain_stops byte value none))
    ∙ (plain_run key value (done ++ byte ∷ []) rest (none_rest plain_stops byte value none) options
    ∙ ap (λ value. options_from (Plain key value) options rest) (append_assoc done (byte ∷ []) value))

trimmed-nil : trimmed [] ≡ []
unfolding trimmed_start trimmed_end
trimmed-nil = refl

quote_no_plain : (quote : ℕ) → not (is_blank quote || is_quote quote) ≡ true → is_quote quote ≡ true → ⊥
quote_no_plain quote plain is = grind (arith, nat_tests, plain, is)

-- its first byte
plain_first : (byte : ℕ) (key : List ℕ) (options : Items) → not (is_blank byte || is_quote byte) ≡ true → not (is_among_bytes plain_stops byte) ≡ true →
    read_byte (Value key) byte (record { place = Value key; options = options }) ≡ record { place = Plain key (byte ∷ []); options = options }
plain_first byte key options plain among =
    let blank : is_blank byte ≡ false = grind (arith, nat_tests, plain) in
    let quote : is_quote byte ≡ false = grind (arith, nat_tests, plain) in
    let ends : ends_value byte ≡ false = grind (arith, nat_tests, among) in
    rw (blank, quote, ends) refl

-- an empty one
plain_empty : (end : ℕ) (key : List ℕ) (options : Items) → ends_value end ≡ true →
    read_byte (Value key) end (record { place = Value key; options = options })
    ≡ record { place = behind_value end; options = options ++ (str_to_ascii_lowercase key, []) ∷ [] }
plain_empty end key options ends =
    let blank : is_blank end ≡ false = grind (arith, nat_tests, ends) in
    let quote : is_quote end ≡ false = grind (arith, nat_tests, ends) in
    rw (blank, quote, ends) refl

-- to its comma or bracket
pub plain_ends : (end : ℕ) (key value rest : List ℕ) → begins_plain (value ++ end ∷ rest) ≡ true → HasNone plain_stops value → ends_value end ≡ true →
    ReadsOption (Value key) (value ++ end ∷ rest) key (trimmed value) (behind_value end) rest
plain_ends end key [] rest plain none ends options =
    step (Value key) end rest options (behind_value end) (options ++ (str_to_ascii_lowercase key, []) ∷ []) (plain_empty end key options ends)
    ∙ ap (λ value. options_from (behind_value end) (options ++ (str_to_ascii_lowercase key, value) ∷ []) rest) (sym trimmed-nil)
plain_ends end key (byte ∷ value) rest plain none ends options =
    step (Value key) byte (value ++ end ∷ rest) options (Plain key (byte ∷ [])) options (plain_first byte key options plain (none_first plain_stops byte value none))
    ∙ (plain_run key value (byte ∷ []) (end ∷ rest) (none_rest plain_stops byte value none) options
    ∙ step (Plain key (byte ∷ value)) end rest options (behind_value end) (options ++ (str_to_ascii_lowercase key, trimmed (byte ∷ value)) ∷ [])
    (plain_closed end key (byte ∷ value) options ends))

-- at a quote, or nowhere
pub plain_breaks : (quote : ℕ) (key value rest : List ℕ) → begins_plain (value ++ quote ∷ rest) ≡ true → HasNone plain_stops value → is_quote quote ≡ true →
    ReadsNothing (Value key) (value ++ quote ∷ rest)
plain_breaks quote key [] rest plain none is options = absurd (quote_no_plain quote plain is)
plain_breaks quote key (byte ∷ value) rest plain none is options =
    step (Value key) byte (value ++ quote ∷ rest) options (Plain key (byte ∷ [])) options (plain_first byte key options plain (none_first plain_stops byte value none))
    ∙ (plain_run key value (byte ∷ []) (quote ∷ rest) (none_rest plain_stops byte value none) options
    ∙ (step (Plain key (byte ∷ value)) quote rest options Nowhere options (plain_broken quote key (byte ∷ value) options is) ∙ nowhere rest options))

pub plain_alone : (key value : List ℕ) → begins_plain value ≡ true → HasNone plain_stops value → ReadsNothing (Value key) value
plain_alone key [] plain none options = refl
plain_alone key (byte ∷ value) plain none options =
    step (Value key) byte value options (Plain key (byte ∷ [])) options (plain_first byte key options plain (none_first plain_stops byte value none))
    ∙ (ap (options_from (Plain key (byte ∷ [])) options) (sym (append-nil value)) ∙ plain_run key value (byte ∷ []) [] (none_rest plain_stops byte value none) options)

-- ---- behind blanks

-- no blank begins what is trimmed
pub no_blank_first : (text : List ℕ) → begins_with is_blank (trimmed_start text) ≡ false
unfolding trimmed_start
no_blank_first [] = refl
no_blank_first (byte ∷ text) = by (is_blank byte) refl (no_blank_first text)
  where
    by : (blank : Bool) → is_blank byte ≡ blank → begins_with is_blank (drop (prefix_len is_blank text) text) ≡ false →
        begins_with is_blank (drop (cond blank (1 + prefix_len is_blank text) 0) (byte ∷ text)) ≡ false
    by false is rest = is
    by true is rest =
        let more : suc (prefix_len is_blank text) ≡ 1 + prefix_len is_blank text = omega arith in
        subst (λ n. begins_with is_blank (drop n (byte ∷ text)) ≡ false) more rest

pub trimmed_no_longer : (text : List ℕ) → length (trimmed_start text) ≤ length text
unfolding trimmed_start
trimmed_no_longer text = rw (length-drop (prefix_len is_blank text) text) (omega arith)

pub trimmed_shorter : (text rest : List ℕ) (byte : ℕ) → trimmed_start text ≡ byte ∷ rest → length rest < length text
trimmed_shorter text rest byte is =
    let whole : length (trimmed_start text) ≡ length (byte ∷ rest) = ap length is in
    omega (arith, trimmed_no_longer text, whole)

-- the end of an option
pub closed_comma : (text rest : List ℕ) → trimmed_start text ≡ 44 ∷ rest → ReadsAs Closed text (Key []) rest
closed_comma text rest is options = closed_trimmed text options ∙ ap (options_from Closed options) is

pub closed_bracket : (text rest : List ℕ) → trimmed_start text ≡ 93 ∷ rest → ReadsAs Closed text Outside rest
closed_bracket text rest is options = closed_trimmed text options ∙ ap (options_from Closed options) is

pub closed_none : (text : List ℕ) → ((rest : List ℕ) → trimmed_start text ≢ 44 ∷ rest) → ((rest : List ℕ) → trimmed_start text ≢ 93 ∷ rest) → ReadsNothing Closed text
closed_none text comma bracket options = closed_trimmed text options ∙ closed_breaks (trimmed_start text) (no_blank_first text) comma bracket options

-- ---- an option at the front of a text

key_whole : (text key rest : List ℕ) (divider : ℕ) → text ≡ key ++ divider ∷ rest → divider ≡ 61 → text ≡ key ++ 61 ∷ rest
key_whole text key rest divider whole is = whole ∙ ap (λ byte. key ++ byte ∷ rest) is

pub key_stops_at : (text key rest : List ℕ) (divider : ℕ) → text ≡ key ++ divider ∷ rest → HasNone key_stops key → is_among_bytes key_stops divider ≡ true → divider ≢ 61 →
    ReadsNothing (Key []) text
key_stops_at text key rest divider whole none among other options = ap (options_from (Key []) options) whole ∙ key_breaks key rest divider none among other options

pub key_is_empty : (text key rest short : List ℕ) (divider : ℕ) → text ≡ key ++ divider ∷ rest → divider ≡ 61 → HasNone key_stops key → short ≡ trimmed key → is_empty short ≡ true →
    ReadsNothing (Key []) text
key_is_empty text key rest short divider whole is none trim empty options =
    ap (options_from (Key []) options) (key_whole text key rest divider whole is) ∙ key_empty key rest none (ap is_empty (sym trim) ∙ empty) options

pub key_is_read : (text key rest short : List ℕ) (divider : ℕ) → text ≡ key ++ divider ∷ rest → divider ≡ 61 → HasNone key_stops key → short ≡ trimmed key → is_empty short ≡ false →
    ReadsAs (Key []) text (Value short) rest
key_is_read text key rest short divider whole is none trim some options =
    ap (options_from (Key []) options) (key_whole text key rest divider whole is)
    ∙ (key_ends key rest none (ap is_empty (sym trim) ∙ some) options ∙ ap (λ key. options_from (Value key) options rest) (sym trim))

-- a text of one quote
one_quote : (quotes : List ℕ) → length quotes ≡ 1 → quotes ≡ slice_index quotes 0 ∷ []
one_quote [] one = absurd (omega arith)
one_quote (quote ∷ []) one = refl
one_quote (quote ∷ other ∷ more) one = absurd (omega arith)

pub quote_is_open : (quotes text : List ℕ) → length quotes ≡ 1 → HasNone quotes text → (key : List ℕ) → ReadsNothing (Quoted (slice_index quotes 0) key []) text
quote_is_open quotes text one none key = quoted_open (slice_index quotes 0) key text (subst (λ bytes. HasNone bytes text) (one_quote quotes one) none)

quote_is_closed : (quotes : List ℕ) (end : ℕ) (text value rest : List ℕ) → length quotes ≡ 1 → text ≡ value ++ end ∷ rest → HasNone quotes value → is_among_bytes quotes end ≡ true →
    (key : List ℕ) → ReadsOption (Quoted (slice_index quotes 0) key []) text key value Closed rest
quote_is_closed quotes end text value rest one whole none among key options =
    let alone = one_quote quotes one in
    ap (options_from (Quoted (slice_index quotes 0) key []) options) whole
    ∙ quoted_ends (slice_index quotes 0) end key value rest (subst (λ bytes. HasNone bytes value) alone none) (subst (λ bytes. is_among_bytes bytes end ≡ true) alone among) options

pub quoted_none : (quotes : List ℕ) (end : ℕ) (text value rest : List ℕ) (o : Option Given) → length quotes ≡ 1 → text ≡ value ++ end ∷ rest → HasNone quotes value →
    is_among_bytes quotes end ≡ true → IfNone o (ReadsNothing Closed rest) → IfNone o ((key : List ℕ) → ReadsNothing (Quoted (slice_index quotes 0) key []) text)
quoted_none quotes end text value rest None one whole none among nothing = λ key options. quote_is_closed quotes end text value rest one whole none among key options ∙ nothing _
quoted_none quotes end text value rest (Some given) one whole none among nothing = tt

pub quoted_some : (quotes : List ℕ) (end : ℕ) (text value rest : List ℕ) (o : Option Given) → length quotes ≡ 1 → text ≡ value ++ end ∷ rest → HasNone quotes value →
    is_among_bytes quotes end ≡ true → IfSome o (λ given. given.value.now ≡ value) → IfSome o (λ given. ReadsAs Closed rest (behind given.is_last) given.rest.now) →
    IfSome o (λ given. (key : List ℕ) → ReadsOption (Quoted (slice_index quotes 0) key []) text key given.value.now (behind given.is_last) given.rest.now)
quoted_some quotes end text value rest None one whole none among same reads = tt
quoted_some quotes end text value rest (Some given) one whole none among same reads = λ key options.
    quote_is_closed quotes end text value rest one whole none among key options
    ∙ (reads _ ∙ ap (λ (value : List ℕ). options_from (behind given.is_last) (options ++ (str_to_ascii_lowercase key, value) ∷ []) given.rest.now) (sym same))

pub quoted_shorter : (end : ℕ) (text value rest : List ℕ) (o : Option Given) → text ≡ value ++ end ∷ rest → IfSome o (λ given. length given.rest.now < length rest) →
    IfSome o (λ given. length given.rest.now < length text)
quoted_shorter end text value rest None whole less = tt
quoted_shorter end text value rest (Some given) whole less =
    let long : length text ≡ length value + length (end ∷ rest) = ap length whole ∙ length-append value (end ∷ rest) in
    omega (arith, long)

-- a value behind blanks
pub value_quoted : (quote : ℕ) (key text rest : List ℕ) → is_quote quote ≡ true → trimmed_start text ≡ quote ∷ rest → ReadsAs (Value key) text (Quoted quote key []) rest
value_quoted quote key text rest is begins options =
    value_trimmed key text options ∙ (ap (options_from (Value key) options) begins ∙ quote_opens quote key rest is options)

pub begins_plain_is : (text : List ℕ) → begins_with is_blank text ≡ false → ((rest : List ℕ) → text ≢ 34 ∷ rest) → ((rest : List ℕ) → text ≢ 39 ∷ rest) → IsPlain text
begins_plain_is [] blank double single = refl
begins_plain_is (byte ∷ text) blank double single =
    let first : (byte == 34) ≡ false = ne_eqb byte 34 (λ same. double text (ap (λ b. b ∷ text) same)) in
    let second : (byte == 39) ≡ false = ne_eqb byte 39 (λ same. single text (ap (λ b. b ∷ text) same)) in
    rw (blank, first, second) refl

pub quote_none : (quote : ℕ) (text rest : List ℕ) (o : Option Given) → is_quote quote ≡ true → trimmed_start text ≡ quote ∷ rest →
    IfNone o ((key : List ℕ) → ReadsNothing (Quoted quote key []) rest) → IfNone o ((key : List ℕ) → ReadsNothing (Value key) text)
quote_none quote text rest None is begins nothing = λ key options. value_quoted quote key text rest is begins options ∙ nothing key options
quote_none quote text rest (Some given) is begins nothing = tt

pub quote_some : (quote : ℕ) (text rest : List ℕ) (o : Option Given) → is_quote quote ≡ true → trimmed_start text ≡ quote ∷ rest →
    IfSome o (λ given. (key : List ℕ) → ReadsOption (Quoted quote key []) rest key given.value.now (behind given.is_last) given.rest.now) →
    IfSome o (λ given. (key : List ℕ) → ReadsOption (Value key) text key given.value.now (behind given.is_last) given.rest.now)
quote_some quote text rest None is begins reads = tt
quote_some quote text rest (Some given) is begins reads = λ key options. value_quoted quote key text rest is begins options ∙ reads key options

pub quote_shorter : (byte : ℕ) (text rest : List ℕ) (o : Option Given) → trimmed_start text ≡ byte ∷ rest → IfSome o (λ given. length given.rest.now < length rest) →
    IfSome o (λ given. length given.rest.now < length text)
quote_shorter byte text rest None begins less = tt
quote_shorter byte text rest (Some given) begins less = let more = trimmed_shorter text rest byte begins in omega (arith, more)

-- a value without quotes
pub begins_plain_at : (text start : List ℕ) → start ≡ trimmed_start text → ((rest : List ℕ) → start ≢ 34 ∷ rest) → ((rest : List ℕ) → start ≢ 39 ∷ rest) → IsPlain start
begins_plain_at text start is double single = begins_plain_is start (ap (begins_with is_blank) is ∙ no_blank_first text) double single

pub plain_none : (text start : List ℕ) (o : Option Given) → start ≡ trimmed_start text → IfNone o ((key : List ℕ) → ReadsNothing (Value key) start) →
    IfNone o ((key : List ℕ) → ReadsNothing (Value key) text)
plain_none text start None is nothing = λ key options. value_trimmed key text options ∙ (ap (options_from (Value key) options) (sym is) ∙ nothing key options)
plain_none text start (Some given) is nothing = tt

pub plain_some : (text start : List ℕ) (o : Option Given) → start ≡ trimmed_start text →
    IfSome o (λ given. (key : List ℕ) → ReadsOption (Value key) start key given.value.now (behind given.is_last) given.rest.now) →
    IfSome o (λ given. (key : List ℕ) → ReadsOption (Value key) text key given.value.now (behind given.is_last) given.rest.now)
plain_some text start None is reads = tt
plain_some text start (Some given) is reads = λ key options. value_trimmed key text options ∙ (ap (options_from (Value key) options) (sym is) ∙ reads key options)

pub plain_shorter : (text start : List ℕ) (o : Option Given) → start ≡ trimmed_start text → IfSome o (λ given. length given.rest.now < length start) →
    IfSome o (λ given. length given.rest.now < length text)
plain_shorter text start None is less = tt
plain_shorter text start (Some given) is less = let short : length start ≤ length text = rw is (trimmed_no_longer text) in omega (arith, short)

pub plain_is_read : (text key value rest short : List ℕ) (end last : ℕ) → text ≡ value ++ end ∷ rest → end ≡ last → IsPlain text → HasNone plain_stops value → ends_value last ≡ true →
    short ≡ trimmed value → ReadsOption (Value key) text key short (behind_value last) rest
plain_is_read text key value rest short end last whole is plain none ends trim options =
    let all : text ≡ value ++ last ∷ rest = whole ∙ ap (λ byte. value ++ byte ∷ rest) is in
    ap (options_from (Value key) options) all
    ∙ (plain_ends last key value rest (subst IsPlain all plain) none ends options
    ∙ ap (λ (value : List ℕ). options_from (behind_value last) (options ++ (str_to_ascii_lowercase key, value) ∷ []) rest) (sym trim))

plain_stop : (end : ℕ) → is_among_bytes plain_stops end ≡ true → end ≢ 44 → end ≢ 93 → is_quote end ≡ true
plain_stop end among comma bracket = grind (arith, nat_tests, among, comma, bracket)

pub plain_stops_at : (text value rest : List ℕ) (end : ℕ) → text ≡ value ++ end ∷ rest → IsPlain text → HasNone plain_stops value → is_among_bytes plain_stops end ≡ true →
    end ≢ 44 → end ≢ 93 → (key : List ℕ) → ReadsNothing (Value key) text
plain_stops_at text value rest end whole plain none among comma bracket key options =
    ap (options_from (Value key) options) whole ∙ plain_breaks end key value rest (subst IsPlain whole plain) none (plain_stop end among comma bracket) options

-- ---- groups

pub outside_broken : (byte : ℕ) (options : Items) → is_blank byte ≡ false → (byte == 91) ≡ false →
    read_byte Outside byte (record { place = Outside; options = options }) ≡ record { place = Nowhere; options = options }
outside_broken byte options blank other = rw (other, blank) refl

-- what no group begins
pub outside_stops : (text : List ℕ) (options : Items) → begins_with is_blank text ≡ false → is_empty text ≡ false → ((rest : List ℕ) → text ≢ 91 ∷ rest) →
    options_from Outside options text ≡ None
outside_stops [] options blank some opens = absurd (cc)
outside_stops (byte ∷ text) options blank some opens =
    let other : (byte == 91) ≡ false = ne_eqb byte 91 (λ same. opens text (ap (λ b. b ∷ text) same)) in
    step Outside byte text options Nowhere options (outside_broken byte options blank other) ∙ nowhere text options

pub groups_begin : (options : Items) (text start : List ℕ) → options ≡ [] → start ≡ trimmed_start text → options_from Outside options start ≡ groups text
groups_begin options text start none trim = rw (none, trim) (sym (outside_trimmed text []))

-- what is known of a value, where there is one
at_some : {A : Type 0} (o : Option A) (x : A) (P : A → Type 0) → o ≡ Some x → IfSome o P → P x
at_some None x P is holds = absurd (cc)
at_some (Some y) x P is holds = let same : y ≡ x = cc in subst P same holds

-- one group more
pub group_is_read : (options more : Items) (left inside next text : List ℕ) (read : Option (Bor (List ℕ))) (rest : Bor (List ℕ)) → read ≡ Some rest → left ≡ 91 ∷ inside →
    IfSome read (λ rest. options_from (Key []) options inside ≡ options_from Outside more rest.now) → next ≡ trimmed_start rest.now →
    options_from Outside options left ≡ groups text → options_from Outside more next ≡ groups text
group_is_read options more left inside next text read rest is begins reads trim here =
    let group = at_some read rest (λ rest. options_from (Key []) options inside ≡ options_from Outside more rest.now) is reads in
    ap (options_from Outside more) trim ∙ (sym (outside_trimmed rest.now more) ∙ (sym group ∙ (sym (ap (options_from Outside options) begins) ∙ here)))

pub group_shorter : (left inside next : List ℕ) (read : Option (Bor (List ℕ))) (rest : Bor (List ℕ)) → read ≡ Some rest → left ≡ 91 ∷ inside →
    IfSome read (λ rest. length rest.now < length inside) → next ≡ trimmed_start rest.now → length next < length left
group_shorter left inside next read rest is begins less trim =
    let long : length left ≡ length (91 ∷ inside) = ap length begins in
    let fewer : length rest.now < length inside = at_some read rest (λ rest. length rest.now < length inside) is less in
    let short : length next ≤ length rest.now = rw trim (trimmed_no_longer rest.now) in
    omega (arith, long, fewer, short)

-- ---- the name

-- what stands before the first `[`
pub name_place : (text : List ℕ) (found : Option ℕ) (place : ℕ) →
    MatchOption found ((k : ℕ) → k < length text → get_or text k 0 ≢ 91)
    (λ k. (k < length text) × (get_or text k 0 ≡ 91) × ((i : ℕ) → i < k → get_or text i 0 ≢ 91)) →
    place ≡ unwrap_or found (length text) → place ≡ position_or_len opens text
name_place text None place searched is =
    is ∙ sym (position_or_len_is opens text (length text) 0 (omega arith) (λ k below. ne_eqb (get_or text k 0) 91 (searched k below)) (λ below. absurd (omega arith)))
name_place text (Some k) place searched is =
    is ∙ sym (position_or_len_is opens text k 0 (omega (arith, searched.0)) (λ i below. ne_eqb (get_or text i 0) 91 (searched.2 i below)) (λ below. rw searched.1 refl))

-- ---- percent signs

percent_kept : (byte : ℕ) → not (is_among_bytes (codes "%") byte) ≡ true → (byte == 37) ≡ false
percent_kept byte none = grind (arith, nat_tests, none)

-- a part without one, and then one
pub percents_doubled-part : (part rest : List ℕ) (percent : ℕ) → HasNone (codes "%") part → is_among_bytes (codes "%") percent ≡ true →
    percents_doubled (part ++ percent ∷ rest) ≡ part ++ (codes "%%" ++ percents_doubled rest)
percents_doubled-part [] rest percent none is = let same : (percent == 37) ≡ true = grind (arith, nat_tests, is) in rw same refl
percents_doubled-part (byte ∷ part) rest percent none is =
    let parts = and_parts _ _ none in
    rw (percent_kept byte parts.0) (ap (λ text. byte ∷ text) (percents_doubled-part part rest percent parts.1 is))

-- and a text without one
pub percents_doubled-none : (text : List ℕ) → HasNone (codes "%") text → percents_doubled text ≡ text
percents_doubled-none [] none = refl
percents_doubled-none (byte ∷ text) none =
    let parts = and_parts _ _ none in
    rw (percent_kept byte parts.0) (ap (λ text. byte ∷ text) (percents_doubled-none text parts.1))
