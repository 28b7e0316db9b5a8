-- What is read as a name with options is written as one.
use Rattle.std.proofs.Common.{◌≡◌, ◌≢◌, ℕ, zero, suc, ◌+◌, ◌<◌, ◌≤◌, Bool, true, false, cond, not, ◌==◌, List, [], ◌∷◌, ◌++◌, length, take, drop, codes, Option, None, Some, refl, sym, ap, subst, ◌∙◌, append_assoc, length-append, arith}
use Rattle.std.specs.List.{prefix_len, position_or_len, before_first}
use Rattle.std.specs.Str.{str_to_ascii_lowercase}
use Rattle.std.proofs.lemmas.Bool.Decides.{nat_tests}
use Rattle.std.proofs.lemmas.List.{append-nil, take-append-drop}
use Rattle.jail_conf.specs.declared.options.Named.{Named}
use Rattle.ini_interp.specs.Lines.{is_blank, trimmed, trimmed_start}
use Rattle.ini_interp.specs.Sections.{Items}
use Rattle.jail_conf.specs.Options.{Outside, Key, Value, Quoted, Closed, Nowhere, options_from, is_quote, ends_value, behind_value, IsPlain, opens, from_first, if_named, groups, named}
use Rattle.jail_conf.specs.Times.{begins_with}
use Rattle.jail_conf.specs.Words.{is_among_bytes, HasNone, is_empty}
use Rattle.jail_conf.specs.WrittenOptions.{AreBlanks, IsValue, plain, quoted, IsKey, AreOptions, last, more, AreGroups, none, group, IsNamed}
use Rattle.jail_conf.proofs.OptionLemmas.{step, nowhere, closed_trimmed, value_trimmed, outside_trimmed, closed_broken, outside_broken, no_blank_first, trimmed_no_longer, key_ends, key_empty, key_breaks, key_alone, quote_opens, quoted_ends, quoted_open, plain_ends, plain_breaks, plain_alone, plain_stops, key_stops}
use Rattle.jail_conf.proofs.WrittenLemmas.{closed_ends, before_open, before_open_is}

-- ---- parts of a text

-- up to the first of some bytes, or to the end
data Span (stops text : List ℕ) : Type 0 where
  all : HasNone stops text → Span stops text
  cut : (front : List ℕ) (byte : ℕ) (rest : List ℕ) → text ≡ front ++ byte ∷ rest → HasNone stops front → is_among_bytes stops byte ≡ true → Span stops text

span : (stops text : List ℕ) → Span stops text
span stops [] = all refl
span stops (byte ∷ text) = by (is_among_bytes stops byte) refl (span stops text)
  where
    by : (stop : Bool) → is_among_bytes stops byte ≡ stop → Span stops text → Span stops (byte ∷ text)
    by true is rest = cut [] byte text refl refl is
    by false is (all alone) = all (rw is alone)
    by false is (cut front other rest whole alone among) = cut (byte ∷ front) other rest (ap (λ text. byte ∷ text) whole) (rw is alone) among

-- the blanks at its front
record Front (text start : List ℕ) : Type 0 where
  blanks : List ℕ
  are : AreBlanks blanks
  whole : text ≡ blanks ++ start

front_of : (text : List ℕ) → Front text (trimmed_start text)
unfolding trimmed_start
front_of [] = record { blanks = []; are = refl; whole = refl }
front_of (byte ∷ text) = by (is_blank byte) refl (front_of text)
  where
    by : (blank : Bool) → is_blank byte ≡ blank → Front text (drop (prefix_len is_blank text) text) →
        Front (byte ∷ text) (drop (cond blank (1 + prefix_len is_blank text) 0) (byte ∷ text))
    by false is front = record { blanks = []; are = refl; whole = refl }
    by true is front =
        let more : suc (prefix_len is_blank text) ≡ 1 + prefix_len is_blank text = omega arith in
        record {
          blanks = byte ∷ front.blanks;
          are = rw is front.are;
          whole = ap (λ text. byte ∷ text) front.whole ∙ ap (λ n. byte ∷ (front.blanks ++ drop n (byte ∷ text))) more;
        }

-- nothing comes of what is refused
nothing : {P : Type 0} (o : Option Items) (found : Items) → o ≡ None → o ≡ Some found → P
nothing o found refused is = absurd (cc)

-- ---- behind a value in quotes

record Ended (text : List ℕ) (options found : Items) : Type 0 where
  blanks : List ℕ
  end : ℕ
  rest : List ℕ
  are : AreBlanks blanks
  ends : ends_value end ≡ true
  whole : text ≡ blanks ++ end ∷ rest
  reads : options_from (behind_value end) options rest ≡ Some found

no_end : (byte : ℕ) → ends_value byte ≡ false → ((byte == 44) ≡ false) × ((byte == 93) ≡ false)
no_end byte misses = (grind (arith, nat_tests, misses), grind (arith, nat_tests, misses))

ended : (text start : List ℕ) (options found : Items) → Front text start → begins_with is_blank start ≡ false → options_from Closed options start ≡ Some found → Ended text options found
ended text [] options found front blank is = nothing _ found refl is
ended text (byte ∷ rest) options found front blank is = by (ends_value byte) refl
  where
    by : (ends : Bool) → ends_value byte ≡ ends → Ended text options found
    by true ends = record {
      blanks = front.blanks;
      end = byte;
      rest = rest;
      are = front.are;
      ends = ends;
      whole = front.whole;
      reads = sym (step Closed byte rest options (behind_value byte) options (closed_ends byte options ends)) ∙ is;
    }
    by false ends =
        let misses = no_end byte ends in
        nothing (options_from Closed options (byte ∷ rest)) found (step Closed byte rest options Nowhere options (closed_broken byte options blank misses.0 misses.1) ∙ nowhere rest options) is

ended_at : (text : List ℕ) (options found : Items) → options_from Closed options text ≡ Some found → Ended text options found
ended_at text options found is = ended text (trimmed_start text) options found (front_of text) (no_blank_first text) (sym (closed_trimmed text options) ∙ is)

-- ---- values

record Valued (key text : List ℕ) (options found : Items) : Type 0 where
  value : List ℕ
  shown : List ℕ
  end : ℕ
  rest : List ℕ
  written : IsValue value shown
  ends : ends_value end ≡ true
  whole : text ≡ shown ++ end ∷ rest
  reads : options_from (behind_value end) (options ++ (str_to_ascii_lowercase key, value) ∷ []) rest ≡ Some found

same_quote : (quote byte : ℕ) → is_among_bytes (quote ∷ []) byte ≡ true → byte ≡ quote
same_quote quote byte among = grind (arith, nat_tests, among)

in_quotes : (quote : ℕ) (key text start : List ℕ) (options found : Items) → is_quote quote ≡ true → Front text (quote ∷ start) →
    options_from (Quoted quote key []) options start ≡ Some found → Valued key text options found
in_quotes quote key text start options found is front reads = by (span (quote ∷ []) start)
  where
    by : Span (quote ∷ []) start → Valued key text options found
    by (all alone) = nothing (options_from (Quoted quote key []) options start) found (quoted_open quote key start alone options) reads
    by (cut value closing left whole alone among) =
        let same : closing ≡ quote = same_quote quote closing among in
        let own : start ≡ value ++ quote ∷ left = whole ∙ ap (λ byte. value ++ byte ∷ left) same in
        let behind : options_from Closed (options ++ (str_to_ascii_lowercase key, value) ∷ []) left ≡ Some found =
        sym (quoted_ends quote quote key value left alone (subst (λ byte. is_among_bytes (quote ∷ []) byte ≡ true) same among) options)
        ∙ (sym (ap (options_from (Quoted quote key []) options) own) ∙ reads) in
        let e = ended_at left (options ++ (str_to_ascii_lowercase key, value) ∷ []) found behind in
        let shape : (front.blanks ++ quote ∷ (value ++ quote ∷ e.blanks)) ++ e.end ∷ e.rest ≡ front.blanks ++ quote ∷ (value ++ quote ∷ (e.blanks ++ e.end ∷ e.rest)) = simp append_assoc in
        record {
          value = value;
          shown = front.blanks ++ quote ∷ (value ++ quote ∷ e.blanks);
          end = e.end;
          rest = e.rest;
          written = quoted quote front.blanks value e.blanks is front.are alone e.are;
          ends = e.ends;
          whole = front.whole ∙ (ap (λ text. front.blanks ++ quote ∷ text) own ∙ (ap (λ text. front.blanks ++ quote ∷ (value ++ quote ∷ text)) e.whole ∙ sym shape));
          reads = e.reads;
        }

plain_front : (text rest : List ℕ) → IsPlain (text ++ rest) → IsPlain text
plain_front [] rest is = refl
plain_front (byte ∷ text) rest is = is

other_stop : (byte : ℕ) → is_among_bytes plain_stops byte ≡ true → ends_value byte ≡ false → is_quote byte ≡ true
other_stop byte among misses = grind (arith, nat_tests, among, misses)

with_none : (key text start : List ℕ) (options found : Items) → IsPlain start → Front text start → options_from (Value key) options start ≡ Some found → Valued key text options found
with_none key text start options found is front reads = by (span plain_stops start)
  where
    by : Span plain_stops start → Valued key text options found
    by (all alone) = nothing (options_from (Value key) options start) found (plain_alone key start is alone options) reads
    by (cut shown end rest whole alone among) = at (ends_value end) refl
      where
        at : (ends : Bool) → ends_value end ≡ ends → Valued key text options found
        at true ends = record {
          value = trimmed shown;
          shown = front.blanks ++ shown;
          end = end;
          rest = rest;
          written = plain front.blanks shown front.are (plain_front shown (end ∷ rest) (subst IsPlain whole is)) alone;
          ends = ends;
          whole = front.whole ∙ (ap (λ text. front.blanks ++ text) whole ∙ sym (append_assoc front.blanks shown (end ∷ rest)));
          reads = sym (plain_ends end key shown rest (subst IsPlain whole is) alone ends options) ∙ (sym (ap (options_from (Value key) options) whole) ∙ reads);
        }
        at false ends = nothing (options_from (Value key) options start) found
            (ap (options_from (Value key) options) whole ∙ plain_breaks end key shown rest (subst IsPlain whole is) alone (other_stop end among ends) options) reads

valued : (key text start : List ℕ) (options found : Items) → Front text start → begins_with is_blank start ≡ false → options_from (Value key) options start ≡ Some found → Valued key text options found
valued key text [] options found front blank is = nothing _ found refl is
valued key text (byte ∷ rest) options found front blank is = by (is_quote byte) refl
  where
    by : (quote : Bool) → is_quote byte ≡ quote → Valued key text options found
    by true quote = in_quotes byte key text rest options found quote front (sym (quote_opens byte key rest quote options) ∙ is)
    by false quote = with_none key text (byte ∷ rest) options found (rw (blank, quote) refl) front is

valued_at : (key text : List ℕ) (options found : Items) → options_from (Value key) options text ≡ Some found → Valued key text options found
valued_at key text options found is = valued key text (trimmed_start text) options found (front_of text) (no_blank_first text) (sym (value_trimmed key text options) ∙ is)

-- ---- options

pub record Listed (text : List ℕ) (options found : Items) : Type 0 where
  key : List ℕ
  is : IsKey key
  value : List ℕ
  shown : List ℕ
  end : ℕ
  rest : List ℕ
  written : IsValue value shown
  ends : ends_value end ≡ true
  whole : text ≡ key ++ 61 ∷ (shown ++ end ∷ rest)
  reads : options_from (behind_value end) (options ++ (str_to_ascii_lowercase (trimmed key), value) ∷ []) rest ≡ Some found

pub listed : (text : List ℕ) (options found : Items) → options_from (Key []) options text ≡ Some found → Listed text options found
listed text options found is = by (span key_stops text)
  where
    by : Span key_stops text → Listed text options found
    by (all alone) = nothing (options_from (Key []) options text) found (key_alone text alone options) is
    by (cut key byte rest whole alone among) = at (byte == 61) refl (is_empty (trimmed key)) refl
      where
        at : (equals : Bool) → (byte == 61) ≡ equals → (empty : Bool) → is_empty (trimmed key) ≡ empty → Listed text options found
        at false equals empty such =
            let other : byte ≢ 61 = λ same. absurd (grind (arith, nat_tests, equals, same)) in
            nothing (options_from (Key []) options text) found (ap (options_from (Key []) options) whole ∙ key_breaks key rest byte alone among other options) is
        at true equals true such =
            let same : byte ≡ 61 = grind (arith, nat_tests, equals) in
            let own : text ≡ key ++ 61 ∷ rest = whole ∙ ap (λ byte. key ++ byte ∷ rest) same in
            nothing (options_from (Key []) options text) found (ap (options_from (Key []) options) own ∙ key_empty key rest alone such options) is
        at true equals false such =
            let same : byte ≡ 61 = grind (arith, nat_tests, equals) in
            let own : text ≡ key ++ 61 ∷ rest = whole ∙ ap (λ byte. key ++ byte ∷ rest) same in
            let v = valued_at (trimmed key) rest options found (sym (key_ends key rest alone such options) ∙ (sym (ap (options_from (Key []) options) own) ∙ is)) in
            record {
              key = key;
              is = record { alone = alone; some = such };
              value = v.value;
              shown = v.shown;
              end = v.end;
              rest = v.rest;
              written = v.written;
              ends = v.ends;
              whole = own ∙ ap (λ text. key ++ 61 ∷ text) v.whole;
              reads = v.reads;
            }

-- ---- groups

record Grouped (text : List ℕ) (options found : Items) : Type 0 where
  items : Items
  shown : List ℕ
  rest : List ℕ
  written : AreOptions items shown
  whole : text ≡ shown ++ rest
  reads : options_from Outside (options ++ items) rest ≡ Some found

group_ends : (text : List ℕ) (options found : Items) (o : Listed text options found) → o.end ≡ 93 → Grouped text options found
group_ends text options found o same =
    let one : List ℕ × List ℕ = (str_to_ascii_lowercase (trimmed o.key), o.value) in
    let shape : (o.key ++ 61 ∷ (o.shown ++ 93 ∷ [])) ++ o.rest ≡ o.key ++ 61 ∷ (o.shown ++ 93 ∷ o.rest) = simp append_assoc in
    record {
      items = one ∷ [];
      shown = o.key ++ 61 ∷ (o.shown ++ 93 ∷ []);
      rest = o.rest;
      written = last o.key o.value o.shown o.is o.written;
      whole = o.whole ∙ (ap (λ byte. o.key ++ 61 ∷ (o.shown ++ byte ∷ o.rest)) same ∙ sym shape);
      reads = subst (λ byte. options_from (behind_value byte) (options ++ one ∷ []) o.rest ≡ Some found) same o.reads;
    }

group_goes_on : (text : List ℕ) (options found : Items) (o : Listed text options found) → o.end ≡ 44 →
    ((others : Items) → options_from (Key []) others o.rest ≡ Some found → Grouped o.rest others found) → Grouped text options found
group_goes_on text options found o same next =
    let one : List ℕ × List ℕ = (str_to_ascii_lowercase (trimmed o.key), o.value) in
    let g = next (options ++ one ∷ []) (subst (λ byte. options_from (behind_value byte) (options ++ one ∷ []) o.rest ≡ Some found) same o.reads) in
    let shape : (o.key ++ 61 ∷ (o.shown ++ 44 ∷ g.shown)) ++ g.rest ≡ o.key ++ 61 ∷ (o.shown ++ 44 ∷ (g.shown ++ g.rest)) = simp append_assoc in
    record {
      items = one ∷ g.items;
      shown = o.key ++ 61 ∷ (o.shown ++ 44 ∷ g.shown);
      rest = g.rest;
      written = more o.key o.value o.shown g.items g.shown o.is o.written g.written;
      whole = o.whole ∙ (ap (λ byte. o.key ++ 61 ∷ (o.shown ++ byte ∷ o.rest)) same ∙ (ap (λ text. o.key ++ 61 ∷ (o.shown ++ 44 ∷ text)) g.whole ∙ sym shape));
      reads = ap (λ items. options_from Outside items g.rest) (sym (append_assoc options (one ∷ []) g.items)) ∙ g.reads;
    }

option_ends : (text : List ℕ) (options found : Items) (o : Listed text options found) →
    ((others : Items) → options_from (Key []) others o.rest ≡ Some found → Grouped o.rest others found) → (comma : Bool) → (o.end == 44) ≡ comma → Grouped text options found
option_ends text options found o next true is = let same : o.end ≡ 44 = grind (arith, nat_tests, is) in group_goes_on text options found o same next
option_ends text options found o next false is =
    let ends = o.ends in
    let same : o.end ≡ 93 = grind (arith, nat_tests, is, ends) in
    group_ends text options found o same

option_length : (text : List ℕ) (options found : Items) (o : Listed text options found) → length o.rest < length text
option_length text options found o =
    let long : length text ≡ length o.key + length (61 ∷ (o.shown ++ o.end ∷ o.rest)) = ap length o.whole ∙ length-append o.key (61 ∷ (o.shown ++ o.end ∷ o.rest)) in
    let inner : length (o.shown ++ o.end ∷ o.rest) ≡ length o.shown + length (o.end ∷ o.rest) = length-append o.shown (o.end ∷ o.rest) in
    omega (arith, long, inner)

-- no text is longer than so much
grouped : (most : ℕ) (text : List ℕ) (options found : Items) → length text ≤ most → options_from (Key []) options text ≡ Some found → Grouped text options found
grouped zero [] options found within is = nothing (options_from (Key []) options []) found refl is
grouped zero (byte ∷ text) options found within is = absurd (omega arith)
grouped (suc most) text options found within is =
    let o = listed text options found is in
    let fewer : length o.rest ≤ most = omega (arith, option_length text options found o) in
    option_ends text options found o (λ others reads. grouped most o.rest others found fewer reads) (o.end == 44) refl

record Several (text : List ℕ) (options found : Items) : Type 0 where
  items : Items
  written : AreGroups items text
  all : found ≡ options ++ items

one_group : (text : List ℕ) (options found : Items) (g : Grouped text options found) → Several (trimmed_start g.rest) (options ++ g.items) found → Several (91 ∷ text) options found
one_group text options found g s =
    let f = front_of g.rest in
    let whole : 91 ∷ text ≡ 91 ∷ (g.shown ++ (f.blanks ++ trimmed_start g.rest)) = ap (λ text. 91 ∷ text) (g.whole ∙ ap (λ text. g.shown ++ text) f.whole) in
    record {
      items = g.items ++ s.items;
      written = subst (AreGroups (g.items ++ s.items)) (sym whole) (group g.items g.shown f.blanks s.items (trimmed_start g.rest) g.written f.are s.written);
      all = s.all ∙ append_assoc options g.items s.items;
    }

group_length : (text : List ℕ) (options found : Items) (g : Grouped text options found) → length (trimmed_start g.rest) ≤ length text
group_length text options found g =
    let long : length text ≡ length g.shown + length g.rest = ap length g.whole ∙ length-append g.shown g.rest in
    omega (arith, long, trimmed_no_longer g.rest)

begins_group : (byte : ℕ) (text : List ℕ) (options found : Items) → is_blank byte ≡ false → options_from Outside options (byte ∷ text) ≡ Some found →
    (options_from (Key []) options text ≡ Some found → Several (91 ∷ text) options found) → (opens : Bool) → (byte == 91) ≡ opens → Several (byte ∷ text) options found
begins_group byte text options found blank is next false other =
    nothing (options_from Outside options (byte ∷ text)) found (step Outside byte text options Nowhere options (outside_broken byte options blank other) ∙ nowhere text options) is
begins_group byte text options found blank is next true opens =
    let same : byte ≡ 91 = grind (arith, nat_tests, opens) in
    let reads : options_from Outside options (91 ∷ text) ≡ Some found = subst (λ byte. options_from Outside options (byte ∷ text) ≡ Some found) same is in
    subst (λ byte. Several (byte ∷ text) options found) (sym same) (next reads)

several : (most : ℕ) (text : List ℕ) (options found : Items) → length text ≤ most → begins_with is_blank text ≡ false → options_from Outside options text ≡ Some found → Several text options found
several most [] options found within blank is =
    let same : found ≡ options = cc in
    record { items = []; written = none; all = same ∙ sym (append-nil options) }
several zero (byte ∷ text) options found within blank is = absurd (omega arith)
several (suc most) (byte ∷ text) options found within blank is =
    begins_group byte text options found blank is
    (λ reads.
    let g = grouped (length text) text options found (omega arith) reads in
    let fewer : length (trimmed_start g.rest) ≤ most = omega (arith, group_length text options found g) in
    one_group text options found g
    (several most (trimmed_start g.rest) (options ++ g.items) found fewer (no_blank_first g.rest) (sym (outside_trimmed g.rest (options ++ g.items)) ∙ g.reads)))
    (byte == 91) refl

-- ---- the name in front

alone_in_front : (text : List ℕ) → HasNone (codes "[") (take (before_open text) text)
alone_in_front [] = refl
alone_in_front (byte ∷ text) = by (byte == 91) refl (alone_in_front text)
  where
    by : (here : Bool) → (byte == 91) ≡ here → HasNone (codes "[") (take (before_open text) text) → HasNone (codes "[") (take (cond here 0 (1 + before_open text)) (byte ∷ text))
    by true is rest = refl
    by false is rest =
        let more : suc (before_open text) ≡ 1 + before_open text = omega arith in
        let other : not (is_among_bytes (codes "[") byte) ≡ true = grind (arith, nat_tests, is) in
        subst (λ n. HasNone (codes "[") (take n (byte ∷ text))) more (rw other rest)

no_blank_behind : (text : List ℕ) → begins_with is_blank (drop (before_open text) text) ≡ false
no_blank_behind [] = refl
no_blank_behind (byte ∷ text) = by (byte == 91) refl (no_blank_behind text)
  where
    by : (here : Bool) → (byte == 91) ≡ here → begins_with is_blank (drop (before_open text) text) ≡ false →
        begins_with is_blank (drop (cond here 0 (1 + before_open text)) (byte ∷ text)) ≡ false
    by true is rest = grind (arith, nat_tests, is)
    by false is rest =
        let more : suc (before_open text) ≡ 1 + before_open text = omega arith in
        subst (λ n. begins_with is_blank (drop n (byte ∷ text)) ≡ false) more rest

-- a name that is not empty
named_as : (empty : Bool) (shown found : Named) → empty ≡ false → cond empty None (Some shown) ≡ Some found → shown ≡ found
named_as true shown found some gives = absurd (cc)
named_as false shown found some gives = cc

unnamed : (empty : Bool) (shown found : Named) → empty ≡ true → cond empty None (Some shown) ≡ Some found → ⊥
unnamed true shown found no_name gives = cc
unnamed false shown found no_name gives = cc

pub read_is_written : (found : Named) (text : List ℕ) → named text ≡ Some found → IsNamed found text
unfolding named
read_is_written found text is = by (groups (from_first text)) refl (is_empty (trimmed (before_first opens text))) refl is
  where
    by : (options : Option Items) → groups (from_first text) ≡ options → (empty : Bool) → is_empty (trimmed (before_first opens text)) ≡ empty →
        if_named (trimmed (before_first opens text)) options ≡ Some found → IsNamed found text
    by None reads empty such gives = absurd (cc)
    by (Some options) reads true such gives = absurd (unnamed (is_empty (trimmed (before_first opens text))) (record { name = trimmed (before_first opens text); options = options }) found such gives)
    by (Some options) reads false such gives =
        let place = before_open_is text in
        let s = several (length (from_first text)) (from_first text) [] options (omega arith) (subst (λ n. begins_with is_blank (drop n text) ≡ false) place (no_blank_behind text)) reads in
        let shown : Named = record { name = trimmed (before_first opens text); options = options } in
        subst (λ (found : Named). IsNamed found text) (named_as (is_empty (trimmed (before_first opens text))) shown found such gives) (record {
          front = before_first opens text;
          groups = from_first text;
          whole = sym (take-append-drop (position_or_len opens text) text);
          alone = subst (λ n. HasNone (codes "[") (take n text)) place (alone_in_front text);
          name = refl;
          some = such;
          options = subst (λ items. AreGroups items (from_first text)) (sym s.all) s.written;
        })
