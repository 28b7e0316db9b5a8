-- From what `captures` ensures to the leftmost match by the text.
use Rattle.std.proofs.Common.{◌≡◌, ℕ, zero, suc, ◌*◌, ◌+◌, ◌<◌, true, List, map, get_or, Option, Some, None, option_and_then, option_map, refl, sym, ap, ◌∙◌, arith, codes}
use Rattle.std.proofs.lemmas.Option.{same_Some, none-some}
use Rattle.regex.specs.Patterns.{Re, Match, find_str, slot_of, span}
use Rattle.regex.specs.Names.{span_at}
use Rattle.regex.specs.Writes.{both}
use Rattle.regex.specs.Search.{group_span}
use Rattle.regex.specs.Strings.{IsCapturesOf, captures_span}
use Rattle.regex.specs.declared.string.captures.Captures.{Captures}
use Rattle.regex.proofs.ForCallers.{found_alike, span_alike}
use Rattle.regex_syntax.specs.Grammar.{Names}
use Rattle.f2b_world.specs.Reading.{IsReadAs}
use Rattle.f2b_world.specs.declared.pattern.numbers.HostNumbers.{HostNumbers}
use Rattle.f2b_world.specs.Matches.{NumberedSpans, cut, offsets, named, number_of, host_spans, numbered_spans, hosts_in, numbered_in, whole_in, group_in}
use Rattle.f2b_world.specs.Captured.{host_numbers, captured_hosts, captured_numbered, captured_group}
use Rattle.regex.specs.Strings.{match_span}

-- the captures of a match have its offsets
captured_offsets : (line : List ℕ) (m : Match) (c : Captures) → IsCapturesOf line m c → (n : ℕ) → captures_span c n ≡ offsets m n
unfolding offsets group_span
captured_offsets line m c h zero = ap Some h.1.whole_is
captured_offsets line m c h (suc n) = h.2 (suc n) (omega arith)

-- two matches with one span and the same slots have the same offsets
offsets_alike : (m n : Match) → span m ≡ span n → slot_of m ≡ slot_of n → (k : ℕ) → offsets m k ≡ offsets n k
unfolding offsets
offsets_alike m n whole slots zero = ap Some whole
offsets_alike m n whole slots (suc k) = ap (λ (s : ℕ → Option ℕ). both (s (2 * suc k)) (s (2 * suc k + 1))) slots

module _ (line : List ℕ) (m : Match) (c : Captures) (h : IsCapturesOf line m c)
    (n : Match) (whole : span m ≡ span n) (slots : slot_of m ≡ slot_of n) where
  offsets_are : (k : ℕ) → captures_span c k ≡ offsets n k
  offsets_are k = captured_offsets line m c h k ∙ offsets_alike m n whole slots k

  by_number : (number : Option ℕ) → captured_group c number ≡ option_map cut (span_at (offsets n) number)
  by_number None = refl
  by_number (Some k) = ap (option_map cut) (offsets_are k)

  by_name : (names : Names) (name : List ℕ) → captured_group c (number_of name names) ≡ named names n name
  by_name names name = by_number (number_of name names)

  captured_hosts_are : (names : Names) → captured_hosts (host_numbers names) c ≡ host_spans names n
  captured_hosts_are names = λ i. record {
    whole = cut ((h.1.whole_is ∙ whole) i);
    ip4 = by_name names (codes "f2b4") i;
    ip6 = by_name names (codes "f2b6") i;
    name = by_name names (codes "f2bn") i;
    content = by_name names (codes "f2bc") i;
  }

  captured_numbered_are : (group : ℕ) → captured_numbered c group ≡ numbered_spans group n
  captured_numbered_are group = λ i. record {
    whole = cut ((h.1.whole_is ∙ whole) i);
    group = ap (option_map cut) (offsets_are group) i;
  }

none_from : (o : Option Match) → None ≡ option_map span o → o ≡ None
none_from None e = refl
none_from (Some m) e = absurd (none-some _ e)

module _ (text : List ℕ) (tree : Re) (names : Names) (g : IsReadAs text tree names) (line : List ℕ)
    (bytes : (k : ℕ) → get_or line k 0 < 256) where
  module _ (m : Match) (c : Captures) (e : find_str tree line 0 ≡ Some m) (h : IsCapturesOf line m c) where
    -- the match by the text's own tree, with the same span and slots
    by_text : (n : Match) × (find_str g.expression.tree line 0 ≡ Some n) × (span m ≡ span n) × (slot_of m ≡ slot_of n)
    by_text =
        let f = found_alike g.alike line bytes true 0 m e in
        let whole : span m ≡ span f.0 =
        same_Some _ _ (sym (ap (option_map span) e) ∙ span_alike g.alike line bytes true 0 ∙ ap (option_map span) f.1) in
        (f.0, f.1, whole, sym f.2)

    -- the captures that were found are those of the leftmost match by the text
    pub found_hosts : (numbers : HostNumbers) → numbers ≡ host_numbers names → Some (captured_hosts numbers c) ≡ hosts_in text line
    unfolding hosts_in
    found_hosts numbers same =
        let f = by_text in
        rw (g.is, f.1, same) (ap Some (captured_hosts_are line m c h f.0 f.2 f.3 names ∙ ap (λ found. host_spans found f.0) g.named))

    found_numbered : (group : ℕ) → Some (captured_numbered c group) ≡ numbered_in text group line
    unfolding numbered_in
    found_numbered group =
        let f = by_text in rw (g.is, f.1) (ap Some (captured_numbered_are line m c h f.0 f.2 f.3 group))

    pub found_whole : Some (cut (match_span c.whole)) ≡ whole_in text line
    found_whole = ap (option_map (λ (s : NumberedSpans). s.whole)) (found_numbered 0)

    found_group : (number : Option ℕ) → captured_group c number ≡ group_in text line number
    found_group None = refl
    found_group (Some n) = ap (option_and_then (λ (s : NumberedSpans). s.group)) (found_numbered n)

    -- and so are all of their groups
    pub found_groups : (numbers : List (Option ℕ)) → map (captured_group c) numbers ≡ map (group_in text line) numbers
    found_groups numbers = λ i. map (λ number. found_group number i) numbers

  module _ (e : find_str tree line 0 ≡ None) where
    none_by_text : find_str g.expression.tree line 0 ≡ None
    none_by_text = none_from _ (sym (ap (option_map span) e) ∙ span_alike g.alike line bytes true 0)

    pub no_hosts : None ≡ hosts_in text line
    unfolding hosts_in
    no_hosts = let none = none_by_text in rw (g.is, none) refl

    pub no_whole : None ≡ whole_in text line
    unfolding numbered_in
    no_whole = let none = none_by_text in rw (g.is, none) refl
