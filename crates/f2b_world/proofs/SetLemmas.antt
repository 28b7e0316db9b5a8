-- Many patterns at once, from what the set of `regex` ensures.
use Rattle.std.proofs.Common.{◌≡◌, ℕ, suc, ◌+◌, ◌<◌, length, take, Bool, true, false, List, [], ◌∷◌, All, map, get_or, Option, Some, None, is_some, option_map, option_and_then, ◌||◌, refl, sym, ap, ap₂, ◌∙◌, arith, true≢false}
use Rattle.std.proofs.lemmas.Bool.{false_from_ne_true}
use Rattle.std.proofs.lemmas.List.{take_more}
use Rattle.std.proofs.lemmas.List.Elements.{All-append}
use Rattle.std.proofs.lemmas.List.Folds.{Any-from_list_any, list_any-from_Any}
use Rattle.std.specs.List.{Any, list_any}
use Rattle.std.specs.Prelude.{IsTrue, ◌↔◌}
use Rattle.regex.specs.Patterns.{Re, Match, find_str, default_config}
use Rattle.regex.specs.Sets.{matches_of}
use Rattle.regex.specs.Strings.{regex_pattern, regex_source, regex_config, IsReadFromSource}
use Rattle.regex.specs.declared.string.regex.Regex.{Regex}
use Rattle.regex.proofs.ForCallers.{is_match_alike}
use Rattle.regex_syntax.specs.Grammar.{Names}
use Rattle.f2b_world.specs.Reading.{Expression, IsReadAs, reading}
use Rattle.f2b_world.specs.Matches.{NumberedSpans, numbered_spans, host_spans, hosts_in, numbered_in, whole_in, MatchAlike}
use Rattle.f2b_world.proofs.ReadingLemmas.{read_as}

-- the first ones have it, and the next has it
pub all_more : {A : Type 0} (P : A → Type 0) (xs : List A) (i : ℕ) (x : A) → i < length xs → x ≡ get_or xs i x → All P (take i xs) → P x → All P (take (i + 1) xs)
all_more P xs i x within is before it =
    rw (take_more xs i x within, sym is) (All-append P (take i xs) (x ∷ []) before (λ k d h. let first : k ≡ 0 = omega (arith, h) in rw first it))

is_some-map : {A B : Type 0} (f : A → B) (o : Option A) → is_some (option_map f o) ≡ is_some o
is_some-map f None = refl
is_some-map f (Some x) = refl

module _ (line : List ℕ) where
  -- what was found by the reading of a text, where there is one
  abbrev found_by : Option Expression → Option Match
  found_by = option_and_then (λ e. find_str e.tree line 0)

  hosts_by : (r : Option Expression)
      → is_some (option_and_then (λ e. option_map (host_spans e.names) (find_str e.tree line 0)) r) ≡ is_some (found_by r)
  hosts_by None = refl
  hosts_by (Some e) = is_some-map _ _

  whole_by : (r : Option Expression)
      → is_some (option_map (λ (s : NumberedSpans). s.whole) (option_and_then (λ e. option_map (numbered_spans 0) (find_str e.tree line 0)) r))
      ≡ is_some (found_by r)
  whole_by None = refl
  whole_by (Some e) = is_some-map _ _ ∙ is_some-map _ _

  whole_found : (text : List ℕ) → is_some (whole_in text line) ≡ is_some (found_by (reading text))
  unfolding numbered_in
  whole_found text = whole_by (reading text)

  -- a pattern has a match with its groups where it has a match
  pub is_some-hosts_in : (text : List ℕ) → is_some (hosts_in text line) ≡ is_some (whole_in text line)
  unfolding hosts_in
  is_some-hosts_in text = hosts_by (reading text) ∙ sym (whole_found text)

  module _ (bytes : (k : ℕ) → get_or line k 0 < 256) where
    matches : (text : List ℕ) (tree : Re) (names : Names) → IsReadAs text tree names → is_some (find_str tree line 0) ≡ is_some (whole_in text line)
    matches text tree names g = is_match_alike g.alike line bytes true 0 ∙ ap (λ r. is_some (found_by r)) (sym g.is) ∙ sym (whole_found text)

    all_match : (rs : List Regex) → All (λ r. (regex_config r ≡ default_config) × IsReadFromSource r) rs
        → matches_of true (map regex_pattern rs) line 0 ≡ map (λ text. is_some (whole_in text line)) (map regex_source rs)
    all_match [] all = refl
    all_match (r ∷ rs) all =
        let first = all 0 r (omega arith) in
        ap₂ ◌∷◌ (matches _ _ _ (read_as _ _ _ (rw first.0 at first.1))) (all_match rs (λ k d within. all (suc k) d (omega (arith, within))))

-- the patterns of a set match as their texts do
pub set_alike : (rs : List Regex) → All (λ r. (regex_config r ≡ default_config) × IsReadFromSource r) rs
    → MatchAlike (map regex_source rs) (map regex_pattern rs)
set_alike rs all line bytes = all_match line bytes rs all

list_any-map : {A : Type 0} (f : A → Bool) (xs : List A) → list_any (λ b. b) (map f xs) ≡ list_any f xs
list_any-map f [] = refl
list_any-map f (x ∷ xs) = ap (λ b. f x || b) (list_any-map f xs)

any_is : (bs : List Bool) (b : Bool) → (IsTrue b ↔ Any IsTrue bs) → b ≡ list_any (λ b. b) bs
any_is bs true h = sym (list_any-from_Any (λ b. b) bs (h.0 refl))
any_is bs false h = sym (false_from_ne_true _ (λ e. true≢false (sym (h.1 (Any-from_list_any (λ b. b) bs e)))))

-- whether any of them matched, by the texts
pub any_found : (texts : List (List ℕ)) (trees : List Re) → MatchAlike texts trees → (line : List ℕ) → ((k : ℕ) → get_or line k 0 < 256)
    → (found : Bool) → (IsTrue found ↔ Any IsTrue (matches_of true trees line 0)) → found ≡ list_any (λ text. is_some (whole_in text line)) texts
any_found texts trees alike line bytes found h =
    any_is _ found h ∙ ap (list_any (λ b. b)) (alike line bytes) ∙ list_any-map _ texts
