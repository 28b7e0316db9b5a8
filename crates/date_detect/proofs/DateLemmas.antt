-- The date of a form in a line, by what its pattern matches.
use Rattle.std.proofs.Common.{◌≡◌, ℕ, ◌+◌, ◌<◌, length, get_or, drop-cons, add-one, is_some, is_none, Bool, true, false, true≢false, List, [], ◌∷◌, map, drop, Option, Some, None, option_map, ne_eqb, refl, sym, ap, ℤ, if◌then◌else◌}
use Rattle.f2b_world.specs.declared.pattern.spans.Cut.{Cut}
use Rattle.date_detect.proofs.OptionLemmas.{option_or-some, option_or-none}
use Rattle.date_detect.specs.Fields.{said_moment}
use Rattle.f2b_world.specs.Matches.{whole_in, group_in}
use Rattle.date_detect.specs.Texts.{numbers_of, said_at}
use Rattle.date_detect.specs.Dates.{match_in, covered, said_in, found_at, one_on, has_bracket, date_of, date_by, first_date}
use Rattle.date_detect.specs.declared.form.Form.{Form}

matched-none : {A : Type 0} (o : Option A) → is_some o ≡ true → is_none o ≡ false
matched-none None h = absurd (true≢false (sym h))
matched-none (Some x) h = refl

unmatched-none : {A : Type 0} (o : Option A) → is_some o ≡ false → o ≡ None
unmatched-none None h = refl
unmatched-none (Some x) h = absurd (true≢false h)

-- what the groups of a form cover, by the parts that were written
pub said_is : (form : Form) (line : List ℕ) (cuts : List (Option Cut))
    → cuts ≡ map (group_in form.pattern line) (numbers_of form.groups) → said_at line cuts ≡ said_in form line
unfolding covered
said_is form line cuts is = ap (said_at line) is

module _ (form : Form) (now : ℕ) (zone : ℤ) (line : List ℕ) where
  -- a match that is a date or none
  pub date_is : (cut : Cut) → Some cut ≡ whole_in form.pattern line →
      option_map (found_at cut) (said_moment (said_in form line) now zone) ≡ date_of form now zone line
  unfolding date_of match_in
  date_is cut is = rw (← is) refl

  -- a form that has a match gives the match's date, anchored or not
  pub matched : (anchored : Bool) → is_some (match_in form.pattern line) ≡ true →
      date_of form now zone line ≡ date_by anchored form now zone line
  unfolding date_by
  matched true some = rw (matched-none _ some) refl
  matched false some = refl

  pub no_date : is_some (match_in form.pattern line) ≡ false → None ≡ date_of form now zone line
  unfolding date_of
  no_date none = rw (unmatched-none _ none) refl

  module _ (none : is_some (match_in form.pattern line) ≡ false) where
    pub unmatched : None ≡ date_by false form now zone line
    unfolding date_by
    unmatched = no_date none

    behind : (bracket : Bool) → has_bracket line ≡ bracket →
        (if bracket then option_map one_on (date_of form now zone (drop 1 line)) else None) ≡ date_by true form now zone line
    unfolding date_by
    behind true is = rw (unmatched-none _ none, is) refl
    behind false is = rw (unmatched-none _ none, is) (no_date none)

    -- one that has none is looked for behind a bracket
    pub behind_bracket : (if has_bracket line then option_map one_on (date_of form now zone (drop 1 line)) else None)
        ≡ date_by true form now zone line
    behind_bracket = behind (has_bracket line) refl

-- a line that no rest stands in behind a bracket
pub no_bracket : (line : List ℕ) → ((rest : List ℕ) → line ≡ 91 ∷ rest → ⊥) → has_bracket line ≡ false
no_bracket [] h = refl
no_bracket (c ∷ line) h = ne_eqb c 91 (λ is. h line (ap (λ d. d ∷ line) is))

-- ---- the forms one after the other

module _ (anchored : Bool) (now : ℕ) (zone : ℤ) (line : List ℕ) where
  pub first_date-none : first_date anchored [] now zone line ≡ None
  unfolding first_date
  first_date-none = refl

  module _ (forms : List Form) (i : ℕ) (default : Form) (within : i < length forms) where
    -- a form that gives a date gives that of all from it on
    pub first_date-some : is_some (date_by anchored (get_or forms i default) now zone line) ≡ true →
        first_date anchored (drop i forms) now zone line ≡ date_by anchored (get_or forms i default) now zone line
    unfolding first_date
    first_date-some some = rw (drop-cons forms i default) (option_or-some _ _ some)

    -- and one that gives none is passed over
    pub first_date-more : is_some (date_by anchored (get_or forms i default) now zone line) ≡ false →
        first_date anchored (drop i forms) now zone line ≡ first_date anchored (drop (i + 1) forms) now zone line
    unfolding first_date
    first_date-more none = rw (drop-cons forms i default, add-one) (option_or-none _ _ none)
