-- The forms of dates that a jail goes by.
use Rattle.std.specs.Prelude.{ℕ, Bool, true, false, List, [], ◌∷◌, ◌++◌, map, None, codes, if◌then◌else◌, IsTrue}
use Rattle.std.specs.Option.{option_map_or}
use Rattle.regex_syntax.specs.Grammar.{Names}
use Rattle.f2b_base.specs.declared.jail.DateSpec.{DateSpec}
use Rattle.f2b_base.specs.declared.jail.DateSpec.TheVariants.{Default, Anchored, NoDate, Epoch, Iso, Pattern, AnchoredPattern}
use Rattle.f2b_world.specs.Matches.{number_of}
use Rattle.f2b_world.specs.Reading.{Expression, reading}
use Rattle.date_detect.specs.Usual.{usual_text, usual_groups, all_usual}
use Rattle.date_words.specs.Directives.{is_date_pattern, expanded}
use Rattle.date_detect.specs.declared.form.Groups.{Groups}
use Rattle.date_detect.specs.declared.form.Form.{Form}
use Rattle.date_detect.specs.declared.usual.UsualForm.{UsualForm}
use Rattle.date_detect.specs.declared.usual.UsualForm.TheVariants.{Iso as IsoForm, Epoch as EpochForm}

-- The forms in the order in which they are tried, and whether a date has to stand at the line's beginning. A form is the text of a
-- pattern and what its groups mean.
pub record Rule : Type 0 where
  pub anchored : Bool
  pub forms : List Form

-- a pattern, or the pattern that matches at the beginning alone
abbrev pub framed : Bool → List ℕ → List ℕ
framed anchored text = if anchored then codes "^(?:" ++ text ++ codes ")" else text

abbrev pub usual_form : Bool → UsualForm → Form
usual_form anchored usual = record { pattern = framed anchored (usual_text usual); groups = usual_groups usual }

-- the groups of a user's pattern, by their names
abbrev pub named_groups : Names → Groups
named_groups names = record {
  year = number_of (codes "f2bY") names;
  short_year = number_of (codes "f2by") names;
  month = number_of (codes "f2bm") names;
  month_name = number_of (codes "f2bb") names;
  day = number_of (codes "f2bd") names;
  hour = number_of (codes "f2bH") names;
  minute = number_of (codes "f2bM") names;
  second = number_of (codes "f2bS") names;
  zone = number_of (codes "f2bz") names;
  moment = None;
}

-- the names of the groups of a pattern, from group 0 on
unfoldable pub names_in : List ℕ → Names
names_in text = option_map_or (λ (e : Expression). e.names) (reading text) []

abbrev pub own_form : Bool → List ℕ → Form
own_form anchored text =
    let pattern = framed anchored (expanded text) in record { pattern = pattern; groups = named_groups (names_in pattern) }

abbrev pub usual_rule : Bool → List UsualForm → Rule
usual_rule anchored usual = record { anchored = anchored; forms = map (usual_form anchored) usual }

abbrev pub own_rule : Bool → List ℕ → Rule
own_rule anchored text = record { anchored = anchored; forms = own_form anchored text ∷ [] }

-- what a jail's definition says of its dates
abbrev pub rule_of : DateSpec → Rule
rule_of Default = usual_rule false all_usual
rule_of Anchored = usual_rule true all_usual
rule_of NoDate = usual_rule false []
rule_of Epoch = usual_rule false (EpochForm ∷ [])
rule_of Iso = usual_rule false (IsoForm ∷ [])
rule_of (Pattern text) = own_rule false text
rule_of (AnchoredPattern text) = own_rule true text

-- a user's pattern, if there is one, is a date pattern
abbrev pub HasDatePattern : DateSpec → Type 0
HasDatePattern (Pattern text) = IsTrue (is_date_pattern text)
HasDatePattern (AnchoredPattern text) = IsTrue (is_date_pattern text)
HasDatePattern _ = Unit {0}

-- no pattern of a user
abbrev pub IsUsual : DateSpec → Type 0
IsUsual (Pattern text) = ⊥
IsUsual (AnchoredPattern text) = ⊥
IsUsual _ = Unit {0}

-- the texts of the patterns, in order
abbrev pub texts : Rule → List (List ℕ)
texts rule = map (λ (f : Form). f.pattern) rule.forms
