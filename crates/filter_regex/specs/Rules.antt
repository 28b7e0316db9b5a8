-- What a filter goes by: how the date of a line is found, and the texts of its patterns.
use Rattle.std.specs.Prelude.{ℕ, ◌+◌, ◌<◌, ◌^◌, ℤ, pos, neg_ℤ, int_lt, ◌&&◌, IsTrue, Bool, true, false, List, [], ◌∷◌, ◌++◌, Option, Some, None, option_map, length, map}
use Rattle.f2b_base.specs.declared.jail.JailDef.{JailDef}
use Rattle.f2b_base.specs.declared.jail.DateSpec.{DateSpec}
use Rattle.f2b_base.specs.declared.jail.DateSpec.TheVariants.{NoDate}
use Rattle.host_ident.specs.Expanded.{expanded}
use Rattle.date_detect.specs.Forms.{Rule, rule_of, texts, HasDatePattern}
use Rattle.filter_regex.specs.declared.error.PatternPlace.{PatternPlace}
use Rattle.filter_regex.specs.declared.error.PatternPlace.TheVariants.{Date, Pref, Fail, Ignore}

pub record Rules : Type 0 where
  pub dates : Rule
  -- lines have no date: each is dated now
  pub undated : Bool
  -- how many seconds a date without a zone is ahead of UTC
  pub zone : ℤ
  -- what a line has to match first
  pub pref : Option (List ℕ)
  -- the patterns of failures
  pub fail : List (List ℕ)
  -- the patterns of lines that are ignored
  pub ignore_lines : List (List ℕ)

abbrev pub is_undated : DateSpec → Bool
is_undated NoDate = true
is_undated _ = false

-- the rules of a jail, with the tags of its patterns expanded
abbrev pub rules_of : JailDef → Rules
rules_of jail = record {
  dates = rule_of jail.date;
  undated = is_undated jail.date;
  zone = jail.zone;
  pref = option_map expanded jail.pref;
  fail = map expanded jail.fail;
  ignore_lines = map expanded jail.ignore_lines;
}

-- A jail that a filter is built for: a date pattern of its own is one, its zone is less than a day away from UTC, and its patterns
-- have numbers of 32 bits.
pub record IsSupported (jail : JailDef) : Type 0 where
  pub date : HasDatePattern jail.date
  pub zone : IsTrue (int_lt (neg_ℤ (pos 86_400)) jail.zone && int_lt jail.zone (pos 86_400))
  pub fail : length jail.fail < 2 ^ 32
  pub ignore_lines : length jail.ignore_lines < 2 ^ 32

-- ---- the patterns with their places

abbrev pub date_places : List (List ℕ) → List (PatternPlace × List ℕ)
date_places [] = []
date_places (text ∷ texts) = (Date, text) ∷ date_places texts

abbrev pub pref_place : Option (List ℕ) → List (PatternPlace × List ℕ)
pref_place None = []
pref_place (Some text) = (Pref, text) ∷ []

-- the texts of a kind, by their numbers, where the first has the number n
abbrev pub numbered : (ℕ → PatternPlace) → ℕ → List (List ℕ) → List (PatternPlace × List ℕ)
numbered place n [] = []
numbered place n (text ∷ texts) = (place n, text) ∷ numbered place (n + 1) texts

-- the patterns in the order in which they are built
abbrev pub patterns : Rules → List (PatternPlace × List ℕ)
patterns rules =
    date_places (texts rules.dates)
    ++ (pref_place rules.pref ++ (numbered Fail 1 rules.fail ++ numbered Ignore 1 rules.ignore_lines))
