-- What is proved of texts with static tags: which texts stay, that what comes out is one of them, and by which steps it is reached.
use Rattle.std.specs.Prelude.{◌≡◌, ℕ, ◌-◌, ◌&&◌, not, List, [], ◌∷◌, ◌++◌, take, None, Some, Ok, IsTrue}
use Rattle.ini_interp.specs.Sections.{Sections}
use Rattle.ini_interp.specs.Values.{Scope}
use Rattle.tag_subst.specs.Names.{name_start, is_open, open_name, is_reserved}
use Rattle.tag_subst.specs.Tags.{Valuation, substituted}
use Rattle.tag_subst.specs.Values.{tag_value}

-- a static tag that a `>` behind the text ends has no value
abbrev pub IsWithoutValue : Valuation → List ℕ → Type 0
IsWithoutValue value text = IsTrue (is_open text && not (is_reserved (open_name text))) → value (open_name text) ≡ Ok None

-- no static tag of the text has a value
abbrev pub IsDone : Valuation → List ℕ → Type 0
IsDone value text = (before behind : List ℕ) → text ≡ before ++ 62 ∷ behind → IsWithoutValue value before

-- one step: of the static tags with a value, the one that ends first is replaced by its value. No tag stands in it, since its name holds
-- neither `<` nor `>`
pub record IsStep (value : Valuation) (old new : List ℕ) : Type 0 where
  -- what stands before the tag's `>` and behind it
  pub before : List ℕ
  pub behind : List ℕ
  pub old_is : old ≡ before ++ 62 ∷ behind
  pub first : IsDone value before
  -- the tag has a value, which now stands in its place
  pub is_tag : IsTrue (is_open before && not (is_reserved (open_name before)))
  pub text : List ℕ
  pub value_is : value (open_name before) ≡ Ok (Some text)
  pub new_is : new ≡ take (name_start before - 1) before ++ text ++ behind

-- by steps from one text to another, through these
abbrev pub AreSteps : Valuation → List ℕ → List (List ℕ) → List ℕ → Type 0
AreSteps value old [] new = old ≡ new
AreSteps value old (next ∷ texts) new = IsStep value old next × AreSteps value next texts new

pub record TagLaw : Type 0 where
  -- a text whose static tags have no value stays
  pub stays : (sections : Sections) (scope : Scope) (text : List ℕ) → IsDone (tag_value sections scope) text → substituted sections scope text ≡ Ok text
  -- and what comes of any text is such a one: nothing is left to be replaced
  pub ends : (sections : Sections) (scope : Scope) (text done : List ℕ) → substituted sections scope text ≡ Ok done → IsDone (tag_value sections scope) done
  -- it is reached by replacing one tag at a time
  pub steps :
      (sections : Sections) (scope : Scope) (text done : List ℕ) → substituted sections scope text ≡ Ok done →
      (texts : List (List ℕ)) × AreSteps (tag_value sections scope) text texts done
  -- and there is one way
  pub one_way : (value : Valuation) (old new other : List ℕ) → IsStep value old new → IsStep value old other → new ≡ other
