-- What is proved of commands: which parts of a template are tags, and what becomes of all others.
use Rattle.std.specs.Prelude.{◌≡◌, ℕ, ◌≤◌, ◌==◌, true, false, List, ◌∷◌, ◌++◌, length, Some, None}
use Rattle.std.specs.List.{list_all, list_any}
use Rattle.std.specs.Str.{IsUtf8}
use Rattle.f2b_base.specs.declared.ban.Failure.{Failure}
use Rattle.f2b_model.specs.declared.fill.Fill.{Fill}
use Rattle.f2b_model.specs.Escapes.{is_safe}
use Rattle.f2b_model.specs.Lists.{AllOf}
use Rattle.f2b_model.specs.Matches.{matches_bytes, matches_of}
use Rattle.f2b_model.specs.Render.{values, value_of, opens_group, rendered}

-- no byte of the text is this one
abbrev pub IsWithout : ℕ → List ℕ → Type 0
IsWithout byte text = list_any (λ b. b == byte) text ≡ false

-- the text does not begin with a tag's name and a `>`
abbrev pub BeginsNoTag : Fill → List ℕ → Type 0
BeginsNoTag f text = (name rest : List ℕ) → text ≡ name ++ 62 ∷ rest → value_of f name ≡ None

-- a template is read from its first `<` on, over and over
pub record RenderLaw : Type 0 where
  -- a text with no `<` stays
  pub plain : (text : List ℕ) (f : Fill) → IsWithout 60 text → rendered text f ≡ text
  -- a tag gives its value, which is not read again
  pub tag : (before name rest value : List ℕ) (f : Fill) → IsWithout 60 before → opens_group before ≡ false → value_of f name ≡ Some value
      → rendered (before ++ 60 ∷ (name ++ 62 ∷ rest)) f ≡ before ++ (value ++ rendered rest f)
  -- any other `<` stays
  pub group : (before rest : List ℕ) (f : Fill) → IsWithout 60 before → opens_group before ≡ true → rendered (before ++ 60 ∷ rest) f ≡ before ++ 60 ∷ rendered rest f
  pub other : (before rest : List ℕ) (f : Fill) → IsWithout 60 before → BeginsNoTag f rest → rendered (before ++ 60 ∷ rest) f ≡ before ++ 60 ∷ rendered rest f
  -- a command is a text where its template and the values of its tags are
  pub utf8 : (template : List ℕ) (f : Fill) → IsUtf8 template → AllOf (λ (entry : List ℕ × List ℕ). IsUtf8 entry.1) (values f) → IsUtf8 (rendered template f)
  -- what a ban shows has at most 8,192 bytes, each of which means nothing to a shell
  pub short : (maxmatches : ℕ) (fs : List Failure) → length (matches_of maxmatches fs) ≤ matches_bytes
  pub safe : (maxmatches : ℕ) (fs : List Failure) → list_all is_safe (matches_of maxmatches fs) ≡ true
