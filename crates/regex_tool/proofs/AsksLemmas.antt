-- What clap's clauses give for this command.
use Rattle.std.proofs.Common.{◌≡◌, true, List, [], ◌∷◌, Option, None, Result, refl, sym, ap, ◌∙◌, subst, inl, inr}
use Rattle.clap.specs.Words.{App, Text, Kinds, FailsBy, HasKind, HasMatchesOf, is_simple, is_simple_and_free, fault_of, first_of, first_value, found_of, kind_of}
use Rattle.clap.specs.declared.error.Error.{Error}
use Rattle.clap.specs.declared.error.kind.ErrorKind.TheVariants.{OutOfMemory}
use Rattle.clap.specs.declared.parser.matches.ArgMatches.{ArgMatches}
use Rattle.clap.proofs.OnLiterals.{clap_on_literals}
use Rattle.clap.proofs.WalkLemmas.{first_value-rows}
use Rattle.regex_tool.specs.Asks.{Asks, tool, asks_by, asks_of, asks_if, given}

pub tool_is_simple : is_simple tool ≡ true
unfolding clap_on_literals
tool_is_simple = refl

pub tool_is_free : is_simple_and_free tool ≡ true
unfolding clap_on_literals
tool_is_free = refl

-- the value of an argument that a parse has
pub given_is : (words : List Text) (m : ArgMatches) → HasMatchesOf tool words m → (name : Text) → first_value (found_of m) name ≡ given words name
given_is words m h name = first_value-rows (found_of m) name ∙ ap (first_of name) (h tool_is_simple).0

-- what is asked for is told by the matches that a parse has
pub asks_as_found : (words : List Text) (m : ArgMatches) (found : Option Asks) → fault_of tool words ≡ [] → HasMatchesOf tool words m →
    found ≡ asks_by (first_value (found_of m)) → asks_of words ≡ found
unfolding asks_of
asks_as_found words m found fault has is =
    let same : asks_by (first_value (found_of m)) ≡ asks_by (given words) = λ i. asks_by (λ name. given_is words m has name i) in
    rw fault (sym (is ∙ same))

refused_by : (words : List Text) (kinds : Kinds) (e : Error) → HasKind kinds e → (kind_of e ≡ OutOfMemory → asks_if kinds words ≡ None) → asks_if kinds words ≡ None
refused_by words [] e (inl memory) other = other memory
refused_by words [] e (inr none) other = absurd none
refused_by words (k ∷ ks) e h other = refl

pub asks_nothing : (words : List Text) (e : Error) → HasKind (fault_of tool words) e → (kind_of e ≡ OutOfMemory → ⊥) → asks_of words ≡ None
unfolding asks_of
asks_nothing words e h other = refused_by words (fault_of tool words) e h (λ memory. absurd (other memory))

-- the clauses of a command that is this one
module _ (cmd : App) (e : cmd ≡ tool) (words : List Text) where
  pub fails_by : (r : Result ArgMatches Error) → (is_simple_and_free cmd ≡ true → FailsBy (fault_of cmd words) r) → FailsBy (fault_of tool words) r
  fails_by r h = subst (λ (a : App). is_simple_and_free a ≡ true → FailsBy (fault_of a words) r) e h tool_is_free

  pub has_matches : (m : ArgMatches) → HasMatchesOf cmd words m → HasMatchesOf tool words m
  has_matches m h = subst (λ (a : App). HasMatchesOf a words m) e h
