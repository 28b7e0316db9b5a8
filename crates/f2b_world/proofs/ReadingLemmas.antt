-- How a regex, or its refusal, stands to the reading of the text.
use Rattle.std.proofs.Common.{◌≡◌, ◌≢◌, ℕ, ◌≤◌, ◌<◌, List, length, Option, Some, None, IsSome, IfSome, IsSomeAnd, option_and_then, refl, ap, inl, inr}
use Rattle.std.proofs.lemmas.Bool.{cond-true, cond-false, le-leb, lt-leb}
use Rattle.std.specs.Str.{chars}
use Rattle.regex.specs.Patterns.{Re, SameCaptures, default_config, Reads, Refuses}
use Rattle.regex.specs.Failures.{IsPattern}
use Rattle.regex_hir.specs.Meaning.{meaning}
use Rattle.regex_hir.specs.declared.hir.Hir.{Hir}
use Rattle.regex_syntax.specs.Brackets.{Nested}
use Rattle.regex_syntax.specs.Grammar.{Names, read, group_count}
use Rattle.regex_syntax.specs.declared.error.ErrorKind.{ErrorKind}
use Rattle.regex_syntax.specs.declared.error.ErrorKind.TheVariants.{OutOfMemory}
use Rattle.f2b_world.specs.Reading.{Expression, IsReadAs, within_limit, reading}

-- what `Reads` says of what the grammar read
abbrev IsRead : Re → Names → Nested Re × Names → Type 0
IsRead tree names (re, found) = (re.depth ≤ 250) × SameCaptures tree re.value × (names ≡ found) × (group_count tree ≤ length names)

read_within_limit : (o : Option (Nested Re × Names)) (tree : Re) (names : Names) → IsSomeAnd o (IsRead tree names) →
    (e : Expression) × (option_and_then within_limit o ≡ Some e) × SameCaptures tree e.tree × (names ≡ e.names)
read_within_limit None tree names h = absurd h
read_within_limit (Some (re, found)) tree names h =
    (record { tree = re.value; names = found }, cond-true _ _ _ (le-leb _ _ h.0), h.1, h.2)

-- what was read from the text is its reading
pub read_as : (text : List ℕ) (hir : Hir) (names : Names) → Reads default_config text hir names → IsReadAs text (meaning hir) names
unfolding Reads reading
read_as text hir names h =
    let found = read_within_limit (read default_config (chars text)) (meaning hir) names h in
    record { expression = found.0; is = found.1; alike = found.2; named = found.3 }

too_deep : (o : Option (Nested Re × Names)) → IfSome o (λ (re, _). 250 < re.depth) → option_and_then within_limit o ≡ None
too_deep None h = refl
too_deep (Some (re, found)) h = cond-false _ _ _ (lt-leb _ _ h)

-- a text that is refused has no reading, unless memory ran out
pub no_reading : (text : List ℕ) (kind : ErrorKind) → Refuses default_config text kind → kind ≢ OutOfMemory → reading text ≡ None
unfolding Refuses reading
no_reading text kind (inl memory) other = absurd (other memory)
no_reading text kind (inr (inl none)) other = ap (option_and_then within_limit) none
no_reading text kind (inr (inr deep)) other = too_deep (read default_config (chars text)) deep.1

IsSome-of : {A : Type 0} (o : Option A) (x : A) → o ≡ Some x → IsSome o
IsSome-of (Some y) x e = refl
IsSome-of None x e = absurd cc

pub has_reading : (text : List ℕ) → IsPattern default_config text → IsSome (reading text)
has_reading text h = let r = read_as text h.0 h.1 h.2 in IsSome-of _ _ r.is
