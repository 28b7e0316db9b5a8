-- A step keeps what stands beside the jails within its bounds: the moment, how long past bans count, the names, and how many
-- jails and patterns there are.
use Rattle.std.proofs.Common.{◌≡◌, ℕ, max, ◌≤◌, Bool, true, false, List, [], ◌∷◌, length, map, refl, sym, ap, ◌∙◌, subst, arith}
use Rattle.std.specs.Prelude.{bytes_eq, sum}
use Rattle.std.proofs.lemmas.List.{length-map}
use Rattle.f2b_base.specs.Limits.{last_moment}
use Rattle.f2b_base.specs.declared.addr.Cidr.{Cidr}
use Rattle.f2b_base.specs.declared.input.Input.{Input}
use Rattle.f2b_base.specs.declared.input.What.{What}
use Rattle.f2b_base.specs.declared.input.What.TheVariants.{Config}
use Rattle.f2b_base.specs.declared.jail.JailDef.{JailDef}
use Rattle.f2b_model.specs.declared.jail_now.JailNow.{JailNow}
use Rattle.f2b_model.specs.Lists.{AreDistinct}
use Rattle.f2b_model.specs.Moves.{ignored}
use Rattle.f2b_model.specs.Nows.{JailsNow}
use Rattle.f2b_model.specs.Steps.{moves_now, named, names, is_spent, at_reading, done, jails_step_now}
use Rattle.f2b_model.specs.Storable.{longest_span, patterns_of, AreFewPatterns, IsStorableInput, IsStorableWhat}
use Rattle.f2b_model.proofs.ListLemmas.{by_test}
use Rattle.f2b_model.proofs.NameLemmas.{name_of, all_seen, seen_after, keeps_now, moves_now_names, step_names, Keeps}

-- ---- the moment and the purge

abbrev pub IsBeside : JailsNow → Type 0
IsBeside w = (w.at ≤ last_moment) × (w.purge ≤ longest_span)

done_beside : (word : ℕ) (what : What) (w : JailsNow) → IsStorableWhat what → IsBeside w → IsBeside (done moves_now word what w)
done_beside word (Config defs) w s b = (b.0, s.purge)
done_beside word what w s b = b

pub step_beside : (w : JailsNow) (input : Input) → IsStorableInput input → IsBeside w → IsBeside (jails_step_now w input)
step_beside w input s b =
    by_test (is_spent w) _
    (λ t. rw t b)
    (λ t.
    let at : max w.at input.secs ≤ last_moment = (let h = b.0 in let k = s.secs in omega (arith, h, k)) in
    rw t (done_beside input.word input.what (at_reading moves_now input.secs w) s.what (at, b.1)))

-- ---- names, and how many jails

few_names : (what : What) (ns : List (List ℕ)) → IsStorableWhat what → length ns ≤ 256 → length (seen_after name_of what ns) ≤ 256
few_names (Config defs) ns s few = let most = s.most in omega (arith, most, length-map defs.jails (λ (d : JailDef). d.name))
few_names what ns s few = few

names_length : (js : List JailNow) → length (names moves_now js) ≡ length js
names_length js = length-map js (named moves_now)

pub few_jails : (w : JailsNow) (input : Input) → IsStorableInput input → length w.jails ≤ 256 → length (jails_step_now w input).jails ≤ 256
few_jails w input s few =
    by_test (is_spent w) (length (jails_step_now w input).jails ≤ 256)
    (λ t. rw t few)
    (λ t.
    let old : length (names moves_now w.jails) ≤ 256 = omega (arith, few, names_length w.jails) in
    let new : length (names moves_now (jails_step_now w input).jails) ≤ 256 = subst (λ (ns : List (List ℕ)). length ns ≤ 256) (sym (step_names moves_now moves_now_names w input t)) (few_names input.what (names moves_now w.jails) s.what old) in
    omega (arith, new, names_length (jails_step_now w input).jails))

distinct_names : (what : What) (ns : List (List ℕ)) → IsStorableWhat what → AreDistinct bytes_eq ns → AreDistinct bytes_eq (seen_after name_of what ns)
distinct_names (Config defs) ns s d = s.names
distinct_names what ns s d = d

pub names_stored : (w : JailsNow) (input : Input) → IsStorableInput input → AreDistinct bytes_eq (names moves_now w.jails) → AreDistinct bytes_eq (names moves_now (jails_step_now w input).jails)
names_stored w input s d =
    by_test (is_spent w) (AreDistinct bytes_eq (names moves_now (jails_step_now w input).jails))
    (λ t. rw t d)
    (λ t. subst (AreDistinct bytes_eq) (sym (step_names moves_now moves_now_names w input t)) (distinct_names input.what (names moves_now w.jails) s.what d))

-- ---- patterns

ignored_patterns : (cidr : Cidr) (add : Bool) (d : JailDef) → patterns_of (ignored cidr add d) ≡ patterns_of d
ignored_patterns cidr true d = refl
ignored_patterns cidr false d = refl

patterns_keep : Keeps moves_now patterns_of
patterns_keep = keeps_now patterns_of (record { limited = λ findtime maxretry d. refl; spanned = λ secs d. refl; ignored = ignored_patterns })

few_patterns : (what : What) (ns : List ℕ) → IsStorableWhat what → sum ns ≤ 512 → sum (seen_after patterns_of what ns) ≤ 512
few_patterns (Config defs) ns s few = s.patterns
few_patterns what ns s few = few

defs_seen : (js : List JailNow) → all_seen moves_now patterns_of js ≡ map patterns_of (map moves_now.definition js)
defs_seen [] = refl
defs_seen (j ∷ js) = ap (λ ns. patterns_of j.definition ∷ ns) (defs_seen js)

pub patterns_stored : (w : JailsNow) (input : Input) → IsStorableInput input → AreFewPatterns (map moves_now.definition w.jails) → AreFewPatterns (map moves_now.definition (jails_step_now w input).jails)
patterns_stored w input s few =
    by_test (is_spent w) (AreFewPatterns (map moves_now.definition (jails_step_now w input).jails))
    (λ t. rw t few)
    (λ t.
    let old : sum (all_seen moves_now patterns_of w.jails) ≤ 512 = subst (λ (ns : List ℕ). sum ns ≤ 512) (sym (defs_seen w.jails)) few in
    let same = sym (step_names moves_now patterns_keep w input t) ∙ defs_seen (jails_step_now w input).jails in
    subst (λ (ns : List ℕ). sum ns ≤ 512) same (few_patterns input.what (all_seen moves_now patterns_of w.jails) s.what old))
