-- Where a path is cut, and what stands before an ending.
use Rattle.std.proofs.Common.{◌≡◌, ◌≢◌, ◌==◌, ℕ, zero, suc, ◌+◌, ◌-◌, ◌<◌, ◌≤◌, ◌++◌, true, false, not, List, length, get_or, take, drop, Option, Some, None, refl, sym, ap, subst, ◌∙◌, arith}
use Rattle.std.proofs.lemmas.Bool.Decides.{nat_tests}
use Rattle.std.proofs.lemmas.List.Sums.{suffix_len_is}
use Rattle.std.specs.Str.{IsUtf8, IsCharBoundary, bytes_eq}
use Rattle.std.proofs.lemmas.Str.{IsCharBoundary-after_ascii, IsCharBoundary-start}
use Rattle.regex_tool.specs.Targets.{file_len}

-- the place behind the last slash
pub file_place : (path : List ℕ) (start : ℕ) → start ≤ length path → ((k : ℕ) → start ≤ k → k < length path → (get_or path k 0 == 47) ≡ false) →
    (0 < start → (get_or path (start - 1) 0 == 47) ≡ true) → start ≡ length path - file_len path
file_place path start within file stop =
    let count = suffix_len_is (λ byte. not (byte == 47)) path start 0 within (λ k from below. let no = file k from below in rw no refl) (λ some. let yes = stop some in rw yes refl) in
    omega (arith, count)

-- a slash is ASCII
slash_is_ascii : (byte : ℕ) → (byte == 47) ≡ true → byte < 128
slash_is_ascii byte slash = grind (arith, nat_tests)

-- a character begins there
pub file_boundary : (path : List ℕ) (start : ℕ) → IsUtf8 path → start ≤ length path → (0 < start → (get_or path (start - 1) 0 == 47) ≡ true) → IsCharBoundary path start
file_boundary path zero text within stop = IsCharBoundary-start path text
file_boundary path (suc n) text within stop =
    let at : suc n - 1 ≡ n = omega arith in
    let slash : (get_or path n 0 == 47) ≡ true = ap (λ k. get_or path k 0 == 47) (sym at) ∙ stop (omega arith) in
    let next : n + 1 ≡ suc n = omega arith in
    subst (IsCharBoundary path) next (IsCharBoundary-after_ascii path n text (omega arith) (slash_is_ascii _ slash))
