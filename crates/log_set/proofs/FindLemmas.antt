-- The failures among lines.
use Rattle.std.proofs.Common.{ℕ, ◌≡◌, ◌+◌, ◌<◌, ◌++◌, List, [], ◌∷◌, length, get_or, take, sym, ap, ◌∙◌}
use Rattle.std.specs.List.{cons_option}
use Rattle.std.proofs.lemmas.List.{take_more}
use Rattle.std.proofs.lemmas.List.Elements.{filter_map-append}
use Rattle.log_follow.specs.declared.line.Line.{Line}
use Rattle.log_set.specs.declared.jail_search.JailSearch.{JailSearch}
use Rattle.log_set.specs.Searches.{failure_by, failures_by}

-- one line more
pub one_more : (j : JailSearch) (now : ℕ) (lines : List Line) (i : ℕ) (line : Line) → i < length lines → line ≡ get_or lines i line
    → failures_by j now (take (i + 1) lines) ≡ failures_by j now (take i lines) ++ cons_option (failure_by j now line) []
one_more j now lines i line less is =
    ap (failures_by j now) (take_more lines i line less ∙ ap (λ x. take i lines ++ x ∷ []) (sym is))
    ∙ filter_map-append (failure_by j now) (take i lines) (line ∷ [])
