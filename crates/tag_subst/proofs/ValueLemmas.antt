-- The value of a tag without a slash.
use Rattle.std.proofs.Common.{◌≡◌, ℕ, Bool, cond, List, length, ap}
use Rattle.std.specs.List.{position_or_len, before_first, after_first}
use Rattle.ini_interp.specs.Sections.{Sections}
use Rattle.ini_interp.specs.Values.{Scope, is_slash, value_in}
use Rattle.ini_interp.proofs.ScopeLemmas.{none_passes}
use Rattle.tag_subst.specs.Values.{tag_value, value_behind}

pub tag_value-plain : (sections : Sections) (scope : Scope) (tag : List ℕ) → position_or_len is_slash tag ≡ length tag →
    tag_value sections scope tag ≡ value_in sections scope tag
tag_value-plain sections scope tag e =
    ap (λ (b : Bool). cond b (value_behind sections scope (before_first is_slash tag) (after_first is_slash tag)) (value_in sections scope tag))
    (none_passes is_slash tag e)
