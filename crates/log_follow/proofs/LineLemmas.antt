-- The line of a part, by its length.
use Rattle.std.proofs.Common.{ℕ, ◌≡◌, ◌<◌, ◌≤◌, List, length, refl, ap, ◌∙◌, sym}
use Rattle.std.proofs.lemmas.Bool.{lt-ltb, le-ltb}
use Rattle.std.specs.Str.Lines.{strip_carriage_return}
use Rattle.log_follow.specs.Decoded.{decoded}
use Rattle.log_follow.specs.declared.line.Line.TheVariants.{Whole, Long}
use Rattle.log_follow.specs.Lines.{line_of}

pub line_of-long : (part : List ℕ) → 65536 < length part → line_of part ≡ Long
unfolding line_of
line_of-long part over = rw (lt-ltb 65536 (length part) over) refl

pub line_of-short : (part : List ℕ) → length part ≤ 65536 → line_of part ≡ Whole (decoded (strip_carriage_return part))
unfolding line_of
line_of-short part short = rw (le-ltb 65536 (length part) short) refl

-- the text of the bytes without the CR
pub line_of-text : (part bytes text : List ℕ) → length part ≤ 65536 → bytes ≡ strip_carriage_return part → text ≡ decoded bytes → Whole text ≡ line_of part
line_of-text part bytes text short is made = ap Whole (made ∙ ap decoded is) ∙ sym (line_of-short part short)
