-- Bytes, looks and names whose lines, steps and matches can be told by hand.
use Rattle.std.proofs.Common.{◌≡◌, true, false, [], ◌∷◌, refl}
use lib.Utf8.{encode}
use Rattle.std.specs.Str.{chars, is_utf8}
use Rattle.f2b_base.specs.declared.jail.Place.TheVariants.{Tail, Pos}
use Rattle.log_follow.specs.Decoded.{decoded, front_length}
use Rattle.log_follow.specs.declared.line.Line.TheVariants.{Whole}
use Rattle.log_follow.specs.declared.step.Step.TheVariants.{Rotated, Lines}
use Rattle.log_follow.specs.Globs.{globs, to_slash, behind_slash}
use Rattle.log_follow.specs.Watches.{Watch, begun, looked, place_in, reading_place}
use Rattle.log_follow.specs.Lines.{pieces_of, parts_of, rest_of, line_of, new_lines}

-- `a`, LF, LF, `bc`
two_parts : parts_of (97 ∷ 10 ∷ 10 ∷ 98 ∷ 99 ∷ []) ≡ (97 ∷ []) ∷ [] ∷ []
unfolding parts_of pieces_of
two_parts = refl

half_line : rest_of (97 ∷ 10 ∷ 10 ∷ 98 ∷ 99 ∷ []) ≡ 98 ∷ 99 ∷ []
unfolding rest_of pieces_of
half_line = refl

-- one CR is dropped, and only one
one_return : line_of (97 ∷ 13 ∷ 13 ∷ []) ≡ Whole (97 ∷ 13 ∷ [])
unfolding line_of decoded front_length is_utf8 chars encode
one_return = refl

-- the first two bytes of a sequence of three are two U+FFFD, and `e` with an acute accent is kept
two_faults : decoded (0xE2 ∷ 0x82 ∷ 97 ∷ 0xC3 ∷ 0xA9 ∷ []) ≡ 0xEF ∷ 0xBF ∷ 0xBD ∷ 0xEF ∷ 0xBF ∷ 0xBD ∷ 97 ∷ 0xC3 ∷ 0xA9 ∷ []
unfolding decoded front_length is_utf8 chars encode
two_faults = refl

-- `a` was seen; `b`, CR, LF, `c` come
across : new_lines (97 ∷ []) (98 ∷ 13 ∷ 10 ∷ 99 ∷ []) ≡ Whole (97 ∷ 98 ∷ []) ∷ []
unfolding parts_of pieces_of line_of decoded front_length is_utf8 chars encode
across = refl

-- after a carry `abc`: a log of two bytes, one with other first bytes, and the same with an LF behind it
abbrev abc : Watch
abc = record { base = Pos 0 []; seen = 97 ∷ 98 ∷ 99 ∷ [] }

shorter : (looked abc (record { size = 2; head = 97 ∷ 98 ∷ []; bytes = [] })).1 ≡ Rotated
shorter = refl

other : (looked abc (record { size = 4; head = 120 ∷ 98 ∷ 99 ∷ 10 ∷ []; bytes = 10 ∷ [] })).1 ≡ Rotated
other = refl

other_is_read_from_its_start : reading_place (looked abc (record { size = 4; head = 120 ∷ 98 ∷ 99 ∷ 10 ∷ []; bytes = 10 ∷ [] })).0 ≡ 0
other_is_read_from_its_start = refl

same : (looked abc (record { size = 4; head = 97 ∷ 98 ∷ 99 ∷ 10 ∷ []; bytes = 10 ∷ [] })).1 ≡ Lines (Whole (97 ∷ 98 ∷ 99 ∷ []) ∷ [])
unfolding parts_of pieces_of line_of decoded front_length is_utf8 chars encode
same = refl

-- a log of three bytes that is followed from its end
at_its_end : place_in (looked (begun Tail) (record { size = 3; head = 97 ∷ 98 ∷ 99 ∷ []; bytes = [] })).0 ≡ Pos 3 (97 ∷ 98 ∷ 99 ∷ [])
unfolding rest_of pieces_of
at_its_end = refl

-- `a*.log` stands for `a1.log`, and not for `b.log`; `?` needs a character
star : globs (97 ∷ 42 ∷ 46 ∷ 108 ∷ []) (97 ∷ 49 ∷ 46 ∷ 108 ∷ []) ≡ true
star = refl

not_another : globs (97 ∷ 42 ∷ 46 ∷ 108 ∷ []) (98 ∷ 46 ∷ 108 ∷ []) ≡ false
not_another = refl

not_none : globs (63 ∷ []) [] ≡ false
not_none = refl

-- `/v/a*` is the directory `/v/` and the pattern `a*`
directory : to_slash (47 ∷ 118 ∷ 47 ∷ 97 ∷ 42 ∷ []) ≡ 47 ∷ 118 ∷ 47 ∷ []
directory = refl

pattern : behind_slash (47 ∷ 118 ∷ 47 ∷ 97 ∷ 42 ∷ []) ≡ 97 ∷ 42 ∷ []
pattern = refl
