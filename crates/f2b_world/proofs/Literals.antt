-- Texts whose readings are computed.
use Rattle.std.proofs.Common.{◌≡◌, ℕ, true, List, [], ◌∷◌, None, Some, is_some, option_map, codes, refl}
use Rattle.regex.proofs.OnLiterals.{regex_on_literals}
use Rattle.f2b_world.specs.Reading.{Expression, reading}

-- look-around and back references are no patterns
pub no_look_ahead : reading (codes "(?=x)y") ≡ None
unfolding regex_on_literals reading
no_look_ahead = refl

pub no_look_behind : reading (codes "(?<=x)y") ≡ None
unfolding regex_on_literals reading
no_look_behind = refl

pub no_back_reference : reading (codes "(a)\\1") ≡ None
unfolding regex_on_literals reading
no_back_reference = refl

-- ten digits of seconds since 1970, with or without a fraction
abbrev pub epoch : List ℕ
epoch = codes "\\b([0-9]{10})(?:\\.[0-9]{1,6})?\\b"

pub epoch_reads : is_some (reading epoch) ≡ true
unfolding regex_on_literals reading
epoch_reads = refl

-- it has the group 1, of the seconds, behind the group 0, of the match
pub epoch_groups : option_map (λ (e : Expression). e.names) (reading epoch) ≡ Some (None ∷ None ∷ [])
unfolding regex_on_literals reading
epoch_groups = refl
