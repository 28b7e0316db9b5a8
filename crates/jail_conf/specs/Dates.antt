-- How an item says where the date of a line stands.
use Rattle.std.specs.Prelude.{ℕ, not, nat_lt, nat_eq, List, length, drop, Result, Ok, codes, if◌then◌else◌}
use Rattle.std.specs.List.{starts_with}
use Rattle.std.specs.Str.{bytes_eq}
use Rattle.date_words.specs.Directives.{is_date_pattern}
use Rattle.f2b_base.specs.declared.jail.DateSpec.{DateSpec}
use Rattle.f2b_base.specs.declared.jail.DateSpec.TheVariants.{Anchored, NoDate, Epoch, Iso, Pattern, AnchoredPattern}
use Rattle.jail_conf.specs.declared.conf_error.ConfKind.{ConfKind}
use Rattle.jail_conf.specs.declared.conf_error.ConfKind.TheVariants.{BadDate, TooMany}
use Rattle.jail_conf.specs.Readers.{Reader}
use Rattle.jail_conf.specs.Then.{◌>>◌, Fine, refuse_if}

abbrev pub anchor : List ℕ
anchor = codes "{^LN-BEG}"

abbrev pub most_bytes : ℕ
most_bytes = 8_192

-- nothing is wrong with the text as a date pattern
abbrev pub pattern_fits : List ℕ → Result Fine ConfKind
pattern_fits pattern = do
  refuse_if (not (is_date_pattern pattern)) BadDate
  refuse_if (nat_lt most_bytes (length pattern)) TooMany

abbrev pub date_pattern : (List ℕ → DateSpec) → List ℕ → Result DateSpec ConfKind
date_pattern spec pattern = do
  pattern_fits pattern
  Ok (spec pattern)

-- one of four words, or a pattern, perhaps behind the anchor
abbrev pub date : Reader DateSpec
date text =
    if bytes_eq text anchor then Ok Anchored
    else if bytes_eq text (codes "{NONE}") then Ok NoDate
    else if bytes_eq text (codes "Epoch") then Ok Epoch
    else if bytes_eq text (codes "ISO8601") then Ok Iso
    else if starts_with nat_eq text anchor then date_pattern AnchoredPattern (drop (length anchor) text)
    else date_pattern Pattern text
