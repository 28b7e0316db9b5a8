-- Flags, moments, spans and counts that are read are those that were written.
use Rattle.std.proofs.Common.{◌≡◌, ◌-◌, ◌^◌, true, false, Some, refl, lit<}
use Rattle.f2b_base.specs.Limits.{last_moment}
use Rattle.record_fields.specs.Codec.{IsCodec}
use Rattle.record_fields.specs.Small.{moment, span, count, flag, flag_code, flag_of}
use Rattle.record_fields.proofs.CodecLemmas.{coded_codec, no_codes, code_case}
use Rattle.record_fields.proofs.NumberLemmas.{at_most_codec, between_codec}

pub moment_codec : IsCodec moment
moment_codec = at_most_codec last_moment (lit< tt)

pub span_codec : IsCodec span
span_codec = between_codec 1 3153600000 (lit< tt)

pub count_codec : IsCodec count
count_codec = at_most_codec (2 ^ 32 - 1) (lit< tt)

pub flag_codec : IsCodec flag
flag_codec = coded_codec flag_code flag_of (λ _. Unit {0})
    (code_case flag_code (λ _. Unit {0}) 0 false _ refl tt (code_case flag_code (λ _. Unit {0}) 1 true _ refl tt (no_codes flag_code (λ _. Unit {0}))))
    (λ a _. elim a as (λ a. flag_of (flag_code a) ≡ Some a) [ true ↦ refl | false ↦ refl ])
