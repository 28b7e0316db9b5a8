-- Bytes and texts behind their number of bytes.
use Rattle.std.specs.Prelude.{ℕ, ◌≤◌, nat_lt, nat_le, List, ◌++◌, length, take, drop, Ok, Err, if◌then◌else◌}
use Rattle.std.specs.Str.{is_utf8, IsUtf8}
use Rattle.record_fields.specs.Codec.{◌>>=◌, Reads, Codec, checked, fit}
use Rattle.record_fields.specs.Numbers.{digits, number_at}

unfoldable pub string_at : Reads (List ℕ)
string_at bytes = number_at bytes >>= λ n. if nat_lt (length n.1) n.0 then Err (length bytes) else Ok (take n.0 n.1, drop n.0 n.1)

unfoldable pub string_spelling : List ℕ → List ℕ
string_spelling s = digits 10 (length s) ++ s

-- bytes behind their number
abbrev pub string : Codec (List ℕ)
string = record { spell = string_spelling; read = string_at; Fits = λ _. Unit {0} }

-- UTF-8 behind the number of its bytes
abbrev pub text : Codec (List ℕ)
text = fit IsUtf8 (checked is_utf8 string)

-- at most so many bytes of UTF-8
abbrev pub short : ℕ → Codec (List ℕ)
short most = fit (λ s. IsUtf8 s × (length s ≤ most)) (checked (λ s. nat_le (length s) most) text)
