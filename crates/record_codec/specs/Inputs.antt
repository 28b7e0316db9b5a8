-- The spelling of inputs.
use Rattle.std.specs.Prelude.{◌≡◌, ℕ, ◌^◌, Bool, List, [], ◌∷◌, ◌++◌, Option, Some, None, Result, Ok, Err, ℤ}
use Rattle.f2b_base.specs.Addresses.{same_addr}
use Rattle.f2b_base.specs.declared.addr.Addr.{Addr}
use Rattle.f2b_base.specs.declared.ban.Failure.{Failure}
use Rattle.f2b_base.specs.declared.input.Input.{Input}
use Rattle.f2b_base.specs.declared.input.What.{What}
use Rattle.f2b_base.specs.declared.input.What.TheVariants.{Tick, Read, Ended, Config, Stop, Ban, Unban, Attempt, Ignore, Findtime, Bantime, Maxretry, Idle, CheckFailed}
use Rattle.f2b_base.specs.declared.jail.Place.{Place}
use Rattle.f2b_base.specs.declared.job.Outcome.{Outcome}
use Rattle.f2b_model.specs.Lists.{AllOf}
use Rattle.f2b_model.specs.Storable.{most_at_once, IsStorableWhat, IsStorableInput}
use Rattle.record_codec.specs.declared.version.Version.{Version}
use Rattle.record_codec.specs.Definitions.{name, place, base, defs}
use Rattle.record_codec.specs.Lanes.{outcome}
use Rattle.record_codec.specs.Versions.{failure, IsWholeIn}
use Rattle.record_fields.specs.Addresses.{addr, cidr}
use Rattle.record_fields.specs.Codec.{as_made, Reads, Codec, both, made, fit, case, no_case, field, option_of}
use Rattle.record_fields.specs.Lists.{listed, any, is_new}
use Rattle.record_fields.specs.Numbers.{number, between}
use Rattle.record_fields.specs.Small.{flag, moment, span}
use Rattle.record_fields.specs.Texts.{text}

-- the fields of each kind of input that has some
abbrev pub read_fields : Version → Codec (List ℕ × (List ℕ × (Place × List Failure)))
read_fields version = both name (both text (both place (listed (Some most_at_once) any (failure version))))

abbrev pub ended_fields : Codec (ℕ × Outcome)
ended_fields = both number outcome

-- addresses, each of which stands once
abbrev pub distinct_addrs : Codec (List Addr)
distinct_addrs = listed (Some most_at_once) (is_new same_addr) addr

abbrev pub ban_fields : Codec (List ℕ × List Addr)
ban_fields = both name distinct_addrs

abbrev pub unban_fields : Codec (Option (List ℕ) × Option (List Addr))
unban_fields = both (option_of name) (option_of (listed None any addr))

abbrev pub what_spelling : Version → What → List ℕ
what_spelling version Tick = 0 ∷ []
what_spelling version (Read jail path at found) = 1 ∷ (read_fields version).spell (jail, (path, (at, found)))
what_spelling version (Ended id end) = 2 ∷ ended_fields.spell (id, end)
what_spelling version (Config d) = 3 ∷ defs.spell d
what_spelling version Stop = 4 ∷ []
what_spelling version (Ban jail addrs) = 5 ∷ ban_fields.spell (jail, addrs)
what_spelling version (Unban jail addrs) = 6 ∷ unban_fields.spell (jail, addrs)
what_spelling version (Attempt jail host) = 7 ∷ (both name addr).spell (jail, host)
what_spelling version (Ignore jail mask add) = 8 ∷ (both name (both cidr flag)).spell (jail, (mask, add))
what_spelling version (Findtime jail secs) = 9 ∷ (both name span).spell (jail, secs)
what_spelling version (Bantime jail secs) = 10 ∷ (both name base).spell (jail, secs)
what_spelling version (Maxretry jail n) = 11 ∷ (both name (between 1 100000)).spell (jail, n)
what_spelling version (Idle jail idle) = 12 ∷ (both name flag).spell (jail, idle)
what_spelling version (CheckFailed id end) = 13 ∷ ended_fields.spell (id, end)

unfoldable pub read_at : Version → Reads What
read_at version = as_made (λ x. Read x.0 x.1.0 x.1.1.0 x.1.1.1) (read_fields version)

unfoldable pub ended_at : Reads What
ended_at = as_made (λ x. Ended x.0 x.1) ended_fields

unfoldable pub config_at : Reads What
config_at = as_made (λ x. Config x) defs

unfoldable pub ban_at : Reads What
ban_at = as_made (λ x. Ban x.0 x.1) ban_fields

unfoldable pub unban_at : Reads What
unban_at = as_made (λ x. Unban x.0 x.1) unban_fields

unfoldable pub attempt_at : Reads What
attempt_at = as_made (λ x. Attempt x.0 x.1) (both name addr)

unfoldable pub ignore_at : Reads What
ignore_at = as_made (λ x. Ignore x.0 x.1.0 x.1.1) (both name (both cidr flag))

unfoldable pub findtime_at : Reads What
findtime_at = as_made (λ x. Findtime x.0 x.1) (both name span)

unfoldable pub bantime_at : Reads What
bantime_at = as_made (λ x. Bantime x.0 x.1) (both name base)

unfoldable pub maxretry_at : Reads What
maxretry_at = as_made (λ x. Maxretry x.0 x.1) (both name (between 1 100000))

unfoldable pub idle_at : Reads What
idle_at = as_made (λ x. Idle x.0 x.1) (both name flag)

unfoldable pub check_failed_at : Reads What
check_failed_at = as_made (λ x. CheckFailed x.0 x.1) ended_fields

-- the failures of what happened are spelt whole in a version
abbrev pub AreWholeIn : Version → What → Type 0
AreWholeIn version (Read jail path at found) = AllOf (IsWholeIn version) found
AreWholeIn version _ = Unit {0}

-- what happened can be stored, and is spelt whole in a version
abbrev pub IsWhatIn : Version → What → Type 0
IsWhatIn version x = IsStorableWhat x × AreWholeIn version x

unfoldable pub what : Version → Codec What
what version = record {
  spell = what_spelling version;
  read = field
      (case 0 (λ bytes. Ok (Tick, bytes))
      (case 1 (read_at version)
      (case 2 ended_at
      (case 3 config_at
      (case 4 (λ bytes. Ok (Stop, bytes))
      (case 5 ban_at
      (case 6 unban_at
      (case 7 attempt_at
      (case 8 ignore_at
      (case 9 findtime_at
      (case 10 bantime_at
      (case 11 maxretry_at
      (case 12 idle_at
      (case 13 check_failed_at no_case))))))))))))));
  Fits = IsWhatIn version;
}

-- the input can be stored, and is spelt whole in a version
abbrev pub IsInputIn : Version → Input → Type 0
IsInputIn version i = IsStorableInput i × AreWholeIn version i.what

unfoldable pub input : Version → Codec Input
input version = fit (IsInputIn version) (made (λ x. record { secs = x.0; word = x.1.0; what = x.1.1 }) (λ i. (i.secs, (i.word, i.what))) (both moment (both number (what version))))
