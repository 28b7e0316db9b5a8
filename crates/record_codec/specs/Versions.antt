-- Failures, whose spelling is what the two versions differ in: version 1 has no lines.
use Rattle.std.specs.Prelude.{◌≡◌, List, [], ◌++◌, Result, Ok, Err}
use Rattle.f2b_base.specs.Limits.{kept_line_bytes}
use Rattle.f2b_base.specs.declared.ban.Failure.{Failure}
use Rattle.f2b_model.specs.Storable.{IsStorableFailure}
use Rattle.record_codec.specs.declared.version.Version.{Version}
use Rattle.record_codec.specs.declared.version.Version.TheVariants.{One, Two}
use Rattle.record_fields.specs.Addresses.{addr}
use Rattle.record_fields.specs.Codec.{◌>>=◌, Codec, both, made, fit, as_made}
use Rattle.record_fields.specs.Small.{moment}
use Rattle.record_fields.specs.Texts.{short}

-- the failure is one that a version spells whole: in version 1 its line is empty
abbrev pub IsWholeIn : Version → Failure → Type 0
IsWholeIn One f = f.line ≡ []
IsWholeIn Two f = Unit {0}

-- a line is not spelt, and read as empty
unfoldable pub failure_v1 : Codec Failure
failure_v1 = record {
  spell = λ f. addr.spell f.addr ++ moment.spell f.time;
  read = as_made (λ x. record { addr = x.0; time = x.1; line = [] }) (both addr moment);
  Fits = λ f. IsStorableFailure f × (f.line ≡ []);
}

unfoldable pub failure_v2 : Codec Failure
failure_v2 = fit (λ f. IsStorableFailure f × Unit {0}) (made (λ x. record { addr = x.0; time = x.1.0; line = x.1.1 }) (λ f. (f.addr, (f.time, f.line))) (both addr (both moment (short kept_line_bytes))))

abbrev pub failure : Version → Codec Failure
failure One = failure_v1
failure Two = failure_v2
