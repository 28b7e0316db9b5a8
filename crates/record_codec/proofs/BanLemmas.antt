-- What is read of bans is what was written.
use Rattle.std.proofs.Common.{◌≡◌, ℕ, ◌-◌, ◌^◌, ◌<◌, ◌≤◌, List, [], ◌∷◌, ◌++◌, length, Result, Ok, Err, refl, arith}
use Rattle.f2b_base.specs.declared.ban.Ban.{Ban}
use Rattle.f2b_base.specs.declared.ban.Past.{Past}
use Rattle.f2b_base.specs.declared.ban.Until.{Until}
use Rattle.f2b_base.specs.declared.ban.Until.TheVariants.{Never, At}
use Rattle.f2b_model.specs.Storable.{most_numbers, IsStorableUntil, IsStorableBan, IsStorablePast}
use Rattle.record_fields.specs.Codec.{IsCodec, IsHeld, no_case}
use Rattle.record_fields.specs.Small.{moment}
use Rattle.record_fields.proofs.AddressLemmas.{addr_codec}
use Rattle.record_fields.proofs.CodecLemmas.{both_codec, made_codec, fit_codec, no_cases, case_of, case_alone, field_takes, case_again}
use Rattle.record_fields.proofs.SmallLemmas.{moment_codec, count_codec}
use Rattle.record_codec.specs.Views.{until, until_spelling, ban, past}
use Rattle.record_codec.proofs.AllowedLemmas.{FitsAre}
use Rattle.record_codec.proofs.LaneLemmas.{began_codec}

until_again : (x : Until) (rest : List ℕ) → IsStorableUntil x → IsHeld (until_spelling x ++ rest) → until.read (until_spelling x ++ rest) ≡ Ok (x, rest)
unfolding until
until_again Never rest h held = refl
until_again (At n) rest h held = case_again 1 moment (λ n. At n) moment_codec n rest h held

until_some : (x : Until) → 1 ≤ length (until_spelling x)
until_some Never = omega arith
until_some (At n) = omega arith

until_codec : IsCodec until
unfolding until
until_codec = record {
  takes = field_takes until_spelling IsStorableUntil _
      (case_alone until_spelling IsStorableUntil 0 Never _ refl tt (case_of until_spelling IsStorableUntil 1 moment (λ n. At n) _ moment_codec (λ p. refl) (λ p h. h) (no_cases until_spelling IsStorableUntil)));
  again = until_again;
  some = until_some;
}

until_word : FitsAre until IsStorableUntil
unfolding until
until_word = record { are = λ x h. h; fit = λ x h. h }

pub ban_codec : IsCodec ban
unfolding ban
ban_codec = fit_codec IsStorableBan _
    (made_codec _ _ _ (λ a _. refl) (λ b. refl) (both_codec _ _ began_codec (both_codec _ _ addr_codec (both_codec _ _ moment_codec (both_codec _ _ until_codec (both_codec _ _ count_codec count_codec))))))
    (λ b h.
    let serial : b.serial ≤ most_numbers - 1 = h.0 in
    let count : b.count ≤ 2 ^ 32 - 1 = h.1.1.1.1.0 in
    let failures : b.failures ≤ 2 ^ 32 - 1 = h.1.1.1.1.1 in
    record { serial = omega arith; addr = h.1.0; begin = h.1.1.0; until = until_word.are b.until h.1.1.1.0; count = omega arith; failures = omega arith })
    (λ b h.
    let serial : b.serial < most_numbers = h.serial in
    let count : b.count < 2 ^ 32 = h.count in
    let failures : b.failures < 2 ^ 32 = h.failures in
    (omega arith, (h.addr, (h.begin, (until_word.fit b.until h.until, (omega arith, omega arith))))))

pub ban_word : FitsAre ban IsStorableBan
unfolding ban
ban_word = record { are = λ x h. h; fit = λ x h. h }

pub past_codec : IsCodec past
unfolding past
past_codec = fit_codec IsStorablePast _ (made_codec _ _ _ (λ a _. refl) (λ p. refl) (both_codec _ _ addr_codec moment_codec))
    (λ p h. record { addr = h.0; end = h.1 }) (λ p h. (h.addr, h.end))

pub past_word : FitsAre past IsStorablePast
unfolding past
past_word = record { are = λ x h. h; fit = λ x h. h }
