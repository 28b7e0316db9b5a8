-- What is read of a slot's start is what was written.
use Rattle.std.proofs.Common.{◌≡◌, ℕ, ◌^◌, ◌<◌, ◌≤◌, ◌==◌, false, cond, nat_lt, List, [], ◌∷◌, ◌++◌, length, take, drop, Some, None, refl, sym, ap, subst, ◌∙◌, append_assoc, arith, lit≤, inl, inr}
use Rattle.std.specs.Int.{Width, w64, to_be_bytes, from_be_bytes, byte_len}
use Rattle.std.proofs.lemmas.Bool.{ltb-false, le-ltb, cases_lt}
use Rattle.std.proofs.lemmas.List.{take_at, drop_at, take-append-drop, length-append, length-take, get_or-take, get_or_past}
use Rattle.std.proofs.lemmas.Nat.{be_bytes_8, from_be_bytes-to_be_bytes_8}
use Rattle.f2b_base.specs.declared.input.What.{What}
use Rattle.f2b_base.specs.declared.input.What.TheVariants.{Tick, Read, Ended, Config, Stop, Ban, Unban, Attempt, Ignore, Findtime, Bantime, Maxretry, Idle, CheckFailed}
use Rattle.f2b_base.specs.declared.ban.Failure.{Failure}
use Rattle.f2b_base.specs.declared.view.JailView.{JailView}
use Rattle.f2b_base.specs.declared.view.View.{View}
use Rattle.f2b_model.specs.Lists.{AllOf}
use Rattle.record_codec.specs.declared.version.Version.{Version}
use Rattle.record_codec.specs.declared.version.Version.TheVariants.{One, Two}
use Rattle.record_codec.specs.Inputs.{AreWholeIn}
use Rattle.record_codec.specs.Lanes.{up_lane, same_up}
use Rattle.record_codec.specs.Versions.{IsWholeIn}
use Rattle.record_codec.specs.Views.{view, IsViewWholeIn}
use Rattle.record_codec.proofs.DefinitionLemmas.{defs_codec}
use Rattle.record_codec.proofs.LaneLemmas.{up_lane_codec}
use Rattle.record_codec.proofs.ViewLemmas.{view_codec}
use Rattle.record_fields.specs.Addresses.{fixed_at, eight}
use Rattle.record_fields.specs.Codec.{Codec, IsBytes, IsHeld, IsCodec, and_then}
use Rattle.record_fields.specs.Lists.{list_of, is_new}
use Rattle.record_fields.proofs.CodecLemmas.{refused, Spelt, IsBytes-drop, then_codec, both_codec, made_codec, checked_codec, coded_codec, no_codes, code_case}
use Rattle.record_fields.proofs.ListLemmas.{listed_codec}
use Rattle.record_fields.proofs.NumberLemmas.{number_codec}
use Rattle.record_fields.proofs.SmallLemmas.{moment_codec}
use Rattle.journal_slots.specs.Starts.{eight_bytes, is_generation, generation, version_byte, version_of, IsVersion, version, Start, start}
use Rattle.journal_slots.specs.Grammar.{number_of}

-- ---- the generation

IsBytes-take : (n : ℕ) (bytes : List ℕ) → IsBytes bytes → IsBytes (take n bytes)
IsBytes-take n bytes h i =
    elim (cases_lt i n) [
      | inl lt ↦ rw (get_or-take n bytes i 0 lt) (h i)
      | inr le ↦ rw (get_or_past (take n bytes) i 0 (omega (arith, length-take n bytes))) (omega arith)
    ]

pub length-eight : (n : ℕ) → length (eight n) ≡ 8
unfolding eight
length-eight n = refl

-- a width of whole bytes, whose numbers are below a limit
record IsWide (w : Width) (limit : ℕ) : Type 0 where
  pub some : 1 ≤ byte_len w
  pub len : (n : ℕ) → length (to_be_bytes w n) ≡ byte_len w
  pub back : (bytes : List ℕ) → length bytes ≡ byte_len w → IsBytes bytes → to_be_bytes w (from_be_bytes w bytes) ≡ bytes
  pub again : (n : ℕ) → n < limit → from_be_bytes w (to_be_bytes w n) ≡ n
  pub below : (bytes : List ℕ) → IsBytes bytes → from_be_bytes w bytes < limit

wide64 : IsWide w64 (2 ^ 64)
wide64 = record {
  some = lit≤ tt;
  len = λ n. refl;
  back = λ bytes len fits. be_bytes_8 bytes _ len fits refl;
  again = λ n lt. from_be_bytes-to_be_bytes_8 n lt;
  below = λ bytes fits. omega (arith, fits 0, fits 1, fits 2, fits 3, fits 4, fits 5, fits 6, fits 7);
}

-- a number of that width; a reader is told where its field begins
abbrev fixed : Width → ℕ → ℕ → Codec ℕ
fixed w limit left = record { spell = to_be_bytes w; read = fixed_at w left; Fits = λ n. n < limit }

fixed_codec : (w : Width) (limit left : ℕ) → IsWide w limit → IsCodec (fixed w limit left)
unfolding fixed_at
fixed_codec w limit left wide = record {
  takes = λ bytes n rest ok e.
      let g = refused (nat_lt (length bytes) (byte_len w)) (from_be_bytes w (take (byte_len w) bytes), drop (byte_len w) bytes) left (n, rest) e in
      let long : byte_len w ≤ length bytes = ltb-false _ _ g.0 in
      let front : to_be_bytes w (from_be_bytes w (take (byte_len w) bytes)) ≡ take (byte_len w) bytes =
      wide.back (take (byte_len w) bytes) (omega (arith, length-take (byte_len w) bytes)) (IsBytes-take (byte_len w) bytes ok) in
      subst (Spelt (fixed w limit left) bytes) g.1 (
        sym (take-append-drop (byte_len w) bytes) ∙ ap (λ (t : List ℕ). t ++ drop (byte_len w) bytes) (sym front),
        wide.below (take (byte_len w) bytes) (IsBytes-take (byte_len w) bytes ok),
        IsBytes-drop (byte_len w) bytes ok,
      );
  again = λ n rest lt _.
      let long : nat_lt (length (to_be_bytes w n ++ rest)) (byte_len w) ≡ false = le-ltb _ _ (omega (arith, wide.len n, length-append (to_be_bytes w n) rest)) in
      rw (long, take_at (to_be_bytes w n) rest (byte_len w) (wide.len n), drop_at (to_be_bytes w n) rest (byte_len w) (wide.len n), wide.again n lt) refl;
  some = λ n. omega (arith, wide.len n, wide.some);
}

eight_codec : IsCodec eight_bytes
unfolding eight
eight_codec = record {
  takes = λ bytes n rest ok e. (fixed_codec w64 (2 ^ 64) (length bytes) wide64).takes bytes n rest ok e;
  again = λ n rest lt held. (fixed_codec w64 (2 ^ 64) (length (eight n ++ rest)) wide64).again n rest lt held;
  some = λ n. lit≤ tt;
}

pub generation_codec : IsCodec generation
unfolding generation
generation_codec = checked_codec is_generation eight_bytes eight_codec

-- ---- the version

version_codec : IsCodec version
unfolding version
version_codec = coded_codec version_byte version_of IsVersion
    (code_case version_byte IsVersion 1 One (λ b. cond (b == 2) (Some Two) None) refl tt
    (code_case version_byte IsVersion 2 Two (λ _. None) refl tt (no_codes version_byte IsVersion)))
    (λ v fits. elim v as (λ v. version_of (version_byte v) ≡ Some v) [ One ↦ refl | Two ↦ refl ])

-- ---- all of it

pub start_codec : IsCodec start
unfolding start
start_codec = made_codec _ _ _ (λ a _. refl) (λ s. refl) (both_codec generation _ generation_codec (then_codec version view version_codec view_codec))

view_long : (v : Version) (w : View) → 6 ≤ length ((view v).spell w)
unfolding view
view_long v w =
    let lanes : 1 ≤ length (list_of up_lane.spell w.up) = (listed_codec (is_new same_up) up_lane up_lane_codec None).some w.up in
    omega (arith, length-append {A = ℕ}, moment_codec.some w.at, defs_codec.some w.defs, lanes, number_codec.some w.next_job, number_codec.some w.next_ban)

-- an open slot has more than sixteen bytes
pub start_long : (s : Start) → 15 ≤ length (start.spell s)
unfolding start generation version
start_long s = omega (arith, length-eight s.generation, view_long s.version s.view, length-append (eight s.generation) (version_byte s.version ∷ (view s.version).spell s.view))

-- The generation alone is read too.
pub number-start : (s : Start) (rest : List ℕ) → start.Fits s → IsHeld (start.spell s ++ rest) → number_of (generation.read (start.spell s ++ rest)) ≡ s.generation
unfolding start
number-start s rest fits held =
    let more = (and_then version view).spell (s.version, s.view) in
    let grouped : start.spell s ++ rest ≡ generation.spell s.generation ++ (more ++ rest) = append_assoc (generation.spell s.generation) more rest in
    ap number_of (ap generation.read grouped ∙ generation_codec.again s.generation (more ++ rest) fits.0 (subst IsHeld grouped held))

-- ---- version 2 spells everything whole

all_whole : (fs : List Failure) → AllOf (IsWholeIn Two) fs
all_whole [] = tt
all_whole (f ∷ fs) = (tt, all_whole fs)

pub what_whole : (w : What) → AreWholeIn Two w
what_whole (Read jail path at found) = all_whole found
what_whole Tick = tt
what_whole (Ended id end) = tt
what_whole (Config d) = tt
what_whole Stop = tt
what_whole (Ban jail addrs) = tt
what_whole (Unban jail addrs) = tt
what_whole (Attempt jail host) = tt
what_whole (Ignore jail mask add) = tt
what_whole (Findtime jail secs) = tt
what_whole (Bantime jail secs) = tt
what_whole (Maxretry jail n) = tt
what_whole (Idle jail idle) = tt
what_whole (CheckFailed id end) = tt

jails_whole : (js : List JailView) → AllOf (λ (j : JailView). AllOf (IsWholeIn Two) j.failures) js
jails_whole [] = tt
jails_whole (j ∷ js) = (all_whole j.failures, jails_whole js)

pub view_whole : (v : View) → IsViewWholeIn Two v
view_whole v = jails_whole v.jails
