-- What is read of an input is what was written, in each version.
use Rattle.std.proofs.Common.{◌≡◌, ℕ, ◌^◌, ◌<◌, ◌≤◌, nat_le, List, [], ◌∷◌, ◌++◌, length, Option, Some, None, Result, Ok, Err, ℤ, refl, sym, arith, lit<, lit≤}
use Rattle.std.proofs.lemmas.Bool.{leb-true, le-leb}
use Rattle.std.proofs.lemmas.Str.{IsUtf8-nil}
use Rattle.f2b_base.specs.Addresses.{IsAddr, same_addr}
use Rattle.f2b_base.specs.Limits.{kept_line_bytes}
use Rattle.f2b_base.specs.declared.addr.Addr.{Addr}
use Rattle.f2b_base.specs.declared.addr.Cidr.{Cidr}
use Rattle.f2b_base.specs.declared.ban.Failure.{Failure}
use Rattle.f2b_base.specs.declared.input.What.{What}
use Rattle.f2b_base.specs.declared.input.What.TheVariants.{Tick, Read, Ended, Config, Stop, Ban, Unban, Attempt, Ignore, Findtime, Bantime, Maxretry, Idle, CheckFailed}
use Rattle.f2b_base.specs.declared.jail.Place.{Place}
use Rattle.f2b_base.specs.declared.job.Outcome.{Outcome}
use Rattle.f2b_model.specs.Lists.{AllOf}
use Rattle.f2b_model.specs.Storable.{most_at_once, IsStorableFailure, IsStorableInput, IsNameOrNone, AreAddrsOrNone, IsStorableWhat}
use Rattle.record_codec.specs.declared.version.Version.{Version}
use Rattle.record_codec.specs.declared.version.Version.TheVariants.{One, Two}
use Rattle.record_fields.specs.Addresses.{addr, cidr}
use Rattle.record_fields.specs.Codec.{IsCodec, IsHeld, both, option_of, no_case}
use Rattle.record_fields.specs.Lists.{AreListed, listed, any, is_new}
use Rattle.record_fields.specs.Numbers.{number, between}
use Rattle.record_fields.specs.Small.{flag, moment, span}
use Rattle.record_fields.specs.Texts.{text, short}
use Rattle.record_fields.proofs.AddressLemmas.{addr_codec, cidr_codec}
use Rattle.record_fields.proofs.CodecLemmas.{both_codec, made_codec, remade_codec, fit_codec, AreCases, no_cases, case_of, case_alone, field_takes, case_again, option_codec}
use Rattle.record_fields.proofs.ListLemmas.{listed_codec}
use Rattle.record_fields.proofs.NumberLemmas.{number_codec, between_codec}
use Rattle.record_fields.proofs.SmallLemmas.{flag_codec, moment_codec, span_codec}
use Rattle.record_fields.proofs.TextLemmas.{text_codec, short_codec}
use Rattle.record_codec.specs.Definitions.{name, place, base, defs}
use Rattle.record_codec.specs.Inputs.{read_fields, ended_fields, distinct_addrs, ban_fields, unban_fields, what_spelling, AreWholeIn, IsWhatIn, what, IsInputIn, input, read_at, ended_at, config_at, ban_at, unban_at, attempt_at, ignore_at, findtime_at, bantime_at, maxretry_at, idle_at, check_failed_at}
use Rattle.record_codec.specs.Lanes.{outcome}
use Rattle.record_codec.specs.Versions.{failure, failure_v1, failure_v2, IsWholeIn}
use Rattle.record_codec.proofs.AllowedLemmas.{FitsAre, all_each, each_all, any_allowed, distinct_of_new, new_of_distinct}
use Rattle.record_codec.proofs.DefinitionLemmas.{place_codec, place_word, base_codec, defs_codec, defs_word, cidr_word}
use Rattle.record_codec.proofs.LaneLemmas.{outcome_codec, outcome_word}
use Rattle.record_codec.proofs.NameLemmas.{name_codec, name_word}

-- ---- failures

failure_v1_codec : IsCodec failure_v1
unfolding failure_v1
failure_v1_codec = remade_codec (both addr moment) (λ x. record { addr = x.0; time = x.1; line = [] }) (λ f. (f.addr, f.time)) (λ f. addr.spell f.addr ++ moment.spell f.time)
    (λ f. IsStorableFailure f × (f.line ≡ []))
    (λ a _. refl) (λ f. refl)
    (λ a h. (record { addr = h.0; time = h.1; line = (IsUtf8-nil, omega arith) }, refl))
    (λ f h. ((h.0.addr, h.0.time), let e = h.1 in λ i. record { addr = f.addr; time = f.time; line = sym e i }))
    (both_codec addr moment addr_codec moment_codec)

failure_v2_codec : IsCodec failure_v2
unfolding failure_v2
failure_v2_codec = fit_codec (λ f. IsStorableFailure f × Unit {0}) _
    (made_codec _ _ _ (λ a _. refl) (λ f. refl) (both_codec _ _ addr_codec (both_codec _ _ moment_codec (short_codec kept_line_bytes))))
    (λ f h. (record { addr = h.0; time = h.1.0; line = h.1.1 }, tt))
    (λ f h. (h.0.addr, (h.0.time, h.0.line)))

pub failure_codec : (version : Version) → IsCodec (failure version)
failure_codec One = failure_v1_codec
failure_codec Two = failure_v2_codec

v1_word : FitsAre failure_v1 (λ f. IsStorableFailure f × (f.line ≡ []))
unfolding failure_v1
v1_word = record { are = λ x h. h; fit = λ x h. h }

v2_word : FitsAre failure_v2 (λ f. IsStorableFailure f × Unit {0})
unfolding failure_v2
v2_word = record { are = λ x h. h; fit = λ x h. h }

pub failure_word : (version : Version) → FitsAre (failure version) (λ f. IsStorableFailure f × IsWholeIn version f)
failure_word One = v1_word
failure_word Two = v2_word

-- two facts on each are two lists of facts
pub all_first : {A : Type 0} (P Q : A → Type 0) (xs : List A) → AllOf (λ x. P x × Q x) xs → AllOf P xs × AllOf Q xs
all_first P Q [] h = (tt, tt)
all_first P Q (x ∷ xs) h = let others = all_first P Q xs h.1 in ((h.0.0, others.0), (h.0.1, others.1))

pub all_joined : {A : Type 0} (P Q : A → Type 0) (xs : List A) → AllOf P xs → AllOf Q xs → AllOf (λ x. P x × Q x) xs
all_joined P Q [] g h = tt
all_joined P Q (x ∷ xs) g h = ((g.0, h.0), all_joined P Q xs g.1 h.1)

-- ---- what happened

read_codec : (version : Version) → IsCodec (read_fields version)
read_codec version = both_codec _ _ name_codec (both_codec _ _ text_codec (both_codec _ _ place_codec (listed_codec any (failure version) (failure_codec version) (Some most_at_once))))

ended_codec : IsCodec ended_fields
ended_codec = both_codec _ _ number_codec outcome_codec

ban_codec : IsCodec ban_fields
ban_codec = both_codec _ _ name_codec (listed_codec (is_new same_addr) addr addr_codec (Some most_at_once))

unban_codec : IsCodec unban_fields
unban_codec = both_codec _ _ (option_codec name name_codec) (option_codec (listed None any addr) (listed_codec any addr addr_codec None))

attempt_codec : IsCodec (both name addr)
attempt_codec = both_codec _ _ name_codec addr_codec

ignore_codec : IsCodec (both name (both cidr flag))
ignore_codec = both_codec _ _ name_codec (both_codec _ _ cidr_codec flag_codec)

findtime_codec : IsCodec (both name span)
findtime_codec = both_codec _ _ name_codec span_codec

bantime_codec : IsCodec (both name base)
bantime_codec = both_codec _ _ name_codec base_codec

maxretry_codec : IsCodec (both name (between 1 100000))
maxretry_codec = both_codec _ _ name_codec (between_codec 1 100000 (lit< tt))

idle_codec : IsCodec (both name flag)
idle_codec = both_codec _ _ name_codec flag_codec

module _ (version : Version) where
  read_is : (jail path : List ℕ) (at : Place) (fs : List Failure) → (read_fields version).Fits (jail, (path, (at, fs))) → IsWhatIn version (Read jail path at fs)
  read_is jail path at fs h =
      let listed = h.1.1.1 in
      let parts = all_first IsStorableFailure (IsWholeIn version) fs (all_each (failure version).Fits (λ f. IsStorableFailure f × IsWholeIn version f) (failure_word version).are fs listed.each) in
      ((name_word.are jail h.0, h.1.0, place_word.are at h.1.1.0, parts.0, leb-true (length fs) most_at_once listed.few), parts.1)

  read_of : (jail path : List ℕ) (at : Place) (fs : List Failure) → IsWhatIn version (Read jail path at fs) → (read_fields version).Fits (jail, (path, (at, fs)))
  read_of jail path at fs h = (
    name_word.fit jail h.0.0,
    (
      h.0.1,
      (
        place_word.fit at h.0.2,
        record {
          few = le-leb (length fs) most_at_once h.0.4;
          each = each_all (λ f. IsStorableFailure f × IsWholeIn version f) (failure version).Fits (failure_word version).fit fs (all_joined IsStorableFailure (IsWholeIn version) fs h.0.3 h.1);
          all_allowed = any_allowed [] fs;
        },
      ),
    ),
  )

  ban_is : (jail : List ℕ) (addrs : List Addr) → ban_fields.Fits (jail, addrs) → IsWhatIn version (Ban jail addrs)
  ban_is jail addrs h =
      ((name_word.are jail h.0, all_each IsAddr IsAddr (λ a fits. fits) addrs h.1.each, distinct_of_new same_addr addrs h.1.all_allowed, leb-true (length addrs) most_at_once h.1.few), tt)

  ban_of : (jail : List ℕ) (addrs : List Addr) → IsWhatIn version (Ban jail addrs) → ban_fields.Fits (jail, addrs)
  ban_of jail addrs h = (
    name_word.fit jail h.0.0,
    record {
      few = le-leb (length addrs) most_at_once h.0.3;
      each = each_all IsAddr IsAddr (λ a fits. fits) addrs h.0.1;
      all_allowed = new_of_distinct same_addr addrs h.0.2;
    },
  )

  name_or_none : (o : Option (List ℕ)) → (option_of name).Fits o → IsNameOrNone o
  name_or_none None h = tt
  name_or_none (Some s) h = name_word.are s h

  none_or_name : (o : Option (List ℕ)) → IsNameOrNone o → (option_of name).Fits o
  none_or_name None h = tt
  none_or_name (Some s) h = name_word.fit s h

  addrs_or_none : (o : Option (List Addr)) → (option_of (listed None any addr)).Fits o → AreAddrsOrNone o
  addrs_or_none None h = tt
  addrs_or_none (Some addrs) h = all_each IsAddr IsAddr (λ a fits. fits) addrs h.each

  none_or_addrs : (o : Option (List Addr)) → AreAddrsOrNone o → (option_of (listed None any addr)).Fits o
  none_or_addrs None h = tt
  none_or_addrs (Some addrs) h = record { few = refl; each = each_all IsAddr IsAddr (λ a fits. fits) addrs h; all_allowed = any_allowed [] addrs }

  what_again : (x : What) (rest : List ℕ) → IsWhatIn version x → IsHeld (what_spelling version x ++ rest) → (what version).read (what_spelling version x ++ rest) ≡ Ok (x, rest)
  unfolding what read_at ended_at config_at ban_at unban_at attempt_at ignore_at findtime_at bantime_at maxretry_at idle_at check_failed_at
  what_again Tick rest h held = refl
  what_again (Read jail path at found) rest h held =
      case_again 1 (read_fields version) (λ x. Read x.0 x.1.0 x.1.1.0 x.1.1.1) (read_codec version) (jail, (path, (at, found))) rest (read_of jail path at found h) held
  what_again (Ended id end) rest h held = case_again 2 ended_fields (λ x. Ended x.0 x.1) ended_codec (id, end) rest (h.0.0, outcome_word.fit end h.0.1) held
  what_again (Config d) rest h held = case_again 3 defs (λ x. Config x) defs_codec d rest (defs_word.fit d h.0) held
  what_again Stop rest h held = refl
  what_again (Ban jail addrs) rest h held = case_again 5 ban_fields (λ x. Ban x.0 x.1) ban_codec (jail, addrs) rest (ban_of jail addrs h) held
  what_again (Unban jail addrs) rest h held = case_again 6 unban_fields (λ x. Unban x.0 x.1) unban_codec (jail, addrs) rest (none_or_name jail h.0.0, none_or_addrs addrs h.0.1) held
  what_again (Attempt jail host) rest h held = case_again 7 (both name addr) (λ x. Attempt x.0 x.1) attempt_codec (jail, host) rest (name_word.fit jail h.0.0, h.0.1) held
  what_again (Ignore jail mask add) rest h held =
      case_again 8 (both name (both cidr flag)) (λ x. Ignore x.0 x.1.0 x.1.1) ignore_codec (jail, (mask, add)) rest (name_word.fit jail h.0.0, (cidr_word.fit mask h.0.1, tt)) held
  what_again (Findtime jail secs) rest h held = case_again 9 (both name span) (λ x. Findtime x.0 x.1) findtime_codec (jail, secs) rest (name_word.fit jail h.0.0, h.0.1) held
  what_again (Bantime jail secs) rest h held = case_again 10 (both name base) (λ x. Bantime x.0 x.1) bantime_codec (jail, secs) rest (name_word.fit jail h.0.0, h.0.1) held
  what_again (Maxretry jail n) rest h held = case_again 11 (both name (between 1 100000)) (λ x. Maxretry x.0 x.1) maxretry_codec (jail, n) rest (name_word.fit jail h.0.0, h.0.1) held
  what_again (Idle jail idle) rest h held = case_again 12 (both name flag) (λ x. Idle x.0 x.1) idle_codec (jail, idle) rest (name_word.fit jail h.0, tt) held
  what_again (CheckFailed id end) rest h held = case_again 13 ended_fields (λ x. CheckFailed x.0 x.1) ended_codec (id, end) rest (h.0.0, outcome_word.fit end h.0.1) held

  what_some : (x : What) → 1 ≤ length (what_spelling version x)
  what_some Tick = omega arith
  what_some (Read jail path at found) = omega arith
  what_some (Ended id end) = omega arith
  what_some (Config d) = omega arith
  what_some Stop = omega arith
  what_some (Ban jail addrs) = omega arith
  what_some (Unban jail addrs) = omega arith
  what_some (Attempt jail host) = omega arith
  what_some (Ignore jail mask add) = omega arith
  what_some (Findtime jail secs) = omega arith
  what_some (Bantime jail secs) = omega arith
  what_some (Maxretry jail n) = omega arith
  what_some (Idle jail idle) = omega arith
  what_some (CheckFailed id end) = omega arith

  abbrev spelt : What → List ℕ
  spelt = what_spelling version

  abbrev Fit : What → Type 0
  Fit = IsWhatIn version

  what_codec : IsCodec (what version)
  unfolding what read_at ended_at config_at ban_at unban_at attempt_at ignore_at findtime_at bantime_at maxretry_at idle_at check_failed_at
  what_codec = record {
    takes = field_takes spelt Fit _
        (case_alone spelt Fit 0 Tick _ refl (tt, tt)
        (case_of spelt Fit 1 (read_fields version) (λ x. Read x.0 x.1.0 x.1.1.0 x.1.1.1) _ (read_codec version) (λ p. refl) (λ p h. read_is p.0 p.1.0 p.1.1.0 p.1.1.1 h)
        (case_of spelt Fit 2 ended_fields (λ x. Ended x.0 x.1) _ ended_codec (λ p. refl) (λ p h. ((h.0, outcome_word.are p.1 h.1), tt))
        (case_of spelt Fit 3 defs (λ x. Config x) _ defs_codec (λ p. refl) (λ p h. (defs_word.are p h, tt))
        (case_alone spelt Fit 4 Stop _ refl (tt, tt)
        (case_of spelt Fit 5 ban_fields (λ x. Ban x.0 x.1) _ ban_codec (λ p. refl) (λ p h. ban_is p.0 p.1 h)
        (case_of spelt Fit 6 unban_fields (λ x. Unban x.0 x.1) _ unban_codec (λ p. refl) (λ p h. ((name_or_none p.0 h.0, addrs_or_none p.1 h.1), tt))
        (case_of spelt Fit 7 (both name addr) (λ x. Attempt x.0 x.1) _ attempt_codec (λ p. refl) (λ p h. ((name_word.are p.0 h.0, h.1), tt))
        (case_of spelt Fit 8 (both name (both cidr flag)) (λ x. Ignore x.0 x.1.0 x.1.1) _ ignore_codec (λ p. refl) (λ p h. ((name_word.are p.0 h.0, cidr_word.are p.1.0 h.1.0), tt))
        (case_of spelt Fit 9 (both name span) (λ x. Findtime x.0 x.1) _ findtime_codec (λ p. refl) (λ p h. ((name_word.are p.0 h.0, h.1), tt))
        (case_of spelt Fit 10 (both name base) (λ x. Bantime x.0 x.1) _ bantime_codec (λ p. refl) (λ p h. ((name_word.are p.0 h.0, h.1), tt))
        (case_of spelt Fit 11 (both name (between 1 100000)) (λ x. Maxretry x.0 x.1) _ maxretry_codec (λ p. refl) (λ p h. ((name_word.are p.0 h.0, h.1), tt))
        (case_of spelt Fit 12 (both name flag) (λ x. Idle x.0 x.1) _ idle_codec (λ p. refl) (λ p h. (name_word.are p.0 h.0, tt))
        (case_of spelt Fit 13 ended_fields (λ x. CheckFailed x.0 x.1) _ ended_codec (λ p. refl) (λ p h. ((h.0, outcome_word.are p.1 h.1), tt)) (no_cases spelt Fit)))))))))))))));
    again = what_again;
    some = what_some;
  }

  what_word : (x : What) → (what version).Fits x → IsWhatIn version x
  unfolding what
  what_word x h = h

  word_what : (x : What) → IsWhatIn version x → (what version).Fits x
  unfolding what
  word_what x h = h

  pub input_codec : IsCodec (input version)
  unfolding input
  input_codec = fit_codec (IsInputIn version) _ (made_codec _ _ _ (λ a _. refl) (λ i. refl) (both_codec _ _ moment_codec (both_codec _ _ number_codec what_codec)))
      (λ i h. let fits = what_word i.what h.1.1 in (record { secs = h.0; word = h.1.0; what = fits.0 }, fits.1))
      (λ i h. (h.0.secs, (h.0.word, word_what i.what (h.0.what, h.1))))

  pub input_word : FitsAre (input version) (IsInputIn version)
  unfolding input
  input_word = record { are = λ x h. h; fit = λ x h. h }
