-- What is read of definitions is what was written.
use Rattle.std.proofs.Common.{◌≡◌, ℕ, zero, suc, ◌+◌, ◌%◌, ◌<◌, ◌≤◌, Bool, true, false, ◌==◌, ◌&&◌, nat_lt, nat_le, min, List, [], ◌∷◌, ◌++◌, length, map, Option, Some, None, Result, Ok, Err, ℤ, pos, negsuc, bytes_eq, refl, sym, ap, subst, ◌∙◌, arith, lit<}
use Rattle.std.proofs.lemmas.Bool.{leb-true, le-leb, ltb-true, lt-ltb, eqb-true, eq-eqb}
use Rattle.std.specs.Str.{IsUtf8}
use Rattle.f2b_base.specs.Limits.{head_bytes}
use Rattle.f2b_base.specs.declared.addr.Cidr.{Cidr}
use Rattle.f2b_base.specs.declared.addr.Family.{Family}
use Rattle.f2b_base.specs.declared.addr.Family.TheVariants.{Both, Inet4, Inet6}
use Rattle.f2b_base.specs.declared.ban.BanRule.{BanRule}
use Rattle.f2b_base.specs.declared.jail.ActionDef.{ActionDef}
use Rattle.f2b_base.specs.declared.jail.DateSpec.{DateSpec}
use Rattle.f2b_base.specs.declared.jail.DateSpec.TheVariants.{Default, Anchored, NoDate, Epoch, Iso, Pattern, AnchoredPattern}
use Rattle.f2b_base.specs.declared.jail.Defs.{Defs}
use Rattle.f2b_base.specs.declared.jail.JailDef.{JailDef}
use Rattle.f2b_base.specs.declared.jail.Place.{Place}
use Rattle.f2b_base.specs.declared.jail.Place.TheVariants.{Tail, Pos}
use Rattle.f2b_base.specs.declared.jail.WatchDef.{WatchDef}
use Rattle.f2b_base.specs.Masks.{IsCidr}
use Rattle.f2b_model.specs.Lists.{AllOf}
use Rattle.f2b_model.specs.Sound.{same_kind}
use Rattle.f2b_model.specs.Storable.{longest_span, IsWithin, IsBase, IsZone, IsPattern, IsStorablePlace, IsStorableDate, IsStorablePref, IsStorableRule, IsStorableAction, IsStorableDef, AreStorableDefs, patterns_of}
use Rattle.record_fields.specs.Addresses.{cidr}
use Rattle.record_fields.specs.Codec.{Codec, IsCodec, IsHeld, and_then, both, made, fit, checked, case, no_case, option_of}
use Rattle.record_fields.specs.Lists.{AreListed, listed, any, is_new}
use Rattle.record_fields.specs.Numbers.{number, between, signed}
use Rattle.record_fields.specs.Small.{flag, span}
use Rattle.record_fields.specs.Texts.{string, text, short}
use Rattle.record_fields.proofs.AddressLemmas.{cidr_codec}
use Rattle.record_fields.proofs.CodecLemmas.{then_codec, both_codec, made_codec, fit_codec, checked_codec, coded_codec, no_codes, code_case, AreCases, no_cases, case_of, case_alone, field_takes, case_again, option_codec}
use Rattle.record_fields.proofs.ListLemmas.{listed_codec}
use Rattle.record_fields.proofs.NumberLemmas.{both_of, number_codec, at_most_codec, between_codec, signed_codec}
use Rattle.record_fields.proofs.SmallLemmas.{flag_codec, span_codec}
use Rattle.record_fields.proofs.TextLemmas.{string_codec, text_codec, short_codec}
use Rattle.record_codec.specs.Definitions.{name, watch_def, place, place_spelling, head_at, pattern, date, date_spelling, is_base, base, factor, ban_rule, family, family_code, family_of, action_def, is_zone, zone, same_path, jail_def, same_name, has_room, is_next_def, defs}
use Rattle.record_codec.proofs.AllowedLemmas.{FitsAre, all_each, each_all, any_allowed, both_allow, allow_both, distinct_of_new, new_of_distinct, distinct-map, distinct_by, few_of_room, room_of_few}
use Rattle.record_codec.proofs.NameLemmas.{name_codec, name_word}

-- ---- logs and dates

watch_def_codec : IsCodec watch_def
unfolding watch_def
watch_def_codec = fit_codec (λ w. IsUtf8 w.path) _ (made_codec _ _ _ (λ a _. refl) (λ w. refl) (both_codec _ _ text_codec flag_codec)) (λ w h. h.0) (λ w h. (h, tt))

watch_def_word : FitsAre watch_def (λ w. IsUtf8 w.path)
unfolding watch_def
watch_def_word = record { are = λ x h. h; fit = λ x h. h }

head_codec : (position : ℕ) → IsCodec (head_at position)
head_codec position = fit_codec (λ head. length head ≡ min head_bytes position) (checked (λ head. length head == min head_bytes position) string)
    (checked_codec (λ head. length head == min head_bytes position) string string_codec)
    (λ head h. eqb-true (length head) (min head_bytes position) h.1) (λ head h. (tt, eq-eqb (length head) (min head_bytes position) h))

pos_codec : IsCodec (and_then number head_at)
pos_codec = then_codec number head_at number_codec head_codec

place_again : (x : Place) (rest : List ℕ) → IsStorablePlace x → IsHeld (place_spelling x ++ rest) → place.read (place_spelling x ++ rest) ≡ Ok (x, rest)
unfolding place
place_again Tail rest h held = refl
place_again (Pos position head) rest h held = case_again 1 (and_then number head_at) (λ x. Pos x.0 x.1) pos_codec (position, head) rest h held

place_some : (x : Place) → 1 ≤ length (place_spelling x)
place_some Tail = omega arith
place_some (Pos position head) = omega arith

pub place_codec : IsCodec place
unfolding place
place_codec = record {
  takes = field_takes place_spelling IsStorablePlace _
      (case_alone place_spelling IsStorablePlace 0 Tail _ refl tt (case_of place_spelling IsStorablePlace 1 (and_then number head_at) (λ x. Pos x.0 x.1) _ pos_codec (λ p. refl) (λ p h. h) (no_cases place_spelling IsStorablePlace)));
  again = place_again;
  some = place_some;
}

pub place_word : FitsAre place IsStorablePlace
unfolding place
place_word = record { are = λ x h. h; fit = λ x h. h }

pattern_codec : IsCodec pattern
pattern_codec = short_codec 8192

date_again : (x : DateSpec) (rest : List ℕ) → IsStorableDate x → IsHeld (date_spelling x ++ rest) → date.read (date_spelling x ++ rest) ≡ Ok (x, rest)
unfolding date
date_again Default rest h held = refl
date_again Anchored rest h held = refl
date_again NoDate rest h held = refl
date_again Epoch rest h held = refl
date_again Iso rest h held = refl
date_again (Pattern s) rest h held = case_again 5 pattern (λ x. Pattern x) pattern_codec s rest h held
date_again (AnchoredPattern s) rest h held = case_again 6 pattern (λ x. AnchoredPattern x) pattern_codec s rest h held

date_some : (x : DateSpec) → 1 ≤ length (date_spelling x)
date_some Default = omega arith
date_some Anchored = omega arith
date_some NoDate = omega arith
date_some Epoch = omega arith
date_some Iso = omega arith
date_some (Pattern s) = omega arith
date_some (AnchoredPattern s) = omega arith

date_codec : IsCodec date
unfolding date
date_codec = record {
  takes = field_takes date_spelling IsStorableDate _
      (case_alone date_spelling IsStorableDate 0 Default _ refl tt
      (case_alone date_spelling IsStorableDate 1 Anchored _ refl tt
      (case_alone date_spelling IsStorableDate 2 NoDate _ refl tt
      (case_alone date_spelling IsStorableDate 3 Epoch _ refl tt
      (case_alone date_spelling IsStorableDate 4 Iso _ refl tt
      (case_of date_spelling IsStorableDate 5 pattern (λ x. Pattern x) _ pattern_codec (λ p. refl) (λ p h. h)
      (case_of date_spelling IsStorableDate 6 pattern (λ x. AnchoredPattern x) _ pattern_codec (λ p. refl) (λ p h. h) (no_cases date_spelling IsStorableDate))))))));
  again = date_again;
  some = date_some;
}

date_word : FitsAre date IsStorableDate
unfolding date
date_word = record { are = λ x h. h; fit = λ x h. h }

-- ---- rules

base_is : (z : ℤ) → is_base z ≡ true → IsBase z
base_is (pos n) h = let t = both_of _ _ h in (leb-true 1 n t.0, leb-true n longest_span t.1)
base_is (negsuc n) h = ltb-true n longest_span h

base_of : (z : ℤ) → IsBase z → signed.Fits z × (is_base z ≡ true)
base_of (pos n) h = (omega (arith, h.1), rw (le-leb 1 n h.0, le-leb n longest_span h.1) refl)
base_of (negsuc n) h = (omega (arith, h), lt-ltb n longest_span h)

pub base_codec : IsCodec base
base_codec = fit_codec IsBase (checked is_base signed) (checked_codec is_base signed signed_codec) (λ z h. base_is z h.1) base_of

factor_codec : IsCodec factor
factor_codec = between_codec 1 1000000 (lit< tt)

ban_rule_codec : IsCodec ban_rule
unfolding ban_rule
ban_rule_codec = fit_codec IsStorableRule _
    (made_codec _ _ _ (λ a _. refl) (λ r. refl)
    (both_codec _ _ base_codec (both_codec _ _ flag_codec (both_codec _ _ factor_codec (both_codec _ _ (listed_codec any factor factor_codec (Some 64)) (both_codec _ _ span_codec (at_most_codec 1000000 (lit< tt))))))))
    (λ r h. record {
      base = h.0;
      factor = h.1.1.0;
      multipliers = all_each factor.Fits (IsWithin 1 1000000) (λ n le. le) r.multipliers h.1.1.1.0.each;
      most = leb-true (length r.multipliers) 64 h.1.1.1.0.few;
      maxtime = h.1.1.1.1.0;
      rndtime = h.1.1.1.1.1;
    })
    (λ r h. (
      h.base,
      (
        tt,
        (
          h.factor,
          (
            record {
              few = le-leb (length r.multipliers) 64 h.most;
              each = each_all (IsWithin 1 1000000) factor.Fits (λ n le. le) r.multipliers h.multipliers;
              all_allowed = any_allowed [] r.multipliers;
            },
            (h.maxtime, h.rndtime),
          ),
        ),
      ),
    ))

ban_rule_word : FitsAre ban_rule IsStorableRule
unfolding ban_rule
ban_rule_word = record { are = λ x h. h; fit = λ x h. h }

-- ---- actions

pub family_codec : IsCodec family
family_codec = coded_codec family_code family_of (λ _. Unit {0})
    (code_case family_code (λ _. Unit {0}) 0 Both _ refl tt (code_case family_code (λ _. Unit {0}) 4 Inet4 _ refl tt (code_case family_code (λ _. Unit {0}) 6 Inet6 _ refl tt (no_codes family_code (λ _. Unit {0})))))
    (λ a _. elim a as (λ a. family_of (family_code a) ≡ Some a) [ Both ↦ refl | Inet4 ↦ refl | Inet6 ↦ refl ])

pub action_def_codec : IsCodec action_def
unfolding action_def
action_def_codec = fit_codec IsStorableAction _
    (made_codec _ _ _ (λ a _. refl) (λ a. refl)
    (both_codec _ _ text_codec (both_codec _ _ family_codec (both_codec _ _ text_codec (both_codec _ _ text_codec (both_codec _ _ text_codec (both_codec _ _ text_codec (both_codec _ _ text_codec span_codec))))))))
    (λ a h. record { name = h.0; start = h.1.1.0; stop = h.1.1.1.0; ban = h.1.1.1.1.0; unban = h.1.1.1.1.1.0; check = h.1.1.1.1.1.1.0; timeout = h.1.1.1.1.1.1.1 })
    (λ a h. (h.name, (tt, (h.start, (h.stop, (h.ban, (h.unban, (h.check, h.timeout))))))))

pub action_def_word : FitsAre action_def IsStorableAction
unfolding action_def
action_def_word = record { are = λ x h. h; fit = λ x h. h }

pub cidr_word : FitsAre cidr IsCidr
unfolding cidr
cidr_word = record { are = λ x h. h; fit = λ x h. h }

-- ---- jails

zone_is : (z : ℤ) → is_zone z ≡ true → IsZone z
zone_is (pos n) h = let t = both_of _ _ h in (eqb-true (n % 60) 0 t.0, ltb-true n 86400 t.1)
zone_is (negsuc n) h = let t = both_of _ _ h in (eqb-true ((n + 1) % 60) 0 t.0, ltb-true (n + 1) 86400 t.1)

zone_of : (z : ℤ) → IsZone z → signed.Fits z × (is_zone z ≡ true)
zone_of (pos n) h = (omega (arith, h.1), rw (eq-eqb (n % 60) 0 h.0, lt-ltb n 86400 h.1) refl)
zone_of (negsuc n) h = (omega (arith, h.1), rw (eq-eqb ((n + 1) % 60) 0 h.0, lt-ltb (n + 1) 86400 h.1) refl)

zone_codec : IsCodec zone
zone_codec = fit_codec IsZone (checked is_zone signed) (checked_codec is_zone signed signed_codec) (λ z h. zone_is z h.1) zone_of

pref_is : (o : Option (List ℕ)) → (option_of pattern).Fits o → IsStorablePref o
pref_is None h = tt
pref_is (Some s) h = h

pref_of : (o : Option (List ℕ)) → IsStorablePref o → (option_of pattern).Fits o
pref_of None h = tt
pref_of (Some s) h = h

-- patterns in any order, few enough
are_patterns : (xs : List (List ℕ)) → AreListed (Some 512) any pattern.Fits xs → AllOf IsPattern xs × (length xs ≤ 512)
are_patterns xs h = (all_each pattern.Fits IsPattern (λ s fits. fits) xs h.each, leb-true (length xs) 512 h.few)

patterns_listed : (xs : List (List ℕ)) → AllOf IsPattern xs → length xs ≤ 512 → AreListed (Some 512) any pattern.Fits xs
patterns_listed xs h few = record { few = le-leb (length xs) 512 few; each = each_all IsPattern pattern.Fits (λ s fits. fits) xs h; all_allowed = any_allowed [] xs }

jail_def_codec : IsCodec jail_def
unfolding jail_def
jail_def_codec = fit_codec IsStorableDef _
    (made_codec _ _ _ (λ a _. refl) (λ d. refl)
    (both_codec _ _ name_codec (both_codec _ _ (listed_codec (is_new same_path) watch_def watch_def_codec (Some 4096)) (both_codec _ _ zone_codec (both_codec _ _ date_codec
    (both_codec _ _ (option_codec pattern pattern_codec) (both_codec _ _ (listed_codec any pattern pattern_codec (Some 512)) (both_codec _ _ (listed_codec any pattern pattern_codec (Some 512))
    (both_codec _ _ (listed_codec any cidr cidr_codec None) (both_codec _ _ span_codec (both_codec _ _ (between_codec 1 100000 (lit< tt)) (both_codec _ _ (at_most_codec 1000 (lit< tt))
    (both_codec _ _ ban_rule_codec (listed_codec (is_new same_kind) action_def action_def_codec (Some 32)))))))))))))))
    (λ d h.
    let watches = h.1.0 in
    let fail = are_patterns d.fail h.1.1.1.1.1.0 in
    let ignore_lines = are_patterns d.ignore_lines h.1.1.1.1.1.1.0 in
    let actions = h.1.1.1.1.1.1.1.1.1.1.1.1 in
    record {
      name = name_word.are d.name h.0;
      watches = all_each watch_def.Fits (λ (w : WatchDef). IsUtf8 w.path) watch_def_word.are d.watches watches.each;
      logs = leb-true (length d.watches) 4096 watches.few;
      paths = distinct-map bytes_eq (λ (w : WatchDef). w.path) d.watches (distinct_of_new same_path d.watches watches.all_allowed);
      zone = h.1.1.0;
      date = date_word.are d.date h.1.1.1.0;
      pref = pref_is d.pref h.1.1.1.1.0;
      fail = fail.0;
      fails = fail.1;
      ignore_lines = ignore_lines.0;
      ignores = ignore_lines.1;
      ignore = all_each cidr.Fits IsCidr cidr_word.are d.ignore h.1.1.1.1.1.1.1.0.each;
      findtime = h.1.1.1.1.1.1.1.1.0;
      maxretry = h.1.1.1.1.1.1.1.1.1.0;
      maxmatches = h.1.1.1.1.1.1.1.1.1.1.0;
      rule = ban_rule_word.are d.rule h.1.1.1.1.1.1.1.1.1.1.1.0;
      actions = all_each action_def.Fits IsStorableAction action_def_word.are d.actions actions.each;
      kinds = distinct_of_new same_kind d.actions actions.all_allowed;
      most = leb-true (length d.actions) 32 actions.few;
    })
    (λ d h. (
      name_word.fit d.name h.name,
      (
        record {
          few = le-leb (length d.watches) 4096 h.logs;
          each = each_all (λ (w : WatchDef). IsUtf8 w.path) watch_def.Fits watch_def_word.fit d.watches h.watches;
          all_allowed = new_of_distinct same_path d.watches (distinct_by bytes_eq (λ (w : WatchDef). w.path) d.watches h.paths);
        },
        (
          h.zone,
          (
            date_word.fit d.date h.date,
            (
              pref_of d.pref h.pref,
              (
                patterns_listed d.fail h.fail h.fails,
                (
                  patterns_listed d.ignore_lines h.ignore_lines h.ignores,
                  (
                    record {
                      few = refl;
                      each = each_all IsCidr cidr.Fits cidr_word.fit d.ignore h.ignore;
                      all_allowed = any_allowed [] d.ignore;
                    },
                    (
                      h.findtime,
                      (
                        h.maxretry,
                        (
                          h.maxmatches,
                          (
                            ban_rule_word.fit d.rule h.rule,
                            record {
                              few = le-leb (length d.actions) 32 h.most;
                              each = each_all IsStorableAction action_def.Fits action_def_word.fit d.actions h.actions;
                              all_allowed = new_of_distinct same_kind d.actions h.kinds;
                            },
                          ),
                        ),
                      ),
                    ),
                  ),
                ),
              ),
            ),
          ),
        ),
      ),
    ))

jail_def_word : FitsAre jail_def IsStorableDef
unfolding jail_def
jail_def_word = record { are = λ x h. h; fit = λ x h. h }

pub defs_codec : IsCodec defs
unfolding defs
defs_codec = fit_codec AreStorableDefs _
    (made_codec _ _ _ (λ a _. refl) (λ d. refl) (both_codec _ _ (at_most_codec longest_span (lit< tt)) (listed_codec is_next_def jail_def jail_def_codec (Some 256))))
    (λ d h.
    let jails = h.1 in
    let parts = both_allow (is_new same_name) has_room [] d.jails jails.all_allowed in
    record {
      purge = h.0;
      jails = all_each jail_def.Fits IsStorableDef jail_def_word.are d.jails jails.each;
      names = distinct-map bytes_eq (λ (c : JailDef). c.name) d.jails (distinct_of_new same_name d.jails parts.0);
      most = leb-true (length d.jails) 256 jails.few;
      patterns = few_of_room patterns_of 512 d.jails parts.1;
    })
    (λ d h. (
      h.purge,
      record {
        few = le-leb (length d.jails) 256 h.most;
        each = each_all IsStorableDef jail_def.Fits jail_def_word.fit d.jails h.jails;
        all_allowed = allow_both (is_new same_name) has_room [] d.jails
            (new_of_distinct same_name d.jails (distinct_by bytes_eq (λ (c : JailDef). c.name) d.jails h.names)) (room_of_few patterns_of 512 d.jails h.patterns);
      },
    ))

pub defs_word : FitsAre defs AreStorableDefs
unfolding defs
defs_word = record { are = λ x h. h; fit = λ x h. h }
