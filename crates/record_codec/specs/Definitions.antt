-- The spelling of definitions: names, logs, dates, rules of bans, actions and jails.
use Rattle.std.specs.Prelude.{◌≡◌, ℕ, ◌+◌, ◌%◌, ◌<◌, Bool, not, ◌==◌, ◌&&◌, nat_lt, nat_le, min, List, [], ◌∷◌, ◌++◌, length, map, sum, Option, Some, None, Result, Ok, Err, ℤ, pos, negsuc, bytes_eq, if◌then◌else◌}
use Rattle.std.specs.List.{list_all}
use Rattle.std.specs.Str.{IsUtf8}
use Rattle.f2b_base.specs.Limits.{head_bytes}
use Rattle.f2b_base.specs.declared.addr.Family.{Family}
use Rattle.f2b_base.specs.declared.addr.Family.TheVariants.{Both, Inet4, Inet6}
use Rattle.f2b_base.specs.declared.ban.BanRule.{BanRule}
use Rattle.f2b_base.specs.declared.jail.ActionDef.{ActionDef}
use Rattle.f2b_base.specs.declared.jail.DateSpec.{DateSpec}
use Rattle.f2b_base.specs.declared.jail.DateSpec.TheVariants.{Default, Anchored, NoDate, Epoch, Iso, Pattern, AnchoredPattern}
use Rattle.f2b_base.specs.declared.jail.Defs.{Defs}
use Rattle.f2b_base.specs.declared.jail.JailDef.{JailDef}
use Rattle.f2b_base.specs.declared.jail.Place.{Place}
use Rattle.f2b_base.specs.declared.jail.Place.TheVariants.{Tail, Pos}
use Rattle.f2b_base.specs.declared.jail.WatchDef.{WatchDef}
use Rattle.f2b_model.specs.Sound.{same_kind}
use Rattle.f2b_model.specs.Storable.{longest_span, is_name_byte, IsJailName, IsBase, IsZone, IsStorablePlace, IsStorableDate, IsStorableRule, IsStorableAction, IsStorableDef, AreStorableDefs, patterns_of}
use Rattle.record_fields.specs.Addresses.{cidr}
use Rattle.record_fields.specs.Codec.{◌>>=◌, as_made, Codec, both, and_then, made, fit, checked, coded, case, no_case, field, option_of}
use Rattle.record_fields.specs.Lists.{list_of, listed, any, is_new}
use Rattle.record_fields.specs.Numbers.{number, at_most, between, signed}
use Rattle.record_fields.specs.Small.{flag, span}
use Rattle.record_fields.specs.Texts.{string, text, short}

-- ---- names, logs, dates

abbrev pub is_name : List ℕ → Bool
is_name s = nat_le 1 (length s) && (nat_le (length s) 64 && list_all is_name_byte s)

-- the name of a jail
unfoldable pub name : Codec (List ℕ)
name = fit IsJailName (checked is_name text)

unfoldable pub watch_def : Codec WatchDef
watch_def = fit (λ w. IsUtf8 w.path) (made (λ x. record { path = x.0; tail = x.1 }) (λ w. (w.path, w.tail)) (both text flag))

abbrev pub place_spelling : Place → List ℕ
place_spelling Tail = 0 ∷ []
place_spelling (Pos position head) = 1 ∷ (number.spell position ++ string.spell head)

-- a log's head is as long as the log was followed, and no longer than the bytes that tell which log it is
abbrev pub head_at : ℕ → Codec (List ℕ)
head_at position = fit (λ head. length head ≡ min head_bytes position) (checked (λ head. length head == min head_bytes position) string)

unfoldable pub place : Codec Place
place = record {
  spell = place_spelling;
  read = field (case 0 (λ bytes. Ok (Tail, bytes)) (case 1 (as_made (λ x. Pos x.0 x.1) (and_then number head_at)) no_case));
  Fits = IsStorablePlace;
}

-- a pattern of lines or dates
abbrev pub pattern : Codec (List ℕ)
pattern = short 8192

abbrev pub date_spelling : DateSpec → List ℕ
date_spelling Default = 0 ∷ []
date_spelling Anchored = 1 ∷ []
date_spelling NoDate = 2 ∷ []
date_spelling Epoch = 3 ∷ []
date_spelling Iso = 4 ∷ []
date_spelling (Pattern s) = 5 ∷ pattern.spell s
date_spelling (AnchoredPattern s) = 6 ∷ pattern.spell s

unfoldable pub date : Codec DateSpec
date = record {
  spell = date_spelling;
  read = field
      (case 0 (λ bytes. Ok (Default, bytes))
      (case 1 (λ bytes. Ok (Anchored, bytes))
      (case 2 (λ bytes. Ok (NoDate, bytes))
      (case 3 (λ bytes. Ok (Epoch, bytes))
      (case 4 (λ bytes. Ok (Iso, bytes))
      (case 5 (as_made (λ x. Pattern x) pattern)
      (case 6 (as_made (λ x. AnchoredPattern x) pattern) no_case)))))));
  Fits = IsStorableDate;
}

-- ---- rules of bans

-- whether the first span of a rule is one that a configuration may have
abbrev pub is_base : ℤ → Bool
is_base (pos n) = nat_le 1 n && nat_le n longest_span
is_base (negsuc n) = nat_lt n longest_span

abbrev pub base : Codec ℤ
base = fit IsBase (checked is_base signed)

-- in thousandths, or a multiplier
abbrev pub factor : Codec ℕ
factor = between 1 1000000

unfoldable pub ban_rule : Codec BanRule
ban_rule = fit IsStorableRule (made
    (λ x. record { base = x.0; increment = x.1.0; factor = x.1.1.0; multipliers = x.1.1.1.0; maxtime = x.1.1.1.1.0; rndtime = x.1.1.1.1.1 })
    (λ r. (r.base, (r.increment, (r.factor, (r.multipliers, (r.maxtime, r.rndtime))))))
    (both base (both flag (both factor (both (listed (Some 64) any factor) (both span (at_most 1000000)))))))

-- ---- actions

abbrev pub family_code : Family → ℕ
family_code Both = 0
family_code Inet4 = 4
family_code Inet6 = 6

abbrev pub family_of : ℕ → Option Family
family_of b = if b == 0 then Some Both else if b == 4 then Some Inet4 else if b == 6 then Some Inet6 else None

abbrev pub family : Codec Family
family = coded family_code family_of (λ _. Unit {0})

unfoldable pub action_def : Codec ActionDef
action_def = fit IsStorableAction (made
    (λ x. record { name = x.0; family = x.1.0; start = x.1.1.0; stop = x.1.1.1.0; ban = x.1.1.1.1.0; unban = x.1.1.1.1.1.0; check = x.1.1.1.1.1.1.0; timeout = x.1.1.1.1.1.1.1 })
    (λ a. (a.name, (a.family, (a.start, (a.stop, (a.ban, (a.unban, (a.check, a.timeout))))))))
    (both text (both family (both text (both text (both text (both text (both text span))))))))

-- ---- jails

-- whether a zone is whole minutes, less than a day either way
abbrev pub is_zone : ℤ → Bool
is_zone (pos n) = (n % 60 == 0) && nat_lt n 86400
is_zone (negsuc n) = ((n + 1) % 60 == 0) && nat_lt (n + 1) 86400

abbrev pub zone : Codec ℤ
zone = fit IsZone (checked is_zone signed)

abbrev pub same_path : WatchDef → WatchDef → Bool
same_path v w = bytes_eq v.path w.path

unfoldable pub jail_def : Codec JailDef
jail_def = fit IsStorableDef (made
    (λ x. record {
      name = x.0;
      watches = x.1.0;
      zone = x.1.1.0;
      date = x.1.1.1.0;
      pref = x.1.1.1.1.0;
      fail = x.1.1.1.1.1.0;
      ignore_lines = x.1.1.1.1.1.1.0;
      ignore = x.1.1.1.1.1.1.1.0;
      findtime = x.1.1.1.1.1.1.1.1.0;
      maxretry = x.1.1.1.1.1.1.1.1.1.0;
      maxmatches = x.1.1.1.1.1.1.1.1.1.1.0;
      rule = x.1.1.1.1.1.1.1.1.1.1.1.0;
      actions = x.1.1.1.1.1.1.1.1.1.1.1.1;
    })
    (λ d. (d.name, (d.watches, (d.zone, (d.date, (d.pref, (d.fail, (d.ignore_lines, (d.ignore, (d.findtime, (d.maxretry, (d.maxmatches, (d.rule, d.actions)))))))))))))
    (both name (both (listed (Some 4096) (is_new same_path) watch_def) (both zone (both date (both (option_of pattern) (both (listed (Some 512) any pattern) (both (listed (Some 512) any pattern)
    (both (listed None any cidr) (both span (both (between 1 100000) (both (at_most 1000) (both ban_rule (listed (Some 32) (is_new same_kind) action_def))))))))))))))

-- the last fields of a jail, from its findtime on
abbrev pub limits_spelling : JailDef → List ℕ
limits_spelling d = span.spell d.findtime ++ ((between 1 100000).spell d.maxretry ++ ((at_most 1000).spell d.maxmatches ++ (ban_rule.spell d.rule ++ list_of action_def.spell d.actions)))

-- those from its patterns on
abbrev pub patterns_spelling : JailDef → List ℕ
patterns_spelling d = (option_of pattern).spell d.pref ++ (list_of pattern.spell d.fail ++ (list_of pattern.spell d.ignore_lines ++ (list_of cidr.spell d.ignore ++ limits_spelling d)))

abbrev pub same_name : JailDef → JailDef → Bool
same_name c d = bytes_eq c.name d.name

-- whether all jails have few enough patterns with one more
abbrev pub has_room : List JailDef → JailDef → Bool
has_room before d = nat_le (sum (map patterns_of before) + patterns_of d) 512

-- a jail of another name than those before it, where all together have few enough patterns
abbrev pub is_next_def : List JailDef → JailDef → Bool
is_next_def before d = is_new same_name before d && has_room before d

unfoldable pub defs : Codec Defs
defs = fit AreStorableDefs (made (λ x. record { purge = x.0; jails = x.1 }) (λ d. (d.purge, d.jails)) (both (at_most longest_span) (listed (Some 256) is_next_def jail_def)))
