-- What is read of the jails of a view is what was written.
use Rattle.std.proofs.Common.{◌≡◌, ℕ, ◌^◌, ◌<◌, ◌≤◌, Bool, true, false, ◌&&◌, not, nat_le, List, [], ◌∷◌, ◌++◌, length, map, Option, None, bytes_eq, refl, sym, ap, ap₂, subst, ◌∙◌, arith}
use Rattle.std.proofs.lemmas.Bool.{leb-true, le-leb}
use Rattle.std.proofs.lemmas.List.{length-append}
use Rattle.std.specs.Cmp.Lexicographic.{bytes_decides}
use Rattle.std.specs.Str.{IsUtf8}
use Rattle.f2b_base.specs.declared.ban.Ban.{Ban}
use Rattle.f2b_base.specs.declared.ban.Failure.{Failure}
use Rattle.f2b_base.specs.declared.ban.Past.{Past}
use Rattle.f2b_base.specs.declared.jail.JailDef.{JailDef}
use Rattle.f2b_base.specs.declared.jail.WatchDef.{WatchDef}
use Rattle.f2b_base.specs.declared.view.JailView.{JailView}
use Rattle.f2b_base.specs.declared.view.WatchView.{WatchView}
use Rattle.f2b_model.specs.Laws.{IsWatched}
use Rattle.f2b_model.specs.Lists.{AllOf}
use Rattle.f2b_model.specs.Sound.{IsRisingEnds, IsRisingSerials}
use Rattle.f2b_model.specs.Storable.{IsJailName, IsStorableFailure, IsStorableBan, IsStorablePast, IsStorableWatch, IsStorablePlace, IsStorableDef, IsStorableJail}
use Rattle.f2b_model.specs.Views.{jail_of}
use Rattle.f2b_model.proofs.SameLemmas.{bytes_eq-true}
use Rattle.record_codec.specs.declared.version.Version.{Version}
use Rattle.record_fields.specs.Codec.{Codec, IsCodec, both, checked}
use Rattle.record_fields.specs.Lists.{AreAllowed, AreListed, Each, EachBy, list_of, listed, is_new, is_behind, each_of}
use Rattle.record_fields.specs.Texts.{text}
use Rattle.record_fields.proofs.CodecLemmas.{both_codec, checked_codec, remade_codec}
use Rattle.record_fields.proofs.ListLemmas.{listed_codec, each_codec}
use Rattle.record_fields.proofs.NumberLemmas.{number_codec}
use Rattle.record_fields.proofs.SmallLemmas.{flag_codec, moment_codec}
use Rattle.record_fields.proofs.TextLemmas.{text_codec}
use Rattle.record_codec.specs.Definitions.{name, place}
use Rattle.record_codec.specs.Versions.{failure, IsWholeIn}
use Rattle.record_codec.specs.Views.{ban, past, may_follow, is_next_failure, rises, same_banned, is_next_active, ends_later, path_of, watch_spelling, watch_view, watches_at, watches, name_of, jail_fields, jail_parts, jail_spelling, jail_view, jails_at, jail_views}
use Rattle.record_codec.proofs.AllowedLemmas.{FitsAre, all_each, each_all, both_allow, allow_both, distinct_of_new, new_of_distinct}
use Rattle.record_codec.proofs.BanLemmas.{ban_codec, ban_word, past_codec, past_word}
use Rattle.record_codec.proofs.DefinitionLemmas.{place_codec, place_word}
use Rattle.record_codec.proofs.InputLemmas.{failure_codec, failure_word, all_first, all_joined}
use Rattle.record_codec.proofs.NameLemmas.{name_codec, name_word}
use Rattle.record_codec.proofs.OrderLemmas.{ordered_failures, failures_ordered, rising_serials, serials_rising, rising_ends, ends_rising}

-- ---- logs

bytes_eq-same : (s : List ℕ) → bytes_eq s s ≡ true
bytes_eq-same s = (bytes_decides s s).1 refl

watch_some : (w : WatchView) → 1 ≤ length (watch_spelling w)
unfolding watch_spelling
watch_some w = omega (arith, text_codec.some w.path, length-append (text.spell w.path) (place.spell w.place))

watch_view_codec : (d : WatchDef) → IsCodec (watch_view d)
unfolding watch_view watch_spelling
watch_view_codec d = remade_codec (both (path_of d) place) (λ x. record { path = x.0; place = x.1 }) (λ w. (w.path, w.place)) watch_spelling
    (λ w. (both (path_of d) place).Fits (w.path, w.place))
    (λ a _. refl) (λ w. refl) (λ a h. h) (λ w h. (h, refl))
    (both_codec _ _ (checked_codec (λ path. bytes_eq path d.path) text text_codec) place_codec)

watch_same : (d : WatchDef) (w : WatchView) → (watch_view d).spell w ≡ watch_spelling w
unfolding watch_view
watch_same d w = refl

watches_codec : (ds : List WatchDef) → IsCodec (watches ds)
unfolding watches_at
watches_codec ds = each_codec watch_spelling watch_view watch_view_codec watch_same watch_some ds

watch_is : (d : WatchDef) (w : WatchView) → (watch_view d).Fits w → IsStorableWatch w × (w.path ≡ d.path)
unfolding watch_view
watch_is d w h = (record { path = h.0.0; place = place_word.are w.place h.1 }, bytes_eq-true w.path d.path h.0.1)

watch_of : (d : WatchDef) (w : WatchView) → IsStorableWatch w → w.path ≡ d.path → (watch_view d).Fits w
unfolding watch_view
watch_of d w h same = ((h.path, rw same (bytes_eq-same d.path)), place_word.fit w.place h.place)

watches_are : (ds : List WatchDef) (ws : List WatchView) → EachBy (λ d. (watch_view d).Fits) ds ws → AllOf IsStorableWatch ws × (map (λ (w : WatchView). w.path) ws ≡ map (λ (d : WatchDef). d.path) ds)
watches_are [] [] h = (tt, refl)
watches_are [] (w ∷ ws) h = absurd h
watches_are (d ∷ ds) [] h = absurd h
watches_are (d ∷ ds) (w ∷ ws) h =
    let one = watch_is d w h.0 in
    let others = watches_are ds ws h.1 in
    ((one.0, others.0), ap₂ ◌∷◌ one.1 others.1)

are_watches : (ds : List WatchDef) (ws : List WatchView) → AllOf IsStorableWatch ws → map (λ (w : WatchView). w.path) ws ≡ map (λ (d : WatchDef). d.path) ds → EachBy (λ d. (watch_view d).Fits) ds ws
are_watches [] [] h same = tt
are_watches [] (w ∷ ws) h same = absurd cc
are_watches (d ∷ ds) [] h same = absurd cc
are_watches (d ∷ ds) (w ∷ ws) h same =
    let first : w.path ≡ d.path = cc in
    let others : map (λ (w : WatchView). w.path) ws ≡ map (λ (d : WatchDef). d.path) ds = cc in
    (watch_of d w h.0 first, are_watches ds ws h.1 others)

-- ---- jails

longer : (a b : List ℕ) → 1 ≤ length a → 1 ≤ length (a ++ b)
longer a b some = omega (arith, some, length-append a b)

module _ (version : Version) (at : ℕ) where
  jail_some : (v : JailView) → 1 ≤ length (jail_spelling version v)
  unfolding jail_spelling
  jail_some v = longer (name.spell v.name) _ (name_codec.some v.name)

  jail_fields_codec : (d : JailDef) → IsCodec (jail_fields version at d)
  jail_fields_codec d =
      both_codec _ _ (checked_codec (λ n. bytes_eq n d.name) name name_codec) (both_codec _ _ flag_codec (both_codec _ _ number_codec (both_codec _ _ number_codec (both_codec _ _ moment_codec
      (both_codec _ _ (listed_codec (is_next_failure at) (failure version) (failure_codec version) None) (both_codec _ _ (listed_codec is_next_active ban ban_codec None)
      (both_codec _ _ (listed_codec (is_behind ends_later) past past_codec None) (watches_codec d.watches))))))))

  jail_view_codec : (d : JailDef) → IsCodec (jail_view version at d)
  unfolding jail_view jail_spelling
  jail_view_codec d = remade_codec (jail_fields version at d)
      (λ x. record { name = x.0; idle = x.1.0; total_failed = x.1.1.0; total_banned = x.1.1.1.0; moment = x.1.1.1.1.0; failures = x.1.1.1.1.1.0; bans = x.1.1.1.1.1.1.0; past = x.1.1.1.1.1.1.1.0; watches = x.1.1.1.1.1.1.1.1 })
      jail_parts (jail_spelling version) (λ v. (jail_fields version at d).Fits (jail_parts v))
      (λ a _. refl) (λ v. refl) (λ a h. h) (λ v h. (h, refl))
      (jail_fields_codec d)

  jail_same : (d : JailDef) (v : JailView) → (jail_view version at d).spell v ≡ jail_spelling version v
  unfolding jail_view
  jail_same d v = refl

  pub jail_views_codec : (ds : List JailDef) → IsCodec (jail_views version at ds)
  unfolding jails_at
  jail_views_codec ds = each_codec (jail_spelling version) (jail_view version at) jail_view_codec jail_same jail_some ds

  -- what a jail of a view is, beside its definition
  pub record IsJailIn (d : JailDef) (v : JailView) : Type 0 where
    pub named : v.name ≡ d.name
    pub storable : IsStorableJail (jail_of d v)
    pub watched : IsWatched d.watches v.watches
    pub times : AllOf (λ (f : Failure). f.time ≤ at) v.failures
    pub rising : IsRisingSerials v.bans
    pub ends : IsRisingEnds v.past
    pub whole : AllOf (IsWholeIn version) v.failures

  -- failures that stand in order, and none of which is to come
  timely : (before fs : List Failure) → AreAllowed (λ b (f : Failure). nat_le f.time at) before fs → AllOf (λ (f : Failure). f.time ≤ at) fs
  timely before [] h = tt
  timely before (f ∷ fs) h = (leb-true f.time at h.0, timely (before ++ f ∷ []) fs h.1)

  in_time : (before fs : List Failure) → AllOf (λ (f : Failure). f.time ≤ at) fs → AreAllowed (λ b (f : Failure). nat_le f.time at) before fs
  in_time before [] h = tt
  in_time before (f ∷ fs) h = (le-leb f.time at h.0, in_time (before ++ f ∷ []) fs h.1)

  pub jail_is : (d : JailDef) (v : JailView) → IsStorableDef d → (jail_view version at d).Fits v → IsJailIn d v
  unfolding jail_view
  jail_is d v def h =
      let failures = h.1.1.1.1.1.0 in
      let bans = h.1.1.1.1.1.1.0 in
      let past_bans = h.1.1.1.1.1.1.1.0 in
      let logs = watches_are d.watches v.watches h.1.1.1.1.1.1.1.1 in
      let order = both_allow (λ b (f : Failure). nat_le f.time at) (is_behind may_follow) [] v.failures failures.all_allowed in
      let once = both_allow (is_behind rises) (is_new same_banned) [] v.bans bans.all_allowed in
      let each = all_first IsStorableFailure (IsWholeIn version) v.failures (all_each (failure version).Fits (λ f. IsStorableFailure f × IsWholeIn version f) (failure_word version).are v.failures failures.each) in
      record {
        named = bytes_eq-true v.name d.name h.0.1;
        storable = record {
          definition = def;
          total_failed = h.1.1.0;
          total_banned = h.1.1.1.0;
          moment = h.1.1.1.1.0;
          watches = logs.0;
          failures = each.0;
          ordered = ordered_failures v.failures order.1;
          bans = all_each ban.Fits IsStorableBan ban_word.are v.bans bans.each;
          once = distinct_of_new same_banned v.bans once.1;
          past = all_each past.Fits IsStorablePast past_word.are v.past past_bans.each;
        };
        watched = record { same = logs.1 };
        times = timely [] v.failures order.0;
        rising = rising_serials v.bans once.0;
        ends = rising_ends v.past past_bans.all_allowed;
        whole = each.1;
      }

  pub jail_fits : (d : JailDef) (v : JailView) → IsJailIn d v → (jail_view version at d).Fits v
  unfolding jail_view
  jail_fits d v h =
      let s = h.storable in
      let named : IsJailName v.name = subst IsJailName (sym h.named) s.definition.name in (
        (name_word.fit v.name named, rw h.named (bytes_eq-same d.name)),
        (
          tt,
          (
            s.total_failed,
            (
              s.total_banned,
              (
                s.moment,
                (
                  record {
                    few = refl;
                    each = each_all (λ f. IsStorableFailure f × IsWholeIn version f) (failure version).Fits (failure_word version).fit v.failures (all_joined IsStorableFailure (IsWholeIn version) v.failures s.failures h.whole);
                    all_allowed = allow_both (λ b (f : Failure). nat_le f.time at) (is_behind may_follow) [] v.failures (in_time [] v.failures h.times) (failures_ordered v.failures s.ordered);
                  },
                  (
                    record {
                      few = refl;
                      each = each_all IsStorableBan ban.Fits ban_word.fit v.bans s.bans;
                      all_allowed = allow_both (is_behind rises) (is_new same_banned) [] v.bans (serials_rising v.bans h.rising) (new_of_distinct same_banned v.bans s.once);
                    },
                    (
                      record {
                        few = refl;
                        each = each_all IsStorablePast past.Fits past_word.fit v.past s.past;
                        all_allowed = ends_rising v.past h.ends;
                      },
                      are_watches d.watches v.watches s.watches h.watched.same,
                    ),
                  ),
                ),
              ),
            ),
          ),
        ),
      )
