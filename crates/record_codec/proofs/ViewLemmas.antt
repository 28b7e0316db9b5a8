-- What is read of a view is what was written.
use Rattle.std.proofs.Common.{◌≡◌, ℕ, ◌-◌, ◌^◌, ◌<◌, ◌≤◌, Bool, true, false, ◌&&◌, ◌||◌, not, nat_le, List, [], ◌∷◌, ◌++◌, length, map, Option, None, bytes_eq, refl, sym, ap, ap₂, subst, ◌∙◌, arith, suc, true≢false}
use Rattle.std.proofs.lemmas.Bool.{leb-true, le-leb}
use Rattle.std.specs.List.{list_any}
use Rattle.f2b_base.specs.declared.ban.Ban.{Ban}
use Rattle.f2b_base.specs.declared.ban.Failure.{Failure}
use Rattle.f2b_base.specs.declared.jail.JailDef.{JailDef}
use Rattle.f2b_base.specs.declared.job.Job.{Job}
use Rattle.f2b_base.specs.declared.job.UpLane.{UpLane}
use Rattle.f2b_base.specs.declared.view.JailView.{JailView}
use Rattle.f2b_base.specs.declared.view.View.{View}
use Rattle.f2b_model.specs.declared.jail_now.JailNow.{JailNow}
use Rattle.f2b_model.specs.LaneSound.{AtMostOne, AreApart}
use Rattle.f2b_model.specs.Laws.{IsWatched}
use Rattle.f2b_model.specs.Lists.{AllOf, AreDistinct}
use Rattle.f2b_model.specs.Orders.{lane_id, is_lane}
use Rattle.f2b_model.specs.Sound.{IsNumbered, IsRisingEnds, IsRisingSerials}
use Rattle.f2b_model.specs.Storable.{most_numbers, AreFewPatterns, IsStorableUp, IsStorableDef, AreStorableDefs, IsStorableJail, IsStorableJob, IsStorable}
use Rattle.f2b_model.specs.StorableViews.{IsStorableView}
use Rattle.f2b_model.specs.Views.{jail_of, jails_of}
use Rattle.f2b_model.proofs.SameLemmas.{same_lane-true, same_lane-same}
use Rattle.record_codec.specs.declared.version.Version.{Version}
use Rattle.record_fields.specs.Codec.{Codec, IsCodec, checked}
use Rattle.record_fields.specs.Lists.{EachBy, listed, is_new, is_behind}
use Rattle.record_fields.specs.Numbers.{number}
use Rattle.record_fields.specs.Small.{moment}
use Rattle.record_fields.proofs.CodecLemmas.{both_codec, then_codec, checked_codec, made_codec, fit_codec}
use Rattle.record_fields.proofs.ListLemmas.{listed_codec}
use Rattle.record_fields.proofs.NumberLemmas.{both_of, number_codec}
use Rattle.record_fields.proofs.SmallLemmas.{flag_codec, moment_codec}
use Rattle.record_codec.specs.Definitions.{defs}
use Rattle.record_codec.specs.Lanes.{up_lane, same_up, job}
use Rattle.record_codec.specs.Versions.{IsWholeIn}
use Rattle.record_codec.specs.Views.{has_later_id, jail_view, jail_views, is_next_job, has_late_ban, is_next_ban, IsViewWholeIn, IsRecordedView, view}
use Rattle.record_codec.proofs.AllowedLemmas.{FitsAre, all_each, each_all, distinct_of_new, new_of_distinct}
use Rattle.record_codec.proofs.DefinitionLemmas.{defs_codec, defs_word}
use Rattle.record_codec.proofs.JailLemmas.{IsJailIn, jail_is, jail_fits, jail_views_codec}
use Rattle.record_codec.proofs.LaneLemmas.{up_lane_codec, up_lane_word, job_codec, job_word}
use Rattle.record_codec.proofs.OrderLemmas.{jobs_by_id, by_id_jobs, below_of_none, none_of_below, not_true, true_not}

-- ---- lanes

apart_of_distinct : (lanes : List UpLane) → AreDistinct same_up lanes → (id : _) → AtMostOne (is_lane id) lanes
apart_of_distinct [] h id = tt
apart_of_distinct (u ∷ us) h id =
    (λ here. subst (λ id. list_any (is_lane id) us ≡ false) (same_lane-true (lane_id u) id here) h.0, apart_of_distinct us h.1 id)

distinct_of_apart : (lanes : List UpLane) → ((id : _) → AtMostOne (is_lane id) lanes) → AreDistinct same_up lanes
distinct_of_apart [] h = tt
distinct_of_apart (u ∷ us) h = ((h (lane_id u)).0 (same_lane-same (lane_id u)), distinct_of_apart us (λ id. (h id).1))

-- ---- jails of two lists

module _ (P : JailDef → JailView → Type 0) where
  by_each : (Q : JailView → Type 0) → ((d : JailDef) (v : JailView) → P d v → Q v) → (ds : List JailDef) (vs : List JailView) → EachBy P ds vs → AllOf Q vs
  by_each Q given [] [] h = tt
  by_each Q given [] (v ∷ vs) h = absurd h
  by_each Q given (d ∷ ds) [] h = absurd h
  by_each Q given (d ∷ ds) (v ∷ vs) h = (given d v h.0, by_each Q given ds vs h.1)

  of_each : (Q : JailNow → Type 0) → ((d : JailDef) (v : JailView) → P d v → Q (jail_of d v)) → (ds : List JailDef) (vs : List JailView) → EachBy P ds vs → AllOf Q (jails_of ds vs)
  of_each Q given [] [] h = tt
  of_each Q given [] (v ∷ vs) h = absurd h
  of_each Q given (d ∷ ds) [] h = absurd h
  of_each Q given (d ∷ ds) (v ∷ vs) h = (given d v h.0, of_each Q given ds vs h.1)

  definitions_are : (ds : List JailDef) (vs : List JailView) → EachBy P ds vs → map (λ (j : JailNow). j.definition) (jails_of ds vs) ≡ ds
  definitions_are [] [] h = refl
  definitions_are [] (v ∷ vs) h = absurd h
  definitions_are (d ∷ ds) [] h = absurd h
  definitions_are (d ∷ ds) (v ∷ vs) h = ap (λ (others : List JailDef). d ∷ others) (definitions_are ds vs h.1)

  names_are : (ds : List JailDef) (vs : List JailView) → EachBy P ds vs → map (λ (j : JailNow). j.definition.name) (jails_of ds vs) ≡ map (λ (d : JailDef). d.name) ds
  names_are [] [] h = refl
  names_are [] (v ∷ vs) h = absurd h
  names_are (d ∷ ds) [] h = absurd h
  names_are (d ∷ ds) (v ∷ vs) h = ap (λ (others : List (List ℕ)). d.name ∷ others) (names_are ds vs h.1)

  length-jails_of : (ds : List JailDef) (vs : List JailView) → EachBy P ds vs → length (jails_of ds vs) ≡ length ds
  length-jails_of [] [] h = refl
  length-jails_of [] (v ∷ vs) h = absurd h
  length-jails_of (d ∷ ds) [] h = absurd h
  length-jails_of (d ∷ ds) (v ∷ vs) h = ap suc (length-jails_of ds vs h.1)

each_given : (P Q : JailDef → JailView → Type 0) → ((d : JailDef) (v : JailView) → P d v → Q d v) → (ds : List JailDef) (vs : List JailView) → EachBy P ds vs → EachBy Q ds vs
each_given P Q given [] [] h = tt
each_given P Q given [] (v ∷ vs) h = absurd h
each_given P Q given (d ∷ ds) [] h = absurd h
each_given P Q given (d ∷ ds) (v ∷ vs) h = (given d v h.0, each_given P Q given ds vs h.1)

module _ (version : Version) (at : ℕ) where
  abbrev In : JailDef → JailView → Type 0
  In = IsJailIn version at

  jails_are : (ds : List JailDef) (vs : List JailView) → AllOf IsStorableDef ds → EachBy (λ d. (jail_view version at d).Fits) ds vs → EachBy In ds vs
  jails_are [] [] defs h = tt
  jails_are [] (v ∷ vs) defs h = absurd h
  jails_are (d ∷ ds) [] defs h = absurd h
  jails_are (d ∷ ds) (v ∷ vs) defs h = (jail_is version at d v defs.0 h.0, jails_are ds vs defs.1 h.1)

  all_defs : (ds : List JailDef) (vs : List JailView) → EachBy In ds vs → AllOf IsStorableDef ds
  all_defs [] [] h = tt
  all_defs [] (v ∷ vs) h = absurd h
  all_defs (d ∷ ds) [] h = absurd h
  all_defs (d ∷ ds) (v ∷ vs) h = (h.0.storable.definition, all_defs ds vs h.1)

  named_are : (ds : List JailDef) (vs : List JailView) → EachBy In ds vs → map (λ (j : JailView). j.name) vs ≡ map (λ (d : JailDef). d.name) ds
  named_are [] [] h = refl
  named_are [] (v ∷ vs) h = absurd h
  named_are (d ∷ ds) [] h = absurd h
  named_are (d ∷ ds) (v ∷ vs) h = ap₂ ◌∷◌ h.0.named (named_are ds vs h.1)

  -- the serials of all jails rise, and are below the next one
  numbered_are : (next : ℕ) (ds : List JailDef) (vs : List JailView) → EachBy In ds vs → AllOf (λ (v : JailView). AllOf (λ (b : Ban). b.serial < next) v.bans) vs → AllOf (λ (j : JailNow). IsNumbered next j.bans) (jails_of ds vs)
  numbered_are next [] [] h below = tt
  numbered_are next [] (v ∷ vs) h below = absurd h
  numbered_are next (d ∷ ds) [] h below = absurd h
  numbered_are next (d ∷ ds) (v ∷ vs) h below = (record { rising = h.0.rising; below = below.0 }, numbered_are next ds vs h.1 below.1)

  below_are : (next : ℕ) (ds : List JailDef) (vs : List JailView) → map (λ (j : JailView). j.name) vs ≡ map (λ (d : JailDef). d.name) ds → AllOf (λ (j : JailNow). IsNumbered next j.bans) (jails_of ds vs) → AllOf (λ (v : JailView). AllOf (λ (b : Ban). b.serial < next) v.bans) vs
  below_are next [] [] same h = tt
  below_are next [] (v ∷ vs) same h = absurd cc
  below_are next (d ∷ ds) [] same h = tt
  below_are next (d ∷ ds) (v ∷ vs) same h = let others : map (λ (j : JailView). j.name) vs ≡ map (λ (d : JailDef). d.name) ds = cc in (h.0.below, below_are next ds vs others h.1)

  -- the facts on all jails are facts on each
  joined : (next : ℕ) (ds : List JailDef) (vs : List JailView) → map (λ (j : JailView). j.name) vs ≡ map (λ (d : JailDef). d.name) ds → AllOf IsStorableJail (jails_of ds vs)
      → AllOf (λ (j : JailNow). IsWatched j.definition.watches j.watches) (jails_of ds vs) → AllOf (λ (j : JailView). AllOf (λ (f : Failure). f.time ≤ at) j.failures) vs
      → AllOf (λ (j : JailNow). IsNumbered next j.bans) (jails_of ds vs) → AllOf (λ (j : JailView). IsRisingEnds j.past) vs → AllOf (λ (j : JailView). AllOf (IsWholeIn version) j.failures) vs → EachBy In ds vs
  joined next [] [] same stored watched times numbered ends whole = tt
  joined next [] (v ∷ vs) same stored watched times numbered ends whole = absurd cc
  joined next (d ∷ ds) [] same stored watched times numbered ends whole = absurd cc
  joined next (d ∷ ds) (v ∷ vs) same stored watched times numbered ends whole =
      let first : v.name ≡ d.name = cc in
      let others : map (λ (j : JailView). j.name) vs ≡ map (λ (d : JailDef). d.name) ds = cc in (
        record { named = first; storable = stored.0; watched = watched.0; times = times.0; rising = numbered.0.rising; ends = ends.0; whole = whole.0 },
        joined next ds vs others stored.1 watched.1 times.1 numbered.1 ends.1 whole.1,
      )

-- ---- numbers to come

neither : (a b : Bool) → (a || b) ≡ false → (a ≡ false) × (b ≡ false)
neither true b e = absurd (true≢false e)
neither false b e = (refl, e)

late_below : (n : ℕ) (vs : List JailView) → not (list_any (has_late_ban n) vs) ≡ true → AllOf (λ (v : JailView). AllOf (λ (b : Ban). b.serial < n) v.bans) vs
late_below n [] e = tt
late_below n (v ∷ vs) e =
    let parts = neither (has_late_ban n v) (list_any (has_late_ban n) vs) (not_true _ e) in
    (below_of_none (λ (b : Ban). b.serial) n v.bans (true_not _ parts.0), late_below n vs (true_not _ parts.1))

below_late : (n : ℕ) (vs : List JailView) → AllOf (λ (v : JailView). AllOf (λ (b : Ban). b.serial < n) v.bans) vs → not (list_any (has_late_ban n) vs) ≡ true
below_late n [] h = refl
below_late n (v ∷ vs) h =
    let none : has_late_ban n v ≡ false = not_true _ (none_of_below (λ (b : Ban). b.serial) n v.bans h.0) in
    rw none (below_late n vs h.1)

next_job_is : (jobs : List Job) (n : ℕ) → is_next_job jobs n ≡ true → (n ≤ most_numbers) × AllOf (λ (j : Job). j.id < n) jobs
next_job_is jobs n e = let t = both_of _ _ e in (leb-true n most_numbers t.0, below_of_none (λ (j : Job). j.id) n jobs t.1)

is_next_job_of : (jobs : List Job) (n : ℕ) → n ≤ most_numbers → AllOf (λ (j : Job). j.id < n) jobs → is_next_job jobs n ≡ true
is_next_job_of jobs n le below = rw (le-leb n most_numbers le, none_of_below (λ (j : Job). j.id) n jobs below) refl

next_ban_is : (vs : List JailView) (n : ℕ) → is_next_ban vs n ≡ true → (n ≤ most_numbers) × AllOf (λ (v : JailView). AllOf (λ (b : Ban). b.serial < n) v.bans) vs
next_ban_is vs n e = let t = both_of _ _ e in (leb-true n most_numbers t.0, late_below n vs t.1)

is_next_ban_of : (vs : List JailView) (n : ℕ) → n ≤ most_numbers → AllOf (λ (v : JailView). AllOf (λ (b : Ban). b.serial < n) v.bans) vs → is_next_ban vs n ≡ true
is_next_ban_of vs n le below = rw (le-leb n most_numbers le, below_late n vs below) refl

-- ---- views

module _ (version : Version) where
  pub view_codec : IsCodec (view version)
  unfolding view
  view_codec = fit_codec (λ v. IsRecordedView v × IsViewWholeIn version v) _
      (made_codec _ _ _ (λ a _. refl) (λ v. refl)
      (then_codec moment _ moment_codec (λ at. then_codec defs _ defs_codec (λ d. both_codec _ _ flag_codec (both_codec _ _ (listed_codec (is_new same_up) up_lane up_lane_codec None)
      (then_codec (jail_views version at d.jails) _ (jail_views_codec version at d.jails) (λ jails.
      then_codec (listed None (is_behind has_later_id) job) _ (listed_codec (is_behind has_later_id) job job_codec None) (λ jobs.
      both_codec _ _ (checked_codec (is_next_job jobs) number number_codec) (checked_codec (is_next_ban jails) number number_codec)))))))))
      (λ v h.
      let definitions : AreStorableDefs v.defs = defs_word.are v.defs h.1.0 in
      let up = h.1.1.1.0 in
      let jobs = h.1.1.1.1.1.0 in
      let each = jails_are version v.at v.defs.jails v.jails definitions.jails h.1.1.1.1.0 in
      let next_job = next_job_is v.jobs v.next_job h.1.1.1.1.1.1.0.1 in
      let next_ban = next_ban_is v.jails v.next_ban h.1.1.1.1.1.1.1.1 in
      let In = IsJailIn version v.at in (
        record {
          storable = record {
            now = record {
              at = h.0;
              purge = definitions.purge;
              jails = of_each In IsStorableJail (λ d j i. i.storable) v.defs.jails v.jails each;
              names = subst (AreDistinct bytes_eq) (sym (names_are In v.defs.jails v.jails each)) definitions.names;
              most = subst (λ n. n ≤ 256) (sym (length-jails_of In v.defs.jails v.jails each)) definitions.most;
              patterns = subst AreFewPatterns (sym (definitions_are In v.defs.jails v.jails each)) definitions.patterns;
              numbered = numbered_are version v.at v.next_ban v.defs.jails v.jails each next_ban.1;
              next_ban = next_ban.0;
              lanes = record {
                up = all_each up_lane.Fits IsStorableUp up_lane_word.are v.up up.each;
                apart = record { one = apart_of_distinct v.up (distinct_of_new same_up v.up up.all_allowed) };
                jobs = all_each job.Fits IsStorableJob job_word.are v.jobs jobs.each;
              };
              by_id = jobs_by_id v.jobs v.next_job jobs.all_allowed next_job.1;
              next_job = next_job.0;
            };
            named = named_are version v.at v.defs.jails v.jails each;
            watched = of_each In (λ (j : JailNow). IsWatched j.definition.watches j.watches) (λ d j i. i.watched) v.defs.jails v.jails each;
            times = by_each In (λ (j : JailView). AllOf (λ (f : Failure). f.time ≤ v.at) j.failures) (λ d j i. i.times) v.defs.jails v.jails each;
          };
          ends = by_each In (λ (j : JailView). IsRisingEnds j.past) (λ d j i. i.ends) v.defs.jails v.jails each;
        },
        by_each In (λ (j : JailView). AllOf (IsWholeIn version) j.failures) (λ d j i. i.whole) v.defs.jails v.jails each,
      ))
      (λ v h.
      let s = h.0.storable in
      let n = s.now in
      let In = IsJailIn version v.at in
      let each = joined version v.at v.next_ban v.defs.jails v.jails s.named n.jails s.watched s.times n.numbered h.0.ends h.1 in
      let definitions : AreStorableDefs v.defs = record {
        purge = n.purge;
        jails = all_defs version v.at v.defs.jails v.jails each;
        names = subst (AreDistinct bytes_eq) (names_are In v.defs.jails v.jails each) n.names;
        most = subst (λ n. n ≤ 256) (length-jails_of In v.defs.jails v.jails each) n.most;
        patterns = subst AreFewPatterns (definitions_are In v.defs.jails v.jails each) n.patterns;
      } in
      let jobs = by_id_jobs v.jobs v.next_job n.by_id in (
        n.at,
        (
          defs_word.fit v.defs definitions,
          (
            tt,
            (
              record {
                few = refl;
                each = each_all IsStorableUp up_lane.Fits up_lane_word.fit v.up n.lanes.up;
                all_allowed = new_of_distinct same_up v.up (distinct_of_apart v.up n.lanes.apart.one);
              },
              (
                each_given In (λ d. (jail_view version v.at d).Fits) (jail_fits version v.at) v.defs.jails v.jails each,
                (
                  record {
                    few = refl;
                    each = each_all IsStorableJob job.Fits job_word.fit v.jobs n.lanes.jobs;
                    all_allowed = jobs.0;
                  },
                  (
                    (omega (arith, n.next_job), is_next_job_of v.jobs v.next_job n.next_job jobs.1),
                    (omega (arith, n.next_ban), is_next_ban_of v.jails v.next_ban n.next_ban (below_are version v.at v.next_ban v.defs.jails v.jails s.named n.numbered)),
                  ),
                ),
              ),
            ),
          ),
        ),
      ))

  pub view_word : FitsAre (view version) (λ v. IsRecordedView v × IsViewWholeIn version v)
  unfolding view
  view_word = record { are = λ x h. h; fit = λ x h. h }
