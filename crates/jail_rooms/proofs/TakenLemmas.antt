-- What is taken up of a view: all of a sound one; and of each that can be stored jails that can be stored, which watch their paths.
use Rattle.std.proofs.Common.{◌≡◌, ℕ, ◌≤◌, min, Bool, true, not, List, [], ◌∷◌, length, map, refl, sym, ◌∙◌, ap, ap₂, subst, arith}
use Rattle.std.specs.Prelude.{bytes_eq}
use Rattle.std.specs.List.{filter, list_all}
use Rattle.f2b_base.specs.declared.addr.Addr.{Addr}
use Rattle.f2b_base.specs.declared.ban.Ban.{Ban}
use Rattle.f2b_base.specs.declared.ban.Failure.{Failure}
use Rattle.f2b_base.specs.declared.ban.Past.{Past}
use Rattle.f2b_base.specs.declared.ban.Until.{Until}
use Rattle.f2b_base.specs.declared.ban.Until.TheVariants.{Never, At}
use Rattle.f2b_base.specs.declared.jail.JailDef.{JailDef}
use Rattle.f2b_base.specs.declared.view.JailView.{JailView}
use Rattle.f2b_base.specs.declared.view.View.{View}
use Rattle.f2b_model.specs.declared.jail_now.JailNow.{JailNow}
use Rattle.f2b_model.specs.Full.{IsFull, is_full, is_recent}
use Rattle.f2b_model.specs.Laws.{AreWatched, IsWatched}
use Rattle.f2b_model.specs.Lists.{AllOf, AreDistinct}
use Rattle.f2b_model.specs.Nows.{comes_before, jail_from, jail_now}
use Rattle.f2b_model.specs.Sound.{IsGoodJail, IsNotBefore, IsNumbered, IsPastBan, IsSoundView}
use Rattle.f2b_model.specs.State.{kept_of}
use Rattle.f2b_model.specs.Steps.{moves_now, names}
use Rattle.f2b_model.specs.Storable.{AreFewPatterns, IsStorable, IsStorableFailure, IsStorableJail, IsStorablePast}
use Rattle.f2b_model.specs.StorableViews.{IsStorableView, can_matter, ends_from, is_over, jail_taken_up, jails_taken_up, taken_up, unfilled}
use Rattle.f2b_model.specs.Views.{gathered, jail_of, jail_view, jails_of}
use Rattle.f2b_model.specs.Whole.{Now}
use Rattle.f2b_model.proofs.FullLemmas.{full_of_test, true_both, true_le}
use Rattle.f2b_model.proofs.ListLemmas.{by_test, filter_in_order}
use Rattle.f2b_model.proofs.MarkLemmas.{active_of-all, failures_order, kept_of-all, open_of-all}
use Rattle.f2b_model.proofs.OrderlyLemmas.{all_of-filter}
use Rattle.f2b_model.proofs.StandLemmas.{shown_bounds}

-- ---- what a sound view shows is taken up whole

-- failures that are no later than a moment, and recent at it, can all matter
all_matter : (moment findtime : ℕ) (fs : List Failure) → AllOf (λ (f : Failure). f.time ≤ moment) fs → AllOf (λ (f : Failure). is_recent moment findtime f ≡ true) fs
    → filter (can_matter moment findtime) fs ≡ fs
all_matter moment findtime [] before recent = refl
all_matter moment findtime (f ∷ fs) before recent =
    let here : can_matter moment findtime f ≡ true = true_both _ _ (true_le f.time moment before.0) recent.0 in
    rw here (ap (λ (gs : List Failure). f ∷ gs) (all_matter moment findtime fs before.1 recent.1))

-- where no address is full, none is left out for its address
none_filled : (findtime maxretry : ℕ) (whole fs : List Failure) → ((addr : Addr) → IsFull findtime maxretry addr whole → ⊥)
    → filter (λ (f : Failure). not (is_full findtime maxretry f.addr whole)) fs ≡ fs
none_filled findtime maxretry whole [] none = refl
none_filled findtime maxretry whole (f ∷ fs) none =
    by_test (is_full findtime maxretry f.addr whole) _
    (λ full. absurd (none f.addr (full_of_test findtime maxretry f.addr whole full)))
    (λ other. rw other (ap (λ (gs : List Failure). f ∷ gs) (none_filled findtime maxretry whole fs none)))

-- an end that comes no earlier passes the test
not_before_passes : (moment : ℕ) (until : Until) → IsNotBefore moment until → ends_from moment until ≡ true
not_before_passes moment Never h = refl
not_before_passes moment (At end) h = true_le moment end h

-- and so where all do
none_before_passes : (moment : ℕ) (bs : List Ban) → AllOf (λ (b : Ban). IsNotBefore moment b.until) bs → list_all (λ (b : Ban). ends_from moment b.until) bs ≡ true
none_before_passes moment [] h = refl
none_before_passes moment (b ∷ bs) h = true_both _ _ (not_before_passes moment b.until h.0) (none_before_passes moment bs h.1)

-- past bans that are over all stay
all_over : (at : ℕ) (bs : List Ban) (ps : List Past) → AllOf (IsPastBan at bs) ps → filter (is_over at bs) ps ≡ ps
all_over at bs [] over = refl
all_over at bs (p ∷ ps) over =
    let here : is_over at bs p ≡ true = true_both _ _ (true_le p.end at over.0.0) (none_before_passes p.end bs over.0.1) in
    rw here (ap (λ (qs : List Past). p ∷ qs) (all_over at bs ps over.1))

-- the lesser of two numbers is the first, where that is no greater
first_is_least : (a b : ℕ) → a ≤ b → min a b ≡ a
first_is_least a b h = omega arith

-- what is stored of a sound jail is taken up whole
jail_whole : (at : ℕ) (d : JailDef) (v : JailView) → IsGoodJail at (jail_from (jail_of d v)) → jail_view (jail_now (jail_from (jail_of d v))) ≡ v → jail_taken_up at d v ≡ jail_of d v
jail_whole at d v good same =
    let opened = open_of-all v.failures in
    let shown : (jail_now (jail_from (jail_of d v))).failures ≡ v.failures = ap (λ (w : JailView). w.failures) same in
    let moment : min v.moment at ≡ v.moment = first_is_least v.moment at good.sound.moment in
    let before = subst (λ (fs : List Failure). AllOf (λ (f : Failure). f.time ≤ v.moment) fs) opened good.orderly.by_moment in
    let recent = subst (λ (fs : List Failure). AllOf (λ (f : Failure). is_recent v.moment d.findtime f ≡ true) fs) shown (shown_bounds at (jail_from (jail_of d v)) good).recent in
    let none : (addr : Addr) → IsFull d.findtime d.maxretry addr v.failures → ⊥ =
    λ addr full. good.sound.none_full addr (subst (λ (fs : List Failure). IsFull d.findtime d.maxretry addr fs) (sym opened) full) in
    let over = subst (λ (ps : List Past). AllOf (IsPastBan at v.bans) ps) (kept_of-all v.past)
    (subst (λ (bs : List Ban). AllOf (IsPastBan at bs) (kept_of (jail_from (jail_of d v)).endings)) (active_of-all v.bans) good.orderly.over) in
    let failures : unfilled d.findtime d.maxretry (filter (can_matter (min v.moment at) d.findtime) v.failures) ≡ v.failures =
    ap (λ (m : ℕ). unfilled d.findtime d.maxretry (filter (can_matter m d.findtime) v.failures)) moment
    ∙ ap (unfilled d.findtime d.maxretry) (all_matter v.moment d.findtime v.failures before recent)
    ∙ none_filled d.findtime d.maxretry v.failures v.failures none in
    let past : filter (is_over at v.bans) v.past ≡ v.past = all_over at v.bans v.past over in
    let of_moment : ℕ → JailNow = λ m. record (jail_taken_up at d v) { moment = m } in
    let of_lists : List Failure → List Past → JailNow = λ fs ps. record (jail_of d v) { failures = fs; past = ps } in
    ap of_moment moment ∙ ap₂ of_lists failures past

-- and so of all jails
jails_whole : (at : ℕ) (ds : List JailDef) (vs : List JailView) → AllOf (IsGoodJail at) (map jail_from (jails_of ds vs))
    → map jail_view (map jail_now (map jail_from (jails_of ds vs))) ≡ vs → jails_taken_up at ds vs ≡ jails_of ds vs
jails_whole at [] vs good same = refl
jails_whole at (d ∷ ds) [] good same = refl
jails_whole at (d ∷ ds) (v ∷ vs) good same =
    let shown : JailView = jail_view (jail_now (jail_from (jail_of d v))) in
    let others : List JailView = map jail_view (map jail_now (map jail_from (jails_of ds vs))) in
    let heads : shown ≡ v = let h : shown ∷ others ≡ v ∷ vs = same in cc in
    let tails : others ≡ vs = let h : shown ∷ others ≡ v ∷ vs = same in cc in
    ap₂ (λ (j : JailNow) (js : List JailNow). j ∷ js) (jail_whole at d v good.0 heads) (jails_whole at ds vs good.1 tails)

-- a sound view is taken up whole
pub sound_taken_up : (v : View) → IsSoundView v → taken_up v ≡ gathered v
sound_taken_up v sound =
    let with_jails : List JailNow → Now = λ js. record (gathered v) { jails = record (gathered v).jails { jails = js } } in
    ap with_jails (jails_whole v.at v.defs.jails v.jails sound.sound.from.jails.jails (ap (λ (w : View). w.jails) sound.same))

-- ---- what is taken up can be stored

-- what holds of each jail of a view holds of each that is taken up, where taking up keeps it
each_taken_up : (P : JailNow → Type 0) (at : ℕ) → ((d : JailDef) (v : JailView) → P (jail_of d v) → P (jail_taken_up at d v)) → (ds : List JailDef) (vs : List JailView)
    → AllOf P (jails_of ds vs) → AllOf P (jails_taken_up at ds vs)
each_taken_up P at keeps [] vs all = tt
each_taken_up P at keeps (d ∷ ds) [] all = tt
each_taken_up P at keeps (d ∷ ds) (v ∷ vs) all = (keeps d v all.0, each_taken_up P at keeps ds vs all.1)

-- the definitions of the jails that are taken up are those of the view
definitions_taken_up : (at : ℕ) (ds : List JailDef) (vs : List JailView) → map moves_now.definition (jails_taken_up at ds vs) ≡ map moves_now.definition (jails_of ds vs)
definitions_taken_up at [] vs = refl
definitions_taken_up at (d ∷ ds) [] = refl
definitions_taken_up at (d ∷ ds) (v ∷ vs) = ap (λ (es : List JailDef). d ∷ es) (definitions_taken_up at ds vs)

-- and so are the names
names_taken_up : (at : ℕ) (ds : List JailDef) (vs : List JailView) → names moves_now (jails_taken_up at ds vs) ≡ names moves_now (jails_of ds vs)
names_taken_up at [] vs = refl
names_taken_up at (d ∷ ds) [] = refl
names_taken_up at (d ∷ ds) (v ∷ vs) = ap (λ (ns : List (List ℕ)). d.name ∷ ns) (names_taken_up at ds vs)

-- as many are taken up
length_taken_up : (at : ℕ) (ds : List JailDef) (vs : List JailView) → length (jails_taken_up at ds vs) ≡ length (jails_of ds vs)
length_taken_up at [] vs = refl
length_taken_up at (d ∷ ds) [] = refl
length_taken_up at (d ∷ ds) (v ∷ vs) = let rest = length_taken_up at ds vs in omega arith

-- what is taken up of a jail that can be stored can be stored
jail_storable : (at : ℕ) (d : JailDef) (v : JailView) → IsStorableJail (jail_of d v) → IsStorableJail (jail_taken_up at d v)
jail_storable at d v jail =
    let moment = min v.moment at in
    let matter = filter (can_matter moment d.findtime) v.failures in
    let is_open : Failure → Bool = λ f. not (is_full d.findtime d.maxretry f.addr matter) in
    record {
      definition = jail.definition;
      total_failed = jail.total_failed;
      total_banned = jail.total_banned;
      moment = (let most = jail.moment in omega arith);
      watches = jail.watches;
      failures = all_of-filter IsStorableFailure is_open matter (all_of-filter IsStorableFailure (can_matter moment d.findtime) v.failures jail.failures);
      ordered = filter_in_order comes_before failures_order is_open matter (filter_in_order comes_before failures_order (can_matter moment d.findtime) v.failures jail.ordered);
      bans = jail.bans;
      once = jail.once;
      past = all_of-filter IsStorablePast (is_over at v.bans) v.past jail.past;
    }

-- what is taken up of a view that can be stored can be stored
pub taken_up_storable : (v : View) → IsStorableView v → IsStorable (taken_up v)
taken_up_storable v view =
    let now = view.now in
    let ds = v.defs.jails in
    record {
      at = now.at;
      purge = now.purge;
      jails = each_taken_up IsStorableJail v.at (jail_storable v.at) ds v.jails now.jails;
      names = subst (AreDistinct bytes_eq) (sym (names_taken_up v.at ds v.jails)) now.names;
      most = (let same = length_taken_up v.at ds v.jails in let most = now.most in omega arith);
      patterns = subst AreFewPatterns (sym (definitions_taken_up v.at ds v.jails)) now.patterns;
      numbered = each_taken_up (λ (j : JailNow). IsNumbered v.next_ban j.bans) v.at (λ d w numbered. numbered) ds v.jails now.numbered;
      next_ban = now.next_ban;
      lanes = now.lanes;
      by_id = now.by_id;
      next_job = now.next_job;
    }

-- and its jails watch the paths of their definitions
pub taken_up_watched : (v : View) → IsStorableView v → AreWatched (taken_up v).jails
taken_up_watched v view = each_taken_up (λ (j : JailNow). IsWatched j.definition.watches j.watches) v.at (λ d w watched. watched) v.defs.jails v.jails view.watched
