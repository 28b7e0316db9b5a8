-- A configuration whose paths are found, as an input.
use Rattle.std.proofs.Common.{ℕ, ◌≡◌, ◌≢◌, ◌↔◌, Bool, true, false, IsTrue, List, Option, Some, None, refl, sym, ap, ◌∙◌, subst, arith}
use Rattle.f2b_base.specs.declared.input.What.{What}
use Rattle.f2b_base.specs.declared.input.What.TheVariants.{Config}
use Rattle.f2b_base.specs.declared.jail.Defs.{Defs}
use Rattle.f2b_model.specs.Configured.{configured_now}
use Rattle.f2b_model.specs.Laws.{AreWatched}
use Rattle.f2b_model.specs.Sound.{AreFitDefs}
use Rattle.f2b_model.specs.Storable.{AreStorableDefs, IsStorable}
use Rattle.f2b_model.specs.Whole.{Now, step_now}
use Rattle.f2b_model.proofs.ApartLemmas.{stored_fits}
use Rattle.f2b_world.specs.Told.{Standing}
use Rattle.run_law.specs.Changes.{config_changes}
use Rattle.run_law.specs.News.{News}
use Rattle.run_law.specs.Reading.{config_news}
use Rattle.run_law.specs.Server.{Server}
use Rattle.run_law.specs.Stages.{Brings, BringFails}
use Rattle.run_law.specs.declared.status.Status.{Status}
use Rattle.run_law.proofs.StageLemmas.{brings_same, fails_same}
use Rattle.run_start.specs.Configured.{HasJails, IsConfiguring, TellsInput, configuring, input_if}
use Rattle.run_start.specs.Followed.{ArePlaces}
use Rattle.run_start.specs.declared.named.Named.{Named}
use Rattle.run_start.proofs.ChangeLemmas.{change_told}
use Rattle.run_start.proofs.JailLemmas.{places_stored, step_has, unchanged_has}
use Rattle.run_steps.proofs.BringLemmas.{unbrought_cause}
use Rattle.run_steps.specs.Keeping.{KeepsClocked, Makes, input_of, news_of}
use Rattle.run_steps.specs.declared.clocked.Clocked.{Clocked}

config_news_is : (changes : Bool) (before : List (List ℕ)) (defs : Defs) (behind : List (List ℕ)) → config_news changes before defs behind ≡ record { before = before; what = input_if changes defs; behind = behind }
config_news_is true before defs behind = refl
config_news_is false before defs behind = refl

-- what happened is the configuration
pub configuring_is : (kept : Clocked) (before : List (List ℕ)) (defs : Defs) (behind : List (List ℕ)) (what : Option What) → TellsInput kept defs what
    → (s : Server) → KeepsClocked s kept → configuring before defs behind s ≡ news_of before what behind s
configuring_is kept before defs behind what tells s keeps =
    let mid : News = record { before = before; what = input_if (config_changes s.state defs) defs; behind = behind } in
    let one : configuring before defs behind s ≡ mid = config_news_is (config_changes s.state defs) before defs behind in
    let two : mid ≡ news_of before what behind s = λ i. record { before = before; what = sym (tells.tells s keeps) i; behind = behind } in
    one ∙ two

module _ (a b : Standing) (named : Named) (behind slice : List (List ℕ)) (what : Option What) (shown : slice ≡ named.before) (tells : TellsInput named.clocked named.defs what) where
  told_so : (s : Server) → KeepsClocked s named.clocked → configuring named.before named.defs behind s ≡ news_of slice what behind s
  told_so s keeps = configuring_is named.clocked named.before named.defs behind what tells s keeps ∙ ap (λ (ls : List (List ℕ)). news_of ls what behind s) (sym shown)

  pub configures : (after : Clocked) → Brings KeepsClocked a b (news_of slice what behind) named.clocked after → Brings KeepsClocked a b (configuring named.before named.defs behind) named.clocked after
  configures after brought = brings_same KeepsClocked a b (configuring named.before named.defs behind) (news_of slice what behind) named.clocked after told_so brought

  pub configure_fails : (status : Status) → BringFails KeepsClocked a b (news_of slice what behind) named.clocked status
      → BringFails KeepsClocked a b (configuring named.before named.defs behind) named.clocked status
  configure_fails status fails = fails_same KeepsClocked a b (configuring named.before named.defs behind) (news_of slice what behind) named.clocked status told_so fails

-- behind it the jails are its own
pub configured_has : (kept after : Clocked) (defs : Defs) (what : Option What) → IsConfiguring defs kept.engine.core what → Makes kept what after → HasJails defs after.engine.core
configured_has kept after defs None has makes = subst (HasJails defs) (sym makes) has
configured_has kept after defs (Some what) is makes =
    let P : What → Type 0 = λ w. after.engine.core ≡ step_now kept.engine.core (input_of kept w) in
    let core : after.engine.core ≡ step_now kept.engine.core (input_of kept (Config defs)) = subst P is makes.0 in
    subst (HasJails defs) (sym core) (step_has kept.engine.core kept.now kept.word defs makes.1)

-- what can be stored of the logs are places
pub first_places : (kept : Clocked) (core : Now) → core ≡ kept.engine.core → IsStorable core → ArePlaces kept
first_places kept core same s = places_stored kept.engine.core (subst IsStorable same s)

pub ruleset taking = (configures, configure_fails, configured_has, first_places, unbrought_cause)

-- ---- whether the configuration is an input

-- what can be stored is fit for the model
pub fit_defs : (defs : Defs) → AreStorableDefs defs → AreFitDefs defs
fit_defs defs s = (stored_fits (record { secs = 0; word = 0; what = Config defs }) (record { secs = omega arith; word = omega arith; what = s })).what

module _ (kept : Clocked) (core : Now) (defs : Defs) (changes : Bool) (same : core ≡ kept.engine.core) (storable : AreStorableDefs defs) (watched : AreWatched core.jails)
    (is : IsTrue changes ↔ (configured_now defs core ≢ core)) where
  told : (s : Server) → KeepsClocked s kept → changes ≡ config_changes s.state defs
  told =
      let P : Now → Type 0 = λ n. AreWatched n.jails in
      let Q : Now → Type 0 = λ n. IsTrue changes ↔ (configured_now defs n ≢ n) in
      change_told kept defs changes (fit_defs defs storable) (subst P same watched) (subst Q same is)

  pub tells_input : changes ≡ true → TellsInput kept defs (Some (Config defs))
  tells_input changed = record { tells = λ s keeps. ap (λ (b : Bool). input_if b defs) (sym changed ∙ told s keeps) }

  pub tells_none : changes ≡ false → TellsInput kept defs None
  tells_none stays = record { tells = λ s keeps. ap (λ (b : Bool). input_if b defs) (sym stays ∙ told s keeps) }

  pub has_unchanged : changes ≡ false → HasJails defs kept.engine.core
  has_unchanged stays = subst (HasJails defs) same (unchanged_has defs core changes (fit_defs defs storable) watched is stays)

pub ruleset telling = (fit_defs, tells_input, tells_none, has_unchanged)
