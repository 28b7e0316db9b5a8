-- The patterns of all jails are built, one jail after another.
use Rattle.std.proofs.Common.{ℕ, zero, suc, ◌≡◌, ◌+◌, ◌<◌, ◌≤◌, ◌++◌, List, [], ◌∷◌, length, drop, get_or, sym, ap, ◌∙◌, subst, arith}
use Rattle.std.specs.Prelude.{Contains}
use Rattle.std.specs.List.{flat_map}
use Rattle.std.proofs.lemmas.List.{drop_all, drop_more}
use Rattle.std.proofs.lemmas.List.Elements.{Contains-get_or}
use Rattle.f2b_base.specs.declared.jail.JailDef.{JailDef}
use Rattle.f2b_model.specs.Lists.{AllOf}
use Rattle.f2b_world.specs.Told.{Standing}
use Rattle.filter_regex.specs.Rules.{IsSupported}
use Rattle.jail_conf.specs.declared.settings.Settings.{Settings}
use Rattle.run_law.specs.Patterns.{patterns_of_jail}
use Rattle.run_law.specs.Points.{Run}
use Rattle.run_law.specs.Readers.{Reader}
use Rattle.run_law.specs.Stages.{HasCause, IsSteady}
use Rattle.run_law.specs.declared.plan.Plan.{Plan}
use Rattle.run_law.specs.declared.status.Status.{Status}
use Rattle.run_law.proofs.CauseLemmas.{cause_later}
use Rattle.run_trees.specs.Reads.{BuildFails, Builds, BuildsShort, Reads, ReadsShort, not_taken, with_left}
use Rattle.run_trees.specs.Trees.{IsCaused, IsOfTree}
use Rattle.run_trees.proofs.ReadsLemmas.{reads_short_on, reads_trans}

all_at : {A : Type 0} (P : A → Type 0) (xs : List A) (i : ℕ) (x : A) → AllOf P xs → i < length xs → P (get_or xs i x)
all_at P [] i x all less = absurd (omega (arith, less))
all_at P (y ∷ ys) zero x all less = all.0
all_at P (y ∷ ys) (suc i) x all less = all_at P ys i x all.1 (omega (arith, less))

module _ (settings : Settings) where
  -- at the first pattern of the jails from this place on
  abbrev pub jails_left : ℕ → Reader → Run → Run
  jails_left i = with_left settings (flat_map patterns_of_jail (drop i settings.defs.jails))

  module _ (i : ℕ) (d : JailDef) (less : i < length settings.defs.jails) (is : d ≡ get_or settings.defs.jails i d) where
    next_left : jails_left i ≡ with_left settings (patterns_of_jail d ++ flat_map patterns_of_jail (drop (i + 1) settings.defs.jails))
    next_left =
        ap (λ (ds : List JailDef). with_left settings (flat_map patterns_of_jail ds))
        (drop_more settings.defs.jails i d less ∙ ap (λ (e : JailDef). e ∷ drop (i + 1) settings.defs.jails) (sym is))

    pub next_built : (a b c : Standing) (plan : Plan) (from : Reader → Run → Run) → Reads a b plan from (jails_left i) → Builds b c d → Reads a c plan from (jails_left (i + 1))
    next_built a b c plan from before builds =
        let P : (Reader → Run → Run) → Type 0 = λ p. Reads b c plan p (jails_left (i + 1)) in
        reads_trans a b c plan from (jails_left i) (jails_left (i + 1)) before
        (subst P (sym next_left) (builds.runs plan settings (flat_map patterns_of_jail (drop (i + 1) settings.defs.jails))))

    pub next_fails : (a b c : Standing) (plan : Plan) (from : Reader → Run → Run) (status : Status) → Reads a b plan from (jails_left i) → BuildFails b c d status
        → Reads a c plan from (not_taken status)
    next_fails a b c plan from status before fails =
        let P : (Reader → Run → Run) → Type 0 = λ p. Reads b c plan p (not_taken status) in
        reads_trans a b c plan from (jails_left i) (not_taken status) before
        (subst P (sym next_left) (fails.runs plan settings (flat_map patterns_of_jail (drop (i + 1) settings.defs.jails))))

    pub next_short : (a b c : Standing) (plan : Plan) (from : Reader → Run → Run) → Reads a b plan from (jails_left i) → BuildsShort b c d → ReadsShort a c plan from
    next_short a b c plan from before short =
        let P : (Reader → Run → Run) → Type 0 = λ p. ReadsShort b c plan p in
        reads_short_on a b c plan from (jails_left i) before
        (subst P (sym next_left) (short.runs plan settings (flat_map patterns_of_jail (drop (i + 1) settings.defs.jails))))

    pub next_caused : (a b c : Standing) (status : Status) → IsOfTree settings → IsSteady a b → IsCaused b c d status → HasCause a c status
    next_caused a b c status tree steady caused =
        let P : JailDef → Type 0 = λ e. Contains settings.defs.jails e in
        cause_later a b c status steady (caused.cause settings tree (subst P (sym is) (Contains-get_or settings.defs.jails i d less)))

    pub next_supported : AllOf IsSupported settings.defs.jails → IsSupported d
    next_supported all = subst IsSupported (sym is) (all_at IsSupported settings.defs.jails i d all less)

  -- behind the last jail no pattern is left
  pub all_built : (a b : Standing) (plan : Plan) (from : Reader → Run → Run) (i : ℕ) → length settings.defs.jails ≤ i → Reads a b plan from (jails_left i) → Reads a b plan from (with_left settings [])
  all_built a b plan from i end reads =
      let P : (Reader → Run → Run) → Type 0 = λ p. Reads a b plan from p in
      subst P (ap (λ (ds : List JailDef). with_left settings (flat_map patterns_of_jail ds)) (drop_all i settings.defs.jails end)) reads
