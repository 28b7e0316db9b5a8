-- Sound states.
use Rattle.std.specs.Prelude.{◌≡◌, ℕ, ◌<◌, ◌≤◌, Bool, false, ◌&&◌, List, [], ◌∷◌, map, bytes_eq}
use Rattle.f2b_base.specs.declared.addr.Addr.{Addr}
use Rattle.f2b_base.specs.declared.ban.Ban.{Ban}
use Rattle.f2b_base.specs.declared.ban.Failure.{Failure}
use Rattle.f2b_base.specs.declared.input.Input.{Input}
use Rattle.f2b_base.specs.declared.jail.ActionDef.{ActionDef}
use Rattle.f2b_base.specs.declared.jail.Defs.{Defs}
use Rattle.f2b_base.specs.declared.jail.JailDef.{JailDef}
use Rattle.f2b_base.specs.declared.jail.WatchDef.{WatchDef}
use Rattle.f2b_base.specs.declared.job.LaneId.{LaneId}
use Rattle.f2b_base.specs.declared.view.View.{View}
use Rattle.f2b_base.specs.declared.ban.Past.{Past}
use Rattle.f2b_base.specs.declared.ban.Until.{Until}
use Rattle.f2b_base.specs.declared.ban.Until.TheVariants.{Never, At}
use Rattle.f2b_base.specs.declared.input.What.{What}
use Rattle.f2b_base.specs.declared.input.What.TheVariants.{Maxretry, Config}
use Rattle.f2b_base.specs.Families.{same_family}
use Rattle.f2b_model.specs.Lists.{AllOf, AreDistinct}
use Rattle.f2b_model.specs.Full.{IsFull}
use Rattle.f2b_model.specs.State.{Jail, JailsState, open_of, active_of, kept_of}
use Rattle.f2b_base.specs.Limits.{last_moment}
use Rattle.f2b_model.specs.Moves.{is_banned}
use Rattle.f2b_model.specs.Steps.{moves, names}
use Rattle.f2b_model.specs.Active.{held}
use Rattle.f2b_model.specs.LaneSound.{AreSoundLanes}
use Rattle.f2b_model.specs.Views.{view_of, back}
use Rattle.f2b_model.specs.Whole.{State}

-- what the step asks of a jail, so that its middle state tells all: no address is full, and the moment is not to come
pub record IsSoundJail (at : ℕ) (j : Jail) : Type 0 where
  pub none_full : (addr : Addr) → IsFull j.definition.findtime j.definition.maxretry addr (open_of j.failures) → ⊥
  pub moment : j.moment ≤ at

-- an end that comes no earlier
abbrev pub IsNotBefore : ℕ → Until → Type 0
IsNotBefore moment Never = Unit {0}
IsNotBefore moment (At end) = moment ≤ end

-- each address once
abbrev pub IsOnceEach : List Ban → Type 0
IsOnceEach [] = Unit {0}
IsOnceEach (b ∷ bs) = (is_banned b.addr bs ≡ false) × IsOnceEach bs

-- the ends never fall
abbrev pub IsRisingEnds : List Past → Type 0
IsRisingEnds [] = Unit {0}
IsRisingEnds (p ∷ ps) = AllOf (λ (q : Past). p.end ≤ q.end) ps × IsRisingEnds ps

-- over, and before each active ban's end
abbrev pub IsPastBan : ℕ → List Ban → Past → Type 0
IsPastBan at bs p = (p.end ≤ at) × AllOf (λ (b : Ban). IsNotBefore p.end b.until) bs

-- the open failures, the active bans and the kept past entries of a jail, beside its moment
pub record IsOrderly (at moment : ℕ) (fs : List Failure) (bs : List Ban) (ps : List Past) : Type 0 where
  pub by_moment : AllOf (λ (f : Failure). f.time ≤ moment) fs
  pub not_banned : AllOf (λ (f : Failure). is_banned f.addr bs ≡ false) fs
  pub once : IsOnceEach bs
  pub rising : IsRisingEnds ps
  pub over : AllOf (IsPastBan at bs) ps

-- a sound jail
pub record IsGoodJail (at : ℕ) (j : Jail) : Type 0 where
  pub sound : IsSoundJail at j
  pub orderly : IsOrderly at j.moment (open_of j.failures) (active_of j.bans) (kept_of j.endings)

-- sound jails
pub record AreSoundJails (s : JailsState) : Type 0 where
  pub at : s.at ≤ last_moment
  pub jails : AllOf (IsGoodJail s.at) s.jails
  pub names : AreDistinct bytes_eq (names moves s.jails)

-- whether two actions of a jail have one name and one family
abbrev pub same_kind : ActionDef → ActionDef → Bool
same_kind a b = bytes_eq a.name b.name && same_family a.family b.family

-- what is asked of a configuration
pub record AreFitDefs (defs : Defs) : Type 0 where
  -- no address is full at once
  pub maxretry : AllOf (λ (d : JailDef). 1 ≤ d.maxretry) defs.jails
  -- no two jails have one name
  pub names : AreDistinct bytes_eq (map (λ (d : JailDef). d.name) defs.jails)
  -- no two logs of a jail have one path
  pub paths : AllOf (λ (d : JailDef). AreDistinct bytes_eq (map (λ (w : WatchDef). w.path) d.watches)) defs.jails
  -- no two actions of a jail have one name and one family
  pub actions : AllOf (λ (d : JailDef). AreDistinct same_kind d.actions) defs.jails

-- what is asked of what happens
abbrev pub IsFitWhat : What → Type 0
IsFitWhat (Maxretry jail number) = 1 ≤ number
IsFitWhat (Config defs) = AreFitDefs defs
IsFitWhat _ = Unit {0}

-- what is asked of an input
pub record IsFit (input : Input) : Type 0 where
  pub secs : input.secs ≤ last_moment
  pub what : IsFitWhat input.what

-- the serials rise
abbrev pub IsRisingSerials : List Ban → Type 0
IsRisingSerials [] = Unit {0}
IsRisingSerials (b ∷ bs) = AllOf (λ (c : Ban). b.serial < c.serial) bs × IsRisingSerials bs

-- the serials rise, and all are below the next one
pub record IsNumbered (next : ℕ) (bs : List Ban) : Type 0 where
  pub rising : IsRisingSerials bs
  pub below : AllOf (λ (b : Ban). b.serial < next) bs

-- The jails are sound, and the lanes are for the bans that are active. `base` says who was banned in a lane before the first job.
pub record IsSoundFrom (base : LaneId → Addr → Bool) (s : State) : Type 0 where
  pub jails : AreSoundJails s.jails
  pub lanes : AreSoundLanes base (held moves s.jails) s.lanes

-- a sound state
pub record IsSound (s : State) : Type 0 where
  pub base : LaneId → Addr → Bool
  pub from : IsSoundFrom base s

-- a view that the state of it has, which is sound
pub record IsSoundView (v : View) : Type 0 where
  pub sound : IsSound (back v)
  pub same : view_of (back v) ≡ v
