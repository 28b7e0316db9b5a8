-- The view of a state, which is what a server keeps over a stop, and the state of a view.
use Rattle.std.specs.Prelude.{false, List, [], ◌∷◌, map}
use Rattle.f2b_base.specs.Limits.{default_purge}
use Rattle.f2b_base.specs.declared.jail.JailDef.{JailDef}
use Rattle.f2b_base.specs.declared.view.JailView.{JailView}
use Rattle.f2b_base.specs.declared.view.View.{View}
use Rattle.f2b_model.specs.declared.jail_now.JailNow.{JailNow}
use Rattle.f2b_model.specs.Whole.{State, Now, now_of, state_from}

-- what a view shows of a jail, beside its definition
abbrev pub jail_view : JailNow → JailView
jail_view j = record {
  name = j.definition.name;
  idle = j.idle;
  total_failed = j.total_failed;
  total_banned = j.total_banned;
  moment = j.moment;
  failures = j.failures;
  bans = j.bans;
  past = j.past;
  watches = j.watches;
}

-- the view of a middle state, with the definitions in one list and the rest of the jails in another
abbrev pub spread : Now → View
spread n = record {
  at = n.jails.at;
  defs = record { purge = n.jails.purge; jails = map (λ (j : JailNow). j.definition) n.jails.jails };
  stopping = n.lanes.stopping;
  up = n.lanes.up;
  jails = map jail_view n.jails.jails;
  jobs = n.lanes.jobs;
  next_job = n.lanes.next_job;
  next_ban = n.jails.next_ban;
}

-- a jail of its definition and what a view shows of it
abbrev pub jail_of : JailDef → JailView → JailNow
jail_of d v = record {
  definition = d;
  idle = v.idle;
  total_failed = v.total_failed;
  total_banned = v.total_banned;
  moment = v.moment;
  watches = v.watches;
  failures = v.failures;
  bans = v.bans;
  past = v.past;
}

-- the jails of two lists, one by one
abbrev pub jails_of : List JailDef → List JailView → List JailNow
jails_of [] vs = []
jails_of (d ∷ ds) [] = []
jails_of (d ∷ ds) (v ∷ vs) = jail_of d v ∷ jails_of ds vs

-- the middle state of a view
abbrev pub gathered : View → Now
gathered v = record {
  jails = record { at = v.at; purge = v.defs.purge; jails = jails_of v.defs.jails v.jails; next_ban = v.next_ban };
  lanes = record { up = v.up; stopping = v.stopping; jobs = v.jobs; next_job = v.next_job };
}

-- the view of a state
abbrev pub view_of : State → View
view_of s = spread (now_of s)

-- the state whose lists hold just what a view shows
abbrev pub back : View → State
back v = state_from (gathered v)

-- the view before the first configuration
abbrev pub empty_view : View
empty_view = record {
  at = 0;
  defs = record { purge = default_purge; jails = [] };
  stopping = false;
  up = [];
  jails = [];
  jobs = [];
  next_job = 0;
  next_ban = 0;
}
