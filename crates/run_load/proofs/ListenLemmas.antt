-- Clients are let in, or the run is refused.
use Rattle.std.proofs.Common.{refl}
use Rattle.f2b_world.specs.Told.{Called, Standing}
use Rattle.f2b_world.specs.declared.answer.Listen.TheVariants.{Listening, Failed as ListenFailed}
use Rattle.f2b_world.specs.declared.event.Event.TheVariants.{GateListen}
use Rattle.jail_conf.specs.declared.settings.Settings.{Settings}
use Rattle.run_law.specs.Points.{AtFirst, AtListen}
use Rattle.run_law.specs.Stages.{HasCause, IsRefusedAs, IsSteady, Refuses}
use Rattle.run_law.specs.declared.status.Status.{Status}
use Rattle.run_law.specs.declared.status.Status.TheVariants.{GateFault}
use Rattle.run_law.proofs.CauseLemmas.{refused_cause, steady_call, steady_placed}
use Rattle.run_load.specs.Listening.{LeavesPlaces, ListenFails, Listens}
use Rattle.run_steps.specs.Starting.{LeavesSlots}
use Rattle.run_steps.proofs.StartLemmas.{leaves_call, refused_call, starts_call}

-- no journal leaves its places
pub steady_leaves : (a b : Standing) → IsSteady a b → LeavesPlaces a.told b.told
steady_leaves a b steady = record { each = λ p is. steady_placed p a b steady is }

module _ (a b : Standing) (settings : Settings) where
  -- clients may connect
  pub listens : Called a (GateListen settings.socket Listening) b → Listens a b settings
  listens call = record {
    starts = λ plan l. starts_call a b plan (GateListen settings.socket Listening) (AtListen settings l) call refl (λ r. refl) (AtFirst settings l) (λ r. refl);
  }

  pub listen_still : Called a (GateListen settings.socket Listening) b → LeavesSlots a b
  listen_still call = leaves_call a b (GateListen settings.socket Listening) tt call

  -- they may not, and that is said before the run ends
  module _ (c : Standing) (status : Status) (call : Called a (GateListen settings.socket ListenFailed) b) where
    pub listen_fails : Refuses b c 0 GateFault status → ListenFails a c settings status
    listen_fails refuses = record {
      fails = λ plan l. refused_call a b plan (GateListen settings.socket ListenFailed) (AtListen settings l) call refl (λ r. refl) c GateFault status (λ r. refl) refuses;
    }

    pub listen_cause : IsSteady b c → IsRefusedAs b c GateFault status → HasCause a c status
    listen_cause steady seen = refused_cause a b c GateFault status call.counts.cause (steady_call a b (GateListen settings.socket ListenFailed) call) steady seen

pub ruleset listening = (steady_leaves, listens, listen_still, listen_fails, listen_cause)
