-- A configuration is read again for a client. Where it is taken it is an input, unless it changes nothing, and the searches go on by it; where it
-- is not, nothing changes. Either is said, and the client is told.
use Rattle.std.specs.Prelude.{ℕ, List, [], ◌∷◌, Option, Some, None, true, codes}
use Rattle.client_replies.specs.Replies.{refused, sendable}
use Rattle.client_table.specs.Clients.{answered, changed_at}
use Rattle.f2b_base.specs.declared.jail.Defs.{Defs}
use Rattle.f2b_world.specs.declared.event.Event.{Event}
use Rattle.f2b_world.specs.declared.event.Event.TheVariants.{Config, Make, Names}
use Rattle.jail_conf.specs.declared.settings.Settings.{Settings}
use Rattle.run_law.specs.Calls.{Call, AskTree}
use Rattle.run_law.specs.Changes.{config_changes}
use Rattle.run_law.specs.News.{News, brings, goes_to}
use Rattle.run_law.specs.Paths.{Naming, first_naming}
use Rattle.run_law.specs.Patterns.{Pattern}
use Rattle.run_law.specs.Points.{Rereading, OfTree, OfMakes, OfNames, AtReload, Point, AtTurn, Run}
use Rattle.run_law.specs.Reading.{config_news, make_call, makes_next, names_call, names_from, reads_names, reads_tree}
use Rattle.run_law.specs.Refusals.{error_line, untaken_text}
use Rattle.run_law.specs.Said.{reloaded_line}
use Rattle.run_law.specs.Server.{Server, following}
use Rattle.run_law.specs.Serving.{Service, Behind, serves, with_clients}
use Rattle.run_law.specs.Turn.{behind_client}
use Rattle.run_law.specs.declared.plan.Plan.{Plan}
use Rattle.run_law.specs.declared.status.Status.{Status}

abbrev pub reload_call : Plan → Rereading → Option Call
reload_call plan OfTree = Some (AskTree plan.root)
reload_call plan (OfMakes settings left) = make_call left
reload_call plan (OfNames settings naming) = names_call naming.left

-- the configuration comes next, which is read again for the client of a place
abbrev pub at_reload : ℕ → Server → Point
at_reload place s = AtTurn (AtReload OfTree place) s

-- ---- one that is not taken

-- the client is told why, the same is said, and the turn goes on behind it
abbrev pub tells_untaken : Status → ℕ → Server → Service
tells_untaken status i s = record {
  clients = changed_at i (answered (sendable (refused (untaken_text status)))) s.clients;
  news = record { before = []; what = None; behind = error_line s.now (untaken_text status) ∷ [] };
  onward = Behind i;
}

abbrev pub untaken_for : ℕ → Server → Status → Run → Run
untaken_for i s status r = serves (tells_untaken status i s) s r

-- ---- one that is taken

-- that is said behind all that the configuration tells
abbrev pub reload_news : List (List ℕ) → Defs → Server → News
reload_news before defs s = config_news (config_changes s.state defs) before defs (reloaded_line s.now ∷ [])

-- the client is told
abbrev pub tells_taken : ℕ → Server → Server
tells_taken i s = with_clients (changed_at i (answered (record { accepted = true; text = codes "OK" })) s.clients) s

-- the turn goes on behind it, with the logs of the jails
abbrev pub reloaded : ℕ → Server → Point
reloaded i s = behind_client i (following s)

abbrev pub taken_for : ℕ → List (List ℕ) → Defs → Server → Run → Run
taken_for i before defs s r = brings (reload_news before defs s) (reloaded i) (tells_taken i s) r

-- ---- where an event leads

abbrev pub names_for : ℕ → Settings → Naming → Server → Point
names_for i settings naming s = AtTurn (AtReload (OfNames settings naming) i) s

-- the patterns that are left, and behind the last the names
abbrev pub left_for : ℕ → Server → Settings → List Pattern → Run → Run
left_for i s settings [] r = names_from (names_for i) (taken_for i) [] settings (first_naming settings.defs) s r
left_for i s settings (p ∷ ps) r = goes_to (AtTurn (AtReload (OfMakes settings (p ∷ ps)) i) s) r

abbrev pub reloads : Rereading → Event → ℕ → Server → Run → Run
reloads OfTree (Config root answer) i s r = reads_tree (left_for i s) (untaken_for i s) answer r
reloads (OfMakes settings left) (Make text answer) i s r = makes_next (left_for i s) (untaken_for i s) left answer settings r
reloads (OfNames settings naming) (Names dir answer) i s r = reads_names (names_for i) (taken_for i) answer settings naming s r
reloads _ _ i s r = r
