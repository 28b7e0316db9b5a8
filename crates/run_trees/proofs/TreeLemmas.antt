-- The configuration of a plan is read, whoever reads it, or why it is not taken.
use Rattle.std.specs.Prelude.{IfOk}
use Rattle.std.proofs.Common.{ℕ, ◌≡◌, List, Option, Some, None, Result, Ok, Err, refl, sym, ap, ◌∙◌, subst}
use Rattle.f2b_base.specs.declared.outside.Tree.{Tree}
use Rattle.f2b_base.specs.declared.outside.TreeAnswer.{TreeAnswer}
use Rattle.f2b_base.specs.declared.outside.TreeAnswer.TheVariants.{Tree as TreeGiven, Failed as TreeFailed, TooLarge as TreeTooLarge, NoMemory as TreeNoMemory}
use Rattle.f2b_world.specs.Told.{Standing, Called, Asked, config_event}
use Rattle.f2b_world.specs.declared.event.Event.{Event}
use Rattle.f2b_world.specs.declared.event.Event.TheVariants.{Config}
use Rattle.f2b_model.specs.Storable.{AreStorableDefs}
use Rattle.jail_conf.specs.Conf.{conf}
use Rattle.jail_conf.specs.declared.conf_error.ConfError.{ConfError}
use Rattle.jail_conf.specs.Then.{Gives}
use Rattle.jail_conf.specs.declared.fail.Fail.{Fail}
use Rattle.jail_conf.specs.declared.fail.Fail.TheVariants.{Refused, NoMemory as FailNoMemory}
use Rattle.jail_conf.specs.declared.settings.Settings.{Settings}
use Rattle.run_law.specs.Calls.{Call, IsNext}
use Rattle.run_law.specs.Law.{Goes}
use Rattle.run_law.specs.Patterns.{patterns_of}
use Rattle.run_law.specs.Points.{Run}
use Rattle.run_law.specs.Readers.{Reader}
use Rattle.run_law.specs.Reading.{read_as, reads_tree}
use Rattle.run_law.specs.Stages.{HasCause, IsStill, IsSteady}
use Rattle.run_law.specs.declared.plan.Plan.{Plan}
use Rattle.run_law.specs.declared.status.Status.{Status}
use Rattle.run_law.specs.declared.status.Status.TheVariants.{ConfFault, ConfRefused, ConfTooLarge}
use Rattle.run_law.proofs.CauseLemmas.{steady_call, steady_refl}
use Rattle.run_law.proofs.PointLemmas.{halts_after, halts_here, point_goes}
use Rattle.run_steps.specs.Starting.{LeavesSlots}
use Rattle.run_steps.proofs.StartLemmas.{leaves_call}
use Rattle.run_trees.specs.Reads.{IsUnrefused, Reads, ReadsShort, at_tree, not_taken, with_left}
use Rattle.run_law.specs.Reading.{IsUntaken}
use Rattle.run_trees.specs.Trees.{IsDecided, IsOfTree, IsOutcome, IsRead, MayWantMemory}
use Rattle.run_trees.proofs.ReadsLemmas.{unrefused_call, unrefused_none}

-- ---- what a tree comes to

pub tree_decided : {E : Type 0} (tree : Tree) (made : Result Settings (Fail ConfError)) (outcome : Result (Result Settings Status) E) → Gives (conf tree) made
    → IfOk made (λ settings. AreStorableDefs settings.defs) → IsOutcome made outcome → IfOk outcome (IsDecided (TreeGiven tree))
tree_decided tree (Ok settings) (Ok (Ok same)) gives stored is = subst (IsRead tree) (sym is) (record { defined = gives; storable = stored })
tree_decided tree (Err (Refused error)) (Ok (Err (ConfRefused same))) gives stored is =
    let P : ConfError → Type 0 = λ e. conf tree ≡ Err e in
    subst P (sym is) gives
tree_decided tree (Err FailNoMemory) (Err lost) gives stored is = tt
tree_decided tree _ _ gives stored is = absurd is

pub ruleset deciding = (tree_decided)

-- ---- where an answer leads

module _ (k : Reader) (r : Run) where
  -- from the call for the tree
  abbrev led : TreeAnswer → Run
  led answer = reads_tree k.left_to_make k.untaken answer (at_tree k r)

  leads_on : (answer : TreeAnswer) (settings : Settings) → IsDecided answer (Ok settings) → led answer ≡ with_left settings (patterns_of settings.defs) k r
  leads_on (TreeGiven tree) settings is =
      ap (λ (outcome : Result Settings ConfError). read_as k.left_to_make k.untaken outcome (at_tree k r)) is.defined ∙ k.from_any settings (patterns_of settings.defs) k.at_tree r
  leads_on TreeFailed settings is = absurd is
  leads_on TreeTooLarge settings is = absurd is
  leads_on TreeNoMemory settings is = absurd is

  leads_away : (answer : TreeAnswer) (status : Status) → IsDecided answer (Err status) → led answer ≡ not_taken status k r
  leads_away (TreeGiven tree) (ConfRefused error) is =
      ap (λ (outcome : Result Settings ConfError). read_as k.left_to_make k.untaken outcome (at_tree k r)) is ∙ k.untaken_from_any (ConfRefused error) k.at_tree r
  leads_away TreeFailed ConfFault is = k.untaken_from_any ConfFault k.at_tree r
  leads_away TreeTooLarge ConfTooLarge is = k.untaken_from_any ConfTooLarge k.at_tree r
  leads_away _ _ is = absurd is

  -- the call leads there
  tree_goes : (a b : Standing) (plan : Plan) (answer : TreeAnswer) → r.plan ≡ plan → IsStill r → Called a (Config plan.root answer) b → Goes a.told b.told (at_tree k r) (led answer)
  tree_goes a b plan answer asked still call =
      let event : Event = Config plan.root answer in
      let P : Option Call → Type 0 = λ c. IsNext c event in
      let Q : Run → Type 0 = λ x. Goes a.told b.told (at_tree k r) x in
      let next = subst P (sym (k.asks_tree r.plan)) (ap (λ (p : Plan). p.root) (sym asked)) in
      subst Q (k.reads plan.root answer (at_tree k r))
      (point_goes a b event (at_tree k r) k.at_tree call (record { point = refl; still = record { written = still.written; paid = still.paid } }) next refl)

module _ (a b : Standing) (plan : Plan) where
  tree_leads : (answer : TreeAnswer) (there : Reader → Run → Run) → Called a (Config plan.root answer) b → ((k : Reader) (r : Run) → led k r answer ≡ there k r) → Reads a b plan at_tree there
  tree_leads answer there call to = record {
    runs = λ k r is still.
        let Q : Run → Type 0 = λ x. Goes a.told b.told (at_tree k r) x in
        subst Q (to k r) (tree_goes k r a b plan answer is still call);
  }

  tree_short : (answer : TreeAnswer) → Called a (Config plan.root answer) b → ReadsShort a b plan at_tree
  tree_short answer call = record {
    runs = λ k r is still.
        halts_after a.told b.told b.told (at_tree k r) (led k r answer) _ (tree_goes k r a b plan answer is still call) (halts_here b.told (led k r answer));
  }

  pub tree_taken : (answer : TreeAnswer) (settings : Settings) → Asked a (config_event plan.root answer) b → IsDecided answer (Ok settings)
      → Reads a b plan at_tree (with_left settings (patterns_of settings.defs))
  tree_taken (TreeGiven tree) settings asked is = tree_leads (TreeGiven tree) (with_left settings (patterns_of settings.defs)) asked (λ k r. leads_on k r (TreeGiven tree) settings is)
  tree_taken TreeFailed settings asked is = absurd is
  tree_taken TreeTooLarge settings asked is = absurd is
  tree_taken TreeNoMemory settings asked is = absurd is

  pub tree_untaken : (answer : TreeAnswer) (status : Status) → Asked a (config_event plan.root answer) b → IsDecided answer (Err status) → Reads a b plan at_tree (not_taken status)
  tree_untaken (TreeGiven tree) status asked is = tree_leads (TreeGiven tree) (not_taken status) asked (λ k r. leads_away k r (TreeGiven tree) status is)
  tree_untaken TreeFailed status asked is = tree_leads TreeFailed (not_taken status) asked (λ k r. leads_away k r TreeFailed status is)
  tree_untaken TreeTooLarge status asked is = tree_leads TreeTooLarge (not_taken status) asked (λ k r. leads_away k r TreeTooLarge status is)
  tree_untaken TreeNoMemory status asked is = absurd is

  -- memory ran out behind the call, or there was none for it
  pub tree_lost : (answer : TreeAnswer) → Asked a (config_event plan.root answer) b → ReadsShort a b plan at_tree
  tree_lost TreeNoMemory asked =
      let P : Standing → Type 0 = λ s. ReadsShort a s plan at_tree in
      subst P (sym asked) (record { runs = λ k r is still. halts_here a.told (at_tree k r) })
  tree_lost (TreeGiven tree) asked = tree_short (TreeGiven tree) asked
  tree_lost TreeFailed asked = tree_short TreeFailed asked
  tree_lost TreeTooLarge asked = tree_short TreeTooLarge asked

  -- no answer refuses the configuration where memory runs out over it
  pub tree_unrefused : (answer : TreeAnswer) → Asked a (config_event plan.root answer) b → MayWantMemory answer → IsUnrefused a b
  tree_unrefused (TreeGiven tree) asked may = unrefused_call a b (Config plan.root (TreeGiven tree)) tt asked
  tree_unrefused TreeNoMemory asked may =
      let P : Standing → Type 0 = λ s. IsUnrefused a s in
      subst P (sym asked) (unrefused_none a)
  tree_unrefused _ asked may = absurd may

  -- nor where it is read
  pub tree_given : (answer : TreeAnswer) (settings : Settings) → Asked a (config_event plan.root answer) b → IsDecided answer (Ok settings) → IsUnrefused a b
  tree_given (TreeGiven tree) settings asked is = tree_unrefused (TreeGiven tree) asked tt
  tree_given _ settings asked is = absurd is

pub asked_steady : (a b : Standing) (event : Option Event) → Asked a event b → IsSteady a b
asked_steady a b None asked = let P : Standing → Type 0 = λ s. IsSteady a s in subst P (sym asked) (steady_refl a)
asked_steady a b (Some event) asked = steady_call a b event asked

-- a configuration that was read is no write
pub tree_still : (a b : Standing) (root : List ℕ) (answer : TreeAnswer) (settings : Settings) → Asked a (config_event root answer) b → IsDecided answer (Ok settings) → LeavesSlots a b
tree_still a b root (TreeGiven tree) settings asked is = leaves_call a b (Config root (TreeGiven tree)) tt asked
tree_still a b root TreeFailed settings asked is = absurd is
tree_still a b root TreeTooLarge settings asked is = absurd is
tree_still a b root TreeNoMemory settings asked is = absurd is

-- ---- why it is not taken

pub tree_why : (answer : TreeAnswer) (status : Status) → IsDecided answer (Err status) → IsUntaken status
tree_why (TreeGiven tree) (ConfRefused error) is = tt
tree_why TreeFailed ConfFault is = tt
tree_why TreeTooLarge ConfTooLarge is = tt
tree_why _ _ is = absurd is

pub tree_cause : (a b : Standing) (root : List ℕ) (answer : TreeAnswer) (status : Status) → Asked a (config_event root answer) b → IsDecided answer (Err status) → HasCause a b status
tree_cause a b root (TreeGiven tree) (ConfRefused error) asked is = record { tree = tree; refused = is }
tree_cause a b root TreeFailed ConfFault asked is = asked.counts.cause
tree_cause a b root TreeTooLarge ConfTooLarge asked is = tt
tree_cause a b root _ _ asked is = absurd is

-- ---- what is known of a configuration that is read

pub tree_is : (answer : TreeAnswer) (settings : Settings) → IsDecided answer (Ok settings) → IsOfTree settings
tree_is (TreeGiven tree) settings is = record { tree = tree; defined = is.defined }
tree_is TreeFailed settings is = absurd is
tree_is TreeTooLarge settings is = absurd is
tree_is TreeNoMemory settings is = absurd is

pub tree_stored : (answer : TreeAnswer) (settings : Settings) → IsDecided answer (Ok settings) → AreStorableDefs settings.defs
tree_stored (TreeGiven tree) settings is = is.storable
tree_stored TreeFailed settings is = absurd is
tree_stored TreeTooLarge settings is = absurd is
tree_stored TreeNoMemory settings is = absurd is

pub ruleset reading = (tree_taken, tree_untaken, tree_lost, tree_unrefused, tree_given, tree_still, asked_steady, tree_why, tree_cause, tree_is, tree_stored)
