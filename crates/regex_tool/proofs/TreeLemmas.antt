-- The jail that the files of a filter come to, or why there is none.
use Rattle.std.proofs.Common.{◌≡◌, ℕ, List, Option, None, Some, IfSome, sym, subst, arith}
use Rattle.f2b_base.specs.declared.jail.JailDef.{JailDef}
use Rattle.f2b_base.specs.declared.outside.Tree.{Tree}
use Rattle.f2b_base.specs.declared.outside.TreeAnswer.{TreeAnswer}
use Rattle.f2b_base.specs.declared.outside.TreeAnswer.TheVariants.{Tree as IsATree, Failed as TreeFailed, TooLarge as TreeTooLarge}
use Rattle.f2b_world.specs.Faults.{OfFiles, Rose}
use Rattle.f2b_world.specs.Shelves.{Shelf, tree_fault}
use Rattle.f2b_world.specs.Told.{Standing, Opened}
use Rattle.f2b_world.specs.Trees.{IsTreeOf}
use Rattle.regex_tool.specs.Checks.{IsFew}
use Rattle.regex_tool.specs.Definitions.{IsBase, IsJailOf, pattern_jail}
use Rattle.regex_tool.specs.Runs.{HasTreeCause, IsJailFail}
use Rattle.regex_tool.specs.Targets.{Target}
use Rattle.regex_tool.specs.declared.status.ToolStatus.{ToolStatus}
use Rattle.regex_tool.specs.declared.status.ToolStatus.TheVariants.{Done, Usage, FileFault, ConfRefused, SinkFault, TooLarge, PatternRefused, NoMemory}

-- what a directory tells
pub tree_answered : (old new : Standing) (answer one : TreeAnswer) (dir : List ℕ) → answer ≡ one → Opened old (tree_fault answer) (IsTreeOf dir answer) new
    → IfSome old.shelf (IsTreeOf dir one)
tree_answered old new answer one dir is call = subst (λ (a : TreeAnswer). IfSome old.shelf (IsTreeOf dir a)) is call.answer

-- a directory that is not read raised the count of files
pub tree_failed : (old new : Standing) (answer : TreeAnswer) (P : Shelf → Type 0) → answer ≡ TreeFailed → Opened old (tree_fault answer) P new
    → Rose (old.faults OfFiles) (new.faults OfFiles)
tree_failed old new answer P is call =
    let cause : IfSome (tree_fault answer) (λ kind. Rose (old.faults kind) (new.faults kind)) = call.counts.cause in
    subst (λ (a : TreeAnswer). IfSome (tree_fault a) (λ kind. Rose (old.faults kind) (new.faults kind))) is cause

-- the jail of a pattern
pub base_of_pattern : (shelf : Option Shelf) (regex : List ℕ) (named : Option Target) (jail : JailDef) → None ≡ named → jail ≡ pattern_jail regex
    → IsBase shelf regex named jail
base_of_pattern shelf regex named jail none is = subst (λ (t : Option Target). IsBase shelf regex t jail) none is

pub few_of_pattern : (regex : List ℕ) (jail : JailDef) → jail ≡ pattern_jail regex → IsFew jail
few_of_pattern regex jail is = subst IsFew (sym is) (record { fail = omega arith; ignore_lines = omega arith })

-- the jail of a filter
pub base_of_filter : (shelf : Option Shelf) (regex : List ℕ) (named : Option Target) (target : Target) (tree : Tree) (jail : JailDef) → Some target ≡ named
    → IfSome shelf (IsTreeOf target.dir (IsATree tree)) → IsJailOf target tree jail → IsBase shelf regex named jail
base_of_filter shelf regex named target tree jail some files is =
    subst (λ (t : Option Target). IsBase shelf regex t jail) some (record { tree = tree; files = files; jail_is = is })

-- why a filter has no jail
pub no_jail : (named : Option Target) (old new : Standing) (target : Target) (tree : Tree) (status : ToolStatus) → Some target ≡ named
    → IfSome old.shelf (IsTreeOf target.dir (IsATree tree)) → IsJailFail target tree status → HasTreeCause named old new status
no_jail named old new target tree Done some files cause = absurd cause
no_jail named old new target tree Usage some files cause = absurd cause
no_jail named old new target tree FileFault some files cause = absurd cause
no_jail named old new target tree (ConfRefused error) some files cause =
    record { target = target; is = sym some; tree = tree; files = files; refused = cause }
no_jail named old new target tree SinkFault some files cause = absurd cause
no_jail named old new target tree TooLarge some files cause = absurd cause
no_jail named old new target tree (PatternRefused place kind) some files cause = absurd cause
no_jail named old new target tree NoMemory some files cause = tt

-- its directory is too large
pub too_large : (named : Option Target) (old new : Standing) (target : Target) → Some target ≡ named → IfSome old.shelf (IsTreeOf target.dir TreeTooLarge)
    → HasTreeCause named old new TooLarge
too_large named old new target some answer = record { target = target; is = sym some; answer = answer }
