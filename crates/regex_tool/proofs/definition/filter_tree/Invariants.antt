use Rattle.std.proofs.Common.{◌≡◌, filter, take}
use Rattle.regex_tool.specs.Definitions.{is_of_filters}
use Rattle.regex_tool.proofs.definition.filter_tree.Given as goal

abbrev pub invariant-loop-file : goal.invariant-loop-file
invariant-loop-file l = l.files ≡ filter is_of_filters (take l.file-index l.tree.files)
