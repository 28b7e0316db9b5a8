use Rattle.std.proofs.Common.{◌∙◌, ap, true}
use Rattle.clap.specs.Simple.{on_top, app_of_fields}
use Rattle.regex_tool.proofs.words.bare_command.Goals as goal

pub returns : goal.returns
returns c = ap app_of_fields c.no_binary_name.ensures ∙ ap (on_top (λ s. record s { no_binary_name = true })) c.new.ensures.app
