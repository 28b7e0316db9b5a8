-- The line that is said before a test ends that is refused, and the numbers of all ends.
use Rattle.std.specs.Prelude.{ℕ, ◌++◌, List, [], codes}
use Rattle.std.specs.Fmt.{decimal}
use Rattle.filter_regex.specs.declared.error.PatternPlace.{PatternPlace}
use Rattle.filter_regex.specs.declared.error.PatternPlace.TheVariants.{Date, Pref, Fail, Ignore}
use Rattle.jail_conf.specs.Printed.{refusal_text as conf_text}
use Rattle.regex_tool.specs.declared.kind.ToolKind.{ToolKind}
use Rattle.regex_tool.specs.declared.kind.ToolKind.TheVariants.{TooLong, BadDate, NoHost, TwoHosts, Syntax, TooBig}
use Rattle.regex_tool.specs.declared.status.ToolStatus.{ToolStatus}
use Rattle.regex_tool.specs.declared.status.ToolStatus.TheVariants.{Done, Usage, FileFault, ConfRefused, SinkFault, TooLarge, PatternRefused, NoMemory}

abbrev pub status_number : ToolStatus → ℕ
status_number Done = 0
status_number Usage = 2
status_number FileFault = 3
status_number (ConfRefused error) = 4
status_number SinkFault = 9
status_number TooLarge = 10
status_number (PatternRefused place kind) = 11
status_number NoMemory = 71

abbrev pub place_text : PatternPlace → List ℕ
place_text Date = codes "datepattern"
place_text Pref = codes "prefregex"
place_text (Fail number) = codes "failregex " ++ decimal number
place_text (Ignore number) = codes "ignoreregex " ++ decimal number

abbrev pub kind_text : ToolKind → List ℕ
kind_text TooLong = codes "TooLong"
kind_text BadDate = codes "BadDate"
kind_text NoHost = codes "NoHost"
kind_text TwoHosts = codes "TwoHosts"
kind_text Syntax = codes "Syntax"
kind_text TooBig = codes "TooBig"

abbrev pub pattern_text : List ℕ → PatternPlace → ToolKind → List ℕ
pattern_text jail place kind = codes "Pattern refused: " ++ jail ++ codes " " ++ place_text place ++ codes " " ++ kind_text kind

-- of the jail with this name
abbrev pub refusal_text : List ℕ → ToolStatus → List ℕ
refusal_text jail Usage = codes "usage"
refusal_text jail FileFault = codes "configuration not read"
refusal_text jail TooLarge = codes "Configuration too large"
refusal_text jail (ConfRefused error) = conf_text error
refusal_text jail (PatternRefused place kind) = pattern_text jail place kind
refusal_text jail _ = []

unfoldable pub refusal_line : List ℕ → ToolStatus → List ℕ
refusal_line jail status = codes "ERROR " ++ refusal_text jail status ++ codes "\n"
