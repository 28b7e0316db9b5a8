-- The line that stands before the end of a run that was refused.
use Rattle.std.specs.Prelude.{ℕ, ◌++◌, List, [], ◌∷◌, codes, Option, Some, None}
use Rattle.std.specs.Fmt.{decimal}
use Rattle.filter_regex.specs.declared.error.BuildKind.{BuildKind}
use Rattle.filter_regex.specs.declared.error.BuildKind.TheVariants.{Syntax, TooBig}
use Rattle.filter_regex.specs.declared.error.PatternPlace.{PatternPlace}
use Rattle.filter_regex.specs.declared.error.PatternPlace.TheVariants.{Date, Pref, Fail, Ignore}
use Rattle.ini_interp.specs.declared.error.IniError.{IniError}
use Rattle.ini_interp.specs.declared.error.IniError.TheVariants as ini
use Rattle.jail_conf.specs.declared.conf_error.ConfError.{ConfError}
use Rattle.jail_conf.specs.declared.conf_error.ConfKind.{ConfKind}
use Rattle.jail_conf.specs.declared.conf_error.ConfKind.TheVariants as conf
use Rattle.run_law.specs.declared.status.Status.{Status}
use Rattle.run_law.specs.declared.status.Status.TheVariants.{Stopped, TurnsSpent, WorkloadDone, Usage, ConfFault, ConfRefused, DiskFault, NotAJournal, JournalFull, GateFault, SinkFault, ConfTooLarge, PatternRefused, NumbersSpent, NoMemory}
use Rattle.run_law.specs.Said.{stamped}

-- ---- a pattern

abbrev pub place_text : PatternPlace → List ℕ
place_text Date = codes "datepattern"
place_text Pref = codes "prefregex"
place_text (Fail n) = codes "failregex " ++ decimal n
place_text (Ignore n) = codes "ignoreregex " ++ decimal n

abbrev pub build_text : BuildKind → List ℕ
build_text Syntax = codes "Syntax"
build_text TooBig = codes "TooBig"

unfoldable pub pattern_refusal : List ℕ → PatternPlace → BuildKind → List ℕ
pattern_refusal jail place kind = codes "Pattern refused: " ++ jail ++ codes " " ++ place_text place ++ codes " " ++ build_text kind

-- ---- a configuration

-- a fault of a file, with its line or its offset
abbrev pub ini_text : IniError → List ℕ
ini_text (ini.NoSection line) = codes "NoSection " ++ decimal line
ini_text (ini.NoDelimiter line) = codes "NoDelimiter " ++ decimal line
ini_text (ini.Indent line) = codes "Indent " ++ decimal line
ini_text (ini.NotUtf8 at) = codes "NotUtf8 " ++ decimal at
ini_text ini.NoMemory = codes "NoMemory"

-- a kind by its name, and behind it what it carries; a fault of a file stands for itself
abbrev pub kind_text : ConfKind → List ℕ
kind_text (conf.Ini error) = ini_text error
kind_text (conf.MissingInclude path) = codes "MissingInclude " ++ path
kind_text conf.IncludeLoop = codes "IncludeLoop"
kind_text (conf.Missing name) = codes "Missing " ++ name
kind_text (conf.TooDeep name) = codes "TooDeep " ++ name
kind_text (conf.BadPercent at) = codes "BadPercent " ++ decimal at
kind_text conf.BadName = codes "BadName"
kind_text conf.BadBool = codes "BadBool"
kind_text conf.BadOptions = codes "BadOptions"
kind_text conf.MissingFile = codes "MissingFile"
kind_text conf.BadGlob = codes "BadGlob"
kind_text conf.BadZone = codes "BadZone"
kind_text conf.BadDate = codes "BadDate"
kind_text conf.BadTag = codes "BadTag"
kind_text conf.NoHost = codes "NoHost"
kind_text conf.TwoHosts = codes "TwoHosts"
kind_text conf.BadAddress = codes "BadAddress"
kind_text conf.BadTime = codes "BadTime"
kind_text conf.BadNumber = codes "BadNumber"
kind_text conf.Unsupported = codes "Unsupported"
kind_text conf.DoubleAction = codes "DoubleAction"
kind_text conf.TooMany = codes "TooMany"

unfoldable pub conf_refusal : ConfError → List ℕ
conf_refusal e = codes "Configuration refused: " ++ e.file ++ codes " [" ++ e.section ++ codes "] " ++ e.name ++ codes ": " ++ kind_text e.kind

-- ---- a run

-- the text of a status that has one
abbrev pub status_text : Status → Option (List ℕ)
status_text Stopped = None
status_text TurnsSpent = None
status_text WorkloadDone = None
status_text Usage = Some (codes "usage")
status_text ConfFault = Some (codes "configuration not read")
status_text (ConfRefused error) = Some (conf_refusal error)
status_text DiskFault = Some (codes "disk")
status_text (NotAJournal slot at) = Some (codes "not a journal: slot " ++ decimal slot ++ codes " at " ++ decimal at)
status_text (JournalFull need limit) = Some (codes "journal full: " ++ decimal need ++ codes " of " ++ decimal limit)
status_text GateFault = Some (codes "socket")
status_text SinkFault = None
status_text ConfTooLarge = Some (codes "Configuration too large")
status_text (PatternRefused jail place kind) = Some (pattern_refusal jail place kind)
status_text NumbersSpent = Some (codes "numbers spent")
status_text NoMemory = None

-- what a client is told of a configuration that was read again and is not taken
abbrev pub untaken_text : Status → List ℕ
untaken_text ConfFault = codes "Configuration not read"
untaken_text ConfTooLarge = codes "Configuration too large"
untaken_text (ConfRefused error) = conf_refusal error
untaken_text (PatternRefused jail place kind) = pattern_refusal jail place kind
untaken_text _ = []

-- a text that says what went wrong
unfoldable pub error_line : ℕ → List ℕ → List ℕ
error_line now text = stamped now (codes "ERROR " ++ text)

abbrev pub error_lines : ℕ → Option (List ℕ) → List (List ℕ)
error_lines now None = []
error_lines now (Some text) = error_line now text ∷ []

-- the line that a refused run ends with; before the first reading of the clock its second is 0
unfoldable pub status_lines : ℕ → Status → List (List ℕ)
status_lines now status = error_lines now (status_text status)
