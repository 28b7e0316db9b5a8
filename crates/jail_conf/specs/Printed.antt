-- How a refusal prints.
use Rattle.std.specs.Prelude.{ℕ, ◌++◌, List, [], codes}
use Rattle.std.specs.Fmt.{decimal}
use Rattle.ini_interp.specs.declared.error.IniError.{IniError}
use Rattle.ini_interp.specs.declared.error.IniError.TheVariants as ini
use Rattle.jail_conf.specs.declared.conf_error.ConfError.{ConfError}
use Rattle.jail_conf.specs.declared.conf_error.ConfKind.{ConfKind}
use Rattle.jail_conf.specs.declared.conf_error.ConfKind.TheVariants.{Ini, MissingInclude, IncludeLoop, Missing, TooDeep, BadPercent, BadName, BadBool, BadOptions, MissingFile, BadGlob, BadZone, BadDate, BadTag, NoHost, TwoHosts, BadAddress, BadTime, BadNumber, Unsupported, DoubleAction, TooMany}

abbrev pub ini_name : IniError → List ℕ
ini_name (ini.NoSection line) = codes "NoSection"
ini_name (ini.NoDelimiter line) = codes "NoDelimiter"
ini_name (ini.Indent line) = codes "Indent"
ini_name (ini.NotUtf8 at) = codes "NotUtf8"
ini_name ini.NoMemory = codes "NoMemory"

-- a fault of a file has its own name
abbrev pub kind_name : ConfKind → List ℕ
kind_name (Ini error) = ini_name error
kind_name (MissingInclude path) = codes "MissingInclude"
kind_name IncludeLoop = codes "IncludeLoop"
kind_name (Missing name) = codes "Missing"
kind_name (TooDeep name) = codes "TooDeep"
kind_name (BadPercent at) = codes "BadPercent"
kind_name BadName = codes "BadName"
kind_name BadBool = codes "BadBool"
kind_name BadOptions = codes "BadOptions"
kind_name MissingFile = codes "MissingFile"
kind_name BadGlob = codes "BadGlob"
kind_name BadZone = codes "BadZone"
kind_name BadDate = codes "BadDate"
kind_name BadTag = codes "BadTag"
kind_name NoHost = codes "NoHost"
kind_name TwoHosts = codes "TwoHosts"
kind_name BadAddress = codes "BadAddress"
kind_name BadTime = codes "BadTime"
kind_name BadNumber = codes "BadNumber"
kind_name Unsupported = codes "Unsupported"
kind_name DoubleAction = codes "DoubleAction"
kind_name TooMany = codes "TooMany"

-- a line, or an offset
abbrev pub ini_carried : IniError → List ℕ
ini_carried (ini.NoSection line) = codes " " ++ decimal line
ini_carried (ini.NoDelimiter line) = codes " " ++ decimal line
ini_carried (ini.Indent line) = codes " " ++ decimal line
ini_carried (ini.NotUtf8 at) = codes " " ++ decimal at
ini_carried ini.NoMemory = []

-- the number, name or path of a kind that has one
abbrev pub carried : ConfKind → List ℕ
carried (Ini error) = ini_carried error
carried (MissingInclude path) = codes " " ++ path
carried (Missing name) = codes " " ++ name
carried (TooDeep name) = codes " " ++ name
carried (BadPercent at) = codes " " ++ decimal at
carried _ = []

-- FILE [SECTION] NAME: KIND
abbrev pub refusal_text : ConfError → List ℕ
refusal_text error =
    codes "Configuration refused: " ++ error.file ++ codes " [" ++ error.section ++ codes "] " ++ error.name ++ codes ": "
    ++ kind_name error.kind ++ carried error.kind
