-- What is allowed where a configuration was refused: a sentence for each kind.
use Rattle.std.specs.Prelude.{ℕ, List, codes}
use Rattle.ini_interp.specs.declared.error.IniError.{IniError}
use Rattle.ini_interp.specs.declared.error.IniError.TheVariants as ini
use Rattle.jail_conf.specs.declared.conf_error.ConfKind.{ConfKind}
use Rattle.jail_conf.specs.declared.conf_error.ConfKind.TheVariants.{Ini, MissingInclude, IncludeLoop, Missing, TooDeep, BadPercent, BadName, BadBool, BadOptions, MissingFile, BadGlob, BadZone, BadDate, BadTag, NoHost, TwoHosts, BadAddress, BadTime, BadNumber, Unsupported, DoubleAction, TooMany}

abbrev pub ini_help : IniError → List ℕ
ini_help (ini.NoSection line) = codes "an item stands below the header of its section, as [DEFAULT]"
ini_help (ini.NoDelimiter line) = codes "a line is [SECTION], NAME = VALUE or a comment, or continues a value with a blank in front"
ini_help (ini.Indent line) = codes "a line with a blank in front continues an item that stands above it in its section"
ini_help (ini.NotUtf8 at) = codes "a file of a configuration is UTF-8"
ini_help ini.NoMemory = codes "more memory is needed"

abbrev pub help_of : ConfKind → List ℕ
help_of (Ini error) = ini_help error
help_of (MissingInclude path) = codes "an include is a file of the configuration, named from the directory of the file that includes it, without .. and without / in front"
help_of IncludeLoop = codes "no file includes itself, nor one that includes it: put what both need into a third file"
help_of (Missing name) = codes "a reference names an item of its section or scope: set that item there"
help_of (TooDeep name) = codes "references and tags stand in one another at most ten deep, and none comes to itself"
help_of (BadPercent at) = codes "% begins %(NAME)s or %(SECTION/NAME)s, and is written %% where it means itself"
help_of BadName = codes "the name of a jail has 1 to 64 of A-Z a-z 0-9 _ . -"
help_of BadBool = codes "one of true, yes, on, 1, false, no, off and 0"
help_of BadOptions = codes "NAME, or NAME[KEY=VALUE, KEY='VALUE'] with quotes around a value that has a comma, a bracket or a quote"
help_of MissingFile = codes "a filter has a file filter.d/NAME.conf, and an action a file action.d/NAME.conf"
help_of BadGlob = codes "a path begins with /, and has * and ? behind its last / alone"
help_of BadZone = codes "Z, or UTC or GMT, alone or with +hhmm or -hhmm behind it"
help_of BadDate = codes "Epoch, ISO8601, {NONE}, {^LN-BEG}, or a pattern with %d, one of %m and %b, and at most once each %Y or %y, %H, %M, %S, %z, %a, %f and %%"
help_of BadTag = codes "write <HOST>, <ADDR>, <IP4> or <IP6> in place of <F-ID>, <CIDR> and <SUBNET>, the bare pattern in place of <F-MLFID>, no line with <SKIPLINES>, <F-NOFAIL> or another <F-MLF..>, and <F-CONTENT> with its end once, in prefregex alone and with no host there"
help_of NoHost = codes "each line of failregex has one of <HOST>, <ADDR>, <IP4>, <IP6> and <DNS>, and not right behind (? or (?P"
help_of TwoHosts = codes "a pattern has at most one of <HOST>, <ADDR>, <IP4>, <IP6> and <DNS>: write a line for each"
help_of BadAddress = codes "addresses and masks, as 192.0.2.1 and 2001:db8::/32, divided by blanks, lines or commas; no names of hosts"
help_of BadTime = codes "seconds, or terms as 1d 12h 30m, of at most 3153600000 seconds and within the bounds of the item"
help_of BadNumber = codes "decimal digits, within the bounds of the item"
help_of Unsupported = codes "the value asks for what is not offered: leave the item out, or give it its default"
help_of DoubleAction = codes "the actions of a jail have different names: give one of them the option actname"
help_of TooMany = codes "at most 256 jails, 64 logs and 16 actions of a jail, 512 patterns in all, and 8192 bytes of a pattern"
