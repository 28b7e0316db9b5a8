-- The items, each with its reading and its default.
use Rattle.std.specs.Prelude.{ℕ, min, Bool, true, false, List, [], Option, None, ℤ, pos, codes}
use Rattle.f2b_base.specs.declared.addr.Cidr.{Cidr}
use Rattle.f2b_base.specs.declared.jail.DateSpec.{DateSpec}
use Rattle.f2b_base.specs.declared.jail.DateSpec.TheVariants.{Default}
use Rattle.f2b_base.specs.declared.jail.WatchDef.{WatchDef}
use Rattle.jail_conf.specs.Addresses.{addresses}
use Rattle.jail_conf.specs.Choices.{boolean, one_of, nothing, only_false}
use Rattle.jail_conf.specs.Dates.{date}
use Rattle.jail_conf.specs.Items.{Item, item}
use Rattle.jail_conf.specs.Logs.{watches}
use Rattle.jail_conf.specs.Numbers.{number_between, only_one, factor, multipliers}
use Rattle.jail_conf.specs.Patterns.{prefix, fail_patterns, ignore_patterns}
use Rattle.jail_conf.specs.Readers.{as_written}
use Rattle.jail_conf.specs.Then.{Fine}
use Rattle.jail_conf.specs.Times.{seconds_from, span, jitter, most_seconds}
use Rattle.jail_conf.specs.Zones.{zone}

-- ---- of the server

abbrev pub socket : Item (List ℕ)
socket = item (codes "socket") as_written (codes "/var/run/fail2ban/fail2ban.sock")

abbrev pub dbpurgeage : Item ℕ
dbpurgeage = item (codes "dbpurgeage") (seconds_from 0) 86_400

-- ---- of a jail

abbrev pub enabled : Item Bool
enabled = item (codes "enabled") boolean false

abbrev pub filter : Item (List ℕ)
filter = item (codes "filter") as_written []

abbrev pub logpath : Item (List WatchDef)
logpath = item (codes "logpath") watches []

abbrev pub logtimezone : Item ℤ
logtimezone = item (codes "logtimezone") zone (pos 0)

abbrev pub datepattern : Item DateSpec
datepattern = item (codes "datepattern") date Default

abbrev pub prefregex : Item (Option (List ℕ))
prefregex = item (codes "prefregex") prefix None

-- so many patterns stand before them
abbrev pub failregex : ℕ → Item (List (List ℕ))
failregex before = item (codes "failregex") (fail_patterns before) []

abbrev pub ignoreregex : ℕ → Item (List (List ℕ))
ignoreregex before = item (codes "ignoreregex") (ignore_patterns before) []

abbrev pub ignoreself : Item Bool
ignoreself = item (codes "ignoreself") boolean true

abbrev pub ignoreip : Item (List Cidr)
ignoreip = item (codes "ignoreip") addresses []

abbrev pub selfaddresses : Item (List Cidr)
selfaddresses = item (codes "selfaddresses") addresses []

abbrev pub usedns : Item Fine
usedns = item (codes "usedns") (one_of (codes "yes warn no")) tt

abbrev pub backend : Item Fine
backend = item (codes "backend") (one_of (codes "auto polling")) tt

abbrev pub logencoding : Item Fine
logencoding = item (codes "logencoding") (one_of (codes "auto utf-8")) tt

abbrev pub maxlines : Item Fine
maxlines = item (codes "maxlines") only_one tt

abbrev pub ignorecommand : Item Fine
ignorecommand = item (codes "ignorecommand") nothing tt

abbrev pub ignorecache : Item Fine
ignorecache = item (codes "ignorecache") nothing tt

abbrev pub bantime_formula : Item Fine
bantime_formula = item (codes "bantime.formula") nothing tt

abbrev pub findtime : Item ℕ
findtime = item (codes "findtime") (seconds_from 1) 600

abbrev pub maxretry : Item ℕ
maxretry = item (codes "maxretry") (number_between 1 100_000) 5

abbrev pub maxmatches : (maxretry : ℕ) → Item ℕ
maxmatches maxretry = item (codes "maxmatches") (number_between 0 1_000) (min maxretry 1_000)

abbrev pub bantime : Item ℤ
bantime = item (codes "bantime") span (pos 600)

abbrev pub bantime_increment : Item Bool
bantime_increment = item (codes "bantime.increment") boolean false

abbrev pub bantime_factor : Item ℕ
bantime_factor = item (codes "bantime.factor") factor 1_000

abbrev pub bantime_multipliers : Item (List ℕ)
bantime_multipliers = item (codes "bantime.multipliers") multipliers []

abbrev pub bantime_maxtime : Item ℕ
bantime_maxtime = item (codes "bantime.maxtime") (seconds_from 1) most_seconds

abbrev pub bantime_rndtime : Item ℕ
bantime_rndtime = item (codes "bantime.rndtime") jitter 0

abbrev pub bantime_overalljails : Item Fine
bantime_overalljails = item (codes "bantime.overalljails") only_false tt

abbrev pub action : Item (List ℕ)
action = item (codes "action") as_written []

-- ---- of an action

abbrev pub command : List ℕ → Item (List ℕ)
command name = item name as_written []

abbrev pub timeout : Item ℕ
timeout = item (codes "timeout") (seconds_from 1) 60
