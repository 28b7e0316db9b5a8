-- The table of verbs: which words name one, and how many words a command with it has.
use Rattle.std.specs.Prelude.{ℕ, Bool, true, false, ◌==◌, nat_le, List, [], ◌∷◌, find, Option, option_map, is_none, is_some, Result, Ok, Err, bytes_eq, codes, if◌then◌else◌}
use Rattle.f2b_base.specs.Addresses.{read_addr}
use Rattle.jail_conf.specs.Then.{◌>>=◌, ◌>>◌, or_refuse, refuse_if}
use Rattle.client_words.specs.declared.error.CommandError.{CommandError}
use Rattle.client_words.specs.declared.error.CommandError.TheVariants.{Unknown, WrongCount}
use Rattle.client_words.specs.declared.verb.Item.{Item}
use Rattle.client_words.specs.declared.verb.Item.TheVariants as get
use Rattle.client_words.specs.declared.verb.Setting.{Setting}
use Rattle.client_words.specs.declared.verb.Setting.TheVariants as set
use Rattle.client_words.specs.declared.verb.Verb.{Verb}
use Rattle.client_words.specs.declared.verb.Verb.TheVariants.{Ping, Version, Status, Banned, Holders, Unban, Reload, Stop, Set, Get}

-- what a table has for a word
abbrev pub named_in : {A : Type 0} → List (List ℕ × A) → List ℕ → Option A
named_in rows word = option_map (λ row. row.1) (find (λ row. bytes_eq row.0 word) rows)

-- ---- names

-- by the first word; `set` and `get` are named by the third one as well
abbrev pub verbs : List (List ℕ × Verb)
verbs =
    (codes "ping", Ping)
    ∷ (codes "version", Version)
    ∷ (codes "status", Status)
    ∷ (codes "banned", Banned)
    ∷ (codes "unban", Unban)
    ∷ (codes "reload", Reload)
    ∷ (codes "stop", Stop)
    ∷ []

-- by the third word of `set`
abbrev pub settings : List (List ℕ × Setting)
settings =
    (codes "banip", set.Banip)
    ∷ (codes "unbanip", set.Unbanip)
    ∷ (codes "attempt", set.Attempt)
    ∷ (codes "addignoreip", set.Addignoreip)
    ∷ (codes "delignoreip", set.Delignoreip)
    ∷ (codes "findtime", set.Findtime)
    ∷ (codes "bantime", set.Bantime)
    ∷ (codes "maxretry", set.Maxretry)
    ∷ (codes "idle", set.Idle)
    ∷ []

-- by the third word of `get`
abbrev pub items : List (List ℕ × Item)
items =
    (codes "banip", get.Banip)
    ∷ (codes "findtime", get.Findtime)
    ∷ (codes "bantime", get.Bantime)
    ∷ (codes "maxretry", get.Maxretry)
    ∷ (codes "ignoreip", get.Ignoreip)
    ∷ (codes "logpath", get.Logpath)
    ∷ (codes "failregex", get.Failregex)
    ∷ (codes "ignoreregex", get.Ignoreregex)
    ∷ (codes "datepattern", get.Datepattern)
    ∷ (codes "maxmatches", get.Maxmatches)
    ∷ (codes "bantime.increment", get.Increment)
    ∷ (codes "actions", get.Actions)
    ∷ []

-- by the word behind `idle`
abbrev pub switches : List (List ℕ × Bool)
switches = (codes "on", true) ∷ (codes "off", false) ∷ []

-- ---- the verb of a command

-- a word that stands behind `idle` and is no switch
abbrev pub has_unknown_switch : Setting → List (List ℕ) → Bool
has_unknown_switch set.Idle (word ∷ _) = is_none (named_in switches word)
has_unknown_switch _ _ = false

abbrev pub set_verb : List (List ℕ) → Result Verb CommandError
set_verb (_ ∷ _ ∷ word ∷ values) = do
  setting ← or_refuse Unknown (named_in settings word)
  refuse_if (has_unknown_switch setting values) Unknown
  Ok (Set setting)
set_verb _ = Err WrongCount

-- `--with-time`, and nothing behind it
abbrev pub is_with_time : List (List ℕ) → Bool
is_with_time (word ∷ []) = bytes_eq word (codes "--with-time")
is_with_time _ = false

-- what is got by the words behind an item's: of bans their times too, where that is asked for
abbrev pub item_behind : Item → List (List ℕ) → Item
item_behind get.Banip values = if is_with_time values then get.Bantimes else get.Banip
item_behind item values = item

abbrev pub get_verb : List (List ℕ) → Result Verb CommandError
get_verb (_ ∷ _ ∷ word ∷ values) = do
  item ← or_refuse Unknown (named_in items word)
  Ok (Get (item_behind item values))
get_verb _ = Err WrongCount

-- an address, whatever stands behind it
abbrev pub begins_with_address : List (List ℕ) → Bool
begins_with_address (word ∷ _) = is_some (read_addr word)
begins_with_address [] = false

-- the verb by the words behind its own: `banned` asks who holds an address, where one stands there
abbrev pub verb_behind : Verb → List (List ℕ) → Verb
verb_behind Banned values = if begins_with_address values then Holders else Banned
verb_behind verb values = verb

abbrev pub plain_verb : List (List ℕ) → Result Verb CommandError
plain_verb (first ∷ values) = do
  verb ← or_refuse Unknown (named_in verbs first)
  Ok (verb_behind verb values)
plain_verb [] = Err WrongCount

-- The verb that words name. One that is there and stands in no table is an unknown command, and one that is not there a wrong count.
unfoldable pub verb_of : List (List ℕ) → Result Verb CommandError
verb_of [] = Err WrongCount
verb_of (first ∷ others) =
    if bytes_eq first (codes "set") then set_verb (first ∷ others)
    else if bytes_eq first (codes "get") then get_verb (first ∷ others)
    else plain_verb (first ∷ others)

-- ---- counts

-- how many words a command has, with those that name it
abbrev pub fits_count : Verb → ℕ → Bool
fits_count Ping count = count == 1
fits_count Version count = count == 1
fits_count Status count = nat_le count 2
fits_count Banned count = count == 1
fits_count Holders count = nat_le 2 count
fits_count Unban count = nat_le 2 count
fits_count Reload count = count == 1
fits_count Stop count = count == 1
fits_count (Set set.Banip) count = nat_le 4 count
fits_count (Set set.Unbanip) count = nat_le 4 count
fits_count (Set _) count = count == 4
fits_count (Get get.Bantimes) count = count == 4
fits_count (Get _) count = count == 3
