-- Words as commands: the request that they make, or what is wrong with them first. The order of lines is the order of refusals: the words
-- that name the command, how many words there are, the name of the jail, and then the values as they stand.
use Rattle.std.specs.Prelude.{ℕ, Bool, false, not, List, [], ◌∷◌, length, Result, Ok, Err, bytes_eq, codes, if◌then◌else◌}
use Rattle.jail_conf.specs.Then.{◌>>=◌, ◌>>◌, or_refuse, refuse_if}
use Rattle.client_words.specs.Values.{address, addresses, bantime, findtime, jail_name, mask, maxretry}
use Rattle.client_words.specs.Verbs.{fits_count, named_in, switches, verb_of}
use Rattle.client_words.specs.declared.error.CommandError.{CommandError}
use Rattle.client_words.specs.declared.error.CommandError.TheVariants.{Unknown, WrongCount}
use Rattle.client_words.specs.declared.request.Request.{Request}
use Rattle.client_words.specs.declared.request.Request.TheVariants as request
use Rattle.client_words.specs.declared.verb.Item.{Item}
use Rattle.client_words.specs.declared.verb.Item.TheVariants as get
use Rattle.client_words.specs.declared.verb.Setting.{Setting}
use Rattle.client_words.specs.declared.verb.Setting.TheVariants as set
use Rattle.client_words.specs.declared.verb.Verb.{Verb}
use Rattle.client_words.specs.declared.verb.Verb.TheVariants.{Ping, Version, Status, Banned, Holders, Unban, Reload, Stop, Set, Get}

-- ---- what is set and got of a jail

-- what one word sets, the fourth
abbrev pub set_one : Setting → List ℕ → List ℕ → Result Request CommandError
set_one set.Attempt jail word = do
  addr ← address 4 word
  Ok (request.SetAttempt jail addr)
set_one set.Addignoreip jail word = do
  cidr ← mask 4 word
  Ok (request.AddIgnore jail cidr)
set_one set.Delignoreip jail word = do
  cidr ← mask 4 word
  Ok (request.DelIgnore jail cidr)
set_one set.Findtime jail word = do
  secs ← findtime word
  Ok (request.SetFindtime jail secs)
set_one set.Bantime jail word = do
  secs ← bantime word
  Ok (request.SetBantime jail secs)
set_one set.Maxretry jail word = do
  number ← maxretry word
  Ok (request.SetMaxretry jail number)
set_one set.Idle jail word = do
  idle ← or_refuse Unknown (named_in switches word)
  Ok (request.SetIdle jail idle)
set_one _ jail word = Err WrongCount

-- what the words from the fourth on set
abbrev pub set_request : Setting → List ℕ → List (List ℕ) → Result Request CommandError
set_request set.Banip jail values = do
  addrs ← addresses 4 values
  Ok (request.SetBanip jail addrs)
set_request set.Unbanip jail values = do
  addrs ← addresses 4 values
  Ok (request.SetUnbanip jail addrs)
set_request setting jail (value ∷ _) = set_one setting jail value
set_request setting jail [] = Err WrongCount

abbrev pub get_request : Item → List ℕ → Request
get_request get.Banip jail = request.GetBanip jail
get_request get.Findtime jail = request.GetFindtime jail
get_request get.Bantime jail = request.GetBantime jail
get_request get.Maxretry jail = request.GetMaxretry jail
get_request get.Ignoreip jail = request.GetIgnoreip jail
get_request get.Logpath jail = request.GetLogpath jail
get_request get.Failregex jail = request.GetFailregex jail
get_request get.Bantimes jail = request.GetBantimes jail
get_request get.Ignoreregex jail = request.GetIgnoreregex jail
get_request get.Datepattern jail = request.GetDatepattern jail
get_request get.Maxmatches jail = request.GetMaxmatches jail
get_request get.Increment jail = request.GetIncrement jail
get_request get.Actions jail = request.GetActions jail

-- ---- whole commands

-- `--all`, and nothing behind it
abbrev pub is_all : List (List ℕ) → Bool
is_all (word ∷ []) = bytes_eq word (codes "--all")
is_all _ = false

-- what the words from the second on unban
abbrev pub unban_request : List (List ℕ) → Result Request CommandError
unban_request values =
    if is_all values then Ok request.UnbanAll
    else do
      addrs ← addresses 2 values
      Ok (request.Unban addrs)

-- the addresses of which the words from the second on ask who holds them
abbrev pub holders_request : List (List ℕ) → Result Request CommandError
holders_request values = do
  addrs ← addresses 2 values
  Ok (request.Holders addrs)

-- the jails whose status is asked for: all by `--all`, which is a name too, or the one of that name
abbrev pub status_request : List ℕ → Result Request CommandError
status_request word =
    if bytes_eq word (codes "--all") then Ok request.StatusAll
    else do
      name ← jail_name word
      Ok (request.StatusOf name)

-- the request of a verb by all words, which are as many as it has
abbrev pub request_of : Verb → List (List ℕ) → Result Request CommandError
request_of Ping _ = Ok request.Ping
request_of Version _ = Ok request.Version
request_of Status (_ ∷ []) = Ok request.Status
request_of Status (_ ∷ word ∷ _) = status_request word
request_of Banned _ = Ok request.Banned
request_of Holders (_ ∷ values) = holders_request values
request_of Unban (_ ∷ values) = unban_request values
request_of Reload _ = Ok request.Reload
request_of Stop _ = Ok request.Stop
request_of (Set setting) (_ ∷ jail ∷ _ ∷ values) = do
  name ← jail_name jail
  set_request setting name values
request_of (Get item) (_ ∷ jail ∷ _) = do
  name ← jail_name jail
  Ok (get_request item name)
request_of _ _ = Err WrongCount

-- the request that words make, or what is wrong with them first
unfoldable pub command_of : List (List ℕ) → Result Request CommandError
command_of words = do
  verb ← verb_of words
  refuse_if (not (fits_count verb (length words))) WrongCount
  request_of verb words
