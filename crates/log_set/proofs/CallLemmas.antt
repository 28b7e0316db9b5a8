-- What the calls of a set say, from what its parts did.
use Rattle.std.proofs.Common.{◌≡◌, ℕ, ◌+◌, ◌++◌, Bool, List, [], ◌∷◌, ◌-◌, length, take, drop, Option, Some, None, refl, sym, ap, ◌∙◌, subst, map, arith, length-drop}
use Rattle.std.specs.Prelude.{slice_get, option_map, position}
use Rattle.std.proofs.lemmas.List.{take_all}
use Rattle.std.proofs.lemmas.Option.{same_Some}
use Rattle.f2b_base.specs.declared.addr.Cidr.{Cidr}
use Rattle.f2b_base.specs.declared.jail.JailDef.{JailDef}
use Rattle.f2b_base.specs.declared.jail.Place.{Place}
use Rattle.log_follow.specs.Followed.{StandsFor, ask_of}
use Rattle.log_follow.specs.Watches.{Watch, ask_in, begun}
use Rattle.log_follow.specs.declared.step.Ask.{Ask}
use Rattle.log_set.specs.Changes.{jail_changed, searches_changed}
use Rattle.log_set.specs.Followers.{taken_over}
use Rattle.log_set.specs.Logs.{Logs, LogJail, Watching, Stands, AddsLog, AreLogs, AsksAt, BelongsTo, ChangesJail, ComesNext, GoesOn, IsAskAt, IsSetOf, LiesAt, awake, counting, first_search, going_on, ignoring, is_looked_at, resting, search_of}
use Rattle.log_set.specs.Searches.{is_log_awake}
use Rattle.log_set.specs.declared.change.Change.TheVariants.{Ignore, Findtime, Idle}
use Rattle.log_set.specs.declared.jail_search.JailSearch.{JailSearch}
use Rattle.log_set.specs.declared.log.Log.{Log}
use Rattle.log_set.proofs.FollowersLemmas.{over_all}
use Rattle.log_set.proofs.SetLemmas.{changes, next_same, stand_more, stands_at}

-- ---- a new set

searches_first : (ds : List JailDef) → map first_search ds ≡ map search_of (map awake ds)
searches_first [] = refl
searches_first (d ∷ ds) = ap (λ js. first_search d ∷ js) (searches_first ds)

pub begins : (s : Logs) (ds : List JailDef) → s.jails ≡ map first_search ds → s.logs ≡ [] → IsSetOf s (map awake ds) []
begins s ds jails logs = record {
  searches = jails ∙ searches_first ds;
  logs = subst (λ (ls : List Log). AreLogs ls []) (sym logs) tt;
}

-- ---- one log more

pub adds : (old new : Logs) (l : Log) (jail path : List ℕ) (from : Place) → new.jails ≡ old.jails → new.logs ≡ old.logs ++ l ∷ [] → l.jail ≡ jail → l.path ≡ path
    → StandsFor l.follower (begun from) → AddsLog old new jail path from
adds old new l jail path from jails logs jail_is path_is follows js ws is =
    let more : Watching = record { jail = jail; path = path; watch = begun from } in
    record {
      searches = jails ∙ is.searches;
      logs = subst (λ (ls : List Log). AreLogs ls (ws ++ more ∷ [])) (sym logs)
          (stand_more old.logs ws l more is.logs (record { jail = jail_is; path = path_is; watch = follows }));
    }

-- ---- the log at a place

module _ (s : Logs) (k : ℕ) (l : Log) (l_is : slice_get s.logs k ≡ Some l) where
  pub lies : (path : List ℕ) → path ≡ l.path → LiesAt s k path
  lies path path_is js ws a is a_is = path_is ∙ (stands_at k s.logs ws l a is.logs l_is a_is).path

  pub belongs : (jail : List ℕ) → jail ≡ l.jail → BelongsTo s k jail
  belongs jail jail_is js ws a is a_is = jail_is ∙ (stands_at k s.logs ws l a is.logs l_is a_is).jail

  pub asks : (ask : Ask) → ((w : Watch) → StandsFor l.follower w → ask ≡ ask_in w) → AsksAt s k ask
  asks ask ask_is js ws a is a_is = ask_is a.watch (stands_at k s.logs ws l a is.logs l_is a_is).watch

  pub asks_as : (ask : Ask) → ask ≡ ask_of l.follower → IsAskAt s k ask
  asks_as ask ask_is m m_is = ask_is ∙ ap (λ (n : Log). ask_of n.follower) (same_Some _ _ (sym l_is ∙ m_is))

-- ---- the next log

-- a part of a list up to its end is all that is behind its beginning
pub all_behind : {A : Type 0} (xs : List A) (n : ℕ) → take (length xs - n) (drop n xs) ≡ drop n xs
all_behind xs n = take_all (length xs - n) (drop n xs) (grind (arith, length-drop))

pub comes_next : (s : Logs) (from : ℕ) (o next : Option ℕ) → o ≡ position (is_log_awake s.jails) (drop from s.logs) → next ≡ option_map (λ k. from + k) o → ComesNext s from next
comes_next s from o next o_is next_is js ws is =
    next_is
    ∙ ap (option_map (λ k. from + k))
    (o_is ∙ ap (λ (jails : List JailSearch). position (is_log_awake jails) (drop from s.logs)) is.searches ∙ next_same js from s.logs ws is.logs)

-- ---- a jail that changes

module _ (old new : Logs) (name : List ℕ) (logs : new.logs ≡ old.logs) where
  pub ignores : (masks : List Cidr) → new.jails ≡ searches_changed name (Ignore masks) old.jails → ChangesJail old new name (ignoring masks)
  ignores masks jails js ws is = changes (Ignore masks) name old new js ws jails logs is

  pub counts : (secs : ℕ) → new.jails ≡ searches_changed name (Findtime secs) old.jails → ChangesJail old new name (counting secs)
  counts secs jails js ws is = changes (Findtime secs) name old new js ws jails logs is

  pub rests : (idle : Bool) → new.jails ≡ searches_changed name (Idle idle) old.jails → ChangesJail old new name (resting idle)
  rests idle jails js ws is = changes (Idle idle) name old new js ws jails logs is

-- ---- logs that go on

pub goes_on : (old new : Logs) (ls : List Log) → new.jails ≡ old.jails → new.logs ≡ taken_over ls old.logs → GoesOn ls old new
goes_on old new ls jails logs olds js ws stand is = record {
  searches = jails ∙ is.searches;
  logs = subst (λ (all : List Log). AreLogs all (going_on olds ws)) (sym logs) (over_all ls olds old.logs ws stand is.logs);
}
