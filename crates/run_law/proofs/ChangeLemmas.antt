-- What a client's request changes of the jails as the set of their logs has them: masks that are ignored, for how long failures count, and
-- whether a jail is idle. Nothing else that it makes happen changes a search.
use Rattle.std.proofs.Common.{◌≡◌, ◌==◌, ◌&&◌, ◌||◌, ℕ, ℤ, Bool, true, false, cond, List, [], ◌∷◌, Option, Some, None, map, refl, sym, subst, ◌∙◌, ap}
use Rattle.std.specs.Prelude.{bytes_eq, find, option_map}
use Rattle.f2b_base.specs.declared.addr.Cidr.{Cidr}
use Rattle.f2b_base.specs.declared.input.Input.{Input}
use Rattle.f2b_base.specs.declared.input.What.{What}
use Rattle.f2b_base.specs.declared.input.What.TheVariants.{Ban as BanThese, Unban, Attempt, Findtime, Bantime, Maxretry, Idle, Ignore, Stop}
use Rattle.f2b_base.specs.declared.jail.JailDef.{JailDef}
use Rattle.f2b_model.specs.Lanes.{books}
use Rattle.f2b_model.specs.Moves.{ignored, limited, spanned}
use Rattle.f2b_model.specs.Nows.{jail_now}
use Rattle.f2b_model.specs.State.{Jail, JailsState}
use Rattle.f2b_model.specs.Steps.{alone, at_reading, done, find_jail, in_jail, is_spent, moves, moves_now}
use Rattle.f2b_model.specs.Whole.{State, is_whole_spent, now_of, step}
use Rattle.f2b_model.specs.declared.jail_now.JailNow.{JailNow}
use Rattle.std.proofs.lemmas.Bool.{eqb-true}
use Rattle.f2b_model.proofs.ListLemmas.{by_test}
use Rattle.log_set.specs.Firsts.{at_first}
use Rattle.log_set.specs.Logs.{ChangesJail, IsSetOf, LogJail, Logs, Watching, counting, ignoring, is_of, resting, search_of}
use Rattle.log_set.specs.declared.jail_search.JailSearch.{JailSearch}
use Rattle.run_law.specs.Logs.{log_jail}
use Rattle.run_law.specs.Server.{Server, input_at, is_spent as is_server_spent, log_jails, taken}
use Rattle.run_law.proofs.JailLemmas.{attempt_same, banned_same, logged, reading_same, dropped_same, unbanned_same}

-- the searches of jails
abbrev searched : List Jail → List JailSearch
searched js = map search_of (logged js)

-- a set is one of any jails with its searches
set_as : (k : Logs) (js ks : List LogJail) (ws : List Watching) → map search_of js ≡ map search_of ks → IsSetOf k js ws → IsSetOf k ks ws
set_as k js ks ws same set = record { searches = set.searches ∙ same; logs = set.logs }

-- ---- a step, where serials and ids are not used up

first_is : (a b : Bool) → (a || b) ≡ false → a ≡ false
first_is true b is = is
first_is false b is = refl

step_done : (s : State) (input : Input) → is_whole_spent moves books s ≡ false
    → logged (step s input).jails.jails ≡ logged (done moves input.word input.what (at_reading moves input.secs s.jails)).jails
step_done s input live =
    let w = s.jails in
    let after = done moves input.word input.what (at_reading moves input.secs w) in
    let here : is_spent w ≡ false = first_is (is_spent w) _ live in
    rw live (rw here (dropped_same after.at after.purge after.jails))

-- ---- one jail is changed

module _ (name : List ℕ) (f : Jail → Jail) where
  in_jail_searched : ((j : Jail) → search_of (log_jail (f j)) ≡ search_of (log_jail j)) → (n : ℕ) (js : List Jail) → searched (in_jail moves name (alone moves f) n js).jails ≡ searched js
  in_jail_searched same n [] = refl
  in_jail_searched same n (j ∷ js) = by_test (bytes_eq j.definition.name name) _
      (λ t. rw t (ap (λ (x : JailSearch). x ∷ searched js) (same j)))
      (λ t. rw t (ap (λ (xs : List JailSearch). search_of (log_jail j) ∷ xs) (in_jail_searched same n js)))

  in_jail_changed : (change : LogJail → LogJail) → ((j : Jail) → search_of (log_jail (f j)) ≡ search_of (change (log_jail j))) → (n : ℕ) (js : List Jail)
      → map search_of (at_first (is_of name) change (logged js)) ≡ searched (in_jail moves name (alone moves f) n js).jails
  in_jail_changed change same n [] = refl
  in_jail_changed change same n (j ∷ js) = by_test (bytes_eq j.definition.name name) _
      (λ t. rw t (ap (λ (x : JailSearch). x ∷ searched js) (sym (same j))))
      (λ t. rw t (ap (λ (xs : List JailSearch). search_of (log_jail j) ∷ xs) (in_jail_changed change same n js)))

-- ---- moves

spanned_same : (secs : ℤ) (j : Jail) → search_of (log_jail (record j { definition = spanned secs j.definition })) ≡ search_of (log_jail j)
spanned_same secs j = refl

numbered_same : (number : ℕ) (j : Jail) → search_of (log_jail (limited j.definition.findtime number j)) ≡ search_of (log_jail j)
numbered_same number j = by_test ((j.definition.findtime == j.definition.findtime) && (number == j.definition.maxretry)) _ (λ e. rw e refl) (λ e. rw e refl)

idle_changed : (idle : Bool) (j : Jail) → search_of (log_jail (record j { idle = idle })) ≡ search_of (resting idle (log_jail j))
idle_changed idle j = refl

both_first : (a b : Bool) → (a && b) ≡ true → a ≡ true
both_first true b is = refl
both_first false b is = is

-- where the time is the same nothing changes
timed_changed : (secs : ℕ) (j : Jail) → search_of (log_jail (limited secs j.definition.maxretry j)) ≡ search_of (counting secs (log_jail j))
timed_changed secs j = by_test ((secs == j.definition.findtime) && (j.definition.maxretry == j.definition.maxretry)) _
    (λ e. rw e (
    let same : secs ≡ j.definition.findtime = eqb-true secs j.definition.findtime (both_first (secs == j.definition.findtime) _ e) in
    ap (λ (n : ℕ). search_of (counting n (log_jail j))) (sym same)))
    (λ e. rw e refl)

abbrev masked : Cidr → Bool → Jail → Jail
masked cidr add j = record j { definition = ignored cidr add j.definition }

masks_changed : (cidr : Cidr) (add : Bool) (j : Jail) → search_of (log_jail (masked cidr add j)) ≡ search_of (ignoring (ignored cidr add j.definition).ignore (log_jail j))
masks_changed cidr true j = refl
masks_changed cidr false j = refl

same_name : (cidr : Cidr) (add : Bool) (d : JailDef) → (ignored cidr add d).name ≡ d.name
same_name cidr true d = refl
same_name cidr false d = refl

-- the definition of the first jail of a name
abbrev defined_as : List ℕ → List LogJail → Option JailDef
defined_as name js = option_map (λ (j : LogJail). j.definition) (find (is_of name) js)

named_first : (name : List ℕ) (x : LogJail) (xs : List LogJail) (d : JailDef) → is_of name x ≡ true → defined_as name (x ∷ xs) ≡ Some d → x.definition ≡ d
named_first name x xs d t is =
    let P : Bool → Type 0 = λ b. option_map (λ (j : LogJail). j.definition) (cond b (Some x) (find (is_of name) xs)) ≡ Some d in
    let e : Some x.definition ≡ Some d = subst P t is in
    cc

named_later : (name : List ℕ) (x : LogJail) (xs : List LogJail) (o : Option JailDef) → is_of name x ≡ false → defined_as name (x ∷ xs) ≡ o → defined_as name xs ≡ o
named_later name x xs o t is =
    let P : Bool → Type 0 = λ b. option_map (λ (j : LogJail). j.definition) (cond b (Some x) (find (is_of name) xs)) ≡ o in
    subst P t is

named_some : (name : List ℕ) (x : LogJail) (xs : List LogJail) → is_of name x ≡ true → defined_as name (x ∷ xs) ≡ None → ⊥
named_some name x xs t is =
    let P : Bool → Type 0 = λ b. option_map (λ (j : LogJail). j.definition) (cond b (Some x) (find (is_of name) xs)) ≡ None in
    let e : Some x.definition ≡ None = subst P t is in
    cc

module _ (name : List ℕ) (cidr : Cidr) (add : Bool) where
  abbrev behind : ℕ → List Jail → List Jail
  behind n js = (in_jail moves name (alone moves (masked cidr add)) n js).jails

  -- the jails behind the change, by whether the first has that name
  behind_first : (n : ℕ) (j : Jail) (js : List Jail) → bytes_eq j.definition.name name ≡ true → behind n (j ∷ js) ≡ masked cidr add j ∷ js
  behind_first n j js t = rw t refl

  behind_later : (n : ℕ) (j : Jail) (js : List Jail) → bytes_eq j.definition.name name ≡ false → behind n (j ∷ js) ≡ j ∷ behind n js
  behind_later n j js t = rw t refl

  masked_named : (j : Jail) → bytes_eq j.definition.name name ≡ true → is_of name (log_jail (masked cidr add j)) ≡ true
  masked_named j t = ap (λ (own : List ℕ). bytes_eq own name) (same_name cidr add j.definition) ∙ t

  -- the first jail of that name has the masks that it has behind the change
  masks_first : (d : JailDef) (n : ℕ) (js : List Jail) → defined_as name (logged (behind n js)) ≡ Some d → map search_of (at_first (is_of name) (ignoring d.ignore) (logged js)) ≡ searched (behind n js)
  masks_first d n [] is = refl
  masks_first d n (j ∷ js) is = by_test (bytes_eq j.definition.name name) _
      (λ t.
      let after : defined_as name (logged (masked cidr add j ∷ js)) ≡ Some d = subst (λ (ks : List Jail). defined_as name (logged ks) ≡ Some d) (behind_first n j js t) is in
      let own : ignored cidr add j.definition ≡ d = named_first name (log_jail (masked cidr add j)) (logged js) d (masked_named j t) after in
      rw t (ap (λ (x : JailSearch). x ∷ searched js) (ap (λ (c : JailDef). search_of (ignoring c.ignore (log_jail j))) (sym own) ∙ sym (masks_changed cidr add j))))
      (λ t.
      let after : defined_as name (logged (j ∷ behind n js)) ≡ Some d = subst (λ (ks : List Jail). defined_as name (logged ks) ≡ Some d) (behind_later n j js t) is in
      let later : defined_as name (logged (behind n js)) ≡ Some d = named_later name (log_jail j) (logged (behind n js)) (Some d) t after in
      rw t (ap (λ (xs : List JailSearch). search_of (log_jail j) ∷ xs) (masks_first d n js later)))

  -- where there is none nothing changes
  masks_none : (n : ℕ) (js : List Jail) → defined_as name (logged (behind n js)) ≡ None → searched js ≡ searched (behind n js)
  masks_none n [] is = refl
  masks_none n (j ∷ js) is = by_test (bytes_eq j.definition.name name) _
      (λ t. absurd (named_some name (log_jail (masked cidr add j)) (logged js) (masked_named j t) (subst (λ (ks : List Jail). defined_as name (logged ks) ≡ None) (behind_first n j js t) is)))
      (λ t.
      let after : defined_as name (logged (j ∷ behind n js)) ≡ None = subst (λ (ks : List Jail). defined_as name (logged ks) ≡ None) (behind_later n j js t) is in
      let later : defined_as name (logged (behind n js)) ≡ None = named_later name (log_jail j) (logged (behind n js)) None t after in
      rw t (ap (λ (xs : List JailSearch). search_of (log_jail j) ∷ xs) (masks_none n js later)))

-- the core tells the definition that the jails have
told_definition : (name : List ℕ) (js : List Jail) → option_map (λ (j : JailNow). j.definition) (find_jail moves_now name (map jail_now js)) ≡ defined_as name (logged js)
told_definition name [] = refl
told_definition name (j ∷ js) = by_test (bytes_eq j.definition.name name) _ (λ t. rw t refl) (λ t. rw t (told_definition name js))

-- ---- a server

-- what happens so changes no search
abbrev pub IsNeutral : What → Type 0
IsNeutral (BanThese jail addrs) = Unit {0}
IsNeutral (Unban jail addrs) = Unit {0}
IsNeutral (Attempt jail addr) = Unit {0}
IsNeutral (Bantime jail secs) = Unit {0}
IsNeutral (Maxretry jail number) = Unit {0}
IsNeutral Stop = Unit {0}
IsNeutral _ = ⊥

done_neutral : (what : What) → IsNeutral what → (word : ℕ) (w : JailsState) → searched (done moves word what w).jails ≡ searched w.jails
done_neutral (BanThese jail addrs) neutral word w = ap (map search_of) (banned_same jail addrs word w)
done_neutral (Unban jail addrs) neutral word w = ap (map search_of) (unbanned_same jail addrs word w)
done_neutral (Attempt jail addr) neutral word w = ap (map search_of) (attempt_same jail addr word w)
done_neutral (Bantime jail secs) neutral word w = in_jail_searched jail (λ (j : Jail). record j { definition = spanned secs j.definition }) (spanned_same secs) w.next_ban w.jails
done_neutral (Maxretry jail number) neutral word w = in_jail_searched jail (λ (j : Jail). limited j.definition.findtime number j) (numbered_same number) w.next_ban w.jails
done_neutral Stop neutral word w = refl
done_neutral what neutral word w = absurd neutral

module _ (s : Server) (live : is_server_spent s ≡ false) where
  abbrev then_done : What → List Jail
  then_done what = (done moves s.word what (at_reading moves s.now s.state.jails)).jails

  taken_done : (what : What) → log_jails (taken what s) ≡ logged (then_done what)
  taken_done what = step_done s.state (input_at s what) live

  before_same : logged (at_reading moves s.now s.state.jails).jails ≡ log_jails s
  before_same = reading_same s.now s.state.jails

  -- a set of the jails before stays one
  pub neutral_set : (what : What) → IsNeutral what → (k : Logs) (ws : List Watching) → IsSetOf k (log_jails s) ws → IsSetOf k (log_jails (taken what s)) ws
  neutral_set what neutral k ws set =
      set_as k (log_jails s) (log_jails (taken what s)) ws
      (ap (map search_of) (sym before_same) ∙ sym (done_neutral what neutral s.word (at_reading moves s.now s.state.jails)) ∙ ap (map search_of) (sym (taken_done what))) set

  -- one that was changed as the jails were is one of those behind
  changed_set : (what : What) (name : List ℕ) (change : LogJail → LogJail) (old new : Logs) (ws : List Watching)
      → map search_of (at_first (is_of name) change (logged (at_reading moves s.now s.state.jails).jails)) ≡ searched (then_done what)
      → ChangesJail old new name change → IsSetOf old (log_jails s) ws → IsSetOf new (log_jails (taken what s)) ws
  changed_set what name change old new ws same changes set =
      set_as new (at_first (is_of name) change (log_jails s)) (log_jails (taken what s)) ws
      (ap (λ (js : List LogJail). map search_of (at_first (is_of name) change js)) (sym before_same) ∙ same ∙ ap (map search_of) (sym (taken_done what)))
      (changes (log_jails s) ws set)

  pub idle_set : (name : List ℕ) (idle : Bool) (old new : Logs) (ws : List Watching) → ChangesJail old new name (resting idle) → IsSetOf old (log_jails s) ws
      → IsSetOf new (log_jails (taken (Idle name idle) s)) ws
  idle_set name idle old new ws changes set =
      let w = at_reading moves s.now s.state.jails in
      changed_set (Idle name idle) name (resting idle) old new ws
      (in_jail_changed name (λ (j : Jail). record j { idle = idle }) (resting idle) (idle_changed idle) w.next_ban w.jails) changes set

  pub findtime_set : (name : List ℕ) (secs : ℕ) (old new : Logs) (ws : List Watching) → ChangesJail old new name (counting secs) → IsSetOf old (log_jails s) ws
      → IsSetOf new (log_jails (taken (Findtime name secs) s)) ws
  findtime_set name secs old new ws changes set =
      let w = at_reading moves s.now s.state.jails in
      changed_set (Findtime name secs) name (counting secs) old new ws
      (in_jail_changed name (λ (j : Jail). limited secs j.definition.maxretry j) (counting secs) (timed_changed secs) w.next_ban w.jails) changes set

  -- ---- masks, which the core tells behind the step

  abbrev pub told_behind : What → List ℕ → Option JailDef
  told_behind what name = option_map (λ (j : JailNow). j.definition) (find_jail moves_now name (now_of (taken what s).state).jails.jails)

  defined_behind : (what : What) (name : List ℕ) → told_behind what name ≡ defined_as name (logged (then_done what))
  defined_behind what name = told_definition name (taken what s).state.jails.jails ∙ ap (defined_as name) (taken_done what)

  pub masks_set : (name : List ℕ) (cidr : Cidr) (add : Bool) (d : JailDef) (old new : Logs) (ws : List Watching) → told_behind (Ignore name cidr add) name ≡ Some d
      → ChangesJail old new name (ignoring d.ignore) → IsSetOf old (log_jails s) ws → IsSetOf new (log_jails (taken (Ignore name cidr add) s)) ws
  masks_set name cidr add d old new ws is changes set =
      let w = at_reading moves s.now s.state.jails in
      changed_set (Ignore name cidr add) name (ignoring d.ignore) old new ws
      (masks_first name cidr add d w.next_ban w.jails (sym (defined_behind (Ignore name cidr add) name) ∙ is)) changes set

  pub no_masks_set : (name : List ℕ) (cidr : Cidr) (add : Bool) (k : Logs) (ws : List Watching) → told_behind (Ignore name cidr add) name ≡ None
      → IsSetOf k (log_jails s) ws → IsSetOf k (log_jails (taken (Ignore name cidr add) s)) ws
  no_masks_set name cidr add k ws is set =
      let w = at_reading moves s.now s.state.jails in
      set_as k (log_jails s) (log_jails (taken (Ignore name cidr add) s)) ws
      (ap (map search_of) (sym before_same) ∙ masks_none name cidr add w.next_ban w.jails (sym (defined_behind (Ignore name cidr add) name) ∙ is)
      ∙ ap (map search_of) (sym (taken_done (Ignore name cidr add)))) set
