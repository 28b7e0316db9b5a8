-- How many serials a step takes.
use Rattle.std.proofs.Common.{◌≡◌, ℕ, ◌+◌, ◌≤◌, ◌^◌, false, List, [], ◌∷◌, length, arith}
use Rattle.std.specs.Prelude.{bytes_eq}
use Rattle.std.proofs.lemmas.Bool.{ltb-false}
use Rattle.f2b_base.specs.declared.addr.Addr.{Addr}
use Rattle.f2b_base.specs.declared.ban.Failure.{Failure}
use Rattle.f2b_base.specs.declared.input.Input.{Input}
use Rattle.f2b_base.specs.declared.input.What.{What}
use Rattle.f2b_base.specs.declared.input.What.TheVariants.{Tick, Read, Ended, Config, Stop, Ban as BanThese, Unban, Attempt, Ignore, Findtime, Bantime, Maxretry, Idle, CheckFailed}
use Rattle.f2b_base.specs.declared.jail.Place.{Place}
use Rattle.f2b_model.specs.declared.jail_now.JailNow.{JailNow}
use Rattle.f2b_model.specs.Full.{is_full}
use Rattle.f2b_model.specs.Moves.{JailAndSerial, counts, is_banned}
use Rattle.f2b_model.specs.NowMoves.{counted_now, found_now, banned_now, limited_now}
use Rattle.f2b_model.specs.Nows.{JailsNow}
use Rattle.f2b_model.specs.Watches.{is_watched}
use Rattle.f2b_model.specs.Steps.{moves_now, is_spent, in_jail, at_jail, alone, done, at_reading, jails_step_now, found_in_turn, read_in_jail, banned_in_turn}
use Rattle.f2b_model.specs.Storable.{most_numbers, IsStorableInput, IsStorableWhat}
use Rattle.f2b_model.proofs.ListLemmas.{by_test}

pub found_next : (at word n : ℕ) (f : Failure) (j : JailNow) → (found_now at word n f j).next ≤ n + 1
found_next at word n f j =
    by_test (counts at j.definition j.bans f) _
    (λ e. rw e (
    let c = counted_now at f j in
    by_test (is_full c.definition.findtime c.definition.maxretry f.addr c.failures) _ (λ t. rw t (omega arith)) (λ t. rw t (omega arith))))
    (λ e. rw e (omega arith))

pub banned_next : (at word n : ℕ) (addr : Addr) (j : JailNow) → (banned_now at word n addr j).next ≤ n + 1
banned_next at word n addr j = by_test (is_banned addr j.bans) _ (λ e. rw e (omega arith)) (λ e. rw e (omega arith))

-- a move in one jail takes no more serials than the move
pub in_jail_next : (name : List ℕ) (f : ℕ → JailNow → JailAndSerial JailNow) (n top : ℕ) (js : List JailNow) → n ≤ top → ((j : JailNow) → (f n j).next ≤ top) → (in_jail moves_now name f n js).next ≤ top
in_jail_next name f n top [] le e = le
in_jail_next name f n top (j ∷ js) le e = by_test (bytes_eq j.definition.name name) _ (λ t. rw t (e j)) (λ t. rw t (in_jail_next name f n top js le e))

alone_next : (name : List ℕ) (f : JailNow → JailNow) (w : JailsNow) → (at_jail moves_now name (alone moves_now f) w).next_ban ≤ w.next_ban
alone_next name f w = in_jail_next name (alone moves_now f) w.next_ban w.next_ban w.jails (omega arith) (λ j. omega arith)

-- each failure takes one serial at most
found_in_turn_next : (at word : ℕ) (fs : List Failure) (n : ℕ) (j : JailNow) (top : ℕ) → n + length fs ≤ top → (found_in_turn moves_now at word fs n j).next ≤ top
found_in_turn_next at word [] n j top le = omega (arith, le)
found_in_turn_next at word (f ∷ fs) n j top le =
    let o = found_now at word n f j in
    let one = found_next at word n f j in
    found_in_turn_next at word fs o.next o.jail top (omega (arith, one, le))

read_in_jail_next : (at word : ℕ) (path : List ℕ) (place : Place) (fs : List Failure) (n : ℕ) (j : JailNow) (top : ℕ) → n + length fs ≤ top
    → (read_in_jail moves_now at word path place fs n j).next ≤ top
read_in_jail_next at word path place fs n j top le =
    by_test (is_watched path j.watches) _ (λ t. rw t (found_in_turn_next at word fs n (moves_now.followed path place j) top le)) (λ t. rw t (omega (arith, le)))

-- so does each address
banned_in_turn_next : (at word : ℕ) (addrs : List Addr) (n : ℕ) (j : JailNow) (top : ℕ) → n + length addrs ≤ top → (banned_in_turn moves_now at word addrs n j).next ≤ top
banned_in_turn_next at word [] n j top le = omega (arith, le)
banned_in_turn_next at word (addr ∷ addrs) n j top le =
    let o = banned_now at word n addr j in
    let one = banned_next at word n addr j in
    banned_in_turn_next at word addrs o.next o.jail top (omega (arith, one, le))

same_next : (next n : ℕ) → next ≤ n → n ≤ 2 ^ 62 → next ≤ most_numbers
same_next next n le small = omega (arith, le, small)

done_next : (word : ℕ) (what : What) (w : JailsNow) → w.next_ban ≤ 2 ^ 62 → IsStorableWhat what → (done moves_now word what w).next_ban ≤ most_numbers
done_next word (Read jail path place fs) w small s =
    let few = s.4 in
    in_jail_next jail (read_in_jail moves_now w.at word path place fs) w.next_ban most_numbers w.jails (omega (arith, small))
    (λ j. read_in_jail_next w.at word path place fs w.next_ban j most_numbers (omega (arith, few, small)))
done_next word (Attempt jail addr) w small s =
    let fs : List Failure = record { addr = addr; time = w.at; line = [] } ∷ [] in
    in_jail_next jail (found_in_turn moves_now w.at word fs) w.next_ban most_numbers w.jails (omega (arith, small))
    (λ j. found_in_turn_next w.at word fs w.next_ban j most_numbers (omega (arith, small)))
done_next word (BanThese jail addrs) w small s =
    let few = s.3 in
    in_jail_next jail (banned_in_turn moves_now w.at word addrs) w.next_ban most_numbers w.jails (omega (arith, small))
    (λ j. banned_in_turn_next w.at word addrs w.next_ban j most_numbers (omega (arith, few, small)))
done_next word (Findtime jail secs) w small s = same_next _ w.next_ban (alone_next jail (λ j. limited_now secs j.definition.maxretry j) w) small
done_next word (Bantime jail secs) w small s = same_next _ w.next_ban (alone_next jail (moves_now.spanned secs) w) small
done_next word (Maxretry jail number) w small s = same_next _ w.next_ban (alone_next jail (λ j. limited_now j.definition.findtime number j) w) small
done_next word (Idle jail idle) w small s = same_next _ w.next_ban (alone_next jail (moves_now.idle idle) w) small
done_next word (Ignore jail cidr add) w small s = same_next _ w.next_ban (alone_next jail (moves_now.ignored cidr add) w) small
done_next word Tick w small s = omega (arith, small)
done_next word (Unban jail addrs) w small s = omega (arith, small)
done_next word (Config defs) w small s = omega (arith, small)
done_next word (Ended job outcome) w small s = omega (arith, small)
done_next word (CheckFailed job outcome) w small s = omega (arith, small)
done_next word Stop w small s = omega (arith, small)

-- where serials are left, few were taken
pub few_taken : (w : JailsNow) → is_spent w ≡ false → w.next_ban ≤ 2 ^ 62
few_taken w e = ltb-false (2 ^ 62) w.next_ban e

-- a step keeps the serial of the ban to come within its bounds
pub next_stored : (w : JailsNow) (input : Input) → IsStorableInput input → w.next_ban ≤ most_numbers → (jails_step_now w input).next_ban ≤ most_numbers
next_stored w input s le =
    by_test (is_spent w) _
    (λ t. rw t le)
    (λ t. let small = few_taken w t in rw t (done_next input.word input.what (at_reading moves_now input.secs w) small s.what))
