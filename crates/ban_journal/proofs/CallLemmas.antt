-- What each call on the disk did, and calls one behind the other.
use Rattle.std.proofs.Common.{ℕ, ◌≡◌, ◌≢◌, ◌==◌, ◌+◌, ◌≤◌, Bool, true, false, if◌then◌else◌, Option, Some, None, List, [], ◌∷◌, ◌++◌, length, take, drop, length-append, refl, sym, ap, subst, ◌∙◌, arith, eq-eqb}
use Rattle.std.proofs.lemmas.List.{length-take, length-drop}
use Rattle.f2b_world.specs.declared.answer.Synced.TheVariants.{Done as SyncDone, Failed as SyncFailed}
use Rattle.f2b_world.specs.declared.answer.Wrote.{Wrote as WroteAnswer}
use Rattle.f2b_world.specs.declared.answer.Wrote.TheVariants.{Done as WroteDone, Failed as WroteFailed}
use Rattle.f2b_world.specs.declared.event.Event.{Event}
use Rattle.f2b_world.specs.declared.event.Event.TheVariants.{DiskWrite, DiskSync}
use Rattle.f2b_world.specs.Faults.{Fault as Kind, OfDisk, Rose}
use Rattle.f2b_world.specs.Slots.{Slot, slot_step, written, write_to}
use Rattle.f2b_world.specs.Told.{History, Standing, Called, Adds, IsHonest, HasLength, grown, slot_of}
use Rattle.f2b_world.proofs.AddsLemmas.{adds_weaker}
use Rattle.journal_slots.specs.declared.head.Head.{Head}
use Rattle.ban_journal.specs.declared.fault.Fault.{Fault}
use Rattle.ban_journal.specs.declared.fault.Fault.TheVariants.{Disk as FaultDisk, NoMemory as FaultMemory}
use Rattle.ban_journal.specs.Answers.{IsBeside, Wrote, Broke, Stopped, Stops}
use Rattle.ban_journal.specs.Places.{IsNoShorter}
use Rattle.slot_writes.specs.Entries.{behind_gate, clearing, turn_calls}
use Rattle.slot_writes.specs.Writes.{Write, Put, Sync, failed_event, done_events, IsBroken}
use Rattle.slot_writes.proofs.RunLemmas.{performs_then, breaks_behind, stops_behind, breaks_more, stops_more, performs_none, stops_at_once, slot_grown}

-- ---- how long slots are

written_long : (now bytes : List ℕ) (at n : ℕ) → n ≤ length now → n ≤ length (written now at bytes)
written_long now bytes at n le =
    omega (arith, length-append (take at now ++ bytes) (drop (at + length bytes) now), length-append (take at now) bytes, length-take at now, length-drop (at + length bytes) now, le)

written_end : (now bytes : List ℕ) (at : ℕ) → at ≤ length now → at + length bytes ≤ length (written now at bytes)
written_end now bytes at le =
    omega (arith, length-append (take at now ++ bytes) (drop (at + length bytes) now), length-append (take at now) bytes, length-take at now, length-drop (at + length bytes) now, le)

if_long : (b : Bool) (s t : Slot) (n : ℕ) → n ≤ length s.now → n ≤ length t.now → n ≤ length (if b then s else t).now
if_long true s t n p q = p
if_long false s t n p q = q

told_before : (e : Event) (P : History → Type 0) (old new : Option History) → Adds old new (λ g es. (es ≡ e ∷ []) × P g) → (h : History) → new ≡ Some h → (g : History) × (old ≡ Some g) × (h ≡ grown g (e ∷ []))
told_before e P old None adds h is = absurd (cc)
told_before e P old (Some j) adds h is =
    let same : h ≡ grown adds.0 (e ∷ []) = (let f : j ≡ h = cc in sym f) ∙ adds.3 ∙ ap (λ (es : List Event). grown adds.0 es) adds.4.0 in
    (adds.0, adds.2, same)

-- an event by which no slot gets shorter
no_shorter : (e : Event) (a b : Standing) → Called a e b → ((k n : ℕ) (s : Slot) → n ≤ length s.now → n ≤ length (slot_step k s e).now) → IsNoShorter a.told b.told
no_shorter e a b call grows = record {
  keeps = λ k n long h told.
      let t = told_before e (λ g. IsHonest g e) a.told b.told call.adds h told in
      let same : slot_of h k ≡ slot_step k (slot_of t.0 k) e = ap (λ (r : History). slot_of r k) t.2 ∙ slot_grown k t.0 (e ∷ []) in
      subst (λ (s : Slot). n ≤ length s.now) (sym same) (grows k n (slot_of t.0 k) (long t.0 t.1));
}

put_grows : (slot at : ℕ) (bytes : List ℕ) (answer : WroteAnswer) (k n : ℕ) (s : Slot) → n ≤ length s.now → n ≤ length (slot_step k s (DiskWrite slot at bytes answer)).now
put_grows slot at bytes answer k n s le = if_long (slot == k) (write_to s at bytes) s n (written_long s.now bytes at n le) le

pub put_long : (slot at : ℕ) (bytes : List ℕ) (answer : WroteAnswer) (a b : Standing) → HasLength a.told slot at → Called a (DiskWrite slot at bytes answer) b → HasLength b.told slot (at + length bytes)
put_long slot at bytes answer a b within call h told =
    let e = DiskWrite slot at bytes answer in
    let t = told_before e (λ g. IsHonest g e) a.told b.told call.adds h told in
    let same : slot_of h slot ≡ slot_step slot (slot_of t.0 slot) e = ap (λ (r : History). slot_of r slot) t.2 ∙ slot_grown slot t.0 (e ∷ []) in
    let step : slot_step slot (slot_of t.0 slot) e ≡ write_to (slot_of t.0 slot) at bytes = rw (eq-eqb slot slot refl) refl in
    subst (λ (s : Slot). at + length bytes ≤ length s.now) (sym (same ∙ step)) (written_end (slot_of t.0 slot).now bytes at (within t.0 t.1))

-- ---- one call

none_is : (kind : Kind) → None ≢ Some kind
none_is kind e = cc

other_kind : (kind : Kind) → kind ≢ OfDisk → Some OfDisk ≢ Some kind
other_kind kind other e = other (let f : Some OfDisk ≡ Some kind = e in cc)

beside_none : (a : Standing) → IsBeside a a
beside_none a = record { leaves = record { talk = refl; shelf = refl }; steady = λ kind. omega arith; still = λ kind other. refl }

beside_then : (a b c : Standing) → IsBeside a b → IsBeside b c → IsBeside a c
beside_then a b c p q = record {
  leaves = record { talk = q.leaves.talk ∙ p.leaves.talk; shelf = q.leaves.shelf ∙ p.leaves.shelf };
  steady = λ kind. omega (arith, p.steady kind, q.steady kind);
  still = λ kind other. q.still kind other ∙ p.still kind other;
}

pub put_done : (slot at : ℕ) (bytes : List ℕ) (a b : Standing) → Called a (DiskWrite slot at bytes WroteDone) b → Wrote (Put slot at bytes ∷ []) a b
put_done slot at bytes a b call = record {
  performs = record { events = adds_weaker _ (λ g es. es ≡ done_events (Put slot at bytes ∷ [])) a.told b.told call.adds (λ g es is. is.0) };
  beside = record { leaves = call.leaves; steady = call.counts.steady; still = λ kind other. call.counts.still kind (none_is kind) };
  longer = no_shorter _ a b call (put_grows slot at bytes WroteDone);
}

pub sync_done : (slot : ℕ) (a b : Standing) → Called a (DiskSync slot SyncDone) b → Wrote (Sync slot ∷ []) a b
sync_done slot a b call = record {
  performs = record { events = adds_weaker _ (λ g es. es ≡ done_events (Sync slot ∷ [])) a.told b.told call.adds (λ g es is. is.0) };
  beside = record { leaves = call.leaves; steady = call.counts.steady; still = λ kind other. call.counts.still kind (none_is kind) };
  longer = no_shorter _ a b call (λ k n s le. if_long (slot == k) _ s n le le);
}

broken_once : (w : Write) (es : List Event) → es ≡ failed_event w ∷ [] → IsBroken (w ∷ []) es
broken_once w es is = record { first = []; one = w; left = []; parts = refl; done = is }

pub put_failed : (slot at : ℕ) (bytes : List ℕ) (a b : Standing) → Called a (DiskWrite slot at bytes WroteFailed) b → Broke (Put slot at bytes ∷ []) a b
put_failed slot at bytes a b call = record {
  breaks = record { events = adds_weaker _ (λ g es. IsBroken (Put slot at bytes ∷ []) es) a.told b.told call.adds (λ g es is. broken_once (Put slot at bytes) es is.0) };
  beside = record { leaves = call.leaves; steady = call.counts.steady; still = λ kind other. call.counts.still kind (other_kind kind other) };
  rose = call.counts.cause;
}

pub sync_failed : (slot : ℕ) (a b : Standing) → Called a (DiskSync slot SyncFailed) b → Broke (Sync slot ∷ []) a b
sync_failed slot a b call = record {
  breaks = record { events = adds_weaker _ (λ g es. IsBroken (Sync slot ∷ []) es) a.told b.told call.adds (λ g es is. broken_once (Sync slot) es is.0) };
  beside = record { leaves = call.leaves; steady = call.counts.steady; still = λ kind other. call.counts.still kind (other_kind kind other) };
  rose = call.counts.cause;
}

pub stopped_at_once : (ws : List Write) (a b : Standing) → b ≡ a → Stopped ws a b
stopped_at_once ws a b is = subst (Stopped ws a) (sym is) (record { stops = stops_at_once ws a.told; beside = beside_none a })

pub wrote_none : (a : Standing) → Wrote [] a a
wrote_none a = record { performs = performs_none a.told; beside = beside_none a; longer = record { keeps = λ k n long. long } }

pub ruleset put_exits = (put_done, put_failed, stopped_at_once, put_long)

pub ruleset sync_exits = (sync_done, sync_failed)

-- ---- calls behind calls

pub wrote_then : (xs ys : List Write) (a b c : Standing) → Wrote xs a b → Wrote ys b c → Wrote (xs ++ ys) a c
wrote_then xs ys a b c p q = record {
  performs = performs_then xs ys a.told b.told c.told p.performs q.performs;
  beside = beside_then a b c p.beside q.beside;
  longer = record { keeps = λ k n long. q.longer.keeps k n (p.longer.keeps k n long) };
}

rose_after : (a b c : Standing) → IsBeside a b → Rose (b.faults OfDisk) (c.faults OfDisk) → Rose (a.faults OfDisk) (c.faults OfDisk)
rose_after a b c p rose = let steady = p.steady OfDisk in grind (arith, steady, rose)

pub stops_then : (xs ys : List Write) (a b c : Standing) (fault : Fault) → Wrote xs a b → Stops ys b c fault → Stops (xs ++ ys) a c fault
stops_then xs ys a b c FaultDisk p q = record {
  breaks = breaks_behind xs ys a.told b.told c.told p.performs q.breaks;
  beside = beside_then a b c p.beside q.beside;
  rose = rose_after a b c p.beside q.rose;
}
stops_then xs ys a b c FaultMemory p q = record { stops = stops_behind xs ys a.told b.told c.told p.performs q.stops; beside = beside_then a b c p.beside q.beside }

pub stops_first : (xs ys : List Write) (a b : Standing) (fault : Fault) → Stops xs a b fault → Stops (xs ++ ys) a b fault
stops_first xs ys a b FaultDisk q = record { breaks = breaks_more xs ys a.told b.told q.breaks; beside = q.beside; rose = q.rose }
stops_first xs ys a b FaultMemory q = record { stops = stops_more xs ys a.told b.told q.stops; beside = q.beside }

pub long_after : (ws : List Write) (slot n : ℕ) (a b : Standing) → Wrote ws a b → HasLength a.told slot n → HasLength b.told slot n
long_after ws slot n a b p long = p.longer.keeps slot n long

pub less_long : (told : Option History) (slot m n : ℕ) → HasLength told slot n → m ≤ n → HasLength told slot m
less_long told slot m n long le h is = let e = long h is in omega (arith, e, le)

-- ---- bytes, and a sync

pub synced_done : (slot at : ℕ) (bytes : List ℕ) (a b c : Standing) → Wrote (Put slot at bytes ∷ []) a b → Wrote (Sync slot ∷ []) b c → Wrote (Put slot at bytes ∷ Sync slot ∷ []) a c
synced_done slot at bytes a b c p q = wrote_then (Put slot at bytes ∷ []) (Sync slot ∷ []) a b c p q

pub synced_fails : (slot at : ℕ) (bytes : List ℕ) (a b : Standing) (fault : Fault) → Stops (Put slot at bytes ∷ []) a b fault → Stops (Put slot at bytes ∷ Sync slot ∷ []) a b fault
synced_fails slot at bytes a b fault q = stops_first (Put slot at bytes ∷ []) (Sync slot ∷ []) a b fault q

pub synced_breaks : (slot at : ℕ) (bytes : List ℕ) (a b c : Standing) (fault : Fault) → Wrote (Put slot at bytes ∷ []) a b → Stops (Sync slot ∷ []) b c fault → Stops (Put slot at bytes ∷ Sync slot ∷ []) a c fault
synced_breaks slot at bytes a b c fault p q = stops_then (Put slot at bytes ∷ []) (Sync slot ∷ []) a b c fault p q

pub ruleset synced_exits = (synced_done, synced_fails, synced_breaks, long_after)

-- ---- bytes behind a gate, and the gate

pub behind_done : (slot gate : ℕ) (bytes : List ℕ) (a b c : Standing) → Wrote (Put slot (gate + 1) bytes ∷ Sync slot ∷ []) a b → Wrote (Put slot gate (1 ∷ []) ∷ Sync slot ∷ []) b c → Wrote (behind_gate slot gate bytes) a c
behind_done slot gate bytes a b c p q = wrote_then (Put slot (gate + 1) bytes ∷ Sync slot ∷ []) (Put slot gate (1 ∷ []) ∷ Sync slot ∷ []) a b c p q

pub behind_fails : (slot gate : ℕ) (bytes : List ℕ) (a b : Standing) (fault : Fault) → Stops (Put slot (gate + 1) bytes ∷ Sync slot ∷ []) a b fault → Stops (behind_gate slot gate bytes) a b fault
behind_fails slot gate bytes a b fault q = stops_first (Put slot (gate + 1) bytes ∷ Sync slot ∷ []) (Put slot gate (1 ∷ []) ∷ Sync slot ∷ []) a b fault q

pub behind_breaks : (slot gate : ℕ) (bytes : List ℕ) (a b c : Standing) (fault : Fault) → Wrote (Put slot (gate + 1) bytes ∷ Sync slot ∷ []) a b → Stops (Put slot gate (1 ∷ []) ∷ Sync slot ∷ []) b c fault → Stops (behind_gate slot gate bytes) a c fault
behind_breaks slot gate bytes a b c fault p q = stops_then (Put slot (gate + 1) bytes ∷ Sync slot ∷ []) (Put slot gate (1 ∷ []) ∷ Sync slot ∷ []) a b c fault p q

pub ruleset behind_exits = (behind_done, behind_fails, behind_breaks, long_after, less_long)

-- ---- a slot that is cleared

pub zero_within : (slot : ℕ) (told : Option History) → HasLength told slot 0
zero_within slot told h is = omega arith

pub ruleset clear_exits = (zero_within, wrote_none, less_long)

-- ---- a slot that is written anew

pub turn_done : (slot place : ℕ) (head : Head) (whole entry : List ℕ) (a b c d : Standing) → place ≡ length whole → Wrote (clearing slot head) a b → Wrote (behind_gate slot 0 whole) b c → Wrote (behind_gate slot place entry) c d
    → Wrote (turn_calls slot head whole entry) a d
turn_done slot place head whole entry a b c d is p q r =
    wrote_then (clearing slot head) (behind_gate slot 0 whole ++ behind_gate slot (length whole) entry) a b d p
    (wrote_then (behind_gate slot 0 whole) (behind_gate slot (length whole) entry) b c d q (subst (λ (n : ℕ). Wrote (behind_gate slot n entry) c d) is r))

pub turn_fails : (slot : ℕ) (head : Head) (whole entry : List ℕ) (a b : Standing) (fault : Fault) → Stops (clearing slot head) a b fault → Stops (turn_calls slot head whole entry) a b fault
turn_fails slot head whole entry a b fault p = stops_first (clearing slot head) (behind_gate slot 0 whole ++ behind_gate slot (length whole) entry) a b fault p

pub turn_breaks : (slot : ℕ) (head : Head) (whole entry : List ℕ) (a b c : Standing) (fault : Fault) → Wrote (clearing slot head) a b → Stops (behind_gate slot 0 whole) b c fault → Stops (turn_calls slot head whole entry) a c fault
turn_breaks slot head whole entry a b c fault p q =
    stops_then (clearing slot head) (behind_gate slot 0 whole ++ behind_gate slot (length whole) entry) a b c fault p
    (stops_first (behind_gate slot 0 whole) (behind_gate slot (length whole) entry) b c fault q)

pub turn_cuts : (slot place : ℕ) (head : Head) (whole entry : List ℕ) (a b c d : Standing) (fault : Fault) → place ≡ length whole → Wrote (clearing slot head) a b → Wrote (behind_gate slot 0 whole) b c → Stops (behind_gate slot place entry) c d fault
    → Stops (turn_calls slot head whole entry) a d fault
turn_cuts slot place head whole entry a b c d fault is p q r =
    stops_then (clearing slot head) (behind_gate slot 0 whole ++ behind_gate slot (length whole) entry) a b d fault p
    (stops_then (behind_gate slot 0 whole) (behind_gate slot (length whole) entry) b c d fault q (subst (λ (n : ℕ). Stops (behind_gate slot n entry) c d fault) is r))

pub ruleset turn_exits = (turn_done, turn_fails, turn_breaks, turn_cuts, long_after, less_long)
