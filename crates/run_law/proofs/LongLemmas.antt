-- No slot gets shorter, whatever the events of a history are.
use Rattle.std.proofs.Common.{ℕ, ◌≡◌, ◌≤◌, ◌==◌, ◌+◌, Bool, true, false, if◌then◌else◌, List, [], ◌∷◌, ◌++◌, length, take, drop, length-append, Option, Some, None, sym, ap, ◌∙◌, subst, arith}
use Rattle.std.proofs.lemmas.List.{length-take, length-drop}
use Rattle.ban_journal.specs.Places.{IsNoShorter, IsPlaced, least_bytes}
use Rattle.f2b_world.specs.Slots.{Slot, slot_after, slot_step, synced_now, write_to, written}
use Rattle.f2b_world.specs.Told.{Adds, HasLength, History, grown, slot_of}
use Rattle.f2b_world.proofs.AddsLemmas.{adds_none, adds_then, adds_weaker}
use Rattle.f2b_world.specs.declared.answer.Synced.TheVariants.{Done as SyncDone}
use Rattle.f2b_world.specs.declared.event.Event.{Event}
use Rattle.f2b_world.specs.declared.event.Event.TheVariants.{DiskWrite, DiskSync}
use Rattle.slot_writes.specs.declared.position.Position.{Position}
use Rattle.slot_writes.specs.Entries.{fresh_slot}
use Rattle.slot_writes.proofs.RunLemmas.{slot_grown}

written_long : (now bytes : List ℕ) (at n : ℕ) → n ≤ length now → n ≤ length (written now at bytes)
written_long now bytes at n le =
    omega (arith, length-append (take at now ++ bytes) (drop (at + length bytes) now), length-append (take at now) bytes, length-take at now, length-drop (at + length bytes) now, le)

if_long : (b : Bool) (s t : Slot) (n : ℕ) → n ≤ length s.now → n ≤ length t.now → n ≤ length (if b then s else t).now
if_long true s t n p q = p
if_long false s t n p q = q

-- whatever the events are
abbrev pub Any : History → List Event → Type 0
Any g es = Unit {0}

step_long : (slot n : ℕ) (s : Slot) (e : Event) → n ≤ length s.now → n ≤ length (slot_step slot s e).now
step_long slot n s (DiskWrite k at bytes answer) le = if_long (k == slot) (write_to s at bytes) s n (written_long s.now bytes at n le) le
step_long slot n s (DiskSync k SyncDone) le = if_long (k == slot) (synced_now s) s n le le
step_long slot n s (DiskSync k _) le = le
step_long slot n s _ le = le

after_long : (slot n : ℕ) (s : Slot) (es : List Event) → n ≤ length s.now → n ≤ length (slot_after slot s es).now
after_long slot n s [] le = le
after_long slot n s (e ∷ es) le = after_long slot n (slot_step slot s e) es (step_long slot n s e le)

-- a history that goes on leaves each slot at least as long
long_on : (P : History → List Event → Type 0) (old new : Option History) → Adds old new P → (slot n : ℕ) → HasLength old slot n → HasLength new slot n
long_on P old None adds slot n long h told = absurd (cc)
long_on P old (Some j) adds slot n long h told =
    let is : h ≡ grown adds.0 adds.1 = (let e : j ≡ h = cc in sym e) ∙ adds.3 in
    let same : slot_of h slot ≡ slot_after slot (slot_of adds.0 slot) adds.1 = ap (λ (g : History). slot_of g slot) is ∙ slot_grown slot adds.0 adds.1 in
    subst (λ (t : Slot). n ≤ length t.now) (sym same) (after_long slot n (slot_of adds.0 slot) adds.1 (long adds.0 adds.2))

pub longer_on : (P : History → List Event → Type 0) (old new : Option History) → Adds old new P → IsNoShorter old new
longer_on P old new adds = record { keeps = long_on P old new adds }

-- ---- a history that goes on

pub goes_on : (P : History → List Event → Type 0) (old new : Option History) → Adds old new P → Adds old new Any
goes_on P old new adds = adds_weaker P Any old new adds (λ g es p. tt)

pub goes_none : (told : Option History) → Adds told told Any
goes_none told = goes_on (λ g es. es ≡ []) told told (adds_none told)

pub goes_behind : (old mid new : Option History) → Adds old mid Any → Adds mid new Any → Adds old new Any
goes_behind old mid new p q = adds_then Any Any Any old mid new p q (λ g h xs ys a b. tt)

-- so a journal's places stay where they are
pub placed_on : (p : Position) (old new : Option History) → Adds old new Any → IsPlaced p old → IsPlaced p new
placed_on p old new on is =
    let longer = longer_on Any old new on in
    record {
      current = longer.keeps p.slot (least_bytes p.head) is.current;
      other = longer.keeps (fresh_slot p) (least_bytes p.other) is.other;
      gate = λ grows. longer.keeps p.slot (p.gate + 1) (is.gate grows);
    }
