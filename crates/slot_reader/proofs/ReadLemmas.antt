-- What calls that read the disk tell, one behind the other.
use Rattle.std.proofs.Common.{ℕ, ◌≡◌, ◌≢◌, ◌<◌, Bool, true, false, Option, Some, None, IfSome, List, [], ◌∷◌, ◌++◌, length, take, drop, append_assoc, refl, sym, ap, subst, ◌∙◌, arith}
use Rattle.std.proofs.lemmas.Option.{none-some, same_Some}
use Rattle.f2b_world.specs.declared.answer.Len.TheVariants.{Bytes as LenBytes, Failed as LenFailed}
use Rattle.f2b_world.specs.declared.answer.Piece.TheVariants.{Bytes as PieceBytes, Failed as PieceFailed}
use Rattle.f2b_world.specs.declared.event.Event.{Event}
use Rattle.f2b_world.specs.declared.event.Event.TheVariants.{DiskLen, DiskRead}
use Rattle.f2b_world.specs.Faults.{Fault as Kind, OfDisk, Rose}
use Rattle.f2b_world.specs.Slots.{Slot, slot_step, slot_after, settled}
use Rattle.f2b_world.specs.Told.{History, Standing, Called, Adds, IsHonest, fault_of, grown, slot_of}
use Rattle.f2b_world.proofs.AddsLemmas.{adds_weaker, adds_then, adds_none}
use Rattle.f2b_world.proofs.AddsLemmas.{grown_twice}
use Rattle.std.proofs.lemmas.Option.{none-some, same_Some}
use Rattle.slot_reader.proofs.AnswerLemmas.{true_append}
use Rattle.slot_reader.specs.Reads.{IsDone, IsFailed, AreDone, AreReads, AreTrue, CountsFault, OnlyReads, IsAllOf, IsPieceAt}

-- ---- no slot changes

after-append : (k : ℕ) (s : Slot) (es fs : List Event) → slot_after k s (es ++ fs) ≡ slot_after k (slot_after k s es) fs
after-append k s [] fs = refl
after-append k s (e ∷ es) fs = after-append k (slot_step k s e) es fs

done_still : (k : ℕ) (s : Slot) (e : Event) → IsDone e → slot_step k s e ≡ s
done_still k s (DiskLen slot answer) h = refl
done_still k s (DiskRead slot at len answer) h = refl
done_still k s _ h = absurd h

failed_still : (k : ℕ) (s : Slot) (e : Event) → IsFailed e → slot_step k s e ≡ s
failed_still k s (DiskLen slot answer) h = refl
failed_still k s (DiskRead slot at len answer) h = refl
failed_still k s _ h = absurd h

done_keep : (k : ℕ) (s : Slot) (es : List Event) → AreDone es → slot_after k s es ≡ s
done_keep k s [] h = refl
done_keep k s (e ∷ es) h = ap (λ (t : Slot). slot_after k t es) (done_still k s e h.0) ∙ done_keep k s es h.1

reads_keep : (failed : Bool) (k : ℕ) (s : Slot) (es : List Event) → AreReads failed es → slot_after k s es ≡ s
reads_keep false k s es h = done_keep k s es h
reads_keep true k s es h =
    ap (slot_after k s) h.parts ∙ after-append k s h.first (h.one ∷ []) ∙ ap (λ (t : Slot). slot_after k t (h.one ∷ [])) (done_keep k s h.first h.done) ∙ failed_still k s h.one h.failed

-- Reads change no slot.
pub slots_kept : (failed : Bool) (k : ℕ) (g : History) (es : List Event) → AreReads failed es → slot_of (grown g es) k ≡ slot_of g k
slots_kept failed k g es h = after-append k (settled (g.first k)) g.events es ∙ reads_keep failed k (slot_of g k) es h

-- the slots are those of a history before, by whose end as much was told
pub told_before : (failed : Bool) (old new : Option History) → Adds old new (λ g es. AreReads failed es × AreTrue g es) → (h : History) → new ≡ Some h → (g : History) × (old ≡ Some g) × ((k : ℕ) → slot_of h k ≡ slot_of g k)
told_before failed old None adds h is = absurd (none-some h is)
told_before failed old (Some j) adds h is =
    let same : h ≡ grown adds.0 adds.1 = sym (same_Some j h is) ∙ adds.3 in
    (adds.0, adds.2, λ k. ap (λ (r : History). slot_of r k) same ∙ slots_kept failed k adds.0 adds.1 adds.4.0)

-- ---- one call

none_is : (kind : Kind) → None ≢ Some kind
none_is kind e = none-some kind e

disk_is_not : (kind : Kind) → kind ≢ OfDisk → Some OfDisk ≢ Some kind
disk_is_not kind other e = other (sym (same_Some OfDisk kind e))

-- a call that was answered
call_done : (e : Event) (a b : Standing) → IsDone e → fault_of e ≡ None → Called a e b → OnlyReads false a b
call_done e a b done no_fault call =
    let still : (kind : Kind) → b.faults kind ≡ a.faults kind = λ kind. call.counts.still kind (λ is. none_is kind (sym no_fault ∙ is)) in
    record {
      told = adds_weaker _ (λ g es. AreReads false es × AreTrue g es) a.told b.told call.adds
          (λ g es is. (subst AreDone (sym is.0) (done, tt), subst (AreTrue g) (sym is.0) (is.1, call.bounded, tt)));
      leaves = call.leaves;
      steady = call.counts.steady;
      still = λ kind other. still kind;
      counted = still OfDisk;
    }

-- a call that failed
call_failed : (e : Event) (a b : Standing) → IsFailed e → fault_of e ≡ Some OfDisk → Called a e b → OnlyReads true a b
call_failed e a b failed fault call = record {
  told = adds_weaker _ (λ g es. AreReads true es × AreTrue g es) a.told b.told call.adds
      (λ g es is. (record { first = []; one = e; parts = is.0; done = tt; failed = failed }, subst (AreTrue g) (sym is.0) (is.1, call.bounded, tt)));
  leaves = call.leaves;
  steady = call.counts.steady;
  still = λ kind other. call.counts.still kind (λ is. disk_is_not kind other (sym fault ∙ is));
  counted = subst (λ (o : Option Kind). IfSome o (λ kind. Rose (a.faults kind) (b.faults kind))) fault call.counts.cause;
}

pub len_done : (slot long : ℕ) (a b : Standing) → slot < 2 → Called a (DiskLen slot (LenBytes long)) b → OnlyReads false a b
len_done slot long a b small call = call_done (DiskLen slot (LenBytes long)) a b small refl call

pub len_failed : (slot : ℕ) (a b : Standing) → slot < 2 → Called a (DiskLen slot LenFailed) b → OnlyReads true a b
len_failed slot a b small call = call_failed (DiskLen slot LenFailed) a b small refl call

pub read_done : (slot at len : ℕ) (piece : List ℕ) (a b : Standing) → slot < 2 → Called a (DiskRead slot at len (PieceBytes piece)) b → OnlyReads false a b
read_done slot at len piece a b small call = call_done (DiskRead slot at len (PieceBytes piece)) a b small refl call

pub read_failed : (slot at len : ℕ) (a b : Standing) → slot < 2 → Called a (DiskRead slot at len PieceFailed) b → OnlyReads true a b
read_failed slot at len a b small call = call_failed (DiskRead slot at len PieceFailed) a b small refl call

pub reads_none : (a b : Standing) → b ≡ a → OnlyReads false a b
reads_none a b is = subst (OnlyReads false a) (sym is) (record {
  told = adds_weaker _ (λ g es. AreReads false es × AreTrue g es) a.told a.told (adds_none a.told) (λ g es is. (subst AreDone (sym is) tt, subst (AreTrue g) (sym is) tt));
  leaves = record { talk = refl; shelf = refl };
  steady = λ kind. omega arith;
  still = λ kind other. refl;
  counted = refl;
})

-- what an event tells that was answered, it tells of the slots as they are behind it
told_by : (e : Event) (P : History → Type 0) (old new : Option History) → IsDone e → Adds old new (λ g es. (es ≡ e ∷ []) × P g) → (h : History) → new ≡ Some h → (g : History) × P g × ((k : ℕ) → slot_of h k ≡ slot_of g k)
told_by e P old None done adds h is = absurd (none-some h is)
told_by e P old (Some j) done adds h is =
    let same : h ≡ grown adds.0 adds.1 = sym (same_Some j h is) ∙ adds.3 in
    (adds.0, adds.4.1, λ k. ap (λ (r : History). slot_of r k) same ∙ slots_kept false k adds.0 adds.1 (subst AreDone (sym adds.4.0) (done, tt)))

pub len_told : (slot long : ℕ) (a b : Standing) → slot < 2 → Called a (DiskLen slot (LenBytes long)) b → IsAllOf slot long b.told
len_told slot long a b small call h is =
    let e = DiskLen slot (LenBytes long) in
    let t = told_by e (λ g. IsHonest g e) a.told b.told small call.adds h is in
    t.1 ∙ ap (λ (s : Slot). length s.now) (sym (t.2 slot))

pub read_told : (slot at len : ℕ) (piece : List ℕ) (a b : Standing) → slot < 2 → Called a (DiskRead slot at len (PieceBytes piece)) b → IsPieceAt slot at len piece b.told
read_told slot at len piece a b small call h is =
    let e = DiskRead slot at len (PieceBytes piece) in
    let t = told_by e (λ g. IsHonest g e) a.told b.told small call.adds h is in
    t.1 ∙ ap (λ (s : Slot). take len (drop at s.now)) (sym (t.2 slot))

-- ---- what is told apart

pub reads_events : (failed : Bool) (a b : Standing) → OnlyReads failed a b → Adds a.told b.told (λ g es. AreReads failed es)
reads_events failed a b reads = adds_weaker (λ g es. AreReads failed es × AreTrue g es) (λ g es. AreReads failed es) a.told b.told reads.told (λ g es is. is.0)

pub reads_answers : (failed : Bool) (a b : Standing) → OnlyReads failed a b → Adds a.told b.told AreTrue
reads_answers failed a b reads = adds_weaker (λ g es. AreReads failed es × AreTrue g es) AreTrue a.told b.told reads.told (λ g es is. is.1)

pub ruleset reads = (len_done, len_failed, len_told, read_done, read_failed, read_told, reads_none)

-- ---- calls behind calls

done_on : (es fs : List Event) → AreDone es → AreDone fs → AreDone (es ++ fs)
done_on [] fs p q = q
done_on (e ∷ es) fs p q = (p.0, done_on es fs p.1 q)

reads_on : (failed : Bool) (es fs : List Event) → AreDone es → AreReads failed fs → AreReads failed (es ++ fs)
reads_on false es fs p q = done_on es fs p q
reads_on true es fs p q = record {
  first = es ++ q.first;
  one = q.one;
  parts = ap (λ (r : List Event). es ++ r) q.parts ∙ sym (append_assoc es q.first (q.one ∷ []));
  done = done_on es q.first p q.done;
  failed = q.failed;
}

counted_on : (failed : Bool) (a b c : Standing) → CountsFault false a b → CountsFault failed b c → CountsFault failed a c
counted_on false a b c p q = q ∙ p
counted_on true a b c p q = subst (λ (n : ℕ). Rose n (c.faults OfDisk)) p q

pub reads_same : (a : Standing) → OnlyReads false a a
reads_same a = reads_none a a refl

told_then : (failed : Bool) (old mid new : Option History) → Adds old mid (λ g es. AreReads false es × AreTrue g es) → Adds mid new (λ g es. AreReads failed es × AreTrue g es)
    → Adds old new (λ g es. AreReads failed es × AreTrue g es)
told_then failed old mid None a b = tt
told_then failed old None (Some h) a b = absurd (none-some b.0 b.2)
told_then failed old (Some m) (Some h) a b =
    let grew : b.0 ≡ grown a.0 a.1 = sym (same_Some m b.0 b.2) ∙ a.3 in (
      a.0,
      a.1 ++ b.1,
      a.2,
      b.3 ∙ ap (λ (k : History). grown k b.1) grew ∙ grown_twice a.0 a.1 b.1,
      (reads_on failed a.1 b.1 a.4.0 b.4.0, true_append a.0 a.1 b.1 a.4.1 (subst (λ (k : History). AreTrue k b.1) grew b.4.1)),
    )

-- What was answered goes before what follows.
pub reads_then : (failed : Bool) (a b c : Standing) → OnlyReads false a b → OnlyReads failed b c → OnlyReads failed a c
reads_then failed a b c p q = record {
  told = told_then failed a.told b.told c.told p.told q.told;
  leaves = record { talk = q.leaves.talk ∙ p.leaves.talk; shelf = q.leaves.shelf ∙ p.leaves.shelf };
  steady = λ kind. omega (arith, p.steady kind, q.steady kind);
  still = λ kind other. q.still kind other ∙ p.still kind other;
  counted = counted_on failed a b c p.counted q.counted;
}
