-- How a played script goes on.
use Rattle.std.proofs.Common.{ℕ, ◌≡◌, ◌==◌, ◌+◌, ◌<◌, ◌≤◌, ◌^◌, Bool, true, false, cond, if◌then◌else◌, Option, Some, None, IfSome, IsTrue, List, [], ◌∷◌, ◌++◌, ◌⊎◌, inl, inr, length, count_by, refl, sym, ◌∙◌, ap, subst, arith, length-append, add_assoc, zero-add, eqb-true}
use Rattle.std.proofs.lemmas.List.Sums.{sum_by-append, count_by-le-length}
use Rattle.f2b_world.specs.declared.answer.Accept.TheVariants.{Conn}
use Rattle.f2b_world.specs.declared.answer.GateRead.TheVariants.{Bytes as ReadBytes}
use Rattle.f2b_world.specs.declared.answer.Synced.TheVariants.{Done as SyncDone}
use Rattle.f2b_world.specs.declared.answer.Wrote.{Wrote}
use Rattle.f2b_world.specs.declared.event.Event.{Event}
use Rattle.f2b_world.specs.declared.event.Event.TheVariants.{DiskWrite, DiskSync, GateAccept, GateRead as ReadFrom}
use Rattle.f2b_world.specs.Slots.{Slot, settled, slot_after, slot_step, synced_now, write_to, written}
use Rattle.f2b_mem.specs.Books.{Grows, WhereTold}
use Rattle.f2b_mem.specs.Plays.{played, is_clock, is_config, is_pause, accepted_in, given_to, slot_in, Lists, Plays}
use Rattle.f2b_mem.specs.Commands.{Ran, ran_of, ran_step, ran_after}
use Rattle.f2b_mem.specs.Script.{slots_of, of_two, counted}
use Rattle.f2b_mem.specs.Stages.{Progresses, IsPlayed, IsUnplayed, PlaysOn, history_of, is_write}
use Rattle.f2b_mem.specs.declared.counts.Counts.{Counts}
use Rattle.f2b_mem.specs.declared.progress.Progress.{Progress}
use Rattle.f2b_mem.specs.declared.script.Script.{Script}
use Rattle.f2b_mem.proofs.HonestLemmas.{honest}

pub slot_after-append : (slot : ℕ) (s : Slot) (xs ys : List Event) → slot_after slot s (xs ++ ys) ≡ slot_after slot (slot_after slot s xs) ys
slot_after-append slot s [] ys = refl
slot_after-append slot s (x ∷ xs) ys = slot_after-append slot (slot_step slot s x) xs ys

pub accepted_in-append : (xs ys : List Event) → accepted_in (xs ++ ys) ≡ accepted_in xs ++ accepted_in ys
accepted_in-append [] ys = refl
accepted_in-append (GateAccept (Conn conn) ∷ xs) ys = ap (λ (r : List ℕ). conn ∷ r) (accepted_in-append xs ys)
accepted_in-append (x ∷ xs) ys = accepted_in-append xs ys

pub given_to-append : (conn : ℕ) (xs ys : List Event) → given_to conn (xs ++ ys) ≡ given_to conn xs + given_to conn ys
given_to-append conn [] ys = sym (zero-add (given_to conn ys))
given_to-append conn (ReadFrom other most (ReadBytes bytes) ∷ xs) ys =
    ap (λ (n : ℕ). (if other == conn then length bytes else 0) + n) (given_to-append conn xs ys)
    ∙ sym (add_assoc (if other == conn then length bytes else 0) (given_to conn xs) (given_to conn ys))
given_to-append conn (x ∷ xs) ys = given_to-append conn xs ys

counted_bool : (b : Bool) (n : ℕ) → n + 1 < 2 ^ 64 → counted n b ≡ n + cond b 1 0
counted_bool true n h = omega arith
counted_bool false n h = omega arith

-- a count of events, after one more
counted_more : (p : Event → Bool) (events : List Event) (event : Event) (n m : ℕ) → length events + 1 < 2 ^ 64 → n ≡ count_by p events → m ≡ counted n (p event) → m ≡ count_by p (events ++ event ∷ [])
counted_more p events event n m short is next =
    let below : count_by p events ≤ length events = count_by-le-length p events in
    let room : n + 1 < 2 ^ 64 = omega arith in
    let added : count_by p (events ++ event ∷ []) ≡ count_by p events + count_by p (event ∷ []) = sum_by-append (λ x. cond (p x) 1 0) events (event ∷ []) in
    let one : count_by p (event ∷ []) ≡ cond (p event) 1 0 = omega arith in
    let step : counted n (p event) ≡ n + cond (p event) 1 0 = counted_bool (p event) n room in
    next ∙ step ∙ (let e : n + cond (p event) 1 0 ≡ count_by p (events ++ event ∷ []) = omega arith in e)

called_more : (events : List Event) (event : Event) (n m : ℕ) → length events + 1 < 2 ^ 64 → n ≡ length events → m ≡ counted n true → m ≡ length (events ++ event ∷ [])
called_more events event n m short is next =
    let step : counted n true ≡ n + 1 = counted_bool true n (let h : n + 1 < 2 ^ 64 = omega arith in h) in
    let added : length (events ++ event ∷ []) ≡ length events + 1 = length-append events (event ∷ []) in
    omega arith

-- where a list with one item more is split, the item is the last one or stands before it
split_last : (events : List Event) (last : Event) (before : List Event) (event : Event) (later : List Event) → events ++ last ∷ [] ≡ before ++ event ∷ later
    → ((before ≡ events) × (event ≡ last)) ⊎ ((rest : List Event) × (events ≡ before ++ event ∷ rest))
split_last [] last [] event later e = let f : last ∷ [] ≡ event ∷ later = e in inl (refl, (let g : event ≡ last = cc in g))
split_last [] last (b ∷ []) event later e = let f : last ∷ [] ≡ b ∷ event ∷ later = e in absurd (let g : [] ≡ event ∷ later = cc in cc)
split_last [] last (b ∷ c ∷ before) event later e = let f : last ∷ [] ≡ b ∷ c ∷ (before ++ event ∷ later) = e in absurd (let g : [] ≡ c ∷ (before ++ event ∷ later) = cc in cc)
split_last (x ∷ events) last [] event later e =
    let f : x ∷ (events ++ last ∷ []) ≡ event ∷ later = e in
    inr (events, (let g : x ∷ events ≡ event ∷ events = (let h : x ≡ event = cc in ap (λ (y : Event). y ∷ events) h) in g))
split_last (x ∷ events) last (b ∷ before) event later e =
    let f : x ∷ (events ++ last ∷ []) ≡ b ∷ (before ++ event ∷ later) = e in
    let head : b ≡ x = cc in
    let tail : events ++ last ∷ [] ≡ before ++ event ∷ later = cc in
    elim (split_last events last before event later tail) [
      | inl p ↦ inl ((let k : b ∷ before ≡ x ∷ events = cc (head, p.0) in k), p.1)
      | inr q ↦ inr (q.0, (let k : x ∷ events ≡ b ∷ (before ++ event ∷ q.0) = cc (head, q.1) in k))
    ]

pub plays_more : (script : Script) (events : List Event) (event : Event) → Plays script events → event ≡ played script events event → Lists script events event → Plays script (events ++ event ∷ [])
plays_more script events event plays is lists = λ before other later e.
    elim (split_last events event before other later e) [
      | inl p ↦
          let Before : List Event → Type 0 = λ es. Lists script es other in
          let Last : Event → Type 0 = λ x. Lists script events x in (
            p.1 ∙ is ∙ ap (λ (es : List Event). played script es event) (sym p.0) ∙ ap (λ (x : Event). played script before x) (sym p.1),
            subst Before (sym p.0) (subst Last (sym p.1) lists),
          )
      | inr q ↦ plays before other q.0 q.1
    ]

pub ran_after-append : (r : Ran) (xs ys : List Event) → ran_after r (xs ++ ys) ≡ ran_after (ran_after r xs) ys
ran_after-append r [] ys = refl
ran_after-append r (x ∷ xs) ys = ran_after-append (ran_step r x) xs ys

-- what was played, after one event more
is_played_more : (script : Script) (old new : Progress) (zero one zero' one' : List ℕ) (events : List Event) (event : Event) → IsPlayed script old zero one events → event ≡ played script events event → Lists script events event
    → Progresses old event new → length (events ++ event ∷ []) < 2 ^ 64
    → ((slot : ℕ) (s : Slot) → of_two zero one slot ≡ s.now → of_two zero' one' slot ≡ (slot_step slot s event).now)
    → IsPlayed script new zero' one' (events ++ event ∷ [])
is_played_more script old new zero one zero' one' events event was is lists more short slots =
    let added : length (events ++ event ∷ []) ≡ length events + 1 = length-append events (event ∷ []) in
    let room : length events + 1 < 2 ^ 64 = omega arith in
    record {
      calls = called_more events event old.counts.calls new.counts.calls room was.calls more.counts.calls;
      clocks = counted_more is_clock events event old.counts.clocks new.counts.clocks room was.clocks more.counts.clocks;
      configs = counted_more is_config events event old.counts.configs new.counts.configs room was.configs more.counts.configs;
      pauses = counted_more is_pause events event old.counts.pauses new.counts.pauses room was.pauses more.counts.pauses;
      accepted = more.accepted ∙ ap (λ (xs : List ℕ). xs ++ accepted_in (event ∷ [])) was.accepted ∙ sym (accepted_in-append events (event ∷ []));
      given = λ conn. more.given conn ∙ ap (λ (n : ℕ). n + given_to conn (event ∷ [])) (was.given conn) ∙ sym (given_to-append conn events (event ∷ []));
      ran = more.ran ∙ ap (λ (r : Ran). ran_step r event) was.ran ∙ sym (ran_after-append (ran_of 0 []) events (event ∷ []));
      slots = λ slot. slots slot (slot_in script events slot) (was.slots slot)
          ∙ ap (λ (s : Slot). s.now) (sym (slot_after-append slot (settled (slots_of script.image slot)) events (event ∷ [])));
      plays = plays_more script events event was.plays is lists;
    }

-- the same of a history that may have ended
pub goes_on : (script : Script) (old new : Progress) (zero one zero' one' : List ℕ) (told told' : Option (List Event)) (event : Event) (noted : Bool)
    → WhereTold told (IsPlayed script old zero one) → WhereTold told (λ events. event ≡ played script events event) → WhereTold told (λ events. Lists script events event)
    → (IsTrue noted → Progresses old event new) → IfSome told' (λ _. Grows told event told') → IfSome told' (λ _. IsTrue noted) → IfSome told' (λ events. length events < 2 ^ 64)
    → ((slot : ℕ) (s : Slot) → of_two zero one slot ≡ s.now → of_two zero' one' slot ≡ (slot_step slot s event).now)
    → WhereTold told' (IsPlayed script new zero' one')
goes_on script old new zero one zero' one' told None event noted was is lists notes grows kept short slots = λ events e. absurd (cc)
goes_on script old new zero one zero' one' None (Some more) event noted was is lists notes grows kept short slots = absurd (let e : Some more ≡ None = grows in cc)
goes_on script old new zero one zero' one' (Some before) (Some more) event noted was is lists notes grows kept short slots = λ events e.
    let all : Some more ≡ Some (before ++ event ∷ []) = grows in
    let grown : more ≡ before ++ event ∷ [] = cc in
    let same : events ≡ before ++ event ∷ [] = cc in
    let P : List Event → Type 0 = λ es. length es < 2 ^ 64 in
    let Q : List Event → Type 0 = λ es. IsPlayed script new zero' one' es in
    subst Q (sym same) (is_played_more script old new zero one zero' one' before event (was before refl) (is before refl) (lists before refl) (notes kept) (subst P grown short) slots)

if_same : (b : Bool) (s : Slot) → (if b then synced_now s else s).now ≡ s.now
if_same true s = refl
if_same false s = refl

-- an event that is no write changes nothing that a read gives
pub no_write : (zero one : List ℕ) (event : Event) → is_write event ≡ false → (slot : ℕ) (s : Slot) → of_two zero one slot ≡ s.now → of_two zero one slot ≡ (slot_step slot s event).now
no_write zero one (DiskWrite k at bytes answer) e slot s h = absurd (let f : true ≡ false = e in cc)
no_write zero one (DiskSync k SyncDone) e slot s h = h ∙ sym (if_same (k == slot) s)
no_write zero one event e slot s h = h

write_now : (b : Bool) (s : Slot) (at : ℕ) (bytes : List ℕ) → (if b then write_to s at bytes else s).now ≡ (if b then written s.now at bytes else s.now)
write_now true s at bytes = refl
write_now false s at bytes = refl

write_same : (k slot at : ℕ) (bytes : List ℕ) (now : ℕ → List ℕ) (s : Slot) → now slot ≡ s.now → (b : Bool) → (k == slot) ≡ b
    → (if b then written (now k) at bytes else now slot) ≡ (if b then written s.now at bytes else s.now)
write_same k slot at bytes now s h true e = let same : k ≡ slot = eqb-true k slot e in ap (λ (n : ℕ). written (now n) at bytes) same ∙ ap (λ (xs : List ℕ). written xs at bytes) h
write_same k slot at bytes now s h false e = h

-- a write changes the slot that it is told, as a whole write does
pub a_write : (zero one zero' one' : List ℕ) (k at : ℕ) (bytes : List ℕ) (answer : Wrote)
    → ((slot : ℕ) → of_two zero' one' slot ≡ (if k == slot then written (of_two zero one k) at bytes else of_two zero one slot))
    → (slot : ℕ) (s : Slot) → of_two zero one slot ≡ s.now → of_two zero' one' slot ≡ (slot_step slot s (DiskWrite k at bytes answer)).now
a_write zero one zero' one' k at bytes answer put slot s h =
    put slot ∙ write_same k slot at bytes (of_two zero one) s h (k == slot) refl ∙ sym (write_now (k == slot) s at bytes)

-- a script that is played on tells so
pub plays_on : (script : Script) (told told' : Option (List Event)) (event : Event) → WhereTold told (λ events. event ≡ played script events event)
    → IfSome told' (λ _. Grows told event told') → PlaysOn (record { script = script; told = told }) event (record { script = script; told = told' })
plays_on script told None event is grows = record { script = refl; tells = tt }
plays_on script None (Some more) event is grows = absurd (let e : Some more ≡ None = grows in cc)
plays_on script (Some before) (Some more) event is grows =
    let all : Some more ≡ Some (before ++ event ∷ []) = grows in
    let grown : more ≡ before ++ event ∷ [] = cc in
    record {
      script = refl;
      tells = (history_of script before, event ∷ [], refl, ap (λ (es : List Event). history_of script es) grown, (refl, honest script before event (is before refl)));
    }

-- a write is no listing
pub write_lists : (script : Script) (told : Option (List Event)) (event : Event) (k at : ℕ) (bytes : List ℕ) (answer : Wrote) → event ≡ DiskWrite k at bytes answer → WhereTold told (λ events. Lists script events event)
write_lists script told event k at bytes answer is = λ events e. let F : Event → Type 0 = λ x. Lists script events x in subst F (sym is) tt

pub step_of_write : (zero one zero' one' : List ℕ) (k at : ℕ) (bytes : List ℕ) (answer : Wrote) (event : Event) → event ≡ DiskWrite k at bytes answer
    → ((slot : ℕ) → of_two zero' one' slot ≡ (if k == slot then written (of_two zero one k) at bytes else of_two zero one slot))
    → (slot : ℕ) (s : Slot) → of_two zero one slot ≡ s.now → of_two zero' one' slot ≡ (slot_step slot s event).now
step_of_write zero one zero' one' k at bytes answer event is put slot s h =
    a_write zero one zero' one' k at bytes answer put slot s h ∙ ap (λ (e : Event). (slot_step slot s e).now) (sym is)

plays_none : (script : Script) → Plays script []
plays_none script [] event later e = absurd (let f : [] ≡ event ∷ later = e in cc)
plays_none script (x ∷ before) event later e = absurd (let f : [] ≡ x ∷ (before ++ event ∷ later) = e in cc)

-- nothing was played yet
pub begins : (script : Script) (progress : Progress) (zero one : List ℕ) (told : Option (List Event)) → told ≡ Some [] → IsUnplayed progress → zero ≡ script.image.slot0 → one ≡ script.image.slot1
    → WhereTold told (IsPlayed script progress zero one)
begins script progress zero one told is none left right = λ events e.
    let none_yet : Some events ≡ Some [] = sym e ∙ is in
    let empty : events ≡ [] = cc in
    let P : List Event → Type 0 = λ es. IsPlayed script progress zero one es in
    subst P (sym empty) (record {
      calls = ap (λ (n : Counts). n.calls) none.counts;
      clocks = ap (λ (n : Counts). n.clocks) none.counts;
      configs = ap (λ (n : Counts). n.configs) none.counts;
      pauses = ap (λ (n : Counts). n.pauses) none.counts;
      accepted = none.accepted;
      given = none.given;
      ran = none.ran;
      slots = λ slot. ap (λ (xs : List ℕ). of_two xs one slot) left ∙ ap (λ (xs : List ℕ). of_two script.image.slot0 xs slot) right;
      plays = plays_none script;
    })
