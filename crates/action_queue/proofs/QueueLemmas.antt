-- The queues of lanes: what the ids of every lane are after one queue changes, comes or goes.
use Rattle.std.proofs.Common.{ℕ, zero, suc, ◌≡◌, ◌+◌, ◌<◌, inl, inr, Bool, true, false, ◌||◌, cond, Option, Some, None, List, [], ◌∷◌, ◌++◌, length, get_or, set, drop, refl, sym, ap, ap₂, ◌∙◌, arith}
use Rattle.std.specs.Prelude.{◌≤◌, is_none, slice_get, position, remove}
use Rattle.std.specs.List.{list_any, position_from}
use Rattle.std.specs.Option.{option_to_list}
use Rattle.std.proofs.lemmas.Bool.{cases_Bool, both_ways, or_parts, or_from, false_from_ne_true}
use Rattle.std.proofs.lemmas.List.Quantifiers.{position-Some}
use Rattle.std.proofs.lemmas.Iterator.Adapters.{position_from-zero}
use Rattle.f2b_base.specs.declared.job.JobKind.{JobKind}
use Rattle.f2b_base.specs.declared.job.LaneId.{LaneId}
use Rattle.f2b_model.specs.Families.{same_lane}
use Rattle.f2b_model.specs.LaneSound.{NonePasses, AtMostOne}
use Rattle.f2b_model.proofs.SameLemmas.{same_lane-true}
use Rattle.f2b_model.proofs.PassLemmas.{one_push}
use Rattle.action_queue.specs.declared.queue.Queue.{Queue}
use Rattle.action_queue.specs.Queues.{is_queue, is_empty, part_of, ids_of, stop_of, stop_after, stop_without, stop_left, AreQueues, Added, Dropped, SameIds}

none_passes : {X : Type 0} (p : X → Bool) (i : ℕ) (xs : List X) → position_from p i xs ≡ None → list_any p xs ≡ false
none_passes p i [] none = refl
none_passes p i (x ∷ xs) none = elim (cases_Bool (p x)) [
  | inl h ↦ let e : Some i ≡ None = rw h at none in cc
  | inr h ↦ rw h (none_passes p (i + 1) xs (rw h at none))
]

pub none_queue : (lane : LaneId) (qs : List Queue) → position (is_queue lane) qs ≡ None → list_any (is_queue lane) qs ≡ false
none_queue lane qs none = none_passes (is_queue lane) 0 qs (sym (position_from-zero (is_queue lane) qs) ∙ none)

-- ---- a part of a lane's queue

no_part : {X : Type 0} (part : Queue → X) (none : X) (lane : LaneId) (qs : List Queue) → list_any (is_queue lane) qs ≡ false → part_of part none lane qs ≡ none
no_part part none lane [] is = refl
no_part part none lane (q ∷ qs) is = let parts = or_parts (is_queue lane q) (list_any (is_queue lane) qs) is in rw parts.0 (no_part part none lane qs parts.1)

pub no_ids : (lane : LaneId) (qs : List Queue) → list_any (is_queue lane) qs ≡ false → ids_of lane qs ≡ []
no_ids lane qs is = no_part (λ q. q.ids.items) [] lane qs is

-- a lane with no queue has no part of one
pub part_none : {X : Type 0} (part : Queue → X) (none : X) (lane : LaneId) (qs : List Queue) → position (is_queue lane) qs ≡ None → part_of part none lane qs ≡ none
part_none part none lane qs is = no_part part none lane qs (none_queue lane qs is)

pub ids_none : (lane : LaneId) (qs : List Queue) → position (is_queue lane) qs ≡ None → ids_of lane qs ≡ []
ids_none lane qs is = part_none (λ q. q.ids.items) [] lane qs is

pub stop_none : (lane : LaneId) (qs : List Queue) → position (is_queue lane) qs ≡ None → stop_of lane qs ≡ None
stop_none lane qs is = part_none (λ q. q.stop) None lane qs is

part_at : {X : Type 0} (part : Queue → X) (none : X) (lane : LaneId) (qs : List Queue) (i : ℕ) (d : Queue) → i < length qs → is_queue lane (get_or qs i d) ≡ true → ((k : ℕ) → k < i → is_queue lane (get_or qs k d) ≡ false)
    → part (get_or qs i d) ≡ part_of part none lane qs
part_at part none lane [] i d less is before = absurd (omega arith)
part_at part none lane (q ∷ qs) zero d less is before = rw is refl
part_at part none lane (q ∷ qs) (suc i) d less is before =
    let no : is_queue lane q ≡ false = before 0 (omega arith) in
    rw no (part_at part none lane qs i d (omega arith) is (λ k h. before (suc k) (omega arith)))

part_some : {X : Type 0} (part : Queue → X) (none : X) (lane : LaneId) (qs : List Queue) (i : ℕ) (d : Queue) → position (is_queue lane) qs ≡ Some i → part (get_or qs i d) ≡ part_of part none lane qs
part_some part none lane qs i d is = let at = position-Some (is_queue lane) qs i d is in part_at part none lane qs i d at.0 at.1 at.2

pub ids_some : (lane : LaneId) (qs : List Queue) (i : ℕ) (d : Queue) → position (is_queue lane) qs ≡ Some i → (get_or qs i d).ids.items ≡ ids_of lane qs
ids_some lane qs i d is = part_some (λ q. q.ids.items) [] lane qs i d is

pub stop_some : (lane : LaneId) (qs : List Queue) (i : ℕ) (d : Queue) → position (is_queue lane) qs ≡ Some i → (get_or qs i d).stop ≡ stop_of lane qs
stop_some lane qs i d is = part_some (λ q. q.stop) None lane qs i d is

part_set : {X : Type 0} (part : Queue → X) (none : X) (lane l : LaneId) (qs : List Queue) (i : ℕ) (d q : Queue) → i < length qs → is_queue lane (get_or qs i d) ≡ true → ((k : ℕ) → k < i → is_queue lane (get_or qs k d) ≡ false)
    → q.lane ≡ (get_or qs i d).lane → part_of part none l (set qs i q) ≡ cond (same_lane lane l) (part q) (part_of part none l qs)
part_set part none lane l [] i d q less is before same = absurd (omega arith)
part_set part none lane l (x ∷ qs) zero d q less is before same = rw (same, same_lane-true x.lane lane is) (elim (cases_Bool (same_lane lane l)) [ inl h ↦ rw h refl | inr h ↦ rw h refl ])
part_set part none lane l (x ∷ qs) (suc i) d q less is before same =
    let on : part_of part none l (set qs i q) ≡ cond (same_lane lane l) (part q) (part_of part none l qs) = part_set part none lane l qs i d q (omega arith) is (λ k h. before (suc k) (omega arith)) same in
    elim (cases_Bool (same_lane x.lane l)) [
      | inl h ↦
          let other : same_lane lane l ≡ false = false_from_ne_true (same_lane lane l) (λ k. both_ways (same_lane x.lane lane) (before 0 (omega arith)) (ap (same_lane x.lane) (same_lane-true lane l k) ∙ h)) in
          rw (h, other) refl
      | inr h ↦ rw h on
    ]

any_set : (p : Queue → Bool) (qs : List Queue) (i : ℕ) (d q : Queue) → i < length qs → p q ≡ p (get_or qs i d) → list_any p (set qs i q) ≡ list_any p qs
any_set p [] i d q less same = absurd (omega arith)
any_set p (x ∷ qs) zero d q less same = ap (λ b. b || list_any p qs) same
any_set p (x ∷ qs) (suc i) d q less same = ap (λ b. p x || b) (any_set p qs i d q (omega arith) same)

one_set : (p : Queue → Bool) (qs : List Queue) (i : ℕ) (d q : Queue) → i < length qs → p q ≡ p (get_or qs i d) → AtMostOne p qs → AtMostOne p (set qs i q)
one_set p [] i d q less same one = absurd (omega arith)
one_set p (x ∷ qs) zero d q less same one = ((λ h. one.0 (sym same ∙ h)), one.1)
one_set p (x ∷ qs) (suc i) d q less same one = ((λ h. any_set p qs i d q (omega arith) same ∙ one.0 h), one_set p qs i d q (omega arith) same one.1)

-- the queue of a lane becomes another
set_part : {X : Type 0} (part : Queue → X) (none : X) (lane : LaneId) (qs : List Queue) (i : ℕ) (d q : Queue) → position (is_queue lane) qs ≡ Some i → q.lane ≡ (get_or qs i d).lane
    → (l : LaneId) → part_of part none l (set qs i q) ≡ cond (same_lane lane l) (part q) (part_of part none l qs)
set_part part none lane qs i d q is same l = let at = position-Some (is_queue lane) qs i d is in part_set part none lane l qs i d q at.0 at.1 at.2 same

set_one : (lane : LaneId) (qs : List Queue) (i : ℕ) (d q : Queue) → position (is_queue lane) qs ≡ Some i → q.lane ≡ (get_or qs i d).lane → (l : LaneId) → AtMostOne (is_queue l) qs → AtMostOne (is_queue l) (set qs i q)
set_one lane qs i d q is same l one = let at = position-Some (is_queue lane) qs i d is in one_set (is_queue l) qs i d q at.0 (ap (λ x. same_lane x l) same) one

part_push : {X : Type 0} (part : Queue → X) (none : X) (l : LaneId) (qs : List Queue) (q : Queue)
    → part_of part none l (qs ++ q ∷ []) ≡ cond (list_any (is_queue l) qs) (part_of part none l qs) (cond (same_lane q.lane l) (part q) none)
part_push part none l [] q = refl
part_push part none l (x ∷ qs) q = elim (cases_Bool (same_lane x.lane l)) [ inl h ↦ rw h refl | inr h ↦ rw h (part_push part none l qs q) ]

-- a lane that had no queue gets one
push_part : {X : Type 0} (part : Queue → X) (none : X) (lane : LaneId) (qs : List Queue) (q : Queue) → position (is_queue lane) qs ≡ None → q.lane ≡ lane
    → (l : LaneId) → part_of part none l (qs ++ q ∷ []) ≡ cond (same_lane lane l) (part q) (part_of part none l qs)
push_part part none lane qs q is same l =
    let no : list_any (is_queue lane) qs ≡ false = none_queue lane qs is in
    part_push part none l qs q ∙ elim (cases_Bool (list_any (is_queue l) qs)) [
      | inl h ↦
          let other : same_lane lane l ≡ false = false_from_ne_true (same_lane lane l) (λ k. both_ways (list_any (is_queue lane) qs) no (ap (λ x. list_any (is_queue x) qs) (same_lane-true lane l k) ∙ h)) in
          rw (h, other) refl
      | inr h ↦ rw (h, no_part part none l qs h, same) refl
    ]

push_one : (lane : LaneId) (qs : List Queue) (q : Queue) → position (is_queue lane) qs ≡ None → q.lane ≡ lane → (l : LaneId) → AtMostOne (is_queue l) qs → AtMostOne (is_queue l) (qs ++ q ∷ [])
push_one lane qs q is same l one =
    let no : list_any (is_queue lane) qs ≡ false = none_queue lane qs is in
    one_push (is_queue l) qs q (λ h. ap (λ x. list_any (is_queue x) qs) (sym (same_lane-true lane l (ap (λ x. same_lane x l) (sym same) ∙ h))) ∙ no) one

-- ---- empty queues

-- a queue with an id more is not empty
full_more : (xs : List ℕ) (id : ℕ) → is_none (slice_get (xs ++ id ∷ []) 0) ≡ false
full_more [] id = refl
full_more (x ∷ xs) id = refl

-- nor is one of two ids or more without its first
full_rest : (xs : List ℕ) → 1 < length xs → is_none (slice_get (drop 1 xs) 0) ≡ false
full_rest [] more = absurd (omega arith)
full_rest (x ∷ []) more = absurd (omega arith)
full_rest (x ∷ (y ∷ xs)) more = refl

none_set : (p : Queue → Bool) (qs : List Queue) (i : ℕ) (q : Queue) → NonePasses p qs → p q ≡ false → NonePasses p (set qs i q)
none_set p [] zero q none is = none
none_set p [] (suc i) q none is = none
none_set p (x ∷ qs) zero q none is = or_from (p q) (list_any p qs) is (or_parts (p x) (list_any p qs) none).1
none_set p (x ∷ qs) (suc i) q none is = let parts = or_parts (p x) (list_any p qs) none in or_from (p x) (list_any p (set qs i q)) parts.0 (none_set p qs i q parts.1 is)

none_push : (p : Queue → Bool) (qs : List Queue) (q : Queue) → NonePasses p qs → p q ≡ false → NonePasses p (qs ++ q ∷ [])
none_push p [] q none is = or_from (p q) false is refl
none_push p (x ∷ qs) q none is = let parts = or_parts (p x) (list_any p qs) none in or_from (p x) (list_any p (qs ++ q ∷ [])) parts.0 (none_push p qs q parts.1 is)

-- ---- what the functions do

-- the ids of the queue at the lane's place are those of the lane
pub items_at : (lane : LaneId) (qs : List Queue) (i : ℕ) (q : Queue) → position (is_queue lane) qs ≡ Some i → q ≡ get_or qs i q → q.ids.items ≡ ids_of lane qs
items_at lane qs i q is read = ap (λ (x : Queue). x.ids.items) read ∙ ids_some lane qs i q is

-- its last Stop is the lane's
stop_at : (lane : LaneId) (qs : List Queue) (i : ℕ) (q : Queue) → position (is_queue lane) qs ≡ Some i → q ≡ get_or qs i q → q.stop ≡ stop_of lane qs
stop_at lane qs i q is read = ap (λ (x : Queue). x.stop) read ∙ stop_some lane qs i q is

-- a queue stays as it was
pub same_at : (lane : LaneId) (qs : List Queue) (i : ℕ) (q p : Queue) → position (is_queue lane) qs ≡ Some i → q ≡ get_or qs i q → p.lane ≡ q.lane → p.ids.items ≡ q.ids.items → p.stop ≡ q.stop → SameIds qs (set qs i p)
same_at lane qs i q p is read same ids stop =
    let at = position-Some (is_queue lane) qs i q is in
    let lanes : p.lane ≡ (get_or qs i q).lane = same ∙ ap (λ (x : Queue). x.lane) read in
    record {
      ids = λ l. set_part (λ x. x.ids.items) [] lane qs i q p is lanes l ∙ elim (cases_Bool (same_lane lane l)) [
        | inl h ↦ rw h (ids ∙ items_at lane qs i q is read ∙ ap (λ x. ids_of x qs) (same_lane-true lane l h))
        | inr h ↦ rw h refl
      ];
      stop = λ l. set_part (λ x. x.stop) None lane qs i q p is lanes l ∙ elim (cases_Bool (same_lane lane l)) [
        | inl h ↦ rw h (stop ∙ stop_at lane qs i q is read ∙ ap (λ x. stop_of x qs) (same_lane-true lane l h))
        | inr h ↦ rw h refl
      ];
      keeps = λ sound. record {
        one = λ l. set_one lane qs i q p is lanes l (sound.one l);
        full = any_set is_empty qs i q p at.0 (ap (λ (xs : List ℕ). is_none (slice_get xs 0)) (ids ∙ ap (λ (x : Queue). x.ids.items) read)) ∙ sound.full;
      };
    }

-- a queue gets an id more
pub added_at : (lane : LaneId) (id : ℕ) (kind : JobKind) (qs : List Queue) (i : ℕ) (q p : Queue) → position (is_queue lane) qs ≡ Some i → q ≡ get_or qs i q → p.lane ≡ q.lane → p.ids.items ≡ q.ids.items ++ id ∷ []
    → p.stop ≡ stop_after id kind q.stop → Added lane id kind qs (set qs i p)
added_at lane id kind qs i q p is read same ids stop =
    let lanes : p.lane ≡ (get_or qs i q).lane = same ∙ ap (λ (x : Queue). x.lane) read in
    record {
      ids = λ l. set_part (λ x. x.ids.items) [] lane qs i q p is lanes l ∙ elim (cases_Bool (same_lane lane l)) [
        | inl h ↦ rw h (ids ∙ ap (λ xs. xs ++ id ∷ []) (items_at lane qs i q is read ∙ ap (λ x. ids_of x qs) (same_lane-true lane l h)))
        | inr h ↦ rw h refl
      ];
      stop = λ l. set_part (λ x. x.stop) None lane qs i q p is lanes l ∙ elim (cases_Bool (same_lane lane l)) [
        | inl h ↦ rw h (stop ∙ ap (stop_after id kind) (stop_at lane qs i q is read ∙ ap (λ x. stop_of x qs) (same_lane-true lane l h)))
        | inr h ↦ rw h refl
      ];
      keeps = λ sound. record {
        one = λ l. set_one lane qs i q p is lanes l (sound.one l);
        full = none_set is_empty qs i p sound.full (ap (λ (xs : List ℕ). is_none (slice_get xs 0)) ids ∙ full_more q.ids.items id);
      };
    }

-- a lane that had no queue gets one with an id
pub added_new : (lane : LaneId) (id : ℕ) (kind : JobKind) (qs : List Queue) (q : Queue) → position (is_queue lane) qs ≡ None → q.lane ≡ lane → q.ids.items ≡ id ∷ [] → q.stop ≡ stop_after id kind None
    → Added lane id kind qs (qs ++ q ∷ [])
added_new lane id kind qs q is same ids stop = record {
  ids = λ l. push_part (λ x. x.ids.items) [] lane qs q is same l ∙ elim (cases_Bool (same_lane lane l)) [
    | inl h ↦ rw h (ids ∙ ap (λ xs. xs ++ id ∷ []) (sym (ids_none lane qs is) ∙ ap (λ x. ids_of x qs) (same_lane-true lane l h)))
    | inr h ↦ rw h refl
  ];
  stop = λ l. push_part (λ x. x.stop) None lane qs q is same l ∙ elim (cases_Bool (same_lane lane l)) [
    | inl h ↦ rw h (stop ∙ ap (stop_after id kind) (sym (stop_none lane qs is) ∙ ap (λ x. stop_of x qs) (same_lane-true lane l h)))
    | inr h ↦ rw h refl
  ];
  keeps = λ sound. record {
    one = λ l. push_one lane qs q is same l (sound.one l);
    full = none_push is_empty qs q sound.full (ap (λ (xs : List ℕ). is_none (slice_get xs 0)) ids);
  };
}

-- what is taken from the front of some ids is the first of them
pub first_taken : (ids rest : List ℕ) (o : Option ℕ) → ids ≡ option_to_list o ++ rest → rest ≡ drop 1 ids → 0 < length ids → o ≡ slice_get ids 0
first_taken ids rest (Some x) is left more = sym (ap (λ (xs : List ℕ). slice_get xs 0) is)
first_taken [] rest None is left more = refl
first_taken (x ∷ ids) rest None is left more = absurd (let same : length (x ∷ ids) ≡ length ids = ap length (is ∙ left) in omega (arith, same))

stop_rest : (ids : List ℕ) (stop : Option ℕ) → 1 < length ids → stop_without (slice_get ids 0) stop ≡ stop_left ids stop
stop_rest [] stop more = absurd (omega arith)
stop_rest (x ∷ []) stop more = absurd (omega arith)
stop_rest (x ∷ (y ∷ ids)) stop more = refl

-- a queue of two ids or more loses its first
pub dropped_at : (lane : LaneId) (qs : List Queue) (i : ℕ) (q p : Queue) → position (is_queue lane) qs ≡ Some i → q ≡ get_or qs i q → p.lane ≡ q.lane → p.ids.items ≡ drop 1 q.ids.items
    → p.stop ≡ stop_without (slice_get q.ids.items 0) q.stop → 1 < length (ids_of lane qs) → Dropped lane qs (set qs i p)
dropped_at lane qs i q p is read same ids stop more =
    let lanes : p.lane ≡ (get_or qs i q).lane = same ∙ ap (λ (x : Queue). x.lane) read in
    let own : q.ids.items ≡ ids_of lane qs = items_at lane qs i q is read in
    let items : p.ids.items ≡ drop 1 (ids_of lane qs) = ids ∙ ap (λ (xs : List ℕ). drop 1 xs) own in
    let left : p.stop ≡ stop_left (ids_of lane qs) (stop_of lane qs) =
    stop ∙ ap₂ (λ (xs : List ℕ) (o : Option ℕ). stop_without (slice_get xs 0) o) own (stop_at lane qs i q is read) ∙ stop_rest (ids_of lane qs) (stop_of lane qs) more in
    record {
      ids = λ l. set_part (λ x. x.ids.items) [] lane qs i q p is lanes l ∙ elim (cases_Bool (same_lane lane l)) [
        | inl h ↦ rw h (items ∙ ap (λ x. drop 1 (ids_of x qs)) (same_lane-true lane l h))
        | inr h ↦ rw h refl
      ];
      stop = λ l. set_part (λ x. x.stop) None lane qs i q p is lanes l ∙ elim (cases_Bool (same_lane lane l)) [
        | inl h ↦ rw h (left ∙ ap (λ x. stop_left (ids_of x qs) (stop_of x qs)) (same_lane-true lane l h))
        | inr h ↦ rw h refl
      ];
      keeps = λ sound. record {
        one = λ l. set_one lane qs i q p is lanes l (sound.one l);
        full = none_set is_empty qs i p sound.full (ap (λ (xs : List ℕ). is_none (slice_get xs 0)) items ∙ full_rest (ids_of lane qs) more);
      };
    }

-- a lane with no queue has no id to lose
pub dropped_none : (lane : LaneId) (qs : List Queue) → position (is_queue lane) qs ≡ None → Dropped lane qs qs
dropped_none lane qs is = record {
  ids = λ l. elim (cases_Bool (same_lane lane l)) [
    | inl h ↦
        let none : ids_of l qs ≡ [] = ap (λ x. ids_of x qs) (sym (same_lane-true lane l h)) ∙ ids_none lane qs is in
        rw (h, none) refl
    | inr h ↦ rw h refl
  ];
  stop = λ l. elim (cases_Bool (same_lane lane l)) [
    | inl h ↦
        let none : ids_of l qs ≡ [] = ap (λ x. ids_of x qs) (sym (same_lane-true lane l h)) ∙ ids_none lane qs is in
        let no_stop : stop_of l qs ≡ None = ap (λ x. stop_of x qs) (sym (same_lane-true lane l h)) ∙ stop_none lane qs is in
        rw (h, none, no_stop) refl
    | inr h ↦ rw h refl
  ];
  keeps = λ sound. sound;
}

-- ---- a queue goes

none_remove : (p : Queue → Bool) (qs : List Queue) (i : ℕ) → NonePasses p qs → NonePasses p (remove qs i)
none_remove p [] zero none = none
none_remove p [] (suc i) none = none
none_remove p (x ∷ qs) zero none = (or_parts (p x) (list_any p qs) none).1
none_remove p (x ∷ qs) (suc i) none = let parts = or_parts (p x) (list_any p qs) none in or_from (p x) (list_any p (remove qs i)) parts.0 (none_remove p qs i parts.1)

one_remove : (p : Queue → Bool) (qs : List Queue) (i : ℕ) → AtMostOne p qs → AtMostOne p (remove qs i)
one_remove p [] zero one = tt
one_remove p [] (suc i) one = tt
one_remove p (x ∷ qs) zero one = one.1
one_remove p (x ∷ qs) (suc i) one = ((λ h. none_remove p qs i (one.0 h)), one_remove p qs i one.1)

-- the only queue of a lane goes: nothing is left of it there, and each other lane has what it had
part_remove : {X : Type 0} (part : Queue → X) (none : X) (lane l : LaneId) (qs : List Queue) (i : ℕ) (d : Queue) → i < length qs → is_queue lane (get_or qs i d) ≡ true → ((k : ℕ) → k < i → is_queue lane (get_or qs k d) ≡ false)
    → AtMostOne (is_queue lane) qs → part_of part none l (remove qs i) ≡ cond (same_lane lane l) none (part_of part none l qs)
part_remove part none lane l [] i d less is before one = absurd (omega arith)
part_remove part none lane l (x ∷ qs) zero d less is before one =
    let same : x.lane ≡ lane = same_lane-true x.lane lane is in
    elim (cases_Bool (same_lane x.lane l)) [
      | inl h ↦
          let here : same_lane lane l ≡ true = ap (λ y. same_lane y l) (sym same) ∙ h in
          let gone : part_of part none l qs ≡ none = no_part part none l qs (ap (λ y. list_any (is_queue y) qs) (sym (same_lane-true lane l here)) ∙ one.0 is) in
          rw (here, gone) refl
      | inr h ↦ let other : same_lane lane l ≡ false = ap (λ y. same_lane y l) (sym same) ∙ h in rw (h, other) refl
    ]
part_remove part none lane l (x ∷ qs) (suc i) d less is before one =
    let on : part_of part none l (remove qs i) ≡ cond (same_lane lane l) none (part_of part none l qs) = part_remove part none lane l qs i d (omega arith) is (λ k h. before (suc k) (omega arith)) one.1 in
    elim (cases_Bool (same_lane x.lane l)) [
      | inl h ↦
          let other : same_lane lane l ≡ false = false_from_ne_true (same_lane lane l) (λ k. both_ways (same_lane x.lane lane) (before 0 (omega arith)) (ap (same_lane x.lane) (same_lane-true lane l k) ∙ h)) in
          rw (h, other) refl
      | inr h ↦ rw h on
    ]

no_rest : (xs : List ℕ) → length xs ≤ 1 → drop 1 xs ≡ []
no_rest [] few = refl
no_rest (x ∷ []) few = refl
no_rest (x ∷ (y ∷ xs)) few = absurd (omega (arith, few))

no_stop_rest : (xs : List ℕ) (stop : Option ℕ) → length xs ≤ 1 → stop_left xs stop ≡ None
no_stop_rest [] stop few = refl
no_stop_rest (x ∷ []) stop few = refl
no_stop_rest (x ∷ (y ∷ xs)) stop few = absurd (omega (arith, few))

-- a queue of one id loses it
pub dropped_last : (lane : LaneId) (qs : List Queue) (i : ℕ) (q : Queue) → position (is_queue lane) qs ≡ Some i → length (ids_of lane qs) ≤ 1 → AreQueues qs → Dropped lane qs (remove qs i)
dropped_last lane qs i q is few sound =
    let at = position-Some (is_queue lane) qs i q is in
    record {
      ids = λ l. part_remove (λ x. x.ids.items) [] lane l qs i q at.0 at.1 at.2 (sound.one lane) ∙ elim (cases_Bool (same_lane lane l)) [
        | inl h ↦ rw h (sym (no_rest (ids_of lane qs) few) ∙ ap (λ x. drop 1 (ids_of x qs)) (same_lane-true lane l h))
        | inr h ↦ rw h refl
      ];
      stop = λ l. part_remove (λ x. x.stop) None lane l qs i q at.0 at.1 at.2 (sound.one lane) ∙ elim (cases_Bool (same_lane lane l)) [
        | inl h ↦ rw h (sym (no_stop_rest (ids_of lane qs) (stop_of lane qs) few) ∙ ap (λ x. stop_left (ids_of x qs) (stop_of x qs)) (same_lane-true lane l h))
        | inr h ↦ rw h refl
      ];
      keeps = λ old. record { one = λ l. one_remove (is_queue l) qs i (old.one l); full = none_remove is_empty qs i old.full };
    }
