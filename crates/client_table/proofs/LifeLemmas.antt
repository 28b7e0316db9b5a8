-- The life of a client, whatever the cuts.
use Rattle.std.proofs.Common.{◌≡◌, ℕ, ◌+◌, Bool, true, false, List, [], ◌∷◌, ◌++◌, length, Option, Some, None, refl, sym, ap, ap₂, ◌∙◌, subst, append_assoc, append-nil, arith, lit<}
use Rattle.std.specs.List.{flat_map}
use Rattle.std.proofs.lemmas.Grind.{flat_map-append}
use Rattle.std.proofs.lemmas.List.{length-append, take-append-drop}
use Rattle.std.proofs.lemmas.List.Elements.{All-cons, All-nil}
use Rattle.client_frames.specs.Comes.{Hearing, Heard, Part, Words, TooLong, Empty, BadWord, Is, IsPart, heard, hearing_after}
use Rattle.client_frames.specs.Frames.{most_request, reply, request}
use Rattle.client_frames.specs.Laws.{IsSent, requests_of}
use Rattle.client_frames.specs.declared.answer.Answer.{Answer}
use Rattle.client_frames.proofs.FrameLemmas.{part_none, said_none}
use Rattle.client_table.specs.Clients.{Client, accepted, after_read, after_write, heard_in}
use Rattle.client_table.specs.Lives.{AreAsked, AreRequests, Call, IsAsked, IsRefused, IsRepliedTo, IsRest, LifeLaw, WasRead, WasWritten, after_call, after_calls, came_in, refusals, replied_to, replies_by, replies_in, requests_in, taken_by, taken_in}
use Rattle.client_table.proofs.AskLemmas.{is_read}
use Rattle.client_table.proofs.CallLemmas.{unwritten_read}
use Rattle.client_table.proofs.RequestLemmas.{one_list}
use Rattle.f2b_world.specs.declared.answer.GateRead.{GateRead}
use Rattle.f2b_world.specs.declared.answer.GateRead.TheVariants as read
use Rattle.f2b_world.specs.declared.answer.GateWrite.{GateWrite}
use Rattle.f2b_world.specs.declared.answer.GateWrite.TheVariants as write

-- ---- what a call leaves alone

hearing_written : (now : ℕ) (answer : GateWrite) (c : Client) → (after_write now answer c).hearing ≡ c.hearing
hearing_written now (write.Took count) c = refl
hearing_written now write.Quiet c = refl
hearing_written now write.Failed c = refl

hearing_replied : (replied : Option Answer) (c : Client) → (replied_to replied c).hearing ≡ c.hearing
hearing_replied None c = refl
hearing_replied (Some answer) c = refl

-- ---- what is written

-- a call, and what was unwritten before and behind it
written_read : (now : ℕ) (answer : GateRead) (replied : Option Answer) (c : Client) → c.unwritten ≡ []
    → c.unwritten ++ flat_map reply (replies_by (WasRead now answer replied)) ≡ (after_call (WasRead now answer replied) c).unwritten
written_read now answer None c none = append-nil c.unwritten ∙ sym (unwritten_read now answer c)
written_read now answer (Some a) c none = ap (λ (t : List ℕ). t ++ (reply a ++ [])) none ∙ append-nil (reply a)

written_written : (now : ℕ) (answer : GateWrite) (c : Client)
    → c.unwritten ≡ taken_by (WasWritten now answer) c ++ (after_call (WasWritten now answer) c).unwritten
written_written now (write.Took count) c = sym (take-append-drop count c.unwritten)
written_written now write.Quiet c = refl
written_written now write.Failed c = refl

taken_read : (now : ℕ) (answer : GateRead) (replied : Option Answer) (c : Client) → taken_by (WasRead now answer replied) c ≡ []
taken_read now answer replied c = refl

pub written_from : (calls : List Call) (c : Client) → AreAsked calls c
    → c.unwritten ++ flat_map reply (replies_in calls) ≡ taken_in calls c ++ (after_calls calls c).unwritten
written_from [] c asked = append-nil c.unwritten
written_from (WasRead now answer replied ∷ calls) c asked =
    let more : List Answer = replies_by (WasRead now answer replied) in
    let none : c.unwritten ≡ [] = (is_read c answer asked.0.0).none in
    ap (λ (t : List ℕ). c.unwritten ++ t) (flat_map-append reply more (replies_in calls))
    ∙ sym (append_assoc c.unwritten (flat_map reply more) (flat_map reply (replies_in calls)))
    ∙ ap (λ (t : List ℕ). t ++ flat_map reply (replies_in calls)) (written_read now answer replied c none)
    ∙ written_from calls (after_call (WasRead now answer replied) c) asked.1
written_from (WasWritten now answer ∷ calls) c asked =
    let behind : Client = after_call (WasWritten now answer) c in
    ap (λ (t : List ℕ). t ++ flat_map reply (replies_in calls)) (written_written now answer c)
    ∙ append_assoc (taken_by (WasWritten now answer) c) behind.unwritten (flat_map reply (replies_in calls))
    ∙ ap (λ (t : List ℕ). taken_by (WasWritten now answer) c ++ t) (written_from calls behind asked.1)
    ∙ sym (append_assoc (taken_by (WasWritten now answer) c) (taken_in calls behind) (after_calls calls behind).unwritten)

-- ---- what is handed out

-- what stands behind the requests so far
pub record Behind (front : List ℕ) (hearing : Hearing) : Type 0 where
  pub came : hearing.refused ≡ false → hearing.came ≡ front
  pub rest : IsRest hearing.refused front

nothing_came : IsPart most_request []
nothing_came = part_none most_request [] (said_none [] (lit< tt))

abbrev Handed : List Call → Client → List ℕ → Type 0
Handed calls c front = AreRequests (front ++ came_in calls) (requests_in calls c) (after_calls calls c).hearing.refused

abbrev HandsOut : List Call → Client → Type 0
HandsOut calls c = (front : List ℕ) → Behind front c.hearing → AreAsked calls c → Handed calls c front

-- nothing came
same_handed : (calls : List Call) (c next : Client) (front : List ℕ) → next.hearing ≡ c.hearing → HandsOut calls next → AreAsked calls next → Behind front c.hearing
    → Handed calls next front
same_handed calls c next front same hands asked behind = hands front (subst (λ (h : Hearing). Behind front h) (sym same) behind) asked

-- bytes came of which this is heard
more_handed : (h : Heard) (came bytes : List ℕ) (calls : List Call) (next : Client) → Is h (came ++ bytes) → next.hearing ≡ hearing_after (came ++ bytes) h
    → HandsOut calls next → AreAsked calls next
    → AreRequests (came ++ (bytes ++ came_in calls)) (requests_of h ++ requests_in calls next) (after_calls calls next).hearing.refused
more_handed Part came bytes calls next is after hands asked =
    let behind : Behind (came ++ bytes) next.hearing = subst (λ (h : Hearing). Behind (came ++ bytes) h) (sym after) (record { came = λ unrefused. refl; rest = is }) in
    subst (λ (t : List ℕ). AreRequests t (requests_in calls next) (after_calls calls next).hearing.refused) (append_assoc came bytes (came_in calls))
    (hands (came ++ bytes) behind asked)
more_handed (Words words) came bytes calls next is after hands asked =
    let behind : Behind [] next.hearing = subst (λ (h : Hearing). Behind [] h) (sym after) (record { came = λ unrefused. refl; rest = nothing_came }) in
    let others = hands [] behind asked in
    let sent : IsSent words = record { fit = is.fit; bounds = is.bounds } in
    record {
      rest = others.rest;
      is = sym (append_assoc came bytes (came_in calls)) ∙ ap₂ (λ (a b : List ℕ). a ++ b) is.is others.is
          ∙ sym (append_assoc (request words) (flat_map request (requests_in calls next)) others.rest);
      sent = All-cons IsSent words (requests_in calls next) sent others.sent;
      behind = others.behind;
    }
more_handed (TooLong n) came bytes calls next is after hands asked =
    let refused : IsRefused (came ++ bytes) = record { what = TooLong n; fault = tt; is = is } in
    let behind : Behind (came ++ bytes) next.hearing = subst (λ (h : Hearing). Behind (came ++ bytes) h) (sym after) (record { came = λ unrefused. absurd (let e : true ≡ false = unrefused in cc); rest = refused }) in
    subst (λ (t : List ℕ). AreRequests t (requests_in calls next) (after_calls calls next).hearing.refused) (append_assoc came bytes (came_in calls))
    (hands (came ++ bytes) behind asked)
more_handed Empty came bytes calls next is after hands asked =
    let refused : IsRefused (came ++ bytes) = record { what = Empty; fault = tt; is = is } in
    let behind : Behind (came ++ bytes) next.hearing = subst (λ (h : Hearing). Behind (came ++ bytes) h) (sym after) (record { came = λ unrefused. absurd (let e : true ≡ false = unrefused in cc); rest = refused }) in
    subst (λ (t : List ℕ). AreRequests t (requests_in calls next) (after_calls calls next).hearing.refused) (append_assoc came bytes (came_in calls))
    (hands (came ++ bytes) behind asked)
more_handed (BadWord at) came bytes calls next is after hands asked =
    let refused : IsRefused (came ++ bytes) = record { what = BadWord at; fault = tt; is = is } in
    let behind : Behind (came ++ bytes) next.hearing = subst (λ (h : Hearing). Behind (came ++ bytes) h) (sym after) (record { came = λ unrefused. absurd (let e : true ≡ false = unrefused in cc); rest = refused }) in
    subst (λ (t : List ℕ). AreRequests t (requests_in calls next) (after_calls calls next).hearing.refused) (append_assoc came bytes (came_in calls))
    (hands (came ++ bytes) behind asked)

pub handed_from : (calls : List Call) (c : Client) (front : List ℕ) → Behind front c.hearing → AreAsked calls c → Handed calls c front
handed_from [] c front behind asked = record { rest = front; is = append-nil front; sent = All-nil IsSent; behind = behind.rest }
handed_from (WasWritten now answer ∷ calls) c front behind asked =
    same_handed calls c (after_write now answer c) front (hearing_written now answer c) (handed_from calls (after_write now answer c)) asked.1 behind
handed_from (WasRead now (read.Bytes bytes) replied ∷ calls) c front behind asked =
    let next : Client = after_call (WasRead now (read.Bytes bytes) replied) c in
    let unrefused : c.hearing.refused ≡ false = (is_read c (read.Bytes bytes) asked.0.0).unrefused in
    let h : Heard = heard (c.hearing.came ++ bytes) in
    let after : next.hearing ≡ hearing_after (c.hearing.came ++ bytes) h = hearing_replied replied (after_read now (read.Bytes bytes) c) in
    subst (λ (t : List ℕ). AreRequests (t ++ (bytes ++ came_in calls)) (requests_of h ++ requests_in calls next) (after_calls calls next).hearing.refused) (behind.came unrefused)
    (more_handed h c.hearing.came bytes calls next asked.0.1 after (handed_from calls next) asked.1)
handed_from (WasRead now read.Quiet replied ∷ calls) c front behind asked =
    let next : Client = after_call (WasRead now read.Quiet replied) c in
    same_handed calls c next front (hearing_replied replied c) (handed_from calls next) asked.1 behind
handed_from (WasRead now read.End replied ∷ calls) c front behind asked =
    let next : Client = after_call (WasRead now read.End replied) c in
    same_handed calls c next front (hearing_replied replied (after_read now read.End c)) (handed_from calls next) asked.1 behind
handed_from (WasRead now read.Failed replied ∷ calls) c front behind asked =
    let next : Client = after_call (WasRead now read.Failed replied) c in
    same_handed calls c next front (hearing_replied replied (after_read now read.Failed c)) (handed_from calls next) asked.1 behind
handed_from (WasRead now read.NoMemory replied ∷ calls) c front behind asked =
    let next : Client = after_call (WasRead now read.NoMemory replied) c in
    same_handed calls c next front (hearing_replied replied c) (handed_from calls next) asked.1 behind

-- ---- one reply to each

-- what is heard, and the reply to it
count_heard : (h : Heard) (came : List ℕ) (replied : Option Answer) (now : ℕ) (answer : GateRead) → IsRepliedTo h replied
    → length (replies_by (WasRead now answer replied)) ≡ length (requests_of h) + refusals (hearing_after came h).refused
count_heard Part came None now answer fits = refl
count_heard Part came (Some a) now answer fits = absurd fits
count_heard (Words words) came None now answer fits = absurd fits
count_heard (Words words) came (Some a) now answer fits = refl
count_heard (TooLong n) came None now answer fits = absurd fits
count_heard (TooLong n) came (Some a) now answer fits = refl
count_heard Empty came None now answer fits = absurd fits
count_heard Empty came (Some a) now answer fits = refl
count_heard (BadWord at) came None now answer fits = absurd fits
count_heard (BadWord at) came (Some a) now answer fits = refl

count_read : (now : ℕ) (answer : GateRead) (replied : Option Answer) (c : Client) → c.hearing.refused ≡ false → IsRepliedTo (heard_in answer c) replied
    → length (replies_by (WasRead now answer replied)) ≡ length (requests_of (heard_in answer c)) + refusals (after_read now answer c).hearing.refused
count_read now (read.Bytes bytes) replied c unrefused fits = count_heard (heard (c.hearing.came ++ bytes)) (c.hearing.came ++ bytes) replied now (read.Bytes bytes) fits
count_read now read.Quiet replied c unrefused fits = count_heard Part c.hearing.came replied now read.Quiet fits ∙ ap (λ (b : Bool). 0 + refusals b) (sym unrefused)
count_read now read.End replied c unrefused fits = count_heard Part c.hearing.came replied now read.End fits ∙ ap (λ (b : Bool). 0 + refusals b) (sym unrefused)
count_read now read.Failed replied c unrefused fits = count_heard Part c.hearing.came replied now read.Failed fits ∙ ap (λ (b : Bool). 0 + refusals b) (sym unrefused)
count_read now read.NoMemory replied c unrefused fits = count_heard Part c.hearing.came replied now read.NoMemory fits ∙ ap (λ (b : Bool). 0 + refusals b) (sym unrefused)

count_from : (calls : List Call) (c : Client) → AreAsked calls c
    → refusals c.hearing.refused + length (replies_in calls) ≡ length (requests_in calls c) + refusals (after_calls calls c).hearing.refused
count_from [] c asked = omega arith
count_from (WasWritten now answer ∷ calls) c asked =
    let next : Client = after_write now answer c in
    let same : refusals next.hearing.refused ≡ refusals c.hearing.refused = ap (λ (h : Hearing). refusals h.refused) (hearing_written now answer c) in
    ap (λ (n : ℕ). n + length (replies_in calls)) (sym same) ∙ count_from calls next asked.1
count_from (WasRead now answer replied ∷ calls) c asked =
    let next : Client = after_call (WasRead now answer replied) c in
    let unrefused : c.hearing.refused ≡ false = (is_read c answer asked.0.0).unrefused in
    let before : refusals c.hearing.refused ≡ 0 = ap refusals unrefused in
    let here = count_read now answer replied c unrefused asked.0.2 in
    let same : refusals next.hearing.refused ≡ refusals (after_read now answer c).hearing.refused =
    ap (λ (h : Hearing). refusals h.refused) (hearing_replied replied (after_read now answer c)) in
    let rest = count_from calls next asked.1 in
    omega (
      arith,
      before,
      here,
      same,
      rest,
      length-append (replies_by (WasRead now answer replied)) (replies_in calls),
      length-append (requests_of (heard_in answer c)) (requests_in calls next),
    )

-- ---- what holds where it is read

asked_before : (calls : List Call) (call : Call) (c : Client) → AreAsked (calls ++ call ∷ []) c → AreAsked calls c × IsAsked call (after_calls calls c)
asked_before [] call c asked = (tt, asked.0)
asked_before (first ∷ calls) call c asked =
    let rest = asked_before calls call (after_call first c) asked.1 in ((asked.0, rest.0), rest.1)

turn_from : (calls : List Call) (at : ℕ) (answer : GateRead) (replied : Option Answer) (c : Client) → c.unwritten ≡ [] → c.hearing.refused ≡ false
    → AreAsked (calls ++ WasRead at answer replied ∷ []) c
    → (taken_in calls c ≡ flat_map reply (replies_in calls)) × (length (replies_in calls) ≡ length (requests_in calls c))
turn_from calls at answer replied c none unrefused asked =
    let before = asked_before calls (WasRead at answer replied) c asked in
    let last : Client = after_calls calls c in
    let reads = is_read last answer before.1.0 in
    let written = written_from calls c before.0 in
    let count = count_from calls c before.0 in
    let first : refusals c.hearing.refused ≡ 0 = ap refusals unrefused in
    let end : refusals last.hearing.refused ≡ 0 = ap refusals reads.unrefused in (
      sym (append-nil (taken_in calls c)) ∙ ap (λ (t : List ℕ). taken_in calls c ++ t) (sym reads.none) ∙ sym written ∙ ap (λ (t : List ℕ). t ++ flat_map reply (replies_in calls)) none,
      omega (arith, count, first, end),
    )

pub life_law : LifeLaw
life_law = record {
  written = λ conn now calls asked. written_from calls (accepted conn now) asked;
  handed = λ conn now calls asked. handed_from calls (accepted conn now) [] (record { came = λ unrefused. refl; rest = nothing_came }) asked;
  counted = λ conn now calls asked. omega (arith, count_from calls (accepted conn now) asked);
  one = one_list;
  in_turn = λ conn now calls at answer replied asked. turn_from calls at answer replied (accepted conn now) refl refl asked;
}
