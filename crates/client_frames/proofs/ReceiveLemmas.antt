-- What is received goes on: call by call, and part by part.
use Rattle.std.proofs.Common.{◌≡◌, ◌≢◌, ℕ, ◌+◌, ◌<◌, ◌≤◌, Bool, true, List, [], ◌++◌, length, drop, Option, Some, None, Result, Ok, Err, refl, sym, ap, ap₂, ◌∙◌, subst, append_assoc, append-nil, arith, inl, inr, IfOk}
use Rattle.std.proofs.lemmas.List.{length-append}
use Rattle.f2b_world.specs.declared.answer.LinkRead.{LinkRead}
use Rattle.f2b_world.specs.declared.answer.LinkRead.TheVariants.{Bytes as LinkBytes, End, Failed as ReadFailed, NoMemory as ReadNoMemory}
use Rattle.f2b_world.specs.Faults.{Fault, OfLink, Rose}
use Rattle.f2b_world.specs.Links.{Talk, Goes, Receives, read_fault}
use Rattle.f2b_world.specs.Told.{Standing, Spoken}
use Rattle.client_frames.specs.Comes.{IsPart, said_length}
use Rattle.client_frames.specs.Frames.{IsReply, framed, most_reply, reply}
use Rattle.client_frames.specs.Replies.{Answers, Fills, Gains, IsBadLength, IsBadFrame, IsMore, IsTrueOf, IsWhole, Judges, Received, Says}
use Rattle.client_frames.specs.declared.answer.Answer.{Answer}
use Rattle.client_frames.specs.declared.error.ReceiveError.{ReceiveError}
use Rattle.client_frames.specs.declared.error.ReceiveError.TheVariants.{LinkFault, LinkEnded, BadReply, NoMemory}
use Rattle.client_frames.proofs.FrameLemmas.{AreBytes, part_none, part_some, said_front, said_none, whole_is_framed}

-- ---- talks

-- nothing more came of it
abbrev Nothing : List ℕ → Bool → Type 0
Nothing more ended = more ≡ []

gains_none : (talk : Talk) → Gains Nothing talk talk
gains_none talk = record {
  more = [];
  is = ap (λ (bytes : List ℕ). let after : Talk = record talk { received = bytes } in after) (sym (append-nil talk.received));
  holds = refl;
}

goes_none : (talk : Option Talk) → Goes talk talk (Gains Nothing)
goes_none None = tt
goes_none (Some talk) = (talk, refl, gains_none talk)

pub received_none : (s : Standing) → Received s s Nothing
received_none s = record { told = refl; shelf = refl; talk = goes_none s.talk; steady = λ kind. omega arith; others = λ kind other. refl }

module _ (P Q R : List ℕ → Bool → Type 0) (joins : (xs ys : List ℕ) (e d : Bool) → P xs e → Q ys d → R (xs ++ ys) d) where
  gains_then : (a b c : Talk) → Gains P a b → Gains Q b c → Gains R a c
  gains_then a b c first next = record {
    more = first.more ++ next.more;
    is = next.is ∙ ap (λ (t : Talk). let after : Talk = record t { received = t.received ++ next.more; ended = c.ended } in after) first.is
        ∙ ap (λ (bytes : List ℕ). let after : Talk = record a { received = bytes; ended = c.ended } in after) (append_assoc a.received first.more next.more);
    holds = joins first.more next.more b.ended c.ended first.holds next.holds;
  }

  goes_then : (a b c : Option Talk) → Goes a b (Gains P) → Goes b c (Gains Q) → Goes a c (Gains R)
  goes_then a b None first next = tt
  goes_then a None (Some t) first next = absurd (let e : None ≡ Some next.0 = next.1 in cc)
  goes_then a (Some s) (Some t) first next =
      let same : s ≡ next.0 = let e : Some s ≡ Some next.0 = next.1 in cc in
      (first.0, first.1, gains_then first.0 s t first.2 (subst (λ (u : Talk). Gains Q u t) (sym same) next.2))

  pub received_then : (a b c : Standing) → Received a b P → Received b c Q → Received a c R
  received_then a b c first next = record {
    told = next.told ∙ first.told;
    shelf = next.shelf ∙ first.shelf;
    talk = goes_then a.talk b.talk c.talk first.talk next.talk;
    steady = λ kind. omega (arith, first.steady kind, next.steady kind);
    others = λ kind other. next.others kind other ∙ first.others kind other;
  }

-- what is weaker was received too
pub received_weaker : (P R : List ℕ → Bool → Type 0) (a b : Standing) → ((xs : List ℕ) (e : Bool) → P xs e → R xs e) → Received a b P → Received a b R
received_weaker P R a b weaker first = record {
  told = first.told;
  shelf = first.shelf;
  talk = goes_weaker a.talk b.talk first.talk;
  steady = first.steady;
  others = first.others;
}
  where
    goes_weaker : (old new : Option Talk) → Goes old new (Gains P) → Goes old new (Gains R)
    goes_weaker old None goes = tt
    goes_weaker old (Some t) goes = (goes.0, goes.1, record { more = goes.2.more; is = goes.2.is; holds = weaker goes.2.more t.ended goes.2.holds })

-- ---- one call

-- what one call brings
abbrev pub Brings : LinkRead → List ℕ → Bool → Type 0
Brings (LinkBytes bytes) more ended = more ≡ bytes
Brings End more ended = (more ≡ []) × (ended ≡ true)
Brings ReadFailed more ended = more ≡ []
Brings ReadNoMemory more ended = more ≡ []

gains_call : (answer : LinkRead) (a b : Talk) → Receives answer a b → Gains (Brings answer) a b
gains_call (LinkBytes bytes) a b is = record { more = bytes; is = is.1 ∙ ap (λ (e : Bool). let after : Talk = record a { received = a.received ++ bytes; ended = e } in after) (sym (ap (λ (t : Talk). t.ended) is.1)); holds = refl }
gains_call End a b is = record {
  more = [];
  is = is ∙ ap₂ (λ (bytes : List ℕ) (e : Bool). let after : Talk = record a { received = bytes; ended = e } in after) (sym (append-nil a.received)) (sym (ap (λ (t : Talk). t.ended) is));
  holds = (refl, ap (λ (t : Talk). t.ended) is);
}
gains_call ReadFailed a b is = subst (λ (t : Talk). Gains Nothing a t) (sym is) (gains_none a)
gains_call ReadNoMemory a b is = subst (λ (t : Talk). Gains Nothing a t) (sym is) (gains_none a)

goes_call : (answer : LinkRead) (old new : Option Talk) → Goes old new (Receives answer) → Goes old new (Gains (Brings answer))
goes_call answer old None goes = tt
goes_call answer old (Some t) goes = (goes.0, goes.1, gains_call answer goes.0 t goes.2)

other_kinds : (answer : LinkRead) (kind : Fault) → kind ≢ OfLink → read_fault answer ≢ Some kind
other_kinds (LinkBytes bytes) kind other is = absurd (let e : None ≡ Some kind = is in cc)
other_kinds End kind other is = absurd (let e : None ≡ Some kind = is in cc)
other_kinds ReadFailed kind other is = other (let e : Some OfLink ≡ Some kind = is in cc)
other_kinds ReadNoMemory kind other is = absurd (let e : None ≡ Some kind = is in cc)

pub received_call : (answer : LinkRead) (old new : Standing) → Spoken old (read_fault answer) (Receives answer) new → Received old new (Brings answer)
received_call answer old new spoken = record {
  told = spoken.told;
  shelf = spoken.shelf;
  talk = goes_call answer old.talk new.talk spoken.talk;
  steady = spoken.counts.steady;
  others = λ kind other. spoken.counts.still kind (other_kinds answer kind other);
}

rose_later : (a b c : ℕ) → a ≤ b → Rose b c → Rose a c
rose_later a b c le rose = elim rose [ inl less ↦ inl (omega arith) | inr last ↦ inr last ]

-- a failed call raised the count of its fault, also since an earlier call
pub rose_by_call : (P : List ℕ → Bool → Type 0) (old mid new : Standing) (answer : LinkRead) → answer ≡ ReadFailed → Received old mid P
    → Spoken mid (read_fault answer) (Receives answer) new → Rose (old.faults OfLink) (new.faults OfLink)
rose_by_call P old mid new answer failed before spoken =
    rose_later (old.faults OfLink) (mid.faults OfLink) (new.faults OfLink) (before.steady OfLink) (cause answer failed spoken)
  where
    cause : (answer : LinkRead) → answer ≡ ReadFailed → Spoken mid (read_fault answer) (Receives answer) new → Rose (mid.faults OfLink) (new.faults OfLink)
    cause (LinkBytes bytes) failed spoken = absurd (cc)
    cause End failed spoken = absurd (cc)
    cause ReadFailed failed spoken = spoken.counts.cause
    cause ReadNoMemory failed spoken = absurd (cc)

-- a count that rose since a later moment rose since an earlier one
pub rose_since : (P : List ℕ → Bool → Type 0) (old mid new : Standing) → Received old mid P → Rose (mid.faults OfLink) (new.faults OfLink) → Rose (old.faults OfLink) (new.faults OfLink)
rose_since P old mid new before rose = rose_later (old.faults OfLink) (mid.faults OfLink) (new.faults OfLink) (before.steady OfLink) rose

-- ---- bytes that are added to others

-- some bytes, and then those that came
abbrev pub Adds : List ℕ → List ℕ → List ℕ → Bool → Type 0
Adds before after more ended = after ≡ before ++ more

pub adds_none : (before : List ℕ) (s : Standing) → Received s s (Adds before before)
adds_none before s = received_weaker Nothing (Adds before before) s s (λ xs e none. sym (append-nil before) ∙ ap (λ (t : List ℕ). before ++ t) (sym none)) (received_none s)

pub adds_call : (before came next bytes : List ℕ) (answer : LinkRead) (a b c : Standing) → answer ≡ LinkBytes bytes → Received a b (Adds before came)
    → Spoken b (read_fault answer) (Receives answer) c → next ≡ came ++ bytes → Received a c (Adds before next)
adds_call before came next bytes answer a b c is first spoken grown =
    received_then (Adds before came) (Brings (LinkBytes bytes)) (Adds before next)
    (λ xs ys e d added brought. grown ∙ ap₂ (λ (s t : List ℕ). s ++ t) added (sym brought) ∙ append_assoc before xs ys)
    a b c first (received_call (LinkBytes bytes) b c (subst (λ (r : LinkRead). Spoken b (read_fault r) (Receives r) c) is spoken))

-- the calls of a filling that ends early
pub fills_call : (count : ℕ) (before came : List ℕ) (after : List ℕ) (error : ReceiveError) (answer : LinkRead) (a b c : Standing) → Received a b (Adds before came)
    → Spoken b (read_fault answer) (Receives answer) c
    → ((xs ys : List ℕ) (d : Bool) → came ≡ before ++ xs → Brings answer ys d → Fills count before after (Err error) (xs ++ ys) d)
    → Received a c (Fills count before after (Err error))
fills_call count before came after error answer a b c first spoken ends =
    received_then (Adds before came) (Brings answer) (Fills count before after (Err error)) (λ xs ys e d added brought. ends xs ys d added brought)
    a b c first (received_call answer b c spoken)

pub fills_end : (count : ℕ) (before came after : List ℕ) (answer : LinkRead) → answer ≡ End → length came < count → (xs ys : List ℕ) (d : Bool)
    → came ≡ before ++ xs → Brings answer ys d → Fills count before after (Err LinkEnded) (xs ++ ys) d
fills_end count before came after answer is less xs ys d added brought =
    let ends : Brings End ys d = subst (λ (r : LinkRead). Brings r ys d) is brought in
    (ends.1, omega (arith, ap length added, length-append before xs, length-append before (xs ++ ys), length-append xs ys, ap length ends.0))

pub fills_fault : (count : ℕ) (before came after : List ℕ) (answer : LinkRead) → answer ≡ ReadFailed → length came < count → (xs ys : List ℕ) (d : Bool)
    → came ≡ before ++ xs → Brings answer ys d → Fills count before after (Err LinkFault) (xs ++ ys) d
fills_fault count before came after answer is less xs ys d added brought =
    let none : ys ≡ [] = subst (λ (r : LinkRead). Brings r ys d) is brought in
    omega (arith, ap length added, length-append before xs, length-append before (xs ++ ys), length-append xs ys, ap length none)

-- ---- a whole reply

-- the length was not received whole
pub begins_with_fault : (after : List ℕ) (error : ReceiveError) (more : List ℕ) (ended : Bool) → Fills 4 [] after (Err error) more ended → IsTrueOf (Err error) more ended
begins_with_fault after LinkFault more ended fills = part_none most_reply more (said_none more fills)
begins_with_fault after LinkEnded more ended fills = (fills.0, part_none most_reply more (said_none more fills.1))
begins_with_fault after BadReply more ended fills = absurd fills
begins_with_fault after NoMemory more ended fills = tt

-- the length is none that a reply has
pub says_fault : (came : List ℕ) (error : ReceiveError) (more : List ℕ) (ended : Bool) → Says came (Err error) → Fills 4 [] came (Ok tt) more ended → IsTrueOf (Err error) more ended
says_fault came LinkFault more ended says fills = absurd says
says_fault came LinkEnded more ended says fills = absurd says
says_fault came BadReply more ended says fills = inl (subst IsBadLength fills says)
says_fault came NoMemory more ended says fills = absurd says

-- what follows the length was not received whole
pub goes_on_with_fault : (count : ℕ) (came after : List ℕ) (error : ReceiveError) (xs ys : List ℕ) (e d : Bool) → Says came (Ok count)
    → Fills 4 [] came (Ok tt) xs e → Fills (4 + count) came after (Err error) ys d → IsTrueOf (Err error) (xs ++ ys) d
goes_on_with_fault count came after LinkFault xs ys e d says first next =
    subst (λ (bytes : List ℕ). IsPart most_reply (bytes ++ ys)) first (part_some most_reply (came ++ ys) count (said_front came ys count says.0) says.1 says.2 next)
goes_on_with_fault count came after LinkEnded xs ys e d says first next =
    (next.0, subst (λ (bytes : List ℕ). IsPart most_reply (bytes ++ ys)) first (part_some most_reply (came ++ ys) count (said_front came ys count says.0) says.1 says.2 next.1))
goes_on_with_fault count came after BadReply xs ys e d says first next = absurd next
goes_on_with_fault count came after NoMemory xs ys e d says first next = tt

-- all of it was received, and is a whole frame
pub whole_came : (count : ℕ) (came whole xs ys : List ℕ) (e d : Bool) → Says came (Ok count) → Fills 4 [] came (Ok tt) xs e → Fills (4 + count) came whole (Ok tt) ys d
    → whole ≡ xs ++ ys
whole_came count came whole xs ys e d says first next = next ∙ ap (λ (bytes : List ℕ). bytes ++ ys) first

pub is_true_of_whole : (whole : List ℕ) (result : Result Answer ReceiveError) (came : List ℕ) (d : Bool) → whole ≡ came → Judges whole result → IsTrueOf result came d
is_true_of_whole whole (Ok answer) came d is judges = sym is ∙ judges.0
is_true_of_whole whole (Err BadReply) came d is judges = inr (subst IsBadFrame is judges)
is_true_of_whole whole (Err NoMemory) came d is judges = tt
is_true_of_whole whole (Err LinkFault) came d is judges = absurd judges
is_true_of_whole whole (Err LinkEnded) came d is judges = absurd judges

pub whole_is : (count : ℕ) (came whole : List ℕ) → Says came (Ok count) → IsMore came whole → length whole ≡ 4 + count → IsWhole whole
whole_is count came whole says more len = record {
  count = count;
  said = ap said_length more.1 ∙ said_front came more.0 count says.0;
  some = says.1;
  few = says.2;
  len = len;
}

pub bounds_of : (whole : List ℕ) (result : Result Answer ReceiveError) → Judges whole result → IfOk result IsReply
bounds_of whole (Ok answer) judges = judges.1
bounds_of whole (Err error) judges = tt

-- what is made of the bytes behind the length is true of the frame
pub judges_frame : (whole : List ℕ) (result : Result Answer ReceiveError) → AreBytes whole → IsWhole whole → Answers (drop 4 whole) result → Judges whole result
unfolding reply
judges_frame whole (Ok answer) fits is answers =
    let frame = whole_is_framed whole is.count fits is.said is.len in
    (frame.is ∙ ap framed answers.0, answers.1)
judges_frame whole (Err BadReply) fits is none =
    let frame = whole_is_framed whole is.count fits is.said is.len in
    record { body = drop 4 whole; is = frame.is; some = omega (arith, frame.len, is.some); few = omega (arith, frame.len, is.few); bad = none }
judges_frame whole (Err NoMemory) fits is none = tt
judges_frame whole (Err LinkFault) fits is none = absurd none
judges_frame whole (Err LinkEnded) fits is none = absurd none

pub more_none : (before : List ℕ) → IsMore before before
more_none before = ([], sym (append-nil before))

pub more_then : (before came next bytes : List ℕ) → IsMore before came → next ≡ came ++ bytes → IsMore before next
more_then before came next bytes more grown = (more.0 ++ bytes, grown ∙ ap (λ (t : List ℕ). t ++ bytes) more.1 ∙ append_assoc before more.0 bytes)
