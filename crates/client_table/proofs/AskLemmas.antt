-- What a client asks, and the answers to it.
use Rattle.std.proofs.Common.{◌≡◌, ℕ, ◌≤◌, ◌==◌, Bool, true, false, List, [], ◌∷◌, length, refl, sym, subst, arith, if◌then◌else◌}
use Rattle.std.proofs.lemmas.Bool.{ne_eqb}
use Rattle.client_frames.specs.Comes.{wanted, wanted_of}
use Rattle.client_table.specs.Clients.{Asks, Client, AnswersRead, AnswersWrite, Nothing, Reads, Writes, asks}
use Rattle.f2b_world.specs.Told.{IsReceived, IsTaken}
use Rattle.f2b_world.specs.declared.answer.GateRead.{GateRead}
use Rattle.f2b_world.specs.declared.answer.GateRead.TheVariants as read
use Rattle.f2b_world.specs.declared.answer.GateWrite.{GateWrite}
use Rattle.f2b_world.specs.declared.answer.GateWrite.TheVariants as write

-- an answer to what was asked, as a caller has it
pub read_answered : (asked : Asks) (most : ℕ) (answer : GateRead) → Reads most ≡ asked → IsReceived most answer → AnswersRead asked answer
read_answered asked most answer is fits = subst (λ (a : Asks). AnswersRead a answer) is fits

pub write_answered : (asked : Asks) (bytes : List ℕ) (answer : GateWrite) → Writes bytes ≡ asked → IsTaken (length bytes) answer → AnswersWrite asked answer
write_answered asked bytes answer is fits = subst (λ (a : Asks). AnswersWrite a answer) is fits

-- bytes of which there is one are not none
pub not_none : (byte : ℕ) (bytes : List ℕ) → (length (byte ∷ bytes) == 0) ≡ false
not_none byte bytes = ne_eqb (length (byte ∷ bytes)) 0 (λ e. omega arith)

-- ---- what a client that is read is like

pub record IsRead (unwritten : List ℕ) (refused : Bool) : Type 0 where
  pub none : unwritten ≡ []
  pub unrefused : refused ≡ false

reads_when : (unwritten came : List ℕ) (refused : Bool) (answer : GateRead)
    → AnswersRead (if length unwritten == 0 then (if refused then Nothing else Reads (wanted_of came refused)) else Writes unwritten) answer → IsRead unwritten refused
reads_when [] came true answer fits = absurd fits
reads_when [] came false answer fits = record { none = refl; unrefused = refl }
reads_when (byte ∷ bytes) came refused answer fits = absurd (rw (not_none byte bytes) at fits)

pub is_read : (c : Client) (answer : GateRead) → AnswersRead (asks c) answer → IsRead c.unwritten c.hearing.refused
is_read c answer fits = reads_when c.unwritten c.hearing.came c.hearing.refused answer fits

received_when : (unwritten came : List ℕ) (refused : Bool) (answer : GateRead)
    → AnswersRead (if length unwritten == 0 then (if refused then Nothing else Reads (wanted_of came refused)) else Writes unwritten) answer
    → IsReceived (wanted_of came refused) answer
received_when [] came true answer fits = absurd fits
received_when [] came false answer fits = fits
received_when (byte ∷ bytes) came refused answer fits = absurd (rw (not_none byte bytes) at fits)

-- an answer to a client that is read is one to a read of what it wants
pub is_received : (c : Client) (answer : GateRead) → AnswersRead (asks c) answer → IsReceived (wanted c.hearing) answer
is_received c answer fits = received_when c.unwritten c.hearing.came c.hearing.refused answer fits

taken_when : (unwritten came : List ℕ) (refused : Bool) (answer : GateWrite)
    → AnswersWrite (if length unwritten == 0 then (if refused then Nothing else Reads (wanted_of came refused)) else Writes unwritten) answer → IsTaken (length unwritten) answer
taken_when [] came true answer fits = absurd fits
taken_when [] came false answer fits = absurd fits
taken_when (byte ∷ bytes) came refused answer fits = rw (not_none byte bytes) at fits

-- an answer to a client that is written to is one to a write of all that is unwritten
pub is_taken : (c : Client) (answer : GateWrite) → AnswersWrite (asks c) answer → IsTaken (length c.unwritten) answer
is_taken c answer fits = taken_when c.unwritten c.hearing.came c.hearing.refused answer fits

-- bytes that came are some, and no more than are wanted
pub bytes_received : (c : Client) (answer : GateRead) (bytes piece : List ℕ) → AnswersRead (asks c) answer → answer ≡ read.Bytes bytes → piece ≡ bytes
    → (1 ≤ length piece) × (length piece ≤ wanted c.hearing)
bytes_received c answer bytes piece fits is same =
    let received : IsReceived (wanted c.hearing) (read.Bytes bytes) = subst (λ (a : GateRead). IsReceived (wanted c.hearing) a) is (is_received c answer fits) in
    subst (λ (some : List ℕ). (1 ≤ length some) × (length some ≤ wanted c.hearing)) (sym same) received

-- bytes that were taken are no more than are unwritten
pub count_taken : (c : Client) (answer : GateWrite) (count : ℕ) → AnswersWrite (asks c) answer → answer ≡ write.Took count → count ≤ length c.unwritten
count_taken c answer count fits is =
    let taken : IsTaken (length c.unwritten) (write.Took count) = subst (λ (a : GateWrite). IsTaken (length c.unwritten) a) is (is_taken c answer fits) in taken.1
