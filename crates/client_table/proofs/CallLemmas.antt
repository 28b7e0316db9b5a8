-- What a caller knows of the client at a place around a call on it.
use Rattle.std.proofs.Common.{◌≡◌, ℕ, suc, zero, ◌==◌, Bool, List, [], ◌∷◌, length, refl, ◌∙◌, if◌then◌else◌}
use Rattle.client_frames.specs.Comes.{wanted_of}
use Rattle.client_table.specs.Clients.{Client, AnswersRead, Nothing, Reads, Writes, after_read, asks_at, changed_at, unwritten_at}
use Rattle.client_table.proofs.AskLemmas.{is_read, not_none, read_answered}
use Rattle.f2b_world.specs.declared.answer.GateRead.{GateRead}
use Rattle.f2b_world.specs.declared.answer.GateRead.TheVariants as read

-- a read leaves what is unwritten as it is
pub unwritten_read : (now : ℕ) (answer : GateRead) (c : Client) → (after_read now answer c).unwritten ≡ c.unwritten
unwritten_read now (read.Bytes bytes) c = refl
unwritten_read now read.Quiet c = refl
unwritten_read now read.End c = refl
unwritten_read now read.Failed c = refl
unwritten_read now read.NoMemory c = refl

-- nothing is unwritten to a client that was read: so a reply can be put in
pub read_unwritten : (now : ℕ) (answer : GateRead) (place : ℕ) (cs : List Client) → AnswersRead (asks_at place cs) answer
    → unwritten_at place (changed_at place (after_read now answer) cs) ≡ []
read_unwritten now answer place [] fits = absurd fits
read_unwritten now answer zero (c ∷ cs) fits = unwritten_read now answer c ∙ (is_read c answer fits).none
read_unwritten now answer (suc place) (c ∷ cs) fits = read_unwritten now answer place cs fits

-- nor is anything to one that asks to be read
unread : (answer : GateRead) (place : ℕ) (cs : List Client) → AnswersRead (asks_at place cs) answer → unwritten_at place cs ≡ []
unread answer place [] fits = absurd fits
unread answer zero (c ∷ cs) fits = (is_read c answer fits).none
unread answer (suc place) (c ∷ cs) fits = unread answer place cs fits

pub reads_unwritten : (most place : ℕ) (cs : List Client) → Reads most ≡ asks_at place cs → unwritten_at place cs ≡ []
reads_unwritten most place cs is = unread read.Quiet place cs (read_answered (asks_at place cs) most read.Quiet is tt)

-- nor to one that asks nothing
none_when : (unwritten came : List ℕ) (refused : Bool)
    → Nothing ≡ (if length unwritten == 0 then (if refused then Nothing else Reads (wanted_of came refused)) else Writes unwritten) → unwritten ≡ []
none_when [] came refused is = refl
none_when (byte ∷ bytes) came refused is = absurd (let e : Nothing ≡ Writes (byte ∷ bytes) = rw (not_none byte bytes) at is in cc)

pub nothing_unwritten : (place : ℕ) (cs : List Client) → Nothing ≡ asks_at place cs → unwritten_at place cs ≡ []
nothing_unwritten place [] is = refl
nothing_unwritten zero (c ∷ cs) is = none_when c.unwritten c.hearing.came c.hearing.refused is
nothing_unwritten (suc place) (c ∷ cs) is = nothing_unwritten place cs is
