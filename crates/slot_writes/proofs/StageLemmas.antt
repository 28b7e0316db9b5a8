-- Bytes behind a closed gate, and then the gate.
use Rattle.std.proofs.Common.{ℕ, ◌≡◌, ◌+◌, ◌<◌, ◌^◌, inl, inr, List, [], ◌∷◌, ◌++◌, length, drop, length-append, refl, sym, ap, ◌∙◌, append_assoc, subst, arith}
use Rattle.f2b_world.specs.Slots.{Slot, IsOutside, settled, write_to, written}
use Rattle.slot_writes.specs.Writes.{Write, Put, Sync, AreOn}
use Rattle.slot_writes.specs.Points.{after_calls, AllPoints, AreShort}
use Rattle.slot_writes.specs.Stages.{IsBehind, IsOpening, IsAdding}
use Rattle.slot_writes.specs.Entries.{behind_gate}
use Rattle.slot_writes.proofs.ByteLemmas.{front_stays, settled_image, one_byte, written_at}
use Rattle.slot_writes.proofs.RunLemmas.{points_weaker, points_append, after_calls-append}

-- ---- bytes behind the gate

abbrev pub put_calls : ℕ → ℕ → List ℕ → List Write
put_calls slot gate bytes = Put slot (gate + 1) bytes ∷ Sync slot ∷ []

-- the front and the closed gate stay while there is no open range in them
behind_of : (front rest : List ℕ) (s : Slot) → s.synced ≡ front ++ 0 ∷ rest → ((i : ℕ) → i < length front + 1 → IsOutside i s.ranges) → IsBehind front s
behind_of front rest s is outside image permits =
    let whole = front ++ 0 ∷ [] in
    let long : length whole ≡ length front + 1 = length-append front (0 ∷ []) in
    let stays = front_stays s whole rest image (is ∙ sym (append_assoc front (0 ∷ []) rest)) (λ i below. outside i (omega (arith, below, long))) permits in
    (drop (length whole) image, stays ∙ append_assoc front (0 ∷ []) (drop (length whole) image))

behind_settled : (front rest : List ℕ) → IsBehind front (settled (front ++ 0 ∷ rest))
behind_settled front rest = behind_of front rest (settled (front ++ 0 ∷ rest)) refl (λ i below. tt)

behind_written : (front rest bytes : List ℕ) (place : ℕ) → place ≡ length front + 1 → IsBehind front (write_to (settled (front ++ 0 ∷ rest)) place bytes)
behind_written front rest bytes place is = behind_of front rest (write_to (settled (front ++ 0 ∷ rest)) place bytes) refl (λ i below. (inl (omega (arith, is, below)), tt))

pub put_end : (slot gate : ℕ) (front rest bytes : List ℕ) → gate ≡ length front
    → after_calls (settled (front ++ 0 ∷ rest)) (put_calls slot gate bytes) ≡ settled (front ++ 0 ∷ (bytes ++ drop (length bytes) rest))
put_end slot gate front rest bytes is =
    let whole = front ++ 0 ∷ [] in
    let here : gate + 1 ≡ length whole = omega (arith, is, length-append front (0 ∷ [])) in
    ap (λ (r : List ℕ). settled (written r (gate + 1) bytes)) (sym (append_assoc front (0 ∷ []) rest))
    ∙ ap settled (written_at whole rest bytes (gate + 1) here ∙ append_assoc front (0 ∷ []) (bytes ++ drop (length bytes) rest))

pub put_points : (slot gate : ℕ) (front rest bytes : List ℕ) → gate ≡ length front → AllPoints (IsBehind front) (settled (front ++ 0 ∷ rest)) (put_calls slot gate bytes)
put_points slot gate front rest bytes is = (
  behind_settled front rest,
  (
    behind_written front rest bytes (gate + 1) (omega (arith, is)),
    subst (IsBehind front) (sym (put_end slot gate front rest bytes is)) (behind_settled front (bytes ++ drop (length bytes) rest)),
  ),
)

-- ---- the gate

abbrev pub unlock_calls : ℕ → ℕ → List Write
unlock_calls slot gate = Put slot gate (1 ∷ []) ∷ Sync slot ∷ []

pub unlock_end : (slot gate : ℕ) (front back : List ℕ) → gate ≡ length front → after_calls (settled (front ++ 0 ∷ back)) (unlock_calls slot gate) ≡ settled (front ++ 1 ∷ back)
unlock_end slot gate front back is = ap settled (written_at front (0 ∷ back) (1 ∷ []) gate is)

pub unlock_points : (slot gate : ℕ) (front back : List ℕ) → gate ≡ length front → AllPoints (IsOpening front back) (settled (front ++ 0 ∷ back)) (unlock_calls slot gate)
unlock_points slot gate front back is = (
  (λ image permits. (0, settled_image (front ++ 0 ∷ back) image permits)),
  (
    (λ image permits. one_byte front back image (1 ∷ []) gate 0 is permits refl),
    subst (IsOpening front back) (sym (unlock_end slot gate front back is)) (λ image permits. (1, settled_image (front ++ 1 ∷ back) image permits)),
  ),
)

-- ---- both

-- What holds while bytes are put behind the gate, and while it is opened, holds all along.
pub behind_points : (P : Slot → Type 0) (slot gate : ℕ) (front rest bytes : List ℕ) → gate ≡ length front → ((s : Slot) → IsBehind front s → P s)
    → ((s : Slot) → IsOpening front (bytes ++ drop (length bytes) rest) s → P s) → AllPoints P (settled (front ++ 0 ∷ rest)) (behind_gate slot gate bytes)
behind_points P slot gate front rest bytes is behind opening =
    let back = bytes ++ drop (length bytes) rest in
    points_append P (settled (front ++ 0 ∷ rest)) (put_calls slot gate bytes) (unlock_calls slot gate)
    (points_weaker (IsBehind front) P _ (put_calls slot gate bytes) behind (put_points slot gate front rest bytes is))
    (subst (λ (s : Slot). AllPoints P s (unlock_calls slot gate)) (sym (put_end slot gate front rest bytes is))
    (points_weaker (IsOpening front back) P _ (unlock_calls slot gate) opening (unlock_points slot gate front back is)))

pub behind_end : (slot gate : ℕ) (front rest bytes : List ℕ) → gate ≡ length front
    → after_calls (settled (front ++ 0 ∷ rest)) (behind_gate slot gate bytes) ≡ settled (front ++ 1 ∷ (bytes ++ drop (length bytes) rest))
behind_end slot gate front rest bytes is =
    after_calls-append (settled (front ++ 0 ∷ rest)) (put_calls slot gate bytes) (unlock_calls slot gate)
    ∙ ap (λ (s : Slot). after_calls s (unlock_calls slot gate)) (put_end slot gate front rest bytes is)
    ∙ unlock_end slot gate front (bytes ++ drop (length bytes) rest) is

pub adding_points : (slot gate : ℕ) (front rest bytes : List ℕ) → gate ≡ length front → AllPoints (IsAdding front bytes) (settled (front ++ 0 ∷ rest)) (behind_gate slot gate bytes)
adding_points slot gate front rest bytes is =
    behind_points (IsAdding front bytes) slot gate front rest bytes is
    (λ s behind image permits. inl (behind image permits))
    (λ s opening image permits. let p = opening image permits in inr (p.0, drop (length bytes) rest, p.1))

pub behind_on : (slot gate : ℕ) (bytes : List ℕ) → AreOn slot (behind_gate slot gate bytes)
behind_on slot gate bytes = (refl, (refl, (refl, (refl, tt))))

pub behind_short : (slot gate : ℕ) (bytes : List ℕ) → gate + 1 + length bytes < 2 ^ 64 → AreShort (behind_gate slot gate bytes)
behind_short slot gate bytes short = (short, (omega (arith, short), tt))
