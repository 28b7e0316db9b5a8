-- What a stop may leave of a slot, in bytes.
use Rattle.std.proofs.Common.{ℕ, ◌≡◌, ◌+◌, ◌<◌, inl, inr, List, [], ◌∷◌, ◌++◌, length, drop, get_or, length-append, refl, sym, ap, ◌∙◌, append_assoc, append-nil, arith, add-one, suc}
use Rattle.std.proofs.lemmas.List.{get_or-append-add, drop_all}
use Rattle.std.proofs.Math.ListN.{get_or-append}
use Rattle.std.proofs.Math.Seq.{drop-append-add, drop-cons, take-append_seam}
use Rattle.std.proofs.lemmas.List.Prefix.{front_from_reads, at_from_reads}
use Rattle.f2b_world.specs.Slots.{Slot, Permits, IsOutside, settled, write_to, written}

-- bytes before each open range stay
pub front_stays : (s : Slot) (front back image : List ℕ) → s.synced ≡ front ++ back → ((i : ℕ) → i < length front → IsOutside i s.ranges) → Permits s image
    → image ≡ front ++ drop (length front) image
front_stays s front back image is outside permits =
    let long : length s.synced ≡ length front + length back = ap length is ∙ length-append front back in
    front_from_reads 0 image front (omega (arith, permits.no_shorter, long)) (λ i below.
    permits.kept i (omega (arith, long)) (outside i below) ∙ ap (λ (r : List ℕ). get_or r i 0) is ∙ get_or-append front back 0 i below)

-- so do bytes behind
middle_stays : (s : Slot) (front : List ℕ) (x : ℕ) (part back image : List ℕ) → s.synced ≡ front ++ (x ∷ (part ++ back))
    → ((i : ℕ) → i < length part → IsOutside (length front + 1 + i) s.ranges) → Permits s image
    → drop (length front + 1) image ≡ part ++ drop (length front + 1 + length part) image
middle_stays s front x part back image is outside permits =
    let long : length s.synced ≡ length front + (length (part ++ back) + 1) = ap length is ∙ length-append front (x ∷ (part ++ back)) ∙ omega arith in
    let longer : length (part ++ back) ≡ length part + length back = length-append part back in
    at_from_reads 0 image part (length front + 1) (omega (arith, permits.no_shorter, long, longer)) (λ i below.
    permits.kept (length front + 1 + i) (omega (arith, long, longer)) (outside i below)
    ∙ ap (λ (r : List ℕ). get_or r (length front + 1 + i) 0) is
    ∙ ap (λ (n : ℕ). get_or (front ++ (x ∷ (part ++ back))) n 0) (let e : length front + 1 + i ≡ length front + (1 + i) = omega arith in e)
    ∙ get_or-append-add front (x ∷ (part ++ back)) (1 + i) 0
    ∙ ap (λ (n : ℕ). get_or (x ∷ (part ++ back)) n 0) (let e : 1 + i ≡ suc i = omega arith in e)
    ∙ get_or-append part back 0 i below)

-- of a slot with nothing unsynced a stop leaves just its bytes
pub settled_image : (bytes image : List ℕ) → Permits (settled bytes) image → image ≡ bytes
settled_image bytes image permits =
    front_stays (settled bytes) bytes [] image (sym (append-nil bytes)) (λ i below. tt) permits
    ∙ ap (λ (r : List ℕ). bytes ++ r) (drop_all (length bytes) image (omega (arith, permits.no_longer))) ∙ append-nil bytes

-- one byte that is written may be any
pub one_byte : (front back image bytes : List ℕ) (place y : ℕ) → place ≡ length front → Permits (write_to (settled (front ++ y ∷ back)) place bytes) image → length bytes ≡ 1
    → (x : ℕ) × (image ≡ front ++ x ∷ back)
one_byte front back image bytes place y is permits one =
    let s = write_to (settled (front ++ y ∷ back)) place bytes in
    let long : length (front ++ y ∷ back) ≡ length front + (length back + 1) = length-append front (y ∷ back) ∙ omega arith in
    let stays = front_stays s front (y ∷ back) image refl (λ i below. (inl (omega (arith, is, below)), tt)) permits in
    let e : front ++ y ∷ back ≡ front ++ (y ∷ (back ++ [])) = ap (λ (r : List ℕ). front ++ (y ∷ r)) (sym (append-nil back)) in
    let rest = middle_stays s front y back [] image e (λ i below. (inr (omega (arith, is, one)), tt)) permits in
    let x = get_or image (length front) 0 in
    let some : length front < length image = omega (arith, permits.no_shorter, long) in
    let none : drop (length front + 1 + length back) image ≡ [] = drop_all (length front + 1 + length back) image (omega (arith, permits.no_longer, long, is, one)) in
    let tail : drop (length front + 1) image ≡ back = rest ∙ ap (λ (r : List ℕ). back ++ r) none ∙ append-nil back in
    (x, stays ∙ ap (λ r. front ++ r) (drop-cons image (length front) 0 some ∙ ap (λ r. x ∷ r) (rw (← add-one) tail)))

-- what a write at the seam makes
pub written_at : (xs ys bytes : List ℕ) (at : ℕ) → at ≡ length xs → written (xs ++ ys) at bytes ≡ xs ++ (bytes ++ drop (length bytes) ys)
written_at xs ys bytes at is = rw is (rw (take-append_seam xs ys, drop-append-add xs ys (length bytes), append_assoc xs bytes (drop (length bytes) ys)) refl)
