-- A window that is moved on, and grows.
use Rattle.std.proofs.Common.{ℕ, Bool, false, ◌≡◌, ◌+◌, ◌-◌, ◌≤◌, ◌<◌, ◌^◌, Option, List, [], ◌++◌, length, take, drop, refl, sym, ap, ap₂, subst, ◌∙◌, length-append, arith}
use Rattle.std.proofs.lemmas.List.{take-append-drop, length-drop, drop-drop, drop-take}
use Rattle.std.proofs.Math.Seq.{take-add}
use Rattle.f2b_world.specs.Slots.{Slot}
use Rattle.f2b_world.specs.Told.{History, HasLength, Standing}
use Rattle.slot_reader.specs.Reads.{content, OnlyReads, IsAllOf, IsPieceAt}
use Rattle.slot_reader.specs.Windows.{Window, IsWithin, IsWhole, IsOver, Shows, IsAtPlaceOf}
use Rattle.slot_reader.proofs.ReadLemmas.{told_before, reads_same, reads_then}

-- what of the slot is behind the window
abbrev pub behind : Window → List ℕ → List ℕ
behind w now = drop (length w.bytes) (drop w.place now)

-- the slot in three parts: before the window, in it, and behind it
pub parts : (w : Window) (now : List ℕ) → IsOver w now → now ≡ take w.place now ++ (w.bytes ++ behind w now)
parts w now over =
    sym (take-append-drop w.place now)
    ∙ ap (λ (r : List ℕ). take w.place now ++ r) (sym (take-append-drop (length w.bytes) (drop w.place now)) ∙ ap (λ (r : List ℕ). r ++ behind w now) (sym over.bytes))

-- a window that is moved on over some of its bytes
pub over_moved : (w v : Window) (now : List ℕ) (count : ℕ) → IsOver w now → count ≤ length w.bytes → v.long ≡ w.long → v.place ≡ w.place + count → v.bytes ≡ drop count w.bytes → IsOver v now
over_moved w v now count over few long_is place_is bytes_is =
    let m = length w.bytes - count in
    let split : length w.bytes ≡ count + m = omega arith in
    let first : w.bytes ≡ take (count + m) (drop w.place now) = over.bytes ∙ ap (λ (k : ℕ). take k (drop w.place now)) split in
    let rest : drop count w.bytes ≡ take m (drop (w.place + count) now) =
    ap (drop count) first ∙ drop-take count m (drop w.place now) ∙ ap (take m) (drop-drop count w.place now) in
    let len : length v.bytes ≡ m = ap length bytes_is ∙ length-drop count w.bytes in
    record { long = long_is ∙ over.long; bytes = bytes_is ∙ rest ∙ ap₂ (λ (k p : ℕ). take k (drop p now)) (sym len) (sym place_is) }

-- a window that shows a piece more
pub over_grown : (w v : Window) (now piece : List ℕ) (at len : ℕ) → IsOver w now → at ≡ w.place + length w.bytes → piece ≡ take len (drop at now) → length piece ≡ len
    → v.long ≡ w.long → v.place ≡ w.place → v.bytes ≡ w.bytes ++ piece → IsOver v now
over_grown w v now piece at len over at_is piece_is len_is long_is place_is bytes_is =
    let n = length w.bytes in
    let next : piece ≡ take len (drop n (drop w.place now)) =
    piece_is ∙ ap (λ (p : ℕ). take len (drop p now)) at_is ∙ ap (take len) (sym (drop-drop n w.place now)) in
    let all : w.bytes ++ piece ≡ take (n + len) (drop w.place now) = ap₂ (λ (x y : List ℕ). x ++ y) over.bytes next ∙ sym (take-add n len (drop w.place now)) in
    let long : length v.bytes ≡ n + len = ap length bytes_is ∙ length-append w.bytes piece ∙ ap (λ (k : ℕ). n + k) len_is in
    record { long = long_is ∙ over.long; bytes = bytes_is ∙ all ∙ ap₂ (λ (k p : ℕ). take k (drop p now)) (sym long) (sym place_is) }

-- ---- where the history is told

-- what is shown stays so while the disk is read
pub shows_still : (failed : Bool) (w : Window) (a b : Standing) → OnlyReads failed a b → Shows w a.told → Shows w b.told
shows_still failed w a b p shows h is =
    let t = told_before failed a.told b.told p.told h is in
    subst (λ (s : Slot). IsOver w s.now) (sym (t.2 w.slot)) (shows t.0 t.1)

pub shows_moved : (w v : Window) (told : Option History) (count : ℕ) → Shows w told → count ≤ length w.bytes → v.slot ≡ w.slot → v.long ≡ w.long → v.place ≡ w.place + count → v.bytes ≡ drop count w.bytes → Shows v told
shows_moved w v told count shows few slot_is long_is place_is bytes_is h is =
    subst (λ (k : ℕ). IsOver v (content h k)) (sym slot_is) (over_moved w v (content h w.slot) count (shows h is) few long_is place_is bytes_is)

pub shows_grown : (w v : Window) (a b : Standing) (piece : List ℕ) (at len : ℕ) → OnlyReads false a b → Shows w a.told → IsPieceAt w.slot at len piece b.told → at ≡ w.place + length w.bytes → length piece ≡ len
    → v.slot ≡ w.slot → v.long ≡ w.long → v.place ≡ w.place → v.bytes ≡ w.bytes ++ piece → Shows v b.told
shows_grown w v a b piece at len p shows is_piece at_is len_is slot_is long_is place_is bytes_is h is =
    subst (λ (k : ℕ). IsOver v (content h k)) (sym slot_is)
    (over_grown w v (content h w.slot) piece at len (shows_still false w a b p shows h is) at_is (is_piece h is) len_is long_is place_is bytes_is)

-- a slot is as long as its window says
pub shows_long : (w : Window) (told : Option History) (n : ℕ) → Shows w told → n ≤ w.long → HasLength told w.slot n
shows_long w told n shows le h is = let over = shows h is in omega (arith, over.long, le)

pub at_place_same : (w : Window) → IsAtPlaceOf w w
at_place_same w = record { slot = refl; long = refl; place = refl }

pub at_place_then : (u v w : Window) → IsAtPlaceOf u v → IsAtPlaceOf v w → IsAtPlaceOf u w
at_place_then u v w p q = record { slot = q.slot ∙ p.slot; long = q.long ∙ p.long; place = q.place ∙ p.place }

pub ruleset windows = (reads_same, reads_then, at_place_same, at_place_then)

pub ruleset grows = (shows_still, shows_grown, shows_long)

-- nothing is shown of a slot that is so long
pub shows_none : (slot long : ℕ) (told : Option History) → IsAllOf slot long told → Shows (record { slot = slot; long = long; place = 0; bytes = [] }) told
shows_none slot long told all h is = record { long = all h is; bytes = refl }

-- ---- the bytes that a window moved on over

-- what is left of bytes that stand from a place on
abbrev pub window_of : ℕ → ℕ → ℕ → ℕ → List ℕ → Window
window_of slot long base from bytes = record { slot = slot; long = long; place = base + from; bytes = drop from bytes }

pub within_of : (slot long base from : ℕ) (bytes : List ℕ) → from ≤ length bytes → base + length bytes ≤ long → long < 2 ^ 64 → IsWithin (window_of slot long base from bytes)
within_of slot long base from bytes few ends small = record { ends = omega (arith, few, ends, length-drop from bytes); small = small }

pub whole_of : (slot long base from : ℕ) (bytes : List ℕ) → from ≤ length bytes → base + length bytes ≡ long → IsWhole (window_of slot long base from bytes)
whole_of slot long base from bytes few all = omega (arith, few, all, length-drop from bytes)

pub part_of : (slot long base from : ℕ) (bytes : List ℕ) → from ≤ length bytes → base + length bytes < long → (window_of slot long base from bytes).place + length (window_of slot long base from bytes).bytes < long
part_of slot long base from bytes few less = omega (arith, few, less, length-drop from bytes)
