-- What a script plays is honest.
use Rattle.std.proofs.Common.{ℕ, ◌≡◌, ◌==◌, ◌+◌, Bool, true, false, not, ◌&&◌, ◌||◌, if◌then◌else◌, leb, Option, Some, None, List, [], ◌∷◌, ◌⊎◌, inl, inr, length, take, drop, refl, subst, arith, count_by}
use Rattle.std.specs.List.{list_any}
use Rattle.std.proofs.lemmas.Bool.Decides.{nat_tests}
use Rattle.f2b_world.specs.declared.answer.Accept.{Accept}
use Rattle.f2b_world.specs.declared.answer.Accept.TheVariants.{Conn, Quiet as AcceptQuiet, Failed as AcceptFailed}
use Rattle.f2b_world.specs.declared.answer.Len.{Len}
use Rattle.f2b_world.specs.declared.answer.Len.TheVariants.{Bytes as LenBytes, Failed as LenFailed}
use Rattle.f2b_world.specs.declared.answer.Piece.{Piece}
use Rattle.f2b_world.specs.declared.answer.Piece.TheVariants.{Bytes as PieceBytes, Failed as PieceFailed}
use Rattle.f2b_world.specs.declared.event.Event.{Event}
use Rattle.f2b_world.specs.declared.event.Event.TheVariants.{DiskLen, DiskRead, GateAccept, GateClose}
use Rattle.f2b_world.specs.Told.{IsHonest, is_in, left_out, connected_after}
use Rattle.f2b_mem.specs.Plays.{played, fails, is_pause, accepted_in, accepting, first_waiting, slot_in}
use Rattle.f2b_mem.specs.Stages.{history_of}
use Rattle.f2b_mem.specs.declared.script.ClientPlan.{ClientPlan}
use Rattle.f2b_mem.specs.declared.script.Script.{Script}

and_not : (a b : Bool) → (a && not b) ≡ true → b ≡ false
and_not true true e = absurd (let f : false ≡ true = e in cc)
and_not true false e = refl
and_not false b e = absurd (let f : false ≡ true = e in cc)

or_left : (a b : Bool) → (a || b) ≡ false → a ≡ false
or_left true b e = absurd (let f : true ≡ false = e in cc)
or_left false b e = refl

or_right : (a b : Bool) → (a || b) ≡ false → b ≡ false
or_right true b e = absurd (let f : true ≡ false = e in cc)
or_right false b e = e

or_false : (a b : Bool) → a ≡ false → b ≡ false → (a || b) ≡ false
or_false true b p q = absurd (cc)
or_false false b p q = q

other_way : (a b : ℕ) → (a == b) ≡ false → (b == a) ≡ false
other_way a b h = grind (arith, nat_tests)

found : (b : Bool) (number k : ℕ) (rest : Option ℕ) → (if b then Some number else rest) ≡ Some k → ((b ≡ true) × (number ≡ k)) ⊎ (rest ≡ Some k)
found true number k rest e = inl (refl, (let f : Some number ≡ Some k = e in cc))
found false number k rest e = inr e

-- the client that is accepted next was not accepted before
pub waiting_free : (number : ℕ) (plans : List ClientPlan) (pauses : ℕ) (accepted : List ℕ) (k : ℕ) → first_waiting number plans pauses accepted ≡ Some k → list_any (λ other. other == k) accepted ≡ false
waiting_free number [] pauses accepted k e = absurd (let f : None ≡ Some k = e in cc)
waiting_free number (plan ∷ plans) pauses accepted k e =
    elim (found (leb plan.pauses pauses && not (list_any (λ other. other == number) accepted)) number k (first_waiting (number + 1) plans pauses accepted) e) [
      | inl p ↦ subst (λ (n : ℕ). list_any (λ other. other == n) accepted ≡ false) p.1 (and_not (leb plan.pauses pauses) (list_any (λ other. other == number) accepted) p.0)
      | inr q ↦ waiting_free (number + 1) plans pauses accepted k q
    ]

left_out_step : (b : Bool) (k n m : ℕ) (rest : List ℕ) → (k == m) ≡ false → is_in k rest ≡ false → is_in k (if b then rest else m ∷ rest) ≡ false
left_out_step true k n m rest p q = q
left_out_step false k n m rest p q = or_false (k == m) (is_in k rest) p q

left_out_free : (k n : ℕ) (conns : List ℕ) → is_in k conns ≡ false → is_in k (left_out n conns) ≡ false
left_out_free k n [] h = refl
left_out_free k n (m ∷ ms) h = left_out_step (n == m) k n m (left_out n ms) (or_left (k == m) (is_in k ms) h) (left_out_free k n ms (or_right (k == m) (is_in k ms) h))

-- a client that was not accepted is not connected
pub not_connected : (k : ℕ) (conns : List ℕ) (events : List Event) → is_in k conns ≡ false → list_any (λ other. other == k) (accepted_in events) ≡ false → is_in k (connected_after conns events) ≡ false
not_connected k conns [] p q = p
not_connected k conns (GateAccept (Conn conn) ∷ events) p q =
    not_connected k (conn ∷ conns) events
    (or_false (k == conn) (is_in k conns) (other_way conn k (or_left (conn == k) (list_any (λ other. other == k) (accepted_in events)) q)) p)
    (or_right (conn == k) (list_any (λ other. other == k) (accepted_in events)) q)
not_connected k conns (GateClose conn ∷ events) p q = not_connected k (left_out conn conns) events (left_out_free k conn conns p) q
not_connected k conns (event ∷ events) p q = not_connected k conns events p q

len_is : (b : Bool) (n m : ℕ) → LenBytes n ≡ (if b then LenFailed else LenBytes m) → n ≡ m
len_is true n m e = absurd (let f : LenBytes n ≡ LenFailed = e in cc)
len_is false n m e = let f : LenBytes n ≡ LenBytes m = e in cc

piece_is : (b : Bool) (xs ys : List ℕ) → PieceBytes xs ≡ (if b then PieceFailed else PieceBytes ys) → xs ≡ ys
piece_is true xs ys e = absurd (let f : PieceBytes xs ≡ PieceFailed = e in cc)
piece_is false xs ys e = let f : PieceBytes xs ≡ PieceBytes ys = e in cc

accepting_is : (k : ℕ) (waiting : Option ℕ) → Conn k ≡ accepting waiting → waiting ≡ Some k
accepting_is k (Some n) e = let f : Conn k ≡ Conn n = e in cc
accepting_is k None e = absurd (let f : Conn k ≡ AcceptQuiet = e in cc)

conn_is : (b : Bool) (k : ℕ) (waiting : Option ℕ) → Conn k ≡ (if b then AcceptFailed else accepting waiting) → waiting ≡ Some k
conn_is true k waiting e = absurd (let f : Conn k ≡ AcceptFailed = e in cc)
conn_is false k waiting e = accepting_is k waiting e

-- what a script plays is honest
pub honest : (script : Script) (events : List Event) (event : Event) → event ≡ played script events event → IsHonest (history_of script events) event
honest script events (DiskLen slot (LenBytes n)) e =
    let answer : Len = if fails script events then LenFailed else LenBytes (length (slot_in script events slot).now) in
    let f : DiskLen slot (LenBytes n) ≡ DiskLen slot answer = e in
    let g : LenBytes n ≡ answer = cc in
    len_is (fails script events) n (length (slot_in script events slot).now) g
honest script events (DiskRead slot at len (PieceBytes bytes)) e =
    let answer : Piece = if fails script events then PieceFailed else PieceBytes (take len (drop at (slot_in script events slot).now)) in
    let f : DiskRead slot at len (PieceBytes bytes) ≡ DiskRead slot at len answer = e in
    let g : PieceBytes bytes ≡ answer = cc in
    piece_is (fails script events) bytes (take len (drop at (slot_in script events slot).now)) g
honest script events (GateAccept (Conn conn)) e =
    let waiting : Option ℕ = first_waiting 0 script.clients (count_by is_pause events) (accepted_in events) in
    let answer : Accept = if fails script events then AcceptFailed else accepting waiting in
    let f : GateAccept (Conn conn) ≡ GateAccept answer = e in
    let g : Conn conn ≡ answer = cc in
    not_connected conn [] events refl (waiting_free 0 script.clients (count_by is_pause events) (accepted_in events) conn (conn_is (fails script events) conn waiting g))
honest script events event e = tt
