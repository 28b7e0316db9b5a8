-- How what is said over a connection in memory goes on.
use Rattle.std.proofs.Common.{ℕ, ◌≡◌, ◌==◌, ◌+◌, ◌-◌, ◌≤◌, min, Bool, true, false, if◌then◌else◌, Option, Some, None, IfSome, List, ◌++◌, length, take, drop, refl, sym, ◌∙◌, ap, subst, arith, append_assoc, length-append, length-take, length-drop, take-append-drop, take_at, eqb-true, []}
use Rattle.std.proofs.lemmas.List.{drop_at, nil_from_length}
use Rattle.std.proofs.lemmas.Bool.Decides.{nat_tests}
use Rattle.f2b_world.specs.declared.answer.LinkRead.{LinkRead}
use Rattle.f2b_world.specs.declared.answer.LinkRead.TheVariants.{Bytes as LinkBytes, End as LinkEnd}
use Rattle.f2b_world.specs.Links.{Talk, Goes, Receives}
use Rattle.f2b_mem.specs.Talks.{Gives}

-- what was received is a front of all
pub is_front : (told : Bool) (server : Option (List ℕ)) (sent bytes : List ℕ) (given : ℕ) (ended : Bool)
    → IfSome (if told then Some (record { server = server; sent = sent; received = take given bytes; ended = ended }) else None) (λ (talk : Talk). (rest : List ℕ) × (bytes ≡ talk.received ++ rest))
is_front false server sent bytes given ended = tt
is_front true server sent bytes given ended = (drop given bytes, sym (take-append-drop given bytes))

taken_more : (xs : List ℕ) (from most : ℕ) → from ≤ length xs → take (from + length (take most (drop from xs))) xs ≡ take from xs ++ take most (drop from xs)
taken_more xs from most le =
    let head : List ℕ = take from xs in
    let piece : List ℕ = take most (drop from xs) in
    let rest : List ℕ = drop most (drop from xs) in
    let whole : (head ++ piece) ++ rest ≡ xs = append_assoc head piece rest ∙ ap (λ (ys : List ℕ). head ++ ys) (take-append-drop most (drop from xs)) ∙ take-append-drop from xs in
    let len : length head ≡ from = length-take from xs ∙ (let m : min from (length xs) ≡ from = omega arith in m) in
    let both : length (head ++ piece) ≡ from + length piece = length-append head piece ∙ ap (λ n. n + length piece) len in
    ap (λ (ys : List ℕ). take (from + length piece) ys) (sym whole) ∙ take_at (head ++ piece) rest (from + length piece) both

not_ended : (ended : Bool) (size given count most : ℕ) → (ended ≡ true → size ≤ given) → count ≡ min most (size - given) → (count == 0) ≡ false → ended ≡ false
not_ended false size given count most over is some = refl
not_ended true size given count most over is some =
    let le : size ≤ given = over refl in
    let none : count ≡ 0 = omega arith in
    absurd (let e : (0 == 0) ≡ false = (let P : ℕ → Type 0 = λ n. (n == 0) ≡ false in subst P none some) in let f : true ≡ false = e in cc)

some_left : (size given count most : ℕ) → count ≡ min most (size - given) → (count == 0) ≡ false → given ≤ size
some_left size given count most is some = grind (arith, nat_tests)

received : (server : Option (List ℕ)) (sent bytes piece : List ℕ) (given next most : ℕ) (ended over : Bool) (answer : LinkRead) → (ended ≡ true → length bytes ≤ given) → piece ≡ take most (drop given bytes)
    → answer ≡ (if length piece == 0 then LinkEnd else LinkBytes piece) → next ≡ given + length piece → over ≡ (length piece == 0) → (none : Bool) → (length piece == 0) ≡ none
    → Receives answer (record { server = server; sent = sent; received = take given bytes; ended = ended }) (record { server = server; sent = sent; received = take next bytes; ended = over })
received server sent bytes piece given next most ended over answer ends is says count last true e =
    let zero : length piece ≡ 0 = eqb-true (length piece) 0 e in
    let stays : next ≡ given = omega arith in
    let end : answer ≡ LinkEnd = rw e at says in
    let closes : over ≡ true = last ∙ e in
    rw (end, stays, closes) refl
received server sent bytes piece given next most ended over answer ends is says count last false e =
    let len : length piece ≡ min most (length bytes - given) = ap length is ∙ length-take most (drop given bytes) ∙ ap (λ n. min most n) (length-drop given bytes) in
    let le : given ≤ length bytes = some_left (length bytes) given (length piece) most len e in
    let some : answer ≡ LinkBytes piece = rw e at says in
    let open_still : over ≡ false = last ∙ e in
    let before : ended ≡ false = not_ended ended (length bytes) given (length piece) most ends len e in
    let more : take next bytes ≡ take given bytes ++ piece =
    ap (λ n. take n bytes) (count ∙ ap (λ (xs : List ℕ). given + length xs) is) ∙ taken_more bytes given most le ∙ ap (λ (xs : List ℕ). take given bytes ++ xs) (sym is) in
    rw (some, more, open_still, before) (refl, refl)

pub receives : (told : Bool) (server : Option (List ℕ)) (sent bytes piece : List ℕ) (given next most : ℕ) (ended over : Bool) (answer : LinkRead) → (ended ≡ true → length bytes ≤ given) → piece ≡ take most (drop given bytes)
    → answer ≡ (if length piece == 0 then LinkEnd else LinkBytes piece) → next ≡ given + length piece → over ≡ (length piece == 0)
    → Goes (if told then Some (record { server = server; sent = sent; received = take given bytes; ended = ended }) else None)
    (if told then Some (record { server = server; sent = sent; received = take next bytes; ended = over }) else None) (Receives answer)
receives false server sent bytes piece given next most ended over answer ends is says count last = tt
receives true server sent bytes piece given next most ended over answer ends is says count last =
    (record { server = server; sent = sent; received = take given bytes; ended = ended }, refl, received server sent bytes piece given next most ended over answer ends is says count last (length piece == 0) refl)

-- what is left behind some of the bytes that were left
left_more : (xs : List ℕ) (from most : ℕ) → from ≤ length xs → drop (from + length (take most (drop from xs))) xs ≡ drop most (drop from xs)
left_more xs from most le =
    let head : List ℕ = take from xs in
    let piece : List ℕ = take most (drop from xs) in
    let rest : List ℕ = drop most (drop from xs) in
    let whole : (head ++ piece) ++ rest ≡ xs = append_assoc head piece rest ∙ ap (λ (ys : List ℕ). head ++ ys) (take-append-drop most (drop from xs)) ∙ take-append-drop from xs in
    let len : length head ≡ from = length-take from xs ∙ (let m : min from (length xs) ≡ from = omega arith in m) in
    let both : length (head ++ piece) ≡ from + length piece = length-append head piece ∙ ap (λ n. n + length piece) len in
    ap (λ (ys : List ℕ). drop (from + length piece) ys) (sym whole) ∙ drop_at (head ++ piece) rest (from + length piece) both

none_left : (count size given most : ℕ) → 1 ≤ most → count ≡ min most (size - given) → count ≡ 0 → size - given ≡ 0
none_left count size given most some is zero = omega arith

given_out : (bytes piece : List ℕ) (given next most : ℕ) (answer : LinkRead) (none : Bool) → 1 ≤ most → piece ≡ take most (drop given bytes) → answer ≡ (if length piece == 0 then LinkEnd else LinkBytes piece)
    → next ≡ given + length piece → (length piece == 0) ≡ none → Gives (drop given bytes) most answer (drop next bytes)
given_out bytes piece given next most answer true some is says count e =
    let zero : length piece ≡ 0 = eqb-true (length piece) 0 e in
    let len : length piece ≡ min most (length bytes - given) = ap length is ∙ length-take most (drop given bytes) ∙ ap (λ n. min most n) (length-drop given bytes) in
    let empty : drop given bytes ≡ [] = nil_from_length (drop given bytes) (length-drop given bytes ∙ none_left (length piece) (length bytes) given most some len zero) in
    let stays : next ≡ given = omega arith in
    let end : answer ≡ LinkEnd = rw e at says in
    let F : LinkRead → Type 0 = λ a. Gives (drop given bytes) most a (drop next bytes) in
    subst F (sym end) (empty, ap (λ n. drop n bytes) stays ∙ empty)
given_out bytes piece given next most answer false some is says count e =
    let len : length piece ≡ min most (length bytes - given) = ap length is ∙ length-take most (drop given bytes) ∙ ap (λ n. min most n) (length-drop given bytes) in
    let le : given ≤ length bytes = some_left (length bytes) given (length piece) most len e in
    let gave : answer ≡ LinkBytes piece = rw e at says in
    let F : LinkRead → Type 0 = λ a. Gives (drop given bytes) most a (drop next bytes) in
    subst F (sym gave) (is, ap (λ n. drop n bytes) (count ∙ ap (λ (xs : List ℕ). given + length xs) is) ∙ left_more bytes given most le)

-- a piece of the bytes that were left is given, or the end
pub gives : (bytes piece : List ℕ) (given next most : ℕ) (answer : LinkRead) → 1 ≤ most → piece ≡ take most (drop given bytes) → answer ≡ (if length piece == 0 then LinkEnd else LinkBytes piece) → next ≡ given + length piece
    → Gives (drop given bytes) most answer (drop next bytes)
gives bytes piece given next most answer some is says count = given_out bytes piece given next most answer (length piece == 0) some is says count refl

-- what was received and what is left are all
pub is_whole : (told : Bool) (server : Option (List ℕ)) (sent bytes : List ℕ) (given : ℕ) (ended : Bool)
    → IfSome (if told then Some (record { server = server; sent = sent; received = take given bytes; ended = ended }) else None) (λ (talk : Talk). bytes ≡ talk.received ++ drop given bytes)
is_whole false server sent bytes given ended = tt
is_whole true server sent bytes given ended = sym (take-append-drop given bytes)
