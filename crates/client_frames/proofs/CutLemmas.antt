-- Requests come whole, whatever the pieces are.
use Rattle.std.proofs.Common.{◌≡◌, ℕ, ◌+◌, ◌<◌, ◌≤◌, false, List, [], ◌∷◌, ◌++◌, length, take, drop, Some, refl, sym, ap, ◌∙◌, subst, append_assoc, append-nil, arith, inl, inr, lit≤, All}
use Rattle.std.specs.List.{flat_map}
use Rattle.std.proofs.lemmas.Bool.{cases_lt}
use Rattle.std.proofs.lemmas.List.{length-append, take_at, take-append-le, take_all}
use Rattle.std.proofs.lemmas.List.Elements.{All-head, All-tail}
use Rattle.client_frames.specs.Comes.{Heard, Part, Words, heard, hearing_after, missing, said_length}
use Rattle.client_frames.specs.Frames.{most_request, request, spelling}
use Rattle.client_frames.specs.Laws.{AreWanted, CutLaw, IsSent, requests_in, requests_of}
use Rattle.client_frames.proofs.FrameLemmas.{by_length, length-framed, missing_some, none_said, part_wants, part_none, part_some, said_framed, said_front, some_within, wants_none, within_fed}
use Rattle.client_frames.proofs.HeardLemmas.{heard_none, heard_part, heard_request, length-spelling}

abbrev joined : List (List ℕ) → List ℕ
joined = flat_map (λ piece. piece)

sent_some : (words : List (List ℕ)) → IsSent words → 1 ≤ length (spelling words)
sent_some words sent = omega (arith, length-spelling words, sent.bounds.some)

said_request : (words : List (List ℕ)) → IsSent words → said_length (request words) ≡ Some (length (spelling words))
unfolding request
said_request words sent = said_framed (spelling words) (omega (arith, sent.bounds.few))

length-request : (words : List (List ℕ)) → length (request words) ≡ 4 + length (spelling words)
unfolding request
length-request words = length-framed (spelling words)

-- a beginning of what begins with a request, no longer than it, is a beginning of it
front_of : (came rest frame others : List ℕ) → came ++ rest ≡ frame ++ others → length came ≤ length frame → came ≡ take (length came) frame
front_of came rest frame others same short = sym (take_at came rest (length came) refl) ∙ ap (take (length came)) same ∙ take-append-le (length came) frame others short

-- where four bytes of it came, the length is that of the request
said_begun : (came rest : List ℕ) (words : List (List ℕ)) (others : List ℕ) → IsSent words → came ++ rest ≡ request words ++ others → (n : ℕ) → said_length came ≡ Some n
    → n ≡ length (spelling words)
said_begun came rest words others sent same n said =
    let here : said_length (came ++ rest) ≡ Some n = said_front came rest n said in
    let there : said_length (request words ++ others) ≡ Some (length (spelling words)) = said_front (request words) others (length (spelling words)) (said_request words sent) in
    let both : Some n ≡ Some (length (spelling words)) = sym here ∙ ap said_length same ∙ there in
    cc

-- no request is behind bytes of which some are missing
none_begun : (came : List ℕ) (words : List (List ℕ)) (others : List ℕ) → IsSent words → came ≡ request words ++ others → 1 ≤ missing came → ⊥
none_begun came words others sent same some =
    let said : said_length came ≡ Some (length (spelling words)) = ap said_length same ∙ said_front (request words) others (length (spelling words)) (said_request words sent) in
    omega (arith, missing_some came (length (spelling words)) said, ap length same, length-append (request words) others, length-request words)

pub record Begins (came rest : List ℕ) (words : List (List ℕ)) (others : List ℕ) : Type 0 where
  pub short : length came < 4 + length (spelling words)
  pub part : heard came ≡ Part
  pub some : 1 ≤ missing came

pub record Ends (came rest : List ℕ) (words : List (List ℕ)) (others : List ℕ) : Type 0 where
  pub whole : heard came ≡ Words words
  pub behind : rest ≡ others

-- what came of requests is a part of the first one, or all of it
by_request : {P : Type 0} (came rest : List ℕ) (words : List (List ℕ)) (others : List ℕ) → IsSent words → came ++ rest ≡ request words ++ others
    → ((n : ℕ) → said_length came ≡ Some n → length came ≤ 4 + n)
    → (Begins came rest words others → P) → (Ends came rest words others → P) → P
by_request came rest words others sent same within begun ended =
    by_length came
    (λ none.
    let wants = part_wants most_request came (lit≤ tt) (part_none most_request came none) in
    begun (record { short = omega (arith, none_said came none); part = heard_none came none; some = wants.some }))
    (λ n said.
    let is : n ≡ length (spelling words) = said_begun came rest words others sent same n said in
    elim (cases_lt (length came) (4 + n)) [
      | inl less ↦
          let some : 1 ≤ n = omega (arith, sent_some words sent) in
          let few : n ≤ most_request = omega (arith, sent.bounds.few) in
          let wants = part_wants most_request came (lit≤ tt) (part_some most_request came n said some few less) in
          begun (record { short = omega arith; part = heard_part came n said some few less; some = wants.some })
      | inr past ↦
          let len : length came ≡ length (request words) = omega (arith, within n said, length-request words) in
          let frame : came ≡ request words = front_of came rest (request words) others same (omega (arith, len)) ∙ take_all (length came) (request words) (omega (arith, len)) in
          ended (record {
            whole = heard_request came words (record { is = frame; fit = sent.fit; bounds = sent.bounds });
            behind = cancel came rest others (same ∙ ap (λ (l : List ℕ). l ++ others) (sym frame));
          })
    ])
  where
    cancel : (front xs ys : List ℕ) → front ++ xs ≡ front ++ ys → xs ≡ ys
    cancel [] xs ys e = e
    cancel (byte ∷ front) xs ys e = cancel front xs ys (ap (drop 1) e)

-- what pieces come to behind what came of the first of some requests
IsCut : List ℕ → List (List ℕ) → List (List (List ℕ)) → Heard → Type 0
IsCut came pieces requests h = AreWanted (hearing_after came h) pieces → requests_of h ++ requests_in (hearing_after came h) pieces ≡ requests

cut_from : (pieces : List (List ℕ)) (came : List ℕ) (requests : List (List (List ℕ))) → All IsSent requests → 1 ≤ missing came
    → came ++ joined pieces ≡ flat_map request requests → AreWanted (record { came = came; refused = false }) pieces
    → requests_in (record { came = came; refused = false }) pieces ≡ requests
unfolding IsCut
cut_from [] came [] sent some same wants = refl
cut_from [] came (words ∷ requests) sent some same wants =
    absurd (none_begun came words (flat_map request requests) (All-head IsSent words requests sent) (sym (append-nil came) ∙ same) some)
cut_from (piece ∷ pieces) came [] sent some same wants =
    absurd (omega (arith, wants.0, ap length same, length-append came (piece ++ joined pieces), length-append piece (joined pieces)))
cut_from (piece ∷ pieces) came (words ∷ requests) sent some same wants =
    let now : List ℕ = came ++ piece in
    let rest : now ++ joined pieces ≡ request words ++ flat_map request requests = append_assoc came piece (joined pieces) ∙ same in
    let within = within_fed came piece some wants.1 in
    let first = All-head IsSent words requests sent in
    let others = All-tail IsSent words requests sent in
    let is : IsCut now pieces (words ∷ requests) (heard now) =
    by_request now (joined pieces) words (flat_map request requests) first rest (λ n said. some_within now n said within)
    (λ begun. subst (IsCut now pieces (words ∷ requests)) (sym begun.part) (λ more. cut_from pieces now (words ∷ requests) sent begun.some rest more))
    (λ ended. subst (IsCut now pieces (words ∷ requests)) (sym ended.whole)
    (λ more. ap (λ (l : List (List (List ℕ))). words ∷ l) (cut_from pieces [] requests others wants_none.some ended.behind more))) in
    is wants.2

pub cut_law : CutLaw
cut_law = record { cut = λ requests pieces sent same wants. cut_from pieces [] requests sent wants_none.some same wants }
