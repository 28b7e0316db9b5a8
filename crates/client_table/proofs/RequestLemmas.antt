-- Bytes come to one list of requests alone.
use Rattle.std.proofs.Common.{◌≡◌, ◌≢◌, ℕ, ◌+◌, ◌<◌, ◌≤◌, Bool, true, false, List, [], ◌∷◌, ◌++◌, length, take, drop, Option, Some, refl, sym, ap, ap₂, ◌∙◌, subst, append_assoc, append-nil, arith, All, IfSome}
use Rattle.std.specs.List.{flat_map}
use Rattle.std.proofs.lemmas.List.{length-append, take_at, drop_at}
use Rattle.std.proofs.lemmas.List.Elements.{All-head, All-tail}
use Rattle.client_frames.specs.Comes.{BeginsWithWord, Heard, Part, Words, TooLong, Empty, BadWord, Is, IsPart, heard, said_length}
use Rattle.client_frames.specs.Frames.{IsWord, framed, most_request, request, spelling, word_spelling}
use Rattle.client_frames.specs.Laws.{IsSent}
use Rattle.client_frames.proofs.FrameLemmas.{drop_framed, length-framed, said_framed, said_front}
use Rattle.client_frames.proofs.HeardLemmas.{heard_request, length-spelling}
use Rattle.client_frames.proofs.WordLemmas.{says_word, spelling-none}
use Rattle.client_table.specs.Lives.{AreRequests, IsFault, IsRest}

-- ---- words that stand behind one another

spelling-cons : (word : List ℕ) (words : List (List ℕ)) → spelling (word ∷ words) ≡ word_spelling word ++ spelling words
unfolding spelling
spelling-cons word words = refl

-- bytes that begin with one word and with another begin with the same, and go on alike
pub record SameWord (a b xs ys : List ℕ) : Type 0 where
  pub word : a ≡ b
  pub others : xs ≡ ys

same_word : (a b xs ys : List ℕ) → IsWord a → IsWord b → word_spelling a ++ xs ≡ word_spelling b ++ ys → SameWord a b xs ys
same_word a b xs ys fits also same =
    let first = says_word (word_spelling a ++ xs) a xs fits refl in
    let second = says_word (word_spelling a ++ xs) b ys also same in
    let len : length a ≡ length b = sym first.0 ∙ second.0 in
    let behind : a ++ xs ≡ b ++ ys = sym first.1 ∙ second.1 in
    record {
      word = sym (take_at a xs (length a) refl) ∙ ap (take (length a)) behind ∙ take_at b ys (length a) (sym len);
      others = sym (drop_at a xs (length a) refl) ∙ ap (drop (length a)) behind ∙ drop_at b ys (length a) (sym len);
    }

some_of : (bytes : List ℕ) → bytes ≢ [] → 1 ≤ length bytes
some_of [] some = absurd (some refl)
some_of (byte ∷ bytes) some = omega arith

-- words are nowhere such that no word begins there
never_bad : (words before : List (List ℕ)) (others : List ℕ) → All IsWord words → All IsWord before → others ≢ [] → ¬ BeginsWithWord others
    → spelling words ≡ spelling before ++ others → ⊥
never_bad [] [] others fit fits some bad same = some (sym (sym spelling-none ∙ same ∙ ap (λ (t : List ℕ). t ++ others) spelling-none))
never_bad (word ∷ words) [] others fit fits some bad same =
    bad (record {
      word = word;
      others = spelling words;
      fits = All-head IsWord word words fit;
      is = sym (sym (spelling-cons word words) ∙ same ∙ ap (λ (t : List ℕ). t ++ others) spelling-none);
    })
never_bad [] (first ∷ before) others fit fits some bad same =
    let len = ap length (sym spelling-none ∙ same) in
    omega (arith, len, length-append (spelling (first ∷ before)) others, some_of others some)
never_bad (word ∷ words) (first ∷ before) others fit fits some bad same =
    let whole : word_spelling word ++ spelling words ≡ word_spelling first ++ (spelling before ++ others) =
    sym (spelling-cons word words) ∙ same ∙ ap (λ (t : List ℕ). t ++ others) (spelling-cons first before) ∙ append_assoc (word_spelling first) (spelling before) others in
    let both = same_word word first (spelling words) (spelling before ++ others) (All-head IsWord word words fit) (All-head IsWord first before fits) whole in
    never_bad words before others (All-tail IsWord word words fit) (All-tail IsWord first before fits) some bad both.others

-- ---- requests that stand behind one another

said_request : (words : List (List ℕ)) (others : List ℕ) → IsSent words → said_length (request words ++ others) ≡ Some (length (spelling words))
unfolding request
said_request words others sent = said_front (request words) others (length (spelling words)) (said_framed (spelling words) (omega (arith, sent.bounds.few)))

length-request : (words : List (List ℕ)) → length (request words) ≡ 4 + length (spelling words)
unfolding request
length-request words = length-framed (spelling words)

body_of : (words : List (List ℕ)) (body : List ℕ) → framed body ≡ request words → body ≡ spelling words
unfolding request
body_of words body same = sym (drop_framed body) ∙ ap (drop 4) same ∙ drop_framed (spelling words)

some_words : (words : List (List ℕ)) → IsSent words → 1 ≤ length (spelling words)
some_words words sent = omega (arith, length-spelling words, sent.bounds.some)

-- no frame that is refused begins with a request
never_refused : (what : Heard) (bytes : List ℕ) (words : List (List ℕ)) (others : List ℕ) → IsSent words → IsFault what → Is what bytes → bytes ≡ request words ++ others → ⊥
never_refused Part bytes words others sent fault is same = fault
never_refused (Words w) bytes words others sent fault is same = fault
never_refused (TooLong n) bytes words others sent fault is same =
    let both : Some n ≡ Some (length (spelling words)) = sym is.0 ∙ ap said_length same ∙ said_request words others sent in
    let count : n ≡ length (spelling words) = cc in
    omega (arith, count, is.1, sent.bounds.few)
never_refused Empty bytes words others sent fault is same =
    let both : Some 0 ≡ Some (length (spelling words)) = sym is ∙ ap said_length same ∙ said_request words others sent in
    let count : 0 ≡ length (spelling words) = cc in
    omega (arith, count, some_words words sent)
never_refused (BadWord at) bytes words others sent fault is same =
    let frame : framed is.body ≡ request words ++ others = sym is.is ∙ same in
    let both : Some (length is.body) ≡ Some (length (spelling words)) = sym (said_framed is.body (omega (arith, is.few))) ∙ ap said_length frame ∙ said_request words others sent in
    let count : length is.body ≡ length (spelling words) = cc in
    let none : others ≡ [] = nothing others (omega (arith, count, ap length frame, length-framed is.body, length-append (request words) others, length-request words)) in
    let body : is.body ≡ spelling words = body_of words is.body (frame ∙ ap (λ (t : List ℕ). request words ++ t) none ∙ append-nil (request words)) in
    never_bad words is.bad.words is.bad.others sent.fit is.bad.fit is.bad.some is.bad.bad (sym body ∙ is.bad.is)
  where
    nothing : (xs : List ℕ) → length xs ≡ 0 → xs ≡ []
    nothing [] none = refl
    nothing (x ∷ xs) none = absurd (omega arith)

-- no part of a request begins with a whole one
never_part : (bytes : List ℕ) (words : List (List ℕ)) (others : List ℕ) → IsSent words → IsPart most_request bytes → bytes ≡ request words ++ others → ⊥
never_part bytes words others sent part same =
    let said : said_length bytes ≡ Some (length (spelling words)) = ap said_length same ∙ said_request words others sent in
    let bounds = subst (λ (o : Option ℕ). IfSome o (λ n. (1 ≤ n) × (n ≤ most_request) × (length bytes < 4 + n))) said part in
    omega (arith, bounds.2, ap length same, length-append (request words) others, length-request words)

-- so what stands behind all requests begins with none
never_rest : (refused : Bool) (rest : List ℕ) (words : List (List ℕ)) (others : List ℕ) → IsSent words → IsRest refused rest → rest ≡ request words ++ others → ⊥
never_rest false rest words others sent part same = never_part rest words others sent part same
never_rest true rest words others sent of same = never_refused of.what rest words others sent of.fault of.is same

pub record SameRequest (a b : List (List ℕ)) (xs ys : List ℕ) : Type 0 where
  pub words : a ≡ b
  pub others : xs ≡ ys

same_request : (a b : List (List ℕ)) (xs ys : List ℕ) → IsSent a → IsSent b → request a ++ xs ≡ request b ++ ys → SameRequest a b xs ys
same_request a b xs ys sent also same =
    let both : Some (length (spelling a)) ≡ Some (length (spelling b)) = sym (said_request a xs sent) ∙ ap said_length same ∙ said_request b ys also in
    let count : length (spelling a) ≡ length (spelling b) = cc in
    let len : length (request b) ≡ length (request a) = omega (arith, count, length-request a, length-request b) in
    let frame : request a ≡ request b =
    sym (take_at (request a) xs (length (request a)) refl) ∙ ap (take (length (request a))) same ∙ take_at (request b) ys (length (request a)) len in
    let first : heard (request a) ≡ Words a = heard_request (request a) a (record { is = refl; fit = sent.fit; bounds = sent.bounds }) in
    let second : heard (request b) ≡ Words b = heard_request (request b) b (record { is = refl; fit = also.fit; bounds = also.bounds }) in
    let words : Words a ≡ Words b = sym first ∙ ap heard frame ∙ second in
    record {
      words = cc;
      others = sym (drop_at (request a) xs (length (request a)) refl) ∙ ap (drop (length (request a))) same ∙ drop_at (request b) ys (length (request a)) len;
    }

one_by : (a b : List (List (List ℕ))) (x y : List ℕ) (r s : Bool) → All IsSent a → All IsSent b → IsRest r x → IsRest s y
    → flat_map request a ++ x ≡ flat_map request b ++ y → a ≡ b
one_by [] [] x y r s sent also behind ends same = refl
one_by [] (w ∷ b) x y r s sent also behind ends same =
    absurd (never_rest r x w (flat_map request b ++ y) (All-head IsSent w b also) behind (same ∙ append_assoc (request w) (flat_map request b) y))
one_by (v ∷ a) [] x y r s sent also behind ends same =
    absurd (never_rest s y v (flat_map request a ++ x) (All-head IsSent v a sent) ends (sym same ∙ append_assoc (request v) (flat_map request a) x))
one_by (v ∷ a) (w ∷ b) x y r s sent also behind ends same =
    let whole : request v ++ (flat_map request a ++ x) ≡ request w ++ (flat_map request b ++ y) =
    sym (append_assoc (request v) (flat_map request a) x) ∙ same ∙ append_assoc (request w) (flat_map request b) y in
    let both = same_request v w (flat_map request a ++ x) (flat_map request b ++ y) (All-head IsSent v a sent) (All-head IsSent w b also) whole in
    ap₂ (λ (v : List (List ℕ)) (a : List (List (List ℕ))). v ∷ a) both.words
    (one_by a b x y r s (All-tail IsSent v a sent) (All-tail IsSent w b also) behind ends both.others)

pub one_list : (bytes : List ℕ) (a b : List (List (List ℕ))) (r s : Bool) → AreRequests bytes a r → AreRequests bytes b s → a ≡ b
one_list bytes a b r s first second = one_by a b first.rest second.rest r s first.sent second.sent first.behind second.behind (sym first.is ∙ second.is)
