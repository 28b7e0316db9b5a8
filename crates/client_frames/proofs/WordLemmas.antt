-- Words behind their lengths: what bytes that begin with one say, and how long words are together.
use Rattle.std.proofs.Common.{◌≡◌, ℕ, zero, suc, ◌+◌, ◌<◌, ◌≤◌, List, [], ◌∷◌, ◌++◌, length, take, drop, get_or, refl, sym, ap, ◌∙◌, subst, append_assoc, append-nil, arith, lit<, All, IsUtf8}
use Rattle.std.specs.Int.{w16, from_be_bytes}
use Rattle.std.specs.List.{flat_map}
use Rattle.std.proofs.lemmas.Grind.{flat_map-append}
use Rattle.std.proofs.lemmas.List.{length-append, length-take, take-append-drop, take_at, take_more}
use Rattle.std.proofs.lemmas.List.Folds.{length-flat_map-take}
use Rattle.std.proofs.lemmas.List.Elements.{All-nil, All-push}
use Rattle.std.proofs.lemmas.Nat.{be_bytes_2, from_be_bytes-to_be_bytes_2}
use Rattle.client_frames.specs.Comes.{BeginsWithWord}
use Rattle.client_frames.specs.Frames.{IsWord, spelling, two_bytes, word_spelling}

pub length-word_spelling : (word : List ℕ) → length (word_spelling word) ≡ 2 + length word
unfolding word_spelling two_bytes
length-word_spelling word = omega (arith, length-append (two_bytes (length word)) word)

two_below : (high low : ℕ) → high < 256 → low < 256 → (i : ℕ) → get_or (high ∷ low ∷ []) i 0 < 256
two_below high low h l zero = h
two_below high low h l (suc zero) = l
two_below high low h l (suc (suc i)) = lit< tt

-- a word at the front says its length and is what follows it
pub says_word : (bytes word others : List ℕ) → IsWord word → bytes ≡ word_spelling word ++ others
    → (from_be_bytes w16 bytes ≡ length word) × (drop 2 bytes ≡ word ++ others)
unfolding word_spelling two_bytes
says_word bytes word others fits is = (ap (from_be_bytes w16) is ∙ from_be_bytes-to_be_bytes_2 (length word) fits.short, ap (drop 2) is)

-- fewer than two bytes begin with no word
pub no_word_in_few : (bytes : List ℕ) → length bytes < 2 → ¬ BeginsWithWord bytes
no_word_in_few bytes few begins =
    absurd (omega (arith, ap length begins.is, length-append (word_spelling begins.word) begins.others, length-word_spelling begins.word))

-- a length that passes the end begins no word
pub no_word_past_end : (bytes : List ℕ) (count : ℕ) → count ≡ from_be_bytes w16 bytes → length (drop 2 bytes) < count → ¬ BeginsWithWord bytes
no_word_past_end bytes count is past begins =
    let says = says_word bytes begins.word begins.others begins.fits begins.is in
    absurd (omega (arith, says.0, ap length says.1, length-append begins.word begins.others))

-- what is no text is no word
pub no_word_of_bytes : (bytes : List ℕ) (count : ℕ) → count ≡ from_be_bytes w16 bytes → ¬ IsUtf8 (take count (drop 2 bytes)) → ¬ BeginsWithWord bytes
no_word_of_bytes bytes count is no_text begins =
    let says = says_word bytes begins.word begins.others begins.fits begins.is in
    let len : length begins.word ≡ count = sym says.0 ∙ sym is in
    let front : take count (drop 2 bytes) ≡ begins.word = ap (take count) says.1 ∙ take_at begins.word begins.others count len in
    no_text (subst IsUtf8 (sym front) begins.fits.text)

-- two bytes and so many behind them are a word and what follows it
pub word_is : (bytes : List ℕ) (count : ℕ) → 2 ≤ length bytes → ((i : ℕ) → get_or bytes i 0 < 256) → count ≡ from_be_bytes w16 bytes
    → count ≤ length (drop 2 bytes) → bytes ≡ word_spelling (take count (drop 2 bytes)) ++ drop count (drop 2 bytes)
unfolding word_spelling two_bytes
word_is [] count long fits is within = absurd (omega arith)
word_is (high ∷ []) count long fits is within = absurd (omega arith)
word_is (high ∷ low ∷ rest) count long fits is within =
    let len : length (take count rest) ≡ count = omega (arith, length-take count rest) in
    let each : (i : ℕ) → get_or (high ∷ low ∷ []) i 0 < 256 = two_below high low (fits 0) (fits 1) in
    let front : two_bytes (length (take count rest)) ≡ high ∷ low ∷ [] = be_bytes_2 (high ∷ low ∷ []) _ refl each (len ∙ is) in
    ap (λ (bytes : List ℕ). high ∷ low ∷ bytes) (sym (take-append-drop count rest))
    ∙ ap (λ (two : List ℕ). (two ++ take count rest) ++ drop count rest) (sym front)

-- ---- words together

pub spelling-push : (words : List (List ℕ)) (word : List ℕ) → spelling (words ++ word ∷ []) ≡ spelling words ++ word_spelling word
unfolding spelling
spelling-push words word = flat_map-append word_spelling words (word ∷ []) ∙ ap (λ (t : List ℕ). flat_map word_spelling words ++ t) (append-nil (word_spelling word))

pub spelling-append : (words others : List (List ℕ)) → spelling (words ++ others) ≡ spelling words ++ spelling others
unfolding spelling
spelling-append words others = flat_map-append word_spelling words others

pub spelling-none : spelling [] ≡ []
unfolding spelling
spelling-none = refl

-- one word more
pub spelling-more : (words : List (List ℕ)) (i : ℕ) (word : List ℕ) → i < length words → word ≡ get_or words i word
    → spelling (take (i + 1) words) ≡ spelling (take i words) ++ word_spelling word
spelling-more words i word in_words is =
    ap spelling (take_more words i word in_words) ∙ spelling-push (take i words) (get_or words i word)
    ∙ ap (λ (w : List ℕ). spelling (take i words) ++ word_spelling w) (sym is)

pub length-spelling_more : (words : List (List ℕ)) (i : ℕ) (word : List ℕ) → i < length words → word ≡ get_or words i word
    → length (spelling (take (i + 1) words)) ≡ length (spelling (take i words)) + (2 + length word)
length-spelling_more words i word in_words is =
    ap length (spelling-more words i word in_words is) ∙ length-append (spelling (take i words)) (word_spelling word)
    ∙ ap (λ (n : ℕ). length (spelling (take i words)) + n) (length-word_spelling word)

-- a word is no longer than all of them, with its length and those before it
pub word_within : (words : List (List ℕ)) (i : ℕ) (word : List ℕ) → i < length words → word ≡ get_or words i word
    → length (spelling (take i words)) + (2 + length word) ≤ length (spelling words)
unfolding spelling
word_within words i word in_words is =
    omega (arith, length-flat_map-take word_spelling words i word in_words, ap (λ (w : List ℕ). length (word_spelling w)) is, length-word_spelling word)

-- what follows a word is shorter
pub word_shortens : (bytes word others : List ℕ) → bytes ≡ word_spelling word ++ others → length others < length bytes
word_shortens bytes word others is = omega (arith, ap length is, length-append (word_spelling word) others, length-word_spelling word)

-- ---- words that are read one by one

-- words came, and then these bytes
pub record Came (body : List ℕ) (words : List (List ℕ)) (rest : List ℕ) : Type 0 where
  pub fit : All IsWord words
  pub is : body ≡ spelling words ++ rest

pub came_none : (body : List ℕ) → Came body [] body
came_none body = record { fit = All-nil IsWord; is = ap (λ (t : List ℕ). t ++ body) (sym spelling-none) }

pub came_more : (body : List ℕ) (words : List (List ℕ)) (rest word others : List ℕ) (copy : List ℕ) (more : List (List ℕ)) → Came body words rest
    → IsWord word → rest ≡ word_spelling word ++ others → copy ≡ word → more ≡ words ++ copy ∷ [] → Came body more others
came_more body words rest word others copy more came fits is copied grown =
    let all : more ≡ words ++ word ∷ [] = grown ∙ ap (λ (w : List ℕ). words ++ w ∷ []) copied in record {
      fit = subst (All IsWord) (sym all) (All-push IsWord words word came.fit fits);
      is = came.is ∙ ap (λ (t : List ℕ). spelling words ++ t) is ∙ sym (append_assoc (spelling words) (word_spelling word) others)
          ∙ ap (λ (t : List ℕ). t ++ others) (sym (spelling-push words word) ∙ ap spelling (sym all));
    }
