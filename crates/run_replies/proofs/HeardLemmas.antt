-- What is heard of bytes that came is what they are.
use Rattle.std.proofs.Common.{◌≡◌, ℕ, zero, suc, ◌+◌, ◌-◌, ◌<◌, ◌≤◌, ◌^◌, nat_le, List, [], ◌∷◌, ◌++◌, length, take, drop, Option, Some, None, Result, Ok, Err, refl, sym, ap, ◌∙◌, subst, append_assoc, arith, inl, inr, All, IsUtf8}
use Rattle.std.specs.Int.{w16, from_be_bytes}
use Rattle.std.specs.Str.{is_utf8}
use Rattle.std.proofs.lemmas.Bool.{cases_Bool, cases_lt, lt-ltb, le-ltb, leb-true, ne_eqb}
use Rattle.std.proofs.lemmas.List.{get_or-drop, length-append, length-take}
use Rattle.std.proofs.lemmas.List.Elements.{All-cons, All-nil}
use Rattle.std.proofs.lemmas.Str.{IsUtf8-from_is_utf8}
use Rattle.client_frames.specs.Comes.{BeginsWithWord, Heard, Is, IsBadAt, IsWithin, first_word, heard, heard_by, heard_words, said_length, with_word, word_of, words_in}
use Rattle.client_frames.specs.Frames.{IsWord, most_request, spelling, word_spelling}
use Rattle.client_frames.proofs.FrameLemmas.{AreBytes, by_length, part_none, part_some, some_within, whole_is_framed}
use Rattle.client_frames.proofs.HeardLemmas.{first_word_is, heard_empty, heard_none, heard_part, heard_too_long, request_is}
use Rattle.client_frames.proofs.WordLemmas.{spelling-none, word_is, word_shortens}

-- ---- one word

-- a word stands at the front of bytes, and these follow it
record StandsFirst (bytes word others : List ℕ) : Type 0 where
  pub fits : IsWord word
  pub is : bytes ≡ word_spelling word ++ others

-- so many bytes are there, and are text
record IsRead (n : ℕ) (bytes : List ℕ) (x : List ℕ × List ℕ) : Type 0 where
  pub within : n ≤ length bytes
  pub text : IsUtf8 (take n bytes)
  pub word : take n bytes ≡ x.0
  pub others : drop n bytes ≡ x.1

word_of_some : (n : ℕ) (bytes : List ℕ) (x : List ℕ × List ℕ) → word_of n bytes ≡ Some x → IsRead n bytes x
word_of_some n bytes x is =
    elim (cases_Bool (nat_le n (length bytes))) [
      | inl within ↦ elim (cases_Bool (is_utf8 (take n bytes))) [
        | inl text ↦
            let same : Some (take n bytes, drop n bytes) ≡ Some x = rw (within, text) at is in
            let pair : (take n bytes, drop n bytes) ≡ x = cc in
            record {
              within = leb-true n (length bytes) within;
              text = IsUtf8-from_is_utf8 (take n bytes) text;
              word = ap (λ (p : List ℕ × List ℕ). p.0) pair;
              others = ap (λ (p : List ℕ × List ℕ). p.1) pair;
            }
        | inr other ↦ absurd (let none : None ≡ Some x = rw (within, other) at is in cc)
      ]
      | inr past ↦ absurd (let none : None ≡ Some x = rw past at is in cc)
    ]

first_word_fits : (bytes : List ℕ) (x : List ℕ × List ℕ) → AreBytes bytes → first_word bytes ≡ Some x → StandsFirst bytes x.0 x.1
unfolding first_word
first_word_fits bytes x fits is =
    elim (cases_lt (length bytes) 2) [
      | inl few ↦ absurd (let none : None ≡ Some x = rw (lt-ltb (length bytes) 2 few) at is in cc)
      | inr long ↦
          let count = from_be_bytes w16 bytes in
          let read : IsRead count (drop 2 bytes) x = word_of_some count (drop 2 bytes) x (rw (le-ltb (length bytes) 2 long) at is) in
          let small : count < 2 ^ 16 = omega (arith, fits 0, fits 1) in
          record {
            fits = subst IsWord read.word (record { short = omega (arith, small, length-take count (drop 2 bytes)); text = read.text });
            is = word_is bytes count long fits refl read.within ∙ ap (λ (w : List ℕ). word_spelling w ++ drop count (drop 2 bytes)) read.word
                ∙ ap (λ (t : List ℕ). word_spelling x.0 ++ t) read.others;
          }
    ]

-- ---- words

spelling-cons : (word : List ℕ) (words : List (List ℕ)) → spelling (word ∷ words) ≡ word_spelling word ++ spelling words
unfolding spelling
spelling-cons word words = refl

-- what was read of bytes is what they are
abbrev IsReadAs : List ℕ → Result (List (List ℕ)) ℕ → Type 0
IsReadAs bytes (Ok words) = All IsWord words × (bytes ≡ spelling words)
IsReadAs bytes (Err left) = (left ≤ length bytes) × IsBadAt (length bytes - left) bytes

words_in_none : (k : ℕ) → words_in k [] ≡ Ok []
unfolding words_in
words_in_none zero = refl
words_in_none (suc k) = refl

words_in_some : (k : ℕ) (byte : ℕ) (bytes : List ℕ) (x : List ℕ × List ℕ) → first_word (byte ∷ bytes) ≡ Some x → words_in (suc k) (byte ∷ bytes) ≡ with_word x.0 (words_in k x.1)
unfolding words_in
words_in_some k byte bytes x is = rw (is, words_in) refl

words_in_bad : (k : ℕ) (byte : ℕ) (bytes : List ℕ) → first_word (byte ∷ bytes) ≡ None → words_in (suc k) (byte ∷ bytes) ≡ Err (length (byte ∷ bytes))
unfolding words_in
words_in_bad k byte bytes is = rw (is, words_in) refl

-- one word more in front
one_more : (word others bytes : List ℕ) → StandsFirst bytes word others → (read : Result (List (List ℕ)) ℕ) → IsReadAs others read → IsReadAs bytes (with_word word read)
one_more word others bytes first (Ok words) are =
    (All-cons IsWord word words first.fits are.0, first.is ∙ ap (λ (t : List ℕ). word_spelling word ++ t) are.1 ∙ sym (spelling-cons word words))
one_more word others bytes first (Err left) are =
    let bad = are.1 in
    let len : length bytes ≡ length (word_spelling word) + length others = ap length first.is ∙ length-append (word_spelling word) others in
    let long : length (spelling (word ∷ bad.words)) ≡ length (word_spelling word) + length (spelling bad.words) =
    ap length (spelling-cons word bad.words) ∙ length-append (word_spelling word) (spelling bad.words) in (
      omega (arith, are.0, len),
      record {
        words = word ∷ bad.words;
        others = bad.others;
        fit = All-cons IsWord word bad.words first.fits bad.fit;
        is = first.is ∙ ap (λ (t : List ℕ). word_spelling word ++ t) bad.is ∙ sym (append_assoc (word_spelling word) (spelling bad.words) bad.others)
            ∙ ap (λ (t : List ℕ). t ++ bad.others) (sym (spelling-cons word bad.words));
        place = omega (arith, are.0, len, long, bad.place);
        some = bad.some;
        bad = bad.bad;
      },
    )

no_some : (x : List ℕ × List ℕ) → None ≡ Some x → ⊥
no_some x e = absurd (let both : None ≡ Some x = e in cc)

-- no word begins these bytes
none_begins : (bytes : List ℕ) → first_word bytes ≡ None → ¬ BeginsWithWord bytes
none_begins bytes none begins =
    no_some (begins.word, begins.others) (sym none ∙ first_word_is bytes begins.word begins.others begins.fits begins.is)

bad_at_once : (byte : ℕ) (bytes : List ℕ) → first_word (byte ∷ bytes) ≡ None → IsReadAs (byte ∷ bytes) (Err (length (byte ∷ bytes)))
bad_at_once byte bytes none = (
  omega arith,
  record {
    words = [];
    others = byte ∷ bytes;
    fit = All-nil IsWord;
    is = ap (λ (t : List ℕ). t ++ byte ∷ bytes) (sym spelling-none);
    place = omega (arith, ap length spelling-none);
    some = λ e. let one : suc (length bytes) ≡ 0 = ap length e in omega (arith, one);
    bad = none_begins (byte ∷ bytes) none;
  },
)

bytes_behind : (front bytes : List ℕ) → AreBytes (front ++ bytes) → AreBytes bytes
bytes_behind [] bytes fits = fits
bytes_behind (byte ∷ front) bytes fits = bytes_behind front bytes (λ i. fits (suc i))

words_fit : (k : ℕ) (bytes : List ℕ) → length bytes ≤ k → AreBytes bytes → IsReadAs bytes (words_in k bytes)
words_fit k [] few fits = subst (λ (read : Result (List (List ℕ)) ℕ). IsReadAs [] read) (sym (words_in_none k)) (All-nil IsWord, sym spelling-none)
words_fit zero (byte ∷ bytes) few fits = absurd (omega (arith, few))
words_fit (suc k) (byte ∷ bytes) few fits = by_first (λ others. words_fit k others) (first_word (byte ∷ bytes)) refl
  where
    by_first : ((others : List ℕ) → length others ≤ k → AreBytes others → IsReadAs others (words_in k others)) → (o : Option (List ℕ × List ℕ)) → first_word (byte ∷ bytes) ≡ o
        → IsReadAs (byte ∷ bytes) (words_in (suc k) (byte ∷ bytes))
    by_first rest None is = subst (λ (read : Result (List (List ℕ)) ℕ). IsReadAs (byte ∷ bytes) read) (sym (words_in_bad k byte bytes is)) (bad_at_once byte bytes is)
    by_first rest (Some x) is =
        let first : StandsFirst (byte ∷ bytes) x.0 x.1 = first_word_fits (byte ∷ bytes) x fits is in
        let less : length x.1 ≤ k = omega (arith, few, word_shortens (byte ∷ bytes) x.0 x.1 first.is) in
        let other : AreBytes x.1 = bytes_behind (word_spelling x.0) x.1 (subst AreBytes first.is fits) in
        subst (λ (read : Result (List (List ℕ)) ℕ). IsReadAs (byte ∷ bytes) read) (sym (words_in_some k byte bytes x is)) (one_more x.0 x.1 (byte ∷ bytes) first (words_in k x.1) (rest x.1 less other))

-- ---- a whole frame

heard_words_of : (came : List ℕ) (n : ℕ) → said_length came ≡ Some n → 1 ≤ n → n ≤ most_request → length (drop 4 came) ≡ n → heard came ≡ heard_words n (words_in n (drop 4 came))
unfolding heard
heard_words_of came n said some few whole =
    ap (λ (o : Option ℕ). heard_by o came) said
    ∙ rw (ne_eqb n 0 (λ e. omega arith), le-ltb most_request n few, le-ltb (length (drop 4 came)) n (omega (arith, whole))) refl

whole_fits : (came : List ℕ) (n : ℕ) → AreBytes came → said_length came ≡ Some n → length came ≡ 4 + n → 1 ≤ n → n ≤ most_request
    → (read : Result (List (List ℕ)) ℕ) → IsReadAs (drop 4 came) read → Is (heard_words n read) came
whole_fits came n fits said whole some few (Ok words) are = request_is came n words fits said whole some few are
whole_fits came n fits said whole some few (Err left) are =
    let frame = whole_is_framed came n fits said whole in
    record {
      body = drop 4 came;
      is = frame.is;
      few = omega (arith, frame.len, few);
      bad = subst (λ (m : ℕ). IsBadAt (m - left) (drop 4 came)) frame.len are.1;
    }

said_fits : (came : List ℕ) (n : ℕ) → AreBytes came → said_length came ≡ Some n → length came ≤ 4 + n → Is (heard came) came
said_fits came zero fits said within = subst (λ (h : Heard). Is h came) (sym (heard_empty came said)) said
said_fits came (suc m) fits said within =
    let n : ℕ = suc m in
    let of : Heard → Type 0 = λ h. Is h came in
    elim (cases_lt most_request n) [
      | inl many ↦ subst of (sym (heard_too_long came n said many)) (said, many)
      | inr few ↦ elim (cases_lt (length came) (4 + n)) [
        | inl less ↦ subst of (sym (heard_part came n said (omega arith) few less)) (part_some most_request came n said (omega arith) few less)
        | inr long ↦
            let whole : length came ≡ 4 + n = omega (arith, long, within) in
            let frame = whole_is_framed came n fits said whole in
            let body : AreBytes (drop 4 came) = λ i. subst (λ (b : ℕ). b < 256) (sym (get_or-drop 4 came i 0)) (fits (4 + i)) in
            subst of (sym (heard_words_of came n said (omega arith) few frame.len))
            (whole_fits came n fits said whole (omega arith) few (words_in n (drop 4 came)) (words_fit n (drop 4 came) (omega (arith, frame.len)) body))
      ]
    ]

-- where no more came than the frame has
pub heard_fits : (came : List ℕ) → AreBytes came → IsWithin came → Is (heard came) came
heard_fits came fits within =
    by_length came
    (λ none. subst (λ (h : Heard). Is h came) (sym (heard_none came none)) (part_none most_request came none))
    (λ n said. said_fits came n fits said (some_within came n said within))
