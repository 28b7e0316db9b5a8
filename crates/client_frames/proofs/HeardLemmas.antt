-- What came is one thing, and reading it tells which.
use Rattle.std.proofs.Common.{◌≡◌, ◌≢◌, ℕ, zero, suc, ◌+◌, ◌-◌, ◌<◌, ◌≤◌, ◌^◌, Bool, true, false, nat_lt, nat_le, List, [], ◌∷◌, ◌++◌, length, take, drop, Option, Some, None, Result, Ok, Err, refl, sym, ap, ap₂, ◌∙◌, subst, append_assoc, append-nil, arith, inl, inr, All, IfSome, IsUtf8, zero-add}
use Rattle.std.specs.Int.{w16, from_be_bytes}
use Rattle.std.specs.Str.{is_utf8}
use Rattle.std.proofs.lemmas.Bool.{cases_lt, lt-ltb, le-ltb, le-leb, leb-true, ne_eqb}
use Rattle.std.proofs.lemmas.List.{length-append, length-drop, length-take, take_at, drop_at}
use Rattle.std.proofs.lemmas.List.Elements.{All-head, All-tail}
use Rattle.std.proofs.lemmas.Str.{IsUtf8-from_is_utf8, is_utf8-from_IsUtf8}
use Rattle.client_frames.specs.Comes.{BeginsWithWord, Heard, Part, Words, TooLong, Empty, BadWord, Is, IsBad, IsBadAt, IsRequest, Reads, first_word, heard, heard_behind, heard_by, heard_words, said_length, told, with_word, word_of, words_in}
use Rattle.client_frames.specs.Frames.{IsWord, framed, most_request, request, spelling, word_spelling}
use Rattle.client_frames.specs.declared.error.FrameError.{FrameError}
use Rattle.client_frames.specs.declared.error.FrameError.TheVariants as errors
use Rattle.client_frames.proofs.FrameLemmas.{AreBytes, by_length, drop_framed, said_framed, whole_is_framed}
use Rattle.client_frames.proofs.WordLemmas.{length-word_spelling, says_word, spelling-none, word_is}

-- ---- one word

by_bool : {P : Type 0} (b : Bool) → (b ≡ true → P) → (b ≡ false → P) → P
by_bool {P} b holds fails = elim b as (λ v. b ≡ v → P) [ true ↦ holds | false ↦ fails ] refl

pub first_word_is : (bytes word others : List ℕ) → IsWord word → bytes ≡ word_spelling word ++ others → first_word bytes ≡ Some (word, others)
unfolding first_word
first_word_is bytes word others fits is =
    let says = says_word bytes word others fits is in
    let long : nat_lt (length bytes) 2 ≡ false = le-ltb _ _ (omega (arith, ap length is, length-append (word_spelling word) others, length-word_spelling word)) in
    let within : nat_le (length word) (length (word ++ others)) ≡ true = le-leb _ _ (omega (arith, length-append word others)) in
    rw (long, says.0, says.1, within, take_at word others (length word) refl, is_utf8-from_IsUtf8 word fits.text, drop_at word others (length word) refl) refl

word_of_none : (n : ℕ) (bytes : List ℕ) → (n ≤ length bytes → IsUtf8 (take n bytes) → ⊥) → word_of n bytes ≡ None
word_of_none n bytes never =
    by_bool (nat_le n (length bytes))
    (λ within. by_bool (is_utf8 (take n bytes))
    (λ text. absurd (never (leb-true n (length bytes) within) (IsUtf8-from_is_utf8 (take n bytes) text)))
    (λ other. rw (within, other) refl))
    (λ past. rw past refl)

pub first_word_none : (bytes : List ℕ) → AreBytes bytes → ¬ BeginsWithWord bytes → first_word bytes ≡ None
unfolding first_word
first_word_none bytes fits none =
    elim (cases_lt (length bytes) 2) [
      | inl few ↦ rw (lt-ltb (length bytes) 2 few) refl
      | inr long ↦ rw (le-ltb (length bytes) 2 long) (word_of_none (from_be_bytes w16 bytes) (drop 2 bytes) (λ within text.
          let small : from_be_bytes w16 bytes < 2 ^ 16 = omega (arith, fits 0, fits 1) in
          let count = from_be_bytes w16 bytes in
          none (record {
            word = take count (drop 2 bytes);
            others = drop count (drop 2 bytes);
            fits = record { short = omega (arith, small, length-take count (drop 2 bytes)); text = text };
            is = word_is bytes count long fits refl within;
          })))
    ]

-- ---- words

with_words : List (List ℕ) → Result (List (List ℕ)) ℕ → Result (List (List ℕ)) ℕ
with_words [] read = read
with_words (word ∷ words) read = with_word word (with_words words read)

with_words_ok : (words : List (List ℕ)) → with_words words (Ok []) ≡ Ok words
unfolding with_words
with_words_ok [] = refl
with_words_ok (word ∷ words) = ap (with_word word) (with_words_ok words)

with_words_err : (words : List (List ℕ)) (left : ℕ) → with_words words (Err left) ≡ Err left
unfolding with_words
with_words_err [] left = refl
with_words_err (word ∷ words) left = ap (with_word word) (with_words_err words left)

words_in_more : (k : ℕ) (bytes word others : List ℕ) → 1 ≤ length bytes → first_word bytes ≡ Some (word, others)
    → words_in (suc k) bytes ≡ with_word word (words_in k others)
unfolding words_in
words_in_more k [] word others some first = absurd (omega arith)
words_in_more k (byte ∷ bytes) word others some first = rw (first, words_in) refl

words_in_none : (k : ℕ) → words_in k [] ≡ Ok []
unfolding words_in
words_in_none zero = refl
words_in_none (suc k) = refl

words_in_bad : (k : ℕ) (bytes : List ℕ) → bytes ≢ [] → first_word bytes ≡ None → words_in k bytes ≡ Err (length bytes)
unfolding words_in
words_in_bad k [] some none = absurd (some refl)
words_in_bad zero (byte ∷ bytes) some none = refl
words_in_bad (suc k) (byte ∷ bytes) some none = rw (none, words_in) refl

spelling-cons : (word : List ℕ) (words : List (List ℕ)) (others : List ℕ) → spelling (word ∷ words) ++ others ≡ word_spelling word ++ (spelling words ++ others)
unfolding spelling
spelling-cons word words others = append_assoc (word_spelling word) (spelling words) others

words_in_front : (words : List (List ℕ)) (others : List ℕ) (k : ℕ) → All IsWord words
    → words_in (length words + k) (spelling words ++ others) ≡ with_words words (words_in k others)
unfolding with_words
words_in_front [] others k fit = ap₂ words_in (zero-add k) (ap (λ (bytes : List ℕ). bytes ++ others) spelling-none)
words_in_front (word ∷ words) others k fit =
    let bytes : List ℕ = spelling (word ∷ words) ++ others in
    let is : bytes ≡ word_spelling word ++ (spelling words ++ others) = spelling-cons word words others in
    let some : 1 ≤ length bytes = omega (arith, ap length is, length-append (word_spelling word) (spelling words ++ others), length-word_spelling word) in
    let count : length (word ∷ words) + k ≡ suc (length words + k) = omega arith in
    ap (λ (n : ℕ). words_in n bytes) count
    ∙ words_in_more (length words + k) bytes word (spelling words ++ others) some (first_word_is bytes word (spelling words ++ others) (All-head IsWord word words fit) is)
    ∙ ap (with_word word) (words_in_front words others k (All-tail IsWord word words fit))

pub length-spelling : (words : List (List ℕ)) → length words ≤ length (spelling words)
unfolding spelling
length-spelling [] = omega arith
length-spelling (word ∷ words) = omega (arith, length-append (word_spelling word) (spelling words), length-word_spelling word, length-spelling words)

words_in_words : (words : List (List ℕ)) (n : ℕ) → length words ≤ n → All IsWord words → words_in n (spelling words) ≡ Ok words
words_in_words words n few fit =
    let count : n ≡ length words + (n - length words) = omega arith in
    ap₂ words_in count (sym (append-nil (spelling words))) ∙ words_in_front words [] (n - length words) fit
    ∙ ap (with_words words) (words_in_none (n - length words)) ∙ with_words_ok words

words_in_others : (words : List (List ℕ)) (others : List ℕ) (n : ℕ) → length words ≤ n → All IsWord words → others ≢ [] → first_word others ≡ None
    → words_in n (spelling words ++ others) ≡ Err (length others)
words_in_others words others n few fit some none =
    let count : n ≡ length words + (n - length words) = omega arith in
    ap (λ (k : ℕ). words_in k (spelling words ++ others)) count ∙ words_in_front words others (n - length words) fit
    ∙ ap (with_words words) (words_in_bad (n - length words) others some none) ∙ with_words_err words (length others)

-- ---- what came

pub heard_none : (came : List ℕ) → said_length came ≡ None → heard came ≡ Part
unfolding heard
heard_none came none = ap (λ (o : Option ℕ). heard_by o came) none

heard_some : (came : List ℕ) (n : ℕ) → said_length came ≡ Some n → heard came ≡ heard_behind n (drop 4 came)
unfolding heard
heard_some came n said = ap (λ (o : Option ℕ). heard_by o came) said

pub heard_empty : (came : List ℕ) → said_length came ≡ Some 0 → heard came ≡ Empty
heard_empty came said = heard_some came 0 said

pub heard_too_long : (came : List ℕ) (n : ℕ) → said_length came ≡ Some n → most_request < n → heard came ≡ TooLong n
heard_too_long came n said many = heard_some came n said ∙ rw (ne_eqb n 0 (λ e. omega arith), lt-ltb most_request n many) refl

pub heard_part : (came : List ℕ) (n : ℕ) → said_length came ≡ Some n → 1 ≤ n → n ≤ most_request → length came < 4 + n → heard came ≡ Part
heard_part came n said some few less =
    heard_some came n said
    ∙ rw (ne_eqb n 0 (λ e. omega arith), le-ltb most_request n few, lt-ltb (length (drop 4 came)) n (omega (arith, length-drop 4 came))) refl

heard_whole : (body : List ℕ) → 1 ≤ length body → length body ≤ most_request → heard (framed body) ≡ heard_words (length body) (words_in (length body) body)
heard_whole body some few =
    heard_some (framed body) (length body) (said_framed body (omega arith)) ∙ ap (heard_behind (length body)) (drop_framed body)
    ∙ rw (ne_eqb (length body) 0 (λ e. omega arith), le-ltb most_request (length body) few, le-ltb (length body) (length body) (omega arith)) refl

pub heard_request : (came : List ℕ) (words : List (List ℕ)) → IsRequest words came → heard came ≡ Words words
unfolding request
heard_request came words of =
    let long : length words ≤ length (spelling words) = length-spelling words in
    ap heard of.is ∙ heard_whole (spelling words) (omega (arith, long, of.bounds.some)) of.bounds.few
    ∙ ap (heard_words (length (spelling words))) (words_in_words words (length (spelling words)) long of.fit)

bytes_behind : (front bytes : List ℕ) → AreBytes (front ++ bytes) → AreBytes bytes
bytes_behind [] bytes fits = fits
bytes_behind (byte ∷ front) bytes fits = bytes_behind front bytes (λ i. fits (suc i))

some_length : (bytes : List ℕ) → bytes ≢ [] → 1 ≤ length bytes
some_length [] some = absurd (some refl)
some_length (byte ∷ bytes) some = omega arith

heard_bad_at : (at : ℕ) (body : List ℕ) → AreBytes body → length body ≤ most_request → IsBadAt at body → heard (framed body) ≡ BadWord at
heard_bad_at at body fits few bad =
    let len : length body ≡ length (spelling bad.words) + length bad.others = ap length bad.is ∙ length-append (spelling bad.words) bad.others in
    let some : 1 ≤ length bad.others = some_length bad.others bad.some in
    let none : first_word bad.others ≡ None = first_word_none bad.others (bytes_behind (spelling bad.words) bad.others (subst AreBytes bad.is fits)) bad.bad in
    heard_whole body (omega (arith, len, some)) few
    ∙ ap (heard_words (length body)) (ap (words_in (length body)) bad.is
    ∙ words_in_others bad.words bad.others (length body) (omega (arith, len, length-spelling bad.words)) bad.fit bad.some none)
    ∙ ap (λ (n : ℕ). BadWord n) (let place : length body - length bad.others ≡ at = omega (arith, len, bad.place) in place)

pub heard_bad : (at : ℕ) (came : List ℕ) → AreBytes came → IsBad at came → heard came ≡ BadWord at
unfolding framed
heard_bad at came fits bad =
    ap heard bad.is ∙ heard_bad_at at bad.body (bytes_behind _ bad.body (subst AreBytes bad.is fits)) bad.few bad.bad

-- ---- what was read of a whole frame

pub request_is : (came : List ℕ) (n : ℕ) (words : List (List ℕ)) → AreBytes came → said_length came ≡ Some n → length came ≡ 4 + n → 1 ≤ n → n ≤ most_request
    → Reads (drop 4 came) (Ok words) → IsRequest words came
unfolding request
request_is came n words fits said whole some few read =
    let frame = whole_is_framed came n fits said whole in
    let len : length (spelling words) ≡ n = ap length (sym read.1) ∙ frame.len in
    record {
      is = frame.is ∙ ap framed read.1;
      fit = read.0;
      bounds = record { some = some_words words (omega (arith, len, some)); few = omega (arith, len, few) };
    }
  where
    some_words : (words : List (List ℕ)) → 1 ≤ length (spelling words) → 1 ≤ length words
    some_words [] some = absurd (omega (arith, ap length spelling-none))
    some_words (word ∷ words) some = omega arith

pub told_fault : (came : List ℕ) (n : ℕ) → AreBytes came → said_length came ≡ Some n → length came ≡ 4 + n → n ≤ most_request
    → (error : FrameError) → Reads (drop 4 came) (Err error) → IfSome (told (Err error)) (λ h. Is h came)
told_fault came n fits said whole few (errors.TooLong m) read = absurd read
told_fault came n fits said whole few errors.Empty read = absurd read
told_fault came n fits said whole few (errors.BadWord at) read =
    let frame = whole_is_framed came n fits said whole in
    record { body = drop 4 came; is = frame.is; few = omega (arith, frame.len, few); bad = read }
told_fault came n fits said whole few errors.NoMemory read = tt

-- ---- what came is one thing

pub heard_is : (came : List ℕ) (h : Heard) → AreBytes came → Is h came → heard came ≡ h
heard_is came Part fits part =
    by_length came
    (λ none. heard_none came none)
    (λ n said. let bounds = subst (λ (o : Option ℕ). IfSome o (λ n. (1 ≤ n) × (n ≤ most_request) × (length came < 4 + n))) said part in
    heard_part came n said bounds.0 bounds.1 bounds.2)
heard_is came (Words words) fits is = heard_request came words is
heard_is came (TooLong n) fits is = heard_too_long came n is.0 is.1
heard_is came Empty fits is = heard_empty came is
heard_is came (BadWord at) fits is = heard_bad at came fits is

-- so is what is told of it
pub told_is : (came : List ℕ) (told : Option Heard) → AreBytes came → IfSome told (λ h. Is h came) → IfSome told (λ h. h ≡ heard came)
told_is came None fits is = tt
told_is came (Some h) fits is = sym (heard_is came h fits is)
