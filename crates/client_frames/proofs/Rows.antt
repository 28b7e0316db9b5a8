-- Worked frames, computed from the definitions.
use Rattle.std.proofs.Common.{◌≡◌, true, false, ℕ, List, [], ◌∷◌, ◌++◌, refl, codes}
use Rattle.client_frames.specs.Comes.{Part, TooLong, Empty, BadWord, first_word, heard, missing, said_length, words_in}
use Rattle.client_frames.specs.Frames.{four_bytes, framed, reply, reply_body, request, spelling, two_bytes, word_spelling}

abbrev ping : List ℕ
ping = 112 ∷ 105 ∷ 110 ∷ 103 ∷ []

-- 00 00 00 06 00 04 and the word
abbrev ping_frame : List ℕ
ping_frame = 0 ∷ 0 ∷ 0 ∷ 6 ∷ 0 ∷ 4 ∷ ping

ping_is : request (ping ∷ []) ≡ ping_frame
unfolding request framed four_bytes spelling word_spelling two_bytes
ping_is = refl

-- two words, of which one has no byte
two_words : request (ping ∷ [] ∷ []) ≡ 0 ∷ 0 ∷ 0 ∷ 8 ∷ 0 ∷ 4 ∷ (ping ++ 0 ∷ 0 ∷ [])
unfolding request framed four_bytes spelling word_spelling two_bytes
two_words = refl

-- four bytes of the length come first, then six more
missing_at_first : missing [] ≡ 4
unfolding missing said_length
missing_at_first = refl

missing_behind_the_length : missing (0 ∷ 0 ∷ 0 ∷ 6 ∷ []) ≡ 6
unfolding missing said_length
missing_behind_the_length = refl

missing_at_the_end : missing (0 ∷ 0 ∷ 0 ∷ 6 ∷ 0 ∷ 4 ∷ 112 ∷ 105 ∷ 110 ∷ []) ≡ 1
unfolding missing said_length
missing_at_the_end = refl

-- one byte less than the frame is no request yet
cut_frame : heard (0 ∷ 0 ∷ 0 ∷ 6 ∷ 0 ∷ 4 ∷ 112 ∷ 105 ∷ 110 ∷ []) ≡ Part
unfolding heard said_length
cut_frame = refl

-- 00 01 00 01 says 65,537 bytes, one more than a request may have
too_long : heard (0 ∷ 1 ∷ 0 ∷ 1 ∷ []) ≡ TooLong 65537
unfolding heard said_length
too_long = refl

longest : heard (0 ∷ 1 ∷ 0 ∷ 0 ∷ []) ≡ Part
unfolding heard said_length
longest = refl

greatest : heard (0xff ∷ 0xff ∷ 0xff ∷ 0xff ∷ []) ≡ TooLong 4294967295
unfolding heard said_length
greatest = refl

empty : heard (0 ∷ 0 ∷ 0 ∷ 0 ∷ []) ≡ Empty
unfolding heard said_length
empty = refl

-- a word of four bytes in a frame that has one of them is bad at its length, and so is a length of one byte
word_past_the_end : heard (0 ∷ 0 ∷ 0 ∷ 3 ∷ 0 ∷ 4 ∷ 112 ∷ []) ≡ BadWord 0
unfolding heard said_length words_in first_word
word_past_the_end = refl

half_a_length : heard (0 ∷ 0 ∷ 0 ∷ 1 ∷ 0 ∷ []) ≡ BadWord 0
unfolding heard said_length words_in first_word
half_a_length = refl

-- 00 00 00 05 00 and pong
pong_is : reply (record { accepted = true; text = codes "pong" }) ≡ 0 ∷ 0 ∷ 0 ∷ 5 ∷ 0 ∷ 112 ∷ 111 ∷ 110 ∷ 103 ∷ []
unfolding reply framed four_bytes reply_body
pong_is = refl

refused_without_a_word : reply (record { accepted = false; text = [] }) ≡ 0 ∷ 0 ∷ 0 ∷ 1 ∷ 1 ∷ []
unfolding reply framed four_bytes reply_body
refused_without_a_word = refl
