-- What is replied to what is heard of a client, and what happens by it.
use Rattle.std.proofs.Common.{ℕ, ◌≡◌, ◌≢◌, ◌≤◌, ◌<◌, ◌+◌, ◌++◌, ◌^◌, ◌==◌, Bool, true, false, List, [], ◌∷◌, length, length-append, Option, Some, None, Result, Ok, Err, refl, sym, ap, ap₂, ◌∙◌, subst, arith}
use Rattle.std.specs.Prelude.{codes, IfSome, is_some, option_and_then, option_map, slice_get, unwrap_or}
use Rattle.std.specs.Fmt.{decimal}
use Rattle.std.specs.Option.{option_map_or}
use Rattle.std.proofs.lemmas.Fmt.{length-decimal-le}
use Rattle.client_frames.specs.Comes.{Heard, Part, Words, TooLong, Empty, BadWord, Is, refusal_of as frame_refusal, told}
use Rattle.client_frames.specs.Frames.{most_text, spelling, word_spelling}
use Rattle.client_frames.specs.declared.answer.Answer.{Answer}
use Rattle.client_frames.specs.declared.error.FrameError.{FrameError}
use Rattle.client_frames.specs.declared.error.FrameError.TheVariants as frame
use Rattle.client_frames.proofs.WordLemmas.{length-word_spelling, spelling-append, spelling-none, spelling-push}
use Rattle.client_replies.specs.Banned.{new_addrs}
use Rattle.client_replies.specs.Changes.{change_in, change_of, change_of_definition, effect, if_any, unless}
use Rattle.client_replies.specs.Refusals.{comes_late, jail_in, named, refusal, refusal_by}
use Rattle.client_replies.specs.Replies.{answer, refused, reply, sendable}
use Rattle.client_table.specs.Clients.{Client, IsHeard, IsHeardAt, heard_at, heard_in}
use Rattle.client_words.specs.Commands.{command_of}
use Rattle.client_words.specs.Refusals.{refusal_of}
use Rattle.client_words.specs.declared.error.CommandError.{CommandError}
use Rattle.client_words.specs.declared.error.CommandError.TheVariants.{Unknown, WrongCount, BadJailName, BadAddress, BadNumber, NoMemory}
use Rattle.client_words.specs.declared.request.Request.{Request}
use Rattle.client_words.specs.declared.request.Request.TheVariants as request
use Rattle.f2b_base.specs.declared.input.What.{What}
use Rattle.f2b_base.specs.declared.input.What.TheVariants as what
use Rattle.f2b_base.specs.declared.jail.JailDef.{JailDef}
use Rattle.f2b_model.specs.Storable.{IsStorableWhat}
use Rattle.f2b_model.specs.Whole.{Now, State, now_of}
use Rattle.f2b_model.specs.declared.jail_now.JailNow.{JailNow}
use Rattle.f2b_model.proofs.ListLemmas.{by_test}
use Rattle.f2b_world.specs.declared.answer.GateRead.{GateRead}
use Rattle.f2b_world.specs.declared.answer.GateRead.TheVariants as read
use Rattle.run_law.specs.News.{News}
use Rattle.run_law.specs.Requests.{Response as LawResponse, Answers, ReadsAgain as LawReadsAgain, changing, refusing, rereading, stop_lines, to_command, to_heard, to_request, to_words}
use Rattle.run_law.specs.Server.{Server}
use Rattle.run_steps.specs.Keeping.{KeepsClocked}
use Rattle.run_steps.specs.declared.clocked.Clocked.{Clocked}
use Rattle.turn_clients.specs.Responding.{HasFewWords, IsAskedFor, IsFitReply, RespondsAs, RespondsTo, told_by}
use Rattle.turn_clients.specs.declared.response.Reply.{Reply}
use Rattle.turn_clients.specs.declared.response.Response.{Response}
use Rattle.turn_clients.specs.declared.response.Response.TheVariants.{ReadsAgain, Replies}

-- ---- how many words a request has

-- each word takes two bytes at least
few_spelt : (words : List (List ℕ)) → length words ≤ length (spelling words)
few_spelt [] = omega arith
few_spelt (word ∷ words) =
    let first : spelling (word ∷ []) ≡ word_spelling word = spelling-push [] word ∙ ap (λ (bytes : List ℕ). bytes ++ word_spelling word) spelling-none in
    let all : length (spelling (word ∷ words)) ≡ length (word_spelling word) + length (spelling words) =
    ap (λ (bytes : List ℕ). length bytes) (spelling-append (word ∷ []) words ∙ ap (λ (bytes : List ℕ). bytes ++ spelling words) first) ∙ length-append (word_spelling word) (spelling words) in
    omega (arith, all, length-word_spelling word, few_spelt words)

few_heard : (heard : Heard) (came : List ℕ) → Is heard came → HasFewWords heard
few_heard Part came is = tt
few_heard (Words words) came is = omega (arith, is.bounds.few, few_spelt words)
few_heard (TooLong n) came is = tt
few_heard Empty came is = tt
few_heard (BadWord at) came is = tt

few_of : (answer : GateRead) (c : Client) → IsHeard answer c → HasFewWords (heard_in answer c)
few_of (read.Bytes bytes) c is = few_heard _ (c.hearing.came ++ bytes) is
few_of read.Quiet c is = tt
few_of read.End c is = tt
few_of read.Failed c is = tt
few_of read.NoMemory c is = tt

few_at : (answer : GateRead) (place : ℕ) (cs : List Client) → IsHeardAt answer place cs → HasFewWords (heard_at answer place cs)
few_at answer place cs is = by_place (slice_get cs place) is
  where
    by_place : (o : Option Client) → IfSome o (λ c. IsHeard answer c) → HasFewWords (option_map_or (heard_in answer) o Part)
    by_place None is = tt
    by_place (Some c) is = few_of answer c is

-- so what is heard of a client has few words
pub few_words : (heard : Option Heard) (answer : GateRead) (place : ℕ) (cs : List Client) → IfSome heard (λ h. h ≡ heard_at answer place cs) → IfSome heard (λ h. IsHeardAt answer place cs)
    → IfSome heard HasFewWords
few_words None answer place cs is heard = tt
few_words (Some h) answer place cs is heard = subst HasFewWords (sym is) (few_at answer place cs heard)

-- ---- a reload

-- a state refuses it while the server is stopping
abbrev reply_by : Bool → Answer
reply_by late = sendable (answer (refusal_by None late) (codes "OK"))

late_accepted : (late : Bool) → (reply_by late).accepted ≡ true → LawReadsAgain ≡ rereading (refusal_by None late)
late_accepted true is = absurd (let e : false ≡ true = is in cc)
late_accepted false is = refl

late_refused : (late : Bool) → (reply_by late).accepted ≡ false → refusing (reply_by late).text ≡ rereading (refusal_by None late)
late_refused true is = refl
late_refused false is = absurd (let e : true ≡ false = is in cc)

module _ (now : ℕ) (core : Now) (given : Answer) (is : given ≡ reply now core request.Reload) where
  pub reload_accepted : given.accepted ≡ true → told_by ReadsAgain ≡ rereading (refusal core request.Reload)
  unfolding reply refusal
  reload_accepted accepted = late_accepted (comes_late core request.Reload) (ap (λ (a : Answer). a.accepted) (sym is) ∙ accepted)

  pub reload_refused : given.accepted ≡ false → (one : Response) → told_by one ≡ refusing given.text → told_by one ≡ rereading (refusal core request.Reload)
  unfolding reply refusal
  reload_refused not one made = made ∙ ap (λ (a : Answer). refusing a.text) is ∙ late_refused (comes_late core request.Reload) (ap (λ (a : Answer). a.accepted) (sym is) ∙ not)

pub ruleset reloading = (reload_accepted, reload_refused)

-- ---- a request

some_if_any : (count : ℕ) (happens : What) → IsAskedFor happens → IfSome (if_any count happens) IsAskedFor
some_if_any count happens is = by_test (count == 0) _ (λ none. rw none tt) (λ some. rw some is)

some_unless : (already : Bool) (happens : What) → IsAskedFor happens → IfSome (unless already happens) IsAskedFor
some_unless true happens is = tt
some_unless false happens is = is

definition_asked : (d : JailDef) (asked : Request) → IfSome (change_of_definition d asked) IsAskedFor
definition_asked d (request.AddIgnore jail cidr) = some_unless _ (what.Ignore jail cidr true) tt
definition_asked d (request.DelIgnore jail cidr) = some_unless _ (what.Ignore jail cidr false) tt
definition_asked d (request.SetFindtime jail secs) = some_unless _ (what.Findtime jail secs) tt
definition_asked d (request.SetBantime jail secs) = some_unless _ (what.Bantime jail secs) tt
definition_asked d (request.SetMaxretry jail number) = some_unless _ (what.Maxretry jail number) tt
definition_asked d _ = tt

jail_asked : (j : JailNow) (asked : Request) → IfSome (change_in j asked) IsAskedFor
jail_asked j (request.SetBanip jail addrs) = some_if_any _ (what.Ban jail (new_addrs j.bans addrs)) tt
jail_asked j (request.SetUnbanip jail addrs) = some_if_any _ (what.Unban (Some jail) (Some addrs)) tt
jail_asked j (request.SetAttempt jail addr) = some_unless _ (what.Attempt jail addr) tt
jail_asked j (request.SetIdle jail idle) = some_unless _ (what.Idle jail idle) tt
jail_asked j asked = definition_asked j.definition asked

found_asked : (o : Option JailNow) (asked : Request) → IfSome (option_and_then (λ (j : JailNow). change_in j asked) o) IsAskedFor
found_asked None asked = tt
found_asked (Some j) asked = jail_asked j asked

change_asked : (now : Now) (asked : Request) → IfSome (change_of now asked) IsAskedFor
change_asked now request.UnbanAll = some_if_any _ (what.Unban None None) tt
change_asked now (request.Unban addrs) = some_if_any _ (what.Unban None (Some addrs)) tt
change_asked now request.Stop = some_unless _ what.Stop tt
change_asked now asked = found_asked (option_and_then (jail_in now) (named asked)) asked

pub effect_asked : (now : Now) (asked : Request) → IfSome (effect now asked) IsAskedFor
unfolding effect
effect_asked now asked = by_test (is_some (refusal now asked)) _ (λ refused. rw refused tt) (λ free. rw free (change_asked now asked))

other_request : (now : ℕ) (s : State) (asked : Request) → asked ≢ request.Reload
    → to_request now s asked ≡ Answers (reply now (now_of s) asked) (changing now (effect (now_of s) asked))
other_request now s request.Reload other = absurd (other refl)
other_request now s _ other = refl

module _ (kept : Clocked) (asked : Request) (given : Reply) where
  -- the reply and the input are those of the state that it meets
  pub request_answered : asked ≢ request.Reload → given.answer ≡ reply kept.now kept.engine.core asked → given.what ≡ effect kept.engine.core asked → given.behind ≡ stop_lines kept.now given.what
      → RespondsAs kept (λ now s. to_request now s asked) (Replies given)
  request_answered other answered happens behind s keeps =
      let a : given.answer ≡ reply s.now (now_of s.state) asked = answered ∙ ap₂ (λ (n : ℕ) (c : Now). reply n c asked) keeps.now keeps.core in
      let w : given.what ≡ effect (now_of s.state) asked = happens ∙ ap (λ (c : Now). effect c asked) keeps.core in
      let b : given.behind ≡ stop_lines s.now (effect (now_of s.state) asked) = behind ∙ ap₂ (λ (n : ℕ) (o : Option What). stop_lines n o) keeps.now w in
      let same : told_by (Replies given) ≡ Answers (reply s.now (now_of s.state) asked) (changing s.now (effect (now_of s.state) asked)) =
      λ i. Answers (a i) (record { before = []; what = w i; behind = b i }) in
      same ∙ sym (other_request s.now s.state asked other)

  pub request_fits : length given.answer.text ≤ most_text → given.what ≡ effect kept.engine.core asked → IfSome given.what IsStorableWhat → IsFitReply given
  request_fits short happens storable =
      let P : Option What → Type 0 = λ o. IfSome o IsAskedFor in
      record { short = short; asked = subst P (sym happens) (effect_asked kept.engine.core asked); storable = storable }

-- a reload, as the state has it
pub request_reload : (kept : Clocked) (asked : Request) (given : Response) → asked ≡ request.Reload → told_by given ≡ rereading (refusal kept.engine.core request.Reload)
    → RespondsAs kept (λ now s. to_request now s asked) given
request_reload kept asked given reload made s keeps =
    made ∙ ap (λ (c : Now). rereading (refusal c request.Reload)) keeps.core ∙ ap (λ (q : Request). to_request s.now s.state q) (sym reload)

pub ruleset requesting = (request_answered, request_fits, request_reload)

-- ---- words

module _ (kept : Clocked) (words : List (List ℕ)) (given : Response) where
  pub words_asked : (asked : Request) → Ok asked ≡ command_of words → RespondsAs kept (λ now s. to_request now s asked) given → RespondsAs kept (λ now s. to_words now s words) given
  words_asked asked is made s keeps = made s keeps ∙ ap (to_command s.now s.state) is

  pub words_refused : (error : CommandError) (why : List ℕ) → (error ≢ NoMemory → Err error ≡ command_of words) → refusal_of error ≡ Some why → told_by given ≡ refusing why
      → RespondsAs kept (λ now s. to_words now s words) given
  words_refused error why is text made s keeps =
      let known : error ≢ NoMemory = λ lost. (let e : None ≡ Some why = ap refusal_of (sym lost) ∙ text in cc) in
      made ∙ ap (λ (o : Option (List ℕ)). refusing (unwrap_or o [])) (sym text) ∙ ap (to_command s.now s.state) (is known)

-- a place is a number of 32 bits
abbrev pub FitsError : CommandError → Type 0
FitsError (BadAddress place) = place < 2 ^ 32
FitsError _ = Unit {0}

some_is : {A : Type 0} (x y : A) → Some x ≡ Some y → x ≡ y
some_is x y is = cc

short_as : (n : ℕ) (text why : List ℕ) → length text ≡ n → n ≤ 100 → text ≡ why → length why ≤ most_text
short_as n text why len few same = let P : List ℕ → Type 0 = λ t. length t ≤ most_text in subst P same (omega (arith, len, few))

pub refusal_short : (error : CommandError) (why : List ℕ) → FitsError error → refusal_of error ≡ Some why → length why ≤ most_text
refusal_short Unknown why fits is = short_as 15 (codes "Invalid command") why refl (omega arith) (some_is (codes "Invalid command") why is)
refusal_short WrongCount why fits is = short_as 21 (codes "Wrong number of words") why refl (omega arith) (some_is (codes "Wrong number of words") why is)
refusal_short BadJailName why fits is = short_as 13 (codes "Bad jail name") why refl (omega arith) (some_is (codes "Bad jail name") why is)
refusal_short (BadAddress place) why fits is =
    let few : length (decimal place) ≤ 10 = length-decimal-le 10 place (omega arith) (omega (arith, fits)) (omega (arith, fits)) in
    let front : length (codes "Bad address: word ") ≡ 18 = refl in
    let P : List ℕ → Type 0 = λ t. length t ≤ most_text in
    subst P (some_is (codes "Bad address: word " ++ decimal place) why is) (omega (arith, length-append (codes "Bad address: word ") (decimal place), few, front))
refusal_short BadNumber why fits is = short_as 10 (codes "Bad number") why refl (omega arith) (some_is (codes "Bad number") why is)
refusal_short NoMemory why fits is = absurd (let e : None ≡ Some why = is in cc)

pub ruleset wording = (words_asked, words_refused, refusal_short)

-- ---- what is heard

module _ (kept : Clocked) where
  pub heard_part : RespondsTo kept (Some Part) None
  unfolding to_heard
  heard_part s keeps = refl

  pub heard_request : (words : List (List ℕ)) (given : Response) → RespondsAs kept (λ now s. to_words now s words) given → RespondsTo kept (Some (Words words)) (Some given)
  unfolding to_heard
  heard_request words given made s keeps = ap (λ (x : LawResponse). Some x) (made s keeps)

  pub heard_refused : (error : FrameError) (why : List ℕ) (given : Response) → frame_refusal error ≡ Some why → told_by given ≡ refusing why → RespondsTo kept (told (Err error)) (Some given)
  unfolding to_heard
  heard_refused (frame.TooLong n) why given is made = λ s keeps. ap (λ (x : LawResponse). Some x) made ∙ ap (option_map refusing) (sym is)
  heard_refused frame.Empty why given is made = λ s keeps. ap (λ (x : LawResponse). Some x) made ∙ ap (option_map refusing) (sym is)
  heard_refused (frame.BadWord at) why given is made = λ s keeps. ap (λ (x : LawResponse). Some x) made ∙ ap (option_map refusing) (sym is)
  heard_refused frame.NoMemory why given is made = absurd (let e : None ≡ Some why = is in cc)

pub frame_short : (error : FrameError) (why : List ℕ) → frame_refusal error ≡ Some why → length why ≤ most_text
frame_short (frame.TooLong n) why is = short_as 14 (codes "Frame too long") why refl (omega arith) (some_is (codes "Frame too long") why is)
frame_short frame.Empty why is = short_as 11 (codes "Empty frame") why refl (omega arith) (some_is (codes "Empty frame") why is)
frame_short (frame.BadWord at) why is = short_as 8 (codes "Bad word") why refl (omega arith) (some_is (codes "Bad word") why is)
frame_short frame.NoMemory why is = absurd (let e : None ≡ Some why = is in cc)

pub ruleset hearing = (heard_part, heard_request, heard_refused, frame_short)
