-- What a client was replied so far, event by event.
use Rattle.std.proofs.Common.{ℕ, zero, suc, ◌≡◌, ◌+◌, ◌-◌, ◌<◌, ◌⊎◌, inl, inr, Bool, true, false, List, [], ◌∷◌, ◌++◌, length, Option, Some, None, refl, sym, ap, ◌∙◌, subst, append_assoc, append-nil, arith, lit<}
use Rattle.std.specs.Prelude.{slice_get}
use Rattle.std.specs.List.{flat_map}
use Rattle.std.proofs.lemmas.Bool.{cases_lt}
use Rattle.std.proofs.lemmas.List.{flat_map_more, get_or-append_right, get_or_append_left, length-append}
use Rattle.std.proofs.lemmas.List.Elements.{All-nil, All-push}
use Rattle.std.proofs.lemmas.Option.{slice_get_within}
use Rattle.client_frames.specs.Comes.{Heard, Hearing, Part, Words, TooLong, Empty, BadWord, Is, IsPart, hearing_after}
use Rattle.client_frames.specs.Frames.{most_request, reply, request}
use Rattle.client_frames.specs.Laws.{IsSent}
use Rattle.client_frames.specs.declared.answer.Answer.{Answer}
use Rattle.client_frames.proofs.FrameLemmas.{AreBytes, part_none, said_none}
use Rattle.client_replies.specs.Replies.{refused}
use Rattle.client_table.specs.Lives.{AreRequests, IsFault, refusals}
use Rattle.f2b_world.specs.declared.event.Event.{Event}
use Rattle.run_law.specs.Points.{AtClient, AtTurn, OfTree, Rereading}
use Rattle.run_law.specs.Requests.{Answers, ReadsAgain, Response, to_heard, to_words}
use Rattle.run_law.specs.Served.{run_after}
use Rattle.run_law.specs.Server.{Server}
use Rattle.run_replies.specs.Replied.{IsAnswer, IsAnswerTo, IsAnswerToFault, IsReplied, fault_text, waiting}
use Rattle.run_replies.specs.Talks.{came_by, came_in, taken_by, taken_in}
use Rattle.run_replies.proofs.RereadLemmas.{answer_stays, by_rest}

-- ---- lists

more : {X A : Type 0} (f : X → List A) (xs : List X) (x : X) → flat_map f (xs ++ x ∷ []) ≡ flat_map f xs ++ f x
more f xs x = sym (flat_map_more f [] xs x)

-- an element of a list with one more at its end is one of the list, or that one
pushed : {X : Type 0} (xs : List X) (x : X) (place : ℕ) (y : X) → slice_get (xs ++ x ∷ []) place ≡ Some y → (slice_get xs place ≡ Some y) ⊎ ((place ≡ length xs) × (x ≡ y))
pushed [] x zero y is = inr (refl, cc)
pushed [] x (suc place) y is = absurd (let e : None ≡ Some y = is in cc)
pushed (first ∷ xs) x zero y is = inl is
pushed (first ∷ xs) x (suc place) y is = elim (pushed xs x place y is) [ inl old ↦ inl old | inr new ↦ inr (ap suc new.0, new.1) ]

pub bytes_append : (xs ys : List ℕ) → AreBytes xs → AreBytes ys → AreBytes (xs ++ ys)
bytes_append xs ys first second i =
    elim (cases_lt i (length xs)) [
      | inl within ↦ subst (λ (b : ℕ). b < 256) (sym (get_or_append_left xs ys 0 i within)) (first i)
      | inr past ↦ subst (λ (b : ℕ). b < 256) (sym (get_or-append_right xs ys (length xs) i 0 refl past)) (second (i - length xs))
    ]

pub no_bytes : AreBytes []
no_bytes i = lit< tt

nothing_came : IsPart most_request []
nothing_came = part_none most_request [] (said_none [] (lit< tt))

-- ---- a client's life

module _ (words : List (List ℕ)) (slots : ℕ → List ℕ) (conn : ℕ) (start : List Event) where
  -- Behind these events since its accept: `front` came of its next request, or a frame of it was refused; and so much is unwritten, with an answer to all
  -- requests but the last few.
  pub record Lived (life : List Event) (front : List ℕ) (is_refused : Bool) (unwritten : List ℕ) (few : ℕ) : Type 0 where
    pub requests : List (List (List ℕ))
    pub answers : List Answer
    pub came : AreRequests (came_in conn life) requests is_refused
    pub behind : is_refused ≡ false → came.rest ≡ front
    pub bytes : AreBytes front
    pub taken : flat_map reply answers ≡ taken_in conn life ++ unwritten
    pub count : length answers + few ≡ length requests + refusals is_refused
    pub each : (place : ℕ) (asked : List (List ℕ)) (given : Answer) → slice_get requests place ≡ Some asked → slice_get answers place ≡ Some given
        → IsAnswerTo words slots conn start life place asked given
    pub last : (given : Answer) → is_refused ≡ true → slice_get answers (length requests) ≡ Some given → IsAnswerToFault came.rest given

  -- its last request waits for an answer, which the events that come next tell
  pub record Waits (life : List Event) (front : List ℕ) (reading : Rereading) : Type 0 where
    pub lived : Lived life front false [] 1
    pub answer : (asked : List (List ℕ)) (later : List Event) (given : Answer) → slice_get lived.requests (length lived.answers) ≡ Some asked → by_rest reading later ≡ Some given
        → IsAnswerTo words slots conn start (life ++ later) (length lived.answers) asked given

  -- behind an event that was responded to so, or to which there is no response
  abbrev pub IsResponded : List Event → Hearing → Option Response → Type 0
  IsResponded life hearing None = Lived life hearing.came hearing.refused [] 0
  IsResponded life hearing (Some (Answers given news)) = Lived life hearing.came hearing.refused (reply given) 0
  IsResponded life hearing (Some ReadsAgain) = Waits life hearing.came OfTree × (hearing.refused ≡ false)

  -- so it is replied
  pub lived_replied : (life : List Event) (front : List ℕ) (is_refused : Bool) (unwritten : List ℕ) (few : ℕ) → waiting conn (run_after words slots (start ++ life)).point ≡ few
      → Lived life front is_refused unwritten few → IsReplied words slots conn start life
  lived_replied life front is_refused unwritten few waits lived = record {
    requests = lived.requests;
    is_refused = is_refused;
    came = lived.came;
    answers = lived.answers;
    taken = (unwritten, lived.taken);
    count = ap (λ (n : ℕ). length lived.answers + n) waits ∙ lived.count;
    each = lived.each;
    last = lived.last;
  }

  -- as it is accepted
  pub lived_none : Lived [] [] false [] 0
  lived_none = record {
    requests = [];
    answers = [];
    came = record { rest = []; is = refl; sent = All-nil IsSent; behind = nothing_came };
    behind = λ e. refl;
    bytes = no_bytes;
    taken = refl;
    count = refl;
    each = λ place asked given is gave. absurd (let e : None ≡ Some asked = is in cc);
    last = λ given e gave. absurd (let both : false ≡ true = e in cc);
  }

  -- ---- one event more

  module _ (life : List Event) (event : Event) where
    came_more : (bytes : List ℕ) → came_by conn event ≡ bytes → came_in conn (life ++ event ∷ []) ≡ came_in conn life ++ bytes
    came_more bytes is = more (came_by conn) life event ∙ ap (λ (t : List ℕ). came_in conn life ++ t) is

    taken_more : (bytes : List ℕ) → taken_by conn event ≡ bytes → taken_in conn (life ++ event ∷ []) ≡ taken_in conn life ++ bytes
    taken_more bytes is = more (taken_by conn) life event ∙ ap (λ (t : List ℕ). taken_in conn life ++ t) is

    same_came : came_by conn event ≡ [] → came_in conn (life ++ event ∷ []) ≡ came_in conn life
    same_came is = came_more [] is ∙ append-nil (came_in conn life)

    -- an answer stays
    answer_more : (place : ℕ) (asked : List (List ℕ)) (given : Answer) → IsAnswerTo words slots conn start life place asked given
        → IsAnswerTo words slots conn start (life ++ event ∷ []) place asked given
    answer_more place asked given to = record {
      sooner = to.sooner;
      event = to.event;
      later = to.later ++ event ∷ [];
      is = ap (λ (es : List Event). es ++ event ∷ []) to.is ∙ append_assoc to.sooner (to.event ∷ to.later) (event ∷ []);
      whole = to.whole;
      server = to.server;
      client = to.client;
      stands = to.stands;
      same = answer_stays (to_words to.server.now to.server.state asked) to.later (event ∷ []) given to.same;
    }

    -- nothing came of it, and it took what is no longer unwritten
    pub lived_on : (front : List ℕ) (is_refused : Bool) (before after : List ℕ) (few : ℕ) → came_by conn event ≡ [] → before ≡ taken_by conn event ++ after
        → Lived life front is_refused before few → Lived (life ++ event ∷ []) front is_refused after few
    lived_on front is_refused before after few none takes lived = record {
      requests = lived.requests;
      answers = lived.answers;
      came = record { rest = lived.came.rest; is = same_came none ∙ lived.came.is; sent = lived.came.sent; behind = lived.came.behind };
      behind = lived.behind;
      bytes = lived.bytes;
      taken = lived.taken ∙ ap (λ (t : List ℕ). taken_in conn life ++ t) takes ∙ sym (append_assoc (taken_in conn life) (taken_by conn event) after)
          ∙ ap (λ (t : List ℕ). t ++ after) (sym (taken_more (taken_by conn event) refl));
      count = lived.count;
      each = λ place asked given is gave. answer_more place asked given (lived.each place asked given is gave);
      last = lived.last;
    }

    -- ---- its last request waits, and nothing came of it meanwhile

    module _ (front : List ℕ) (reading : Rereading) (comes : came_by conn event ≡ []) (takes : taken_by conn event ≡ []) (waits : Waits life front reading) where
      -- the event is one of those that tell its answer
      answer_on : (asked : List (List ℕ)) (later : List Event) (given : Answer) → slice_get waits.lived.requests (length waits.lived.answers) ≡ Some asked
          → by_rest reading (event ∷ later) ≡ Some given → IsAnswerTo words slots conn start ((life ++ event ∷ []) ++ later) (length waits.lived.answers) asked given
      answer_on asked later given is told =
          subst (λ (es : List Event). IsAnswerTo words slots conn start es (length waits.lived.answers) asked given) (sym (append_assoc life (event ∷ []) later))
          (waits.answer asked (event ∷ later) given is told)

      -- the reading goes on
      pub waits_on : (next : Rereading) → ((later : List Event) → by_rest reading (event ∷ later) ≡ by_rest next later) → Waits (life ++ event ∷ []) front next
      unfolding lived_on
      waits_on next same = record {
        lived = lived_on front false [] [] 1 comes (sym takes ∙ sym (append-nil (taken_by conn event))) waits.lived;
        answer = λ asked later given is told. answer_on asked later given is (same later ∙ told);
      }

      -- it is answered
      pub waits_answered : (given : Answer) → ((later : List Event) → by_rest reading (event ∷ later) ≡ Some given) → Lived (life ++ event ∷ []) front false (reply given) 0
      waits_answered given same =
          let lived : Lived life front false [] 1 = waits.lived in
          record {
            requests = lived.requests;
            answers = lived.answers ++ given ∷ [];
            came = record { rest = lived.came.rest; is = same_came comes ∙ lived.came.is; sent = lived.came.sent; behind = lived.came.behind };
            behind = lived.behind;
            bytes = lived.bytes;
            taken = more reply lived.answers given ∙ ap (λ (t : List ℕ). t ++ reply given) (lived.taken ∙ sym (taken_more [] takes));
            count = (let few : length lived.answers + 1 ≡ length lived.requests + 0 = lived.count in
                let all : length (lived.answers ++ given ∷ []) + 0 ≡ length lived.requests + 0 = omega (arith, few, length-append lived.answers (given ∷ [])) in all);
            each = λ place asked other is gave. elim (pushed lived.answers given place other gave) [
              | inl old ↦ answer_more place asked other (lived.each place asked other is old)
              | inr new ↦
                  let P : ℕ → Answer → Type 0 = λ n a. IsAnswerTo words slots conn start (life ++ event ∷ []) n asked a in
                  let there : slice_get lived.requests (length lived.answers) ≡ Some asked = subst (λ (n : ℕ). slice_get lived.requests n ≡ Some asked) new.0 is in
                  let now : P (length lived.answers) given = subst (λ (es : List Event). IsAnswerTo words slots conn start es (length lived.answers) asked given)
                  (append-nil (life ++ event ∷ [])) (answer_on asked [] given there (same [])) in
                  subst (λ (n : ℕ). P n other) (sym new.0) (subst (λ (a : Answer). P (length lived.answers) a) new.1 now)
            ];
            last = λ other e gave. absurd (let both : false ≡ true = e in cc);
          }

    -- ---- bytes came of it, to which all answers so far were written

    module _ (front bytes : List ℕ) (comes : came_by conn event ≡ bytes) (takes : taken_by conn event ≡ []) (are : AreBytes bytes) (lived : Lived life front false [] 0) where
      all_came : came_in conn (life ++ event ∷ []) ≡ flat_map request lived.requests ++ (lived.came.rest ++ bytes)
      all_came = came_more bytes comes ∙ ap (λ (t : List ℕ). t ++ bytes) lived.came.is ∙ append_assoc (flat_map request lived.requests) lived.came.rest bytes

      rest_is : lived.came.rest ++ bytes ≡ front ++ bytes
      rest_is = ap (λ (t : List ℕ). t ++ bytes) (lived.behind refl)

      all_taken : (given : Answer) → flat_map reply (lived.answers ++ given ∷ []) ≡ taken_in conn (life ++ event ∷ []) ++ reply given
      all_taken given = more reply lived.answers given ∙ ap (λ (t : List ℕ). t ++ reply given) (lived.taken ∙ sym (taken_more [] takes))

      as_many : length lived.answers ≡ length lived.requests
      as_many = let all : length lived.answers + 0 ≡ length lived.requests + 0 = lived.count in omega (arith, all)

      -- an answer to a request is one of those before, or the one that is given now
      old_place : (place : ℕ) (asked : List (List ℕ)) → slice_get lived.requests place ≡ Some asked → place ≡ length lived.answers → ⊥
      old_place place asked is new = omega (arith, as_many, new, slice_get_within lived.requests place asked is)

      -- a part of a request
      lived_part : Is Part (front ++ bytes) → Lived (life ++ event ∷ []) (front ++ bytes) false [] 0
      lived_part is = record {
        requests = lived.requests;
        answers = lived.answers;
        came = record { rest = lived.came.rest ++ bytes; is = all_came; sent = lived.came.sent; behind = subst (IsPart most_request) (sym rest_is) is };
        behind = λ e. rest_is;
        bytes = bytes_append front bytes lived.bytes are;
        taken = lived.taken ∙ ap (λ (t : List ℕ). t ++ []) (sym (append-nil (taken_in conn life)) ∙ sym (taken_more [] takes));
        count = lived.count;
        each = λ place asked given is gave. answer_more place asked given (lived.each place asked given is gave);
        last = λ given e gave. absurd (let both : false ≡ true = e in cc);
      }

      -- a frame that is refused
      lived_fault : (what : Heard) → IsFault what → Is what (front ++ bytes) → Lived (life ++ event ∷ []) [] true (reply (refused (fault_text what))) 0
      lived_fault what fault is =
          let given : Answer = refused (fault_text what) in
          let frame : Is what (lived.came.rest ++ bytes) = subst (Is what) (sym rest_is) is in
          record {
            requests = lived.requests;
            answers = lived.answers ++ given ∷ [];
            came = record { rest = lived.came.rest ++ bytes; is = all_came; sent = lived.came.sent; behind = record { what = what; fault = fault; is = frame } };
            behind = λ e. absurd (let both : true ≡ false = e in cc);
            bytes = no_bytes;
            taken = all_taken given;
            count = (let all : length (lived.answers ++ given ∷ []) + 0 ≡ length lived.requests + 1 = omega (arith, as_many, length-append lived.answers (given ∷ [])) in all);
            each = λ place asked other is gave. elim (pushed lived.answers given place other gave) [
              | inl old ↦ answer_more place asked other (lived.each place asked other is old)
              | inr new ↦ absurd (old_place place asked is new.0)
            ];
            last = λ other e gave. elim (pushed lived.answers given (length lived.requests) other gave) [
              | inl old ↦ absurd (omega (arith, as_many, slice_get_within lived.answers (length lived.requests) other old))
              | inr new ↦ record { what = what; fault = fault; is = frame; same = sym new.1 }
            ];
          }

      -- a request is whole, at a client's place of a turn
      module _ (place : ℕ) (s : Server) (stands : (run_after words slots (start ++ life)).point ≡ AtTurn (AtClient place) s) where
        whole_came : (asked : List (List ℕ)) → Is (Words asked) (front ++ bytes) → AreRequests (came_in conn (life ++ event ∷ [])) (lived.requests ++ asked ∷ []) false
        whole_came asked is = record {
          rest = [];
          is = all_came ∙ ap (λ (t : List ℕ). flat_map request lived.requests ++ t) (rest_is ∙ is.is) ∙ sym (more request lived.requests asked)
              ∙ sym (append-nil (flat_map request (lived.requests ++ asked ∷ [])));
          sent = All-push IsSent lived.requests asked lived.came.sent (record { fit = is.fit; bounds = is.bounds });
          behind = nothing_came;
        }

        -- what the model replies to it, or by what is read behind it
        new_answer : (asked : List (List ℕ)) → Is (Words asked) (front ++ bytes) → (later : List Event) (given : Answer) → IsAnswer (to_words s.now s.state asked) later given
            → IsAnswerTo words slots conn start ((life ++ event ∷ []) ++ later) (length lived.requests) asked given
        new_answer asked is later given same = record {
          sooner = life;
          event = event;
          later = later;
          is = append_assoc life (event ∷ []) later;
          whole = record { others = lived.requests; so_many = refl; before = lived.came; whole = whole_came asked is };
          server = s;
          client = place;
          stands = stands;
          same = same;
        }

        -- an answer to a request of those before is one to the same; and one to this one is the new one
        module _ (asked : List (List ℕ)) (is : Is (Words asked) (front ++ bytes)) where
          lived_request : (given : Answer) → IsAnswer (to_words s.now s.state asked) [] given → Lived (life ++ event ∷ []) [] false (reply given) 0
          unfolding whole_came
          lived_request given replied = record {
            requests = lived.requests ++ asked ∷ [];
            answers = lived.answers ++ given ∷ [];
            came = whole_came asked is;
            behind = λ e. refl;
            bytes = no_bytes;
            taken = all_taken given;
            count = (let all : length (lived.answers ++ given ∷ []) + 0 ≡ length (lived.requests ++ asked ∷ []) + 0 = omega (arith, as_many, length-append lived.answers (given ∷ []), length-append lived.requests (asked ∷ [])) in all);
            each = λ at others other request_is gave. elim (pushed lived.requests asked at others request_is) [
              | inl old ↦ elim (pushed lived.answers given at other gave) [
                | inl was ↦ answer_more at others other (lived.each at others other old was)
                | inr new ↦ absurd (old_place at others old new.0)
              ]
              | inr now ↦ elim (pushed lived.answers given at other gave) [
                | inl was ↦ absurd (omega (arith, as_many, now.0, slice_get_within lived.answers at other was))
                | inr new ↦
                    let P : ℕ → List (List ℕ) → Answer → Type 0 = λ n ws a. IsAnswerTo words slots conn start (life ++ event ∷ []) n ws a in
                    let first : P (length lived.requests) asked given = subst (λ (es : List Event). IsAnswerTo words slots conn start es (length lived.requests) asked given)
                    (append-nil (life ++ event ∷ [])) (new_answer asked is [] given replied) in
                    subst (λ (n : ℕ). P n others other) (sym now.0)
                    (subst (λ (ws : List (List ℕ)). P (length lived.requests) ws other) now.1 (subst (λ (a : Answer). P (length lived.requests) asked a) new.1 first))
              ]
            ];
            last = λ other e gave. absurd (let both : false ≡ true = e in cc);
          }

          -- it waits
          lived_waiting : Lived (life ++ event ∷ []) [] false [] 1
          unfolding whole_came
          lived_waiting = record {
            requests = lived.requests ++ asked ∷ [];
            answers = lived.answers;
            came = whole_came asked is;
            behind = λ e. refl;
            bytes = no_bytes;
            taken = lived.taken ∙ ap (λ (t : List ℕ). t ++ []) (sym (append-nil (taken_in conn life)) ∙ sym (taken_more [] takes));
            count = (let all : length lived.answers + 1 ≡ length (lived.requests ++ asked ∷ []) + 0 = omega (arith, as_many, length-append lived.requests (asked ∷ [])) in all);
            each = λ at others other request_is gave. elim (pushed lived.requests asked at others request_is) [
              | inl old ↦ answer_more at others other (lived.each at others other old gave)
              | inr now ↦ absurd (omega (arith, as_many, now.0, slice_get_within lived.answers at other gave))
            ];
            last = λ other e gave. absurd (let both : false ≡ true = e in cc);
          }

          waits_request : to_words s.now s.state asked ≡ ReadsAgain → Waits (life ++ event ∷ []) [] OfTree
          unfolding lived_waiting
          waits_request again = record {
            lived = lived_waiting;
            answer = λ others later given at told. elim (pushed lived.requests asked (length lived.answers) others at) [
              | inl old ↦ absurd (old_place (length lived.answers) others old refl)
              | inr new ↦
                  let first : IsAnswerTo words slots conn start ((life ++ event ∷ []) ++ later) (length lived.requests) asked given =
                  new_answer asked is later given (subst (λ (response : Response). IsAnswer response later given) (sym again) told) in
                  let P : ℕ → List (List ℕ) → Type 0 = λ n ws. IsAnswerTo words slots conn start ((life ++ event ∷ []) ++ later) n ws given in
                  subst (λ (n : ℕ). P n others) (sym new.0) (subst (λ (ws : List (List ℕ)). P (length lived.requests) ws) new.1 first)
            ];
          }

          lived_words : (response : Response) → to_words s.now s.state asked ≡ response → IsResponded (life ++ event ∷ []) (record { came = []; refused = false }) (Some response)
          lived_words (Answers given news) same = lived_request given (subst (λ (response : Response). IsAnswer response [] given) (sym same) refl)
          lived_words ReadsAgain same = (waits_request same, refl)

        -- whatever is heard of it
        pub lived_heard : (heard : Heard) → Is heard (front ++ bytes) → IsResponded (life ++ event ∷ []) (hearing_after (front ++ bytes) heard) (to_heard s.now s.state heard)
        unfolding to_heard
        lived_heard Part is = lived_part is
        lived_heard (Words asked) is = lived_words asked is (to_words s.now s.state asked) refl
        lived_heard (TooLong n) is = lived_fault (TooLong n) tt is
        lived_heard Empty is = lived_fault Empty tt is
        lived_heard (BadWord at) is = lived_fault (BadWord at) tt is
