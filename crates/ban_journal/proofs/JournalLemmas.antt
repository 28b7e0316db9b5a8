-- What the journal's calls did, and what whatever a stop leaves means meanwhile.
use Rattle.std.proofs.Common.{ℕ, ◌≡◌, ◌+◌, ◌-◌, ◌≤◌, ◌<◌, ◌^◌, inl, inr, true, false, nat_le, min, Option, Some, None, Result, Ok, Err, IfOk, List, [], ◌∷◌, length, take, length-append, refl, sym, ap, ap₂, subst, ◌∙◌, arith}
use Rattle.std.proofs.lemmas.Bool.{cases_Bool, leb-true, lt-ltb, le-ltb, le-leb}
use Rattle.f2b_base.specs.declared.input.Input.{Input}
use Rattle.f2b_base.specs.declared.view.View.{View}
use Rattle.f2b_world.specs.declared.event.Event.{Event}
use Rattle.f2b_world.specs.Told.{History, Standing, Adds, HasLength, grown}
use Rattle.f2b_world.proofs.AddsLemmas.{adds_weaker, adds_none, grown_none}
use Rattle.journal_slots.specs.declared.head.Head.TheVariants.{Ajar}
use Rattle.journal_slots.specs.Starts.{last_generation}
use Rattle.record_codec.specs.declared.version.Version.TheVariants.{Two}
use Rattle.record_codec.specs.Inputs.{input}
use Rattle.record_codec.specs.Views.{view}
use Rattle.record_fields.specs.Codec.{capped}
use Rattle.ban_journal.specs.declared.append_error.AppendError.{AppendError}
use Rattle.ban_journal.specs.declared.append_error.AppendError.TheVariants.{DiskFault, Full, Spent, NoMemory}
use Rattle.ban_journal.specs.declared.fault.Fault.{Fault}
use Rattle.ban_journal.specs.declared.fault.Fault.TheVariants.{Disk as FaultDisk, NoMemory as FaultMemory}
use Rattle.ban_journal.specs.Answers.{Wrote, Stops, error_of, Fails, Writes, said, IsAnswer}
use Rattle.ban_journal.specs.Kept.{Appends, TurnsOver, RestsAppended, RestsTurned}
use Rattle.ban_journal.specs.Places.{IsPlaced, least_bytes}
use Rattle.ban_journal.proofs.CallLemmas.{stopped_at_once}
use Rattle.ban_journal.proofs.PartLemmas.{none_taken, part_take}
use Rattle.ban_journal.proofs.RoomLemmas.{room_of, grows_of, above_need, within_need, said_is}
use Rattle.slot_writes.specs.declared.position.Position.{Position}
use Rattle.slot_writes.specs.Entries.{Entry, Written, Full as EntryFull, Spent as EntrySpent, fresh_slot, entry, body, behind_gate, turn_calls, fits, append_writes, appended, fresh_start, need, turn_entry, turn_writes, turned, input_bytes}
use Rattle.slot_writes.specs.Rests.{PermitsBoth, IsAtRest, MeansEither, MeansOneOf, and_input, just_view}
use Rattle.slot_writes.specs.Writes.{Write, done_events, IsFirstPart, IsBroken, IsPart, Performs}
use Rattle.slot_writes.proofs.RestLemmas.{rest_means, append_means, append_rests, turn_means, turn_rests}
use Rattle.slot_writes.proofs.RunLemmas.{all_is_part}

-- ---- errors

pub fails_of : (ws : List Write) (a b : Standing) (fault : Fault) → Stops ws a b fault → Fails ws a b (error_of fault)
fails_of ws a b FaultDisk is = is
fails_of ws a b FaultMemory is = is

-- ---- runs

module _ (next : Position) (ws : List Write) where
  -- what came is a part of the calls
  part_of : (a b : Standing) (answer : Result Position AppendError) → Writes next ws a b answer → Adds a.told b.told (λ g es. IsPart ws es)
  part_of a b (Ok after) is = adds_weaker (λ g es. es ≡ done_events ws) (λ g es. IsPart ws es) a.told b.told is.1.performs.events (λ g es done. all_is_part ws es done)
  part_of a b (Err DiskFault) is = adds_weaker (λ g es. IsBroken ws es) (λ g es. IsPart ws es) a.told b.told is.breaks.events (λ g es broken. inr broken)
  part_of a b (Err NoMemory) is = adds_weaker (λ g es. IsFirstPart ws es) (λ g es. IsPart ws es) a.told b.told is.stops.events (λ g es first. inl first)
  part_of a b (Err (Full need limit)) is = absurd is
  part_of a b (Err Spent) is = absurd is

-- what holds of the events where the history before them is told
told_of : (P Q : History → List Event → Type 0) (old new : Option History) → Adds old new P → ((g : History) → old ≡ Some g → (es : List Event) → P g es → Q g es) → Adds old new Q
told_of P Q old None adds f = tt
told_of P Q old (Some h) adds f = (adds.0, adds.1, adds.2, adds.3, f adds.0 adds.2 adds.1 adds.4)

-- where a run was done
done_at : (ws : List Write) (old new : Option History) → Performs ws old new → (h : History) → new ≡ Some h → (g : History) × (es : List Event) × (old ≡ Some g) × (h ≡ grown g es) × (es ≡ done_events ws)
done_at ws old None p h is = absurd (cc)
done_at ws old (Some j) p h is =
    let a = p.events in
    (a.0, a.1, a.2, ((let e : j ≡ h = cc in sym e) ∙ a.3), a.4)

-- ---- an append

pub append_keeps : (p : Position) (i : Input) (a b : Standing) (answer : Result Position AppendError) → p.limit < 2 ^ 64 → fits p i ≡ true → Writes (appended p i) (append_writes p i) a b answer → Appends p i a.told b.told
append_keeps p i a b answer small room is stored storable rests = record {
  points = told_of (λ g es. IsPart (append_writes p i) es) (λ g es. (k : ℕ) → MeansEither stored (and_input stored i) (grown g (take k es))) a.told b.told (part_of (appended p i) (append_writes p i) a b answer is)
      (λ g told es part k. append_means p stored g i small (rests g told) room storable (take k es) (part_take (append_writes p i) es k part));
}

appended_rests : (p : Position) (i : Input) (a b : Standing) (after : Position) → p.limit < 2 ^ 64 → fits p i ≡ true → (after ≡ appended p i) × Wrote (append_writes p i) a b → RestsAppended p i a.told b.told after
appended_rests p i a b after small room is stored storable rests h told =
    let d = done_at (append_writes p i) a.told b.told is.1.performs h told in
    let there = append_rests p stored d.0 i small (rests d.0 d.2) room storable d.1 d.4 in
    subst (λ (q : Position). IsAtRest q (and_input stored i) h) (sym is.0) (subst (IsAtRest (appended p i) (and_input stored i)) (sym d.3) there)

pub append_rests_if : (p : Position) (i : Input) (a b : Standing) (answer : Result Position AppendError) → p.limit < 2 ^ 64 → fits p i ≡ true → Writes (appended p i) (append_writes p i) a b answer
    → IfOk answer (RestsAppended p i a.told b.told)
append_rests_if p i a b (Ok after) small room is = appended_rests p i a b after small room is
append_rests_if p i a b (Err e) small room is = tt

abbrev pub LongAt : ℕ → ℕ → Standing → Result Position AppendError → Type 0
LongAt slot n b (Ok after) = HasLength b.told slot n
LongAt slot n b (Err e) = Unit {0}

appended_placed : (p : Position) (i : Input) (a b : Standing) (after : Position) → IsPlaced p a.told → (after ≡ appended p i) × Wrote (append_writes p i) a b → HasLength b.told p.slot (p.gate + 1 + length (entry i)) → IsPlaced after b.told
appended_placed p i a b after placed is long =
    let keeps = is.1.longer.keeps in
    let there : IsPlaced (appended p i) b.told = record {
      current = keeps p.slot (least_bytes p.head) placed.current;
      other = keeps (fresh_slot p) (least_bytes p.other) placed.other;
      gate = λ yes h told. let e = long h told in omega (arith, e, length-append (input_bytes i) (0 ∷ []));
    } in
    subst (λ (q : Position). IsPlaced q b.told) (sym is.0) there

pub append_placed_if : (p : Position) (i : Input) (a b : Standing) (answer : Result Position AppendError) → IsPlaced p a.told → Writes (appended p i) (append_writes p i) a b answer
    → LongAt p.slot (p.gate + 1 + length (entry i)) b answer → IfOk answer (λ after. IsPlaced after b.told)
append_placed_if p i a b (Ok after) placed is long = appended_placed p i a b after placed is long
append_placed_if p i a b (Err e) placed is long = tt

-- ---- a change of slots

not_last : (n : ℕ) → n < last_generation → nat_le last_generation n ≡ false
not_last n below = elim (cases_Bool (nat_le last_generation n)) [
  | inl is ↦ absurd (omega (arith, leb-true last_generation n is, below))
  | inr not ↦ not
]

nothing_came : (g : History) (es : List Event) (k : ℕ) → es ≡ [] → (image : ℕ → List ℕ) → PermitsBoth (grown g (take k es)) image → PermitsBoth g image
nothing_came g es k none image permits =
    let same : grown g (take k es) ≡ g = ap (λ (r : List Event). grown g (take k r)) none ∙ ap (grown g) (none_taken k) ∙ grown_none g in
    subst (λ (h : History). PermitsBoth h image) same permits

module _ (p : Position) (v : View) (i : Input) where
  full_entry : p.limit < need v i → turn_entry p v i ≡ EntryFull (need v i)
  full_entry above = rw (lt-ltb p.limit (need v i) above) refl

  spent_entry : need v i ≤ p.limit → last_generation ≤ p.generation → turn_entry p v i ≡ EntrySpent
  spent_entry room last = rw (le-ltb p.limit (need v i) room, le-leb last_generation p.generation last) refl

  written_entry : need v i ≤ p.limit → p.generation < last_generation → turn_entry p v i ≡ Written (turned p v i) (turn_writes p v i)
  written_entry room below = rw (le-ltb p.limit (need v i) room, not_last p.generation below) refl

  pub written_answer : (a b : Standing) (answer : Result Position AppendError) → need v i ≤ p.limit → p.generation < last_generation → Writes (turned p v i) (turn_writes p v i) a b answer
      → IsAnswer p.limit (turn_entry p v i) a b answer
  written_answer a b answer room below is = subst (λ (e : Entry). IsAnswer p.limit e a b answer) (sym (written_entry room below)) is

  pub full_answer : (a : Standing) (answer : Result Position AppendError) → p.limit < need v i → answer ≡ Err (Full (said (need v i)) p.limit) → IsAnswer p.limit (turn_entry p v i) a a answer
  full_answer a answer above is = subst (λ (e : Entry). IsAnswer p.limit e a a answer) (sym (full_entry above)) (is, refl)

  pub spent_answer : (a : Standing) (answer : Result Position AppendError) → need v i ≤ p.limit → last_generation ≤ p.generation → answer ≡ Err Spent → IsAnswer p.limit (turn_entry p v i) a a answer
  spent_answer a answer room last is = subst (λ (e : Entry). IsAnswer p.limit e a a answer) (sym (spent_entry room last)) (is, refl)

  -- what came, however it ended
  pub turn_keeps : (a b : Standing) (answer : Result Position AppendError) → p.limit < 2 ^ 64 → need v i ≤ p.limit → p.generation < last_generation → Writes (turned p v i) (turn_writes p v i) a b answer → TurnsOver p v i a.told b.told
  turn_keeps a b answer small room below is stored recorded storable rests = record {
    points = told_of (λ g es. IsPart (turn_writes p v i) es) (λ g es. (k : ℕ) → MeansOneOf stored (just_view v) (and_input (just_view v) i) (grown g (take k es))) a.told b.told
        (part_of (turned p v i) (turn_writes p v i) a b answer is)
        (λ g told es part k. turn_means p stored g v i small (rests g told) room below recorded storable (take k es) (part_take (turn_writes p v i) es k part));
  }

  -- nothing came
  pub turn_waits : (a : Standing) → TurnsOver p v i a.told a.told
  turn_waits a stored recorded storable rests = record {
    points = told_of (λ g es. es ≡ []) (λ g es. (k : ℕ) → MeansOneOf stored (just_view v) (and_input (just_view v) i) (grown g (take k es))) a.told a.told (adds_none a.told)
        (λ g told es none k image permits. inl (rest_means p stored g (rests g told) image (nothing_came g es k none image permits)));
  }

  turned_rests : (a b : Standing) (after : Position) → p.limit < 2 ^ 64 → need v i ≤ p.limit → p.generation < last_generation → (after ≡ turned p v i) × Wrote (turn_writes p v i) a b → RestsTurned p v i a.told b.told after
  turned_rests a b after small room below is stored recorded storable rests h told =
      let d = done_at (turn_writes p v i) a.told b.told is.1.performs h told in
      let there = turn_rests p stored d.0 v i small (rests d.0 d.2) room below recorded storable d.1 d.4 in
      subst (λ (q : Position). IsAtRest q (and_input (just_view v) i) h) (sym is.0) (subst (IsAtRest (turned p v i) (and_input (just_view v) i)) (sym d.3) there)

  pub turn_rests_if : (a b : Standing) (answer : Result Position AppendError) → p.limit < 2 ^ 64 → need v i ≤ p.limit → p.generation < last_generation → Writes (turned p v i) (turn_writes p v i) a b answer
      → IfOk answer (RestsTurned p v i a.told b.told)
  turn_rests_if a b (Ok after) small room below is = turned_rests a b after small room below is
  turn_rests_if a b (Err e) small room below is = tt

  turned_placed : (a b : Standing) (after : Position) → p.slot < 2 → IsPlaced p a.told → (after ≡ turned p v i) × Wrote (turn_writes p v i) a b
      → HasLength b.told (fresh_slot p) (length (body (fresh_start p v)) + 1 + length (entry i)) → IsPlaced after b.told
  turned_placed a b after small placed is long =
      let back : p.slot ≡ 1 - (1 - p.slot) = omega (arith, small) in
      let there : IsPlaced (turned p v i) b.told = record {
        current = λ h told. let e = long h told in omega (arith, e);
        other = subst (λ (k : ℕ). HasLength b.told k (least_bytes p.head)) back (is.1.longer.keeps p.slot (least_bytes p.head) placed.current);
        gate = λ yes h told. let e = long h told in omega (arith, e, length-append (input_bytes i) (0 ∷ []));
      } in
      subst (λ (q : Position). IsPlaced q b.told) (sym is.0) there

  pub turn_placed_if : (a b : Standing) (answer : Result Position AppendError) → p.slot < 2 → IsPlaced p a.told → Writes (turned p v i) (turn_writes p v i) a b answer
      → LongAt (fresh_slot p) (length (body (fresh_start p v)) + 1 + length (entry i)) b answer → IfOk answer (λ after. IsPlaced after b.told)
  turn_placed_if a b (Ok after) small placed is long = turned_placed a b after small placed is long
  turn_placed_if a b (Err e) small placed is long = tt

-- ---- how the calls end

module _ (p : Position) (i : Input) (bytes : List ℕ) (a b : Standing) (is : bytes ≡ entry i) where
  pub append_done : (q : Position) → q ≡ record p { gate = p.gate + length bytes } → Wrote (behind_gate p.slot p.gate bytes) a b → Writes (appended p i) (append_writes p i) a b (Ok q)
  append_done q at wrote =
      let long : p.gate + length bytes ≡ p.gate + length (input_bytes i) + 1 = omega (arith, ap length is, length-append (input_bytes i) (0 ∷ [])) in
      (at ∙ ap (λ (n : ℕ). record p { gate = n }) long, subst (λ (r : List ℕ). Wrote (behind_gate p.slot p.gate r) a b) is wrote)

  pub append_fails : (fault : Fault) → Stops (behind_gate p.slot p.gate bytes) a b fault → Fails (append_writes p i) a b (error_of fault)
  append_fails fault stops = fails_of (append_writes p i) a b fault (subst (λ (r : List ℕ). Stops (behind_gate p.slot p.gate r) a b fault) is stops)

  pub append_long : HasLength b.told p.slot (p.gate + 1 + length bytes) → HasLength b.told p.slot (p.gate + 1 + length (entry i))
  append_long long = subst (λ (r : List ℕ). HasLength b.told p.slot (p.gate + 1 + length r)) is long

module _ (p : Position) (v : View) (i : Input) (whole bytes : List ℕ) (a b : Standing) (is_whole : whole ≡ body (fresh_start p v)) (is : bytes ≡ entry i) where
  turn_text : turn_calls (fresh_slot p) p.other whole bytes ≡ turn_writes p v i
  turn_text = ap₂ (λ (x y : List ℕ). turn_calls (fresh_slot p) p.other x y) is_whole is

  pub turn_done : (gate : ℕ) → gate ≡ length whole + length bytes → Wrote (turn_calls (fresh_slot p) p.other whole bytes) a b
      → Writes (turned p v i) (turn_writes p v i) a b (Ok (record { limit = p.limit; slot = fresh_slot p; generation = p.generation + 1; grows = true; gate = gate; head = Ajar; other = p.head }))
  turn_done gate at wrote =
      let long : gate ≡ length (body (fresh_start p v)) + length (input_bytes i) + 1 = omega (arith, at, ap length is_whole, ap length is, length-append (input_bytes i) (0 ∷ [])) in (
        ap (λ (n : ℕ). let q : Position = record { limit = p.limit; slot = fresh_slot p; generation = p.generation + 1; grows = true; gate = n; head = Ajar; other = p.head } in q) long,
        subst (λ (ws : List Write). Wrote ws a b) turn_text wrote,
      )

  pub turn_fails : (fault : Fault) → Stops (turn_calls (fresh_slot p) p.other whole bytes) a b fault → Fails (turn_writes p v i) a b (error_of fault)
  turn_fails fault stops = fails_of (turn_writes p v i) a b fault (subst (λ (ws : List Write). Stops ws a b fault) turn_text stops)

  pub turn_long : HasLength b.told (fresh_slot p) (length whole + 1 + length bytes) → HasLength b.told (fresh_slot p) (length (body (fresh_start p v)) + 1 + length (entry i))
  turn_long long = subst (λ (n : ℕ). HasLength b.told (fresh_slot p) n) (ap₂ (λ (x y : List ℕ). length x + 1 + length y) is_whole is) long

-- ---- refusals

module _ (p : Position) (v : View) (i : Input) (view_len input_len bytes : ℕ) (small : p.limit < 2 ^ 64) (is_view : view_len ≡ capped ((view Two).spell v)) (is_input : input_len ≡ capped ((input Two).spell i))
    (total : bytes ≡ view_len + input_len + 12) where
  pub full_said : (a : Standing) (number : ℕ) → p.limit < bytes → number ≡ min bytes (2 ^ 64 - 1) → IsAnswer p.limit (turn_entry p v i) a a (Err (Full number p.limit))
  full_said a number above is =
      full_answer p v i a (Err (Full number p.limit)) (above_need v i p.limit view_len input_len bytes small is_view is_input total above)
      (ap (λ (n : ℕ). let e : AppendError = Full n p.limit in let r : Result Position AppendError = Err e in r) (is ∙ said_is v i p.limit view_len input_len bytes small is_view is_input total))

  pub room_left : bytes ≤ p.limit → need v i ≤ p.limit
  room_left le = within_need v i p.limit view_len input_len bytes small is_view is_input total le

  pub spent_said : (a : Standing) → bytes ≤ p.limit → last_generation ≤ p.generation → IsAnswer p.limit (turn_entry p v i) a a (Err Spent)
  spent_said a le last = spent_answer p v i a (Err Spent) (room_left le) last refl

pub ruleset append_exits = (stopped_at_once, append_done, append_fails, append_long)

pub ruleset append_laws = (grows_of, room_of, append_keeps, append_rests_if, append_placed_if)

pub ruleset turn_exits = (stopped_at_once, turn_done, turn_fails, turn_long)

pub ruleset turn_laws = (written_answer, full_said, spent_said, room_left, turn_keeps, turn_waits, turn_rests_if, turn_placed_if)
