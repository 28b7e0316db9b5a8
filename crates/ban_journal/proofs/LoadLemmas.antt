-- What a journal gives that is loaded, and what both slots mean.
use Rattle.std.proofs.Common.{ℕ, Bool, false, zero, suc, ◌≡◌, ◌+◌, ◌-◌, ◌<◌, ◌≤◌, Option, Some, None, List, [], ◌∷◌, ◌++◌, length, drop, Result, Ok, Err, length-append, refl, sym, ap, ◌∙◌, append_assoc, append-nil, subst, arith}
use Rattle.std.proofs.lemmas.Bool.{le-ltb}
use Rattle.std.proofs.lemmas.List.{take-append-drop, append_cancel_left}
use Rattle.std.proofs.lemmas.Option.{same_Some}
use Rattle.f2b_base.specs.declared.input.Input.{Input}
use Rattle.f2b_base.specs.declared.view.View.{View}
use Rattle.f2b_model.specs.StorableViews.{IsStorableView}
use Rattle.f2b_model.specs.Views.{empty_view}
use Rattle.f2b_world.specs.Slots.{Slot}
use Rattle.f2b_world.specs.Told.{History, Standing}
use Rattle.journal_slots.specs.declared.head.Head.{Head}
use Rattle.journal_slots.specs.declared.head.Head.TheVariants.{Short, Ajar, Shut}
use Rattle.journal_slots.specs.Fronts.{IsRun}
use Rattle.journal_slots.specs.Grammar.{Opened, Parsed, Empty, Open, Bad, inputs_at, opened_at, number_of, parsed_of, parse_slot}
use Rattle.journal_slots.specs.Starts.{Start, start, generation, IsHead}
use Rattle.journal_slots.specs.Tops.{Stored}
use Rattle.journal_slots.proofs.RunLemmas.{not_closed, with_front, run_reads}
use Rattle.journal_slots.proofs.StartLemmas.{start_codec}
use Rattle.record_fields.specs.Codec.{◌>>=◌, IsHeld}
use Rattle.record_fields.proofs.CodecLemmas.{held_behind}
use Rattle.slot_reader.specs.declared.checked.Checked.{Checked}
use Rattle.slot_reader.specs.declared.fault.Fault.{Fault}
use Rattle.slot_reader.specs.declared.fault.Fault.TheVariants.{Disk as FaultDisk, NoMemory as FaultMemory}
use Rattle.slot_reader.specs.declared.opening.Opening.TheVariants.{Empty as EmptyOpening, Open as OpenOpening, Bad as BadOpening}
use Rattle.slot_reader.specs.declared.reader.Next.{Next}
use Rattle.slot_reader.specs.declared.reader.Next.TheVariants.{Input as NextInput, Closed, Bad as BadNext}
use Rattle.slot_reader.specs.declared.reader.SlotReader.{SlotReader}
use Rattle.slot_reader.specs.Reads.{content, OnlyReads, is_fault as is_slot_fault}
use Rattle.slot_reader.specs.Readings.{start_of, HasRead, EndsAt, Reads, IsNext, TellsNext, IsOpened, IsChecked, IsSameSlot, IsTold, Stands}
use Rattle.slot_reader.specs.Windows.{IsWithin}
use Rattle.slot_reader.proofs.ReadLemmas.{told_before, reads_same, reads_then}
use Rattle.slot_writes.specs.declared.position.Position.{Position}
use Rattle.slot_writes.specs.Entries.{fresh_slot}
use Rattle.slot_writes.specs.Rests.{IsTop, IsOpenAt, IsAtRest}
use Rattle.ban_journal.specs.declared.load.StoredInputs.{StoredInputs}
use Rattle.ban_journal.specs.declared.load_error.LoadError.{LoadError}
use Rattle.ban_journal.specs.declared.load_error.LoadError.TheVariants.{DiskFault, NotAJournal, NoMemory}
use Rattle.ban_journal.specs.Loads.{WhereTold, load_error, is_fault, bytes_left, StandsOver, IsFound, StandBehind, AreLeft, IsGiven, IsBegun, AreSettled, IsLoaded}
use Rattle.ban_journal.specs.Places.{least_bytes, IsPlaced}

-- ---- what was read of a slot, and what it means

-- it begins with this start and these inputs, as far as it is open
abbrev Begins : Start → List Input → Parsed → Type 0
Begins first before Empty = ⊥
Begins first before (Open o) = (left : List Input) × (o.start ≡ first) × (o.inputs ≡ before ++ left)
Begins first before (Bad number at) = Unit {0}

abbrev opened_by : Start → ℕ → Result (List Input × List ℕ) ℕ → Result Opened ℕ
opened_by first long read = read >>= λ r. Ok (record { start = first; inputs = r.0; gate = long + 1 - length r.1 })

parse_behind : (gate : ℕ) (bytes : List ℕ) → 0 < gate → 16 ≤ length bytes → parse_slot (gate ∷ bytes) ≡ parsed_of (number_of (generation.read bytes)) (length bytes + 1) (opened_at bytes)
unfolding parse_slot
parse_behind gate bytes is_on long = rw (not_closed gate is_on, le-ltb (length bytes) 16 long) refl

opened_front : (first : Start) (before : List Input) (run rest : List ℕ) → start.Fits first → IsRun first.version before run → IsHeld (start.spell first ++ (run ++ rest))
    → (m : ℕ) × (opened_at (start.spell first ++ (run ++ rest)) ≡ opened_by first (length (start.spell first ++ (run ++ rest))) (with_front before (inputs_at first.version (suc m) rest)))
unfolding opened_at
opened_front first before run rest fits runs held =
    let long = length (start.spell first ++ (run ++ rest)) in
    let more = run_reads first.version (length (run ++ rest) + 1) before run rest (omega (arith, length-append run rest)) runs (held_behind (start.spell first) (run ++ rest) held) in
    (more.0, rw (start_codec.again first (run ++ rest) fits held) (ap (opened_by first long) more.1))

begins_by : (number long all : ℕ) (first : Start) (before : List Input) (read : Result (List Input × List ℕ) ℕ) → Begins first before (parsed_of number all (opened_by first long (with_front before read)))
begins_by number long all first before (Ok r) = (r.0, refl, refl)
begins_by number long all first before (Err left) = tt

-- What was read of a slot stands at the front of what it means.
begins : (r : SlotReader) (v : View) (before : List Input) (now : List ℕ) → HasRead r v before now → Begins (start_of r v) before (parse_slot now)
begins r v before now is =
    let first = start_of r v in
    let rest = drop r.shown.place now in
    let bytes = start.spell first ++ (is.spelt.run ++ rest) in
    let text : now ≡ is.spelt.gate ∷ bytes =
    sym (take-append-drop r.shown.place now) ∙ ap (λ (x : List ℕ). x ++ rest) is.spelt.holds ∙ ap (λ (x : List ℕ). is.spelt.gate ∷ x) (append_assoc (start.spell first) is.spelt.run rest) in
    let bytes_held : IsHeld bytes = let held = is.held in omega (arith, held, ap length text) in
    let long : 16 ≤ length bytes = let big = is.big in omega (arith, big, ap length text) in
    let parsed = opened_front first before is.spelt.run rest is.spelt.fits is.spelt.runs bytes_held in
    let all : parse_slot now ≡ parsed_of (number_of (generation.read bytes)) (length bytes + 1) (opened_by first (length bytes) (with_front before (inputs_at first.version (suc parsed.0) rest))) =
    ap parse_slot text ∙ parse_behind is.spelt.gate bytes is.spelt.is_open long ∙ ap (parsed_of (number_of (generation.read bytes)) (length bytes + 1)) parsed.1 in
    subst (Begins first before) (sym all) (begins_by (number_of (generation.read bytes)) (length bytes) (length bytes + 1) first before (inputs_at first.version (suc parsed.0) rest))

begins_open : (r : SlotReader) (v : View) (before : List Input) (now : List ℕ) (o : Opened) → HasRead r v before now → parse_slot now ≡ Open o → (left : List Input) × (o.start ≡ start_of r v) × (o.inputs ≡ before ++ left)
begins_open r v before now o is parsed = subst (Begins (start_of r v) before) parsed (begins r v before now is)

-- ---- inputs that are left, over one slot

open_is : (o p : Opened) → Open o ≡ Open p → o ≡ p
open_is o p e = cc

bad_is_open : (o : Opened) (number at : ℕ) → Bad number at ≡ Open o → ⊥
bad_is_open o number at e = cc

nothing_left : (before left : List Input) → before ≡ before ++ left → left ≡ []
nothing_left before left e = append_cancel_left before left [] (sym e ∙ sym (append-nil before))

module _ (r s : SlotReader) (left : List Input) (now : List ℕ) (is : StandBehind r left now) where
  one_given : (i : Input) → HasRead s is.view (is.before ++ i ∷ []) now → (rest : List Input) × (left ≡ i ∷ rest) × StandBehind s rest now
  one_given i read =
      let b = begins_open s is.view (is.before ++ i ∷ []) now is.opened read is.parsed in
      let same : is.before ++ left ≡ is.before ++ i ∷ b.0 = sym is.inputs ∙ b.2 ∙ append_assoc is.before (i ∷ []) b.0 in
      (b.0, append_cancel_left is.before left (i ∷ b.0) same, record { view = is.view; before = is.before ++ i ∷ []; opened = is.opened; read = read; parsed = is.parsed; inputs = b.2 })

  all_given : EndsAt s.shown.place (start_of s is.view) is.before now → left ≡ []
  all_given ends =
      let same = open_is is.opened _ (sym is.parsed ∙ ends.means) in
      nothing_left is.before left (sym (ap (λ (o : Opened). o.inputs) same) ∙ is.inputs)

  never_bad : (number at : ℕ) → parse_slot now ≡ Bad number at → ⊥
  never_bad number at bad = bad_is_open is.opened number at (sym bad ∙ is.parsed)

  still_left : HasRead s is.view is.before now → StandBehind s left now
  still_left read = record { view = is.view; before = is.before; opened = is.opened; read = read; parsed = is.parsed; inputs = is.inputs }

-- ---- while the disk is read

told_still : (failed : Bool) (P : List ℕ → Type 0) (slot : ℕ) (a b : Standing) → OnlyReads failed a b → IsTold P slot a.told → IsTold P slot b.told
told_still failed P slot a b reads is h told =
    let t = told_before failed a.told b.told reads.told h told in
    let Q : List ℕ → Type 0 = λ now. IsHeld now × P now in
    subst Q (ap (λ (s : Slot). s.now) (sym (t.2 slot))) (is t.0 t.1)

-- what was read of the one history that is told
reads_of : (r : SlotReader) (v : View) (inputs : List Input) (told : Option History) (g : History) → told ≡ Some g → HasRead r v inputs (content g r.shown.slot) → Reads r v inputs told
reads_of r v inputs told g is read h other = subst (λ (k : History). HasRead r v inputs (content k r.shown.slot)) (same_Some g h (sym is ∙ other)) read

-- ---- the next input

abbrev with_reader : SlotReader → StoredInputs
with_reader r = record { reader = Some r }

module _ (failed : Bool) (r s : SlotReader) (a b : Standing) (reads : OnlyReads failed a b) (slot : s.shown.slot ≡ r.shown.slot) (next : Result Next Fault)
    (says : (v : View) (inputs : List Input) → Reads r v inputs a.told → TellsNext s v inputs b.told next)
    (left : List Input) (before : WhereTold a.told (λ g. AreLeft (with_reader r) left (content g))) (h : History) (told : b.told ≡ Some h) where
  abbrev now : List ℕ
  now = content h s.shown.slot

  -- what was left before, and what the call told of it
  left_then : (is : StandBehind r left now) × IsNext s is.view is.before now next
  left_then =
      let t = told_before failed a.told b.told reads.told h told in
      let same : content t.0 r.shown.slot ≡ now = ap (λ (x : Slot). x.now) (sym (t.2 r.shown.slot)) ∙ ap (content h) (sym slot) in
      let is = before t.0 t.1 in (
        record { view = is.view; before = is.before; opened = is.opened; read = subst (HasRead r is.view is.before) same is.read; parsed = ap parse_slot (sym same) ∙ is.parsed; inputs = is.inputs },
        says is.view is.before (reads_of r is.view is.before a.told t.0 t.1 is.read) h told,
      )

module _ (failed : Bool) (r s : SlotReader) (a b : Standing) (reads : OnlyReads failed a b) (slot : s.shown.slot ≡ r.shown.slot) where
  abbrev Says : Result Next Fault → Type 0
  Says next = (v : View) (inputs : List Input) → Reads r v inputs a.told → TellsNext s v inputs b.told next

  abbrev Gives : Result (Option Input) LoadError → Type 0
  Gives result = (left : List Input) → WhereTold a.told (λ g. AreLeft (with_reader r) left (content g)) → WhereTold b.told (λ g. IsGiven (with_reader s) left (content g) result)

  pub given_input : (i : Input) → Says (Ok (NextInput i)) → Gives (Ok (Some i))
  given_input i says left before h told =
      let k = left_then failed r s a b reads slot (Ok (NextInput i)) says left before h told in
      one_given r s left (content h s.shown.slot) k.0 i k.1

  pub given_all : Says (Ok Closed) → Gives (Ok None)
  given_all says left before h told =
      let k = left_then failed r s a b reads slot (Ok Closed) says left before h told in
      all_given r s left (content h s.shown.slot) k.0 k.1.1

  pub given_bad : (slot_said at : ℕ) → Says (Ok (BadNext at)) → Gives (Err (NotAJournal slot_said at))
  given_bad slot_said at says left before h told =
      let k = left_then failed r s a b reads slot (Ok (BadNext at)) says left before h told in
      never_bad r s left (content h s.shown.slot) k.0 s.generation at k.1.1

  pub given_fails : (fault : Fault) → Says (Err fault) → Gives (Err (load_error fault))
  given_fails FaultDisk says left before h told =
      let k = left_then failed r s a b reads slot (Err FaultDisk) says left before h told in
      still_left r s left (content h s.shown.slot) k.0 k.1
  given_fails FaultMemory says left before h told =
      let k = left_then failed r s a b reads slot (Err FaultMemory) says left before h told in
      still_left r s left (content h s.shown.slot) k.0 k.1

-- ---- what an error tells, and how much is left

-- a fault of a slot is told as one of the load
pub reads_error : (X Y : Type 0) (a b : Standing) (fault : Fault) → OnlyReads (is_slot_fault {X = X} (Err fault)) a b → OnlyReads (is_fault {X = Y} (Err (load_error fault))) a b
reads_error X Y a b FaultDisk reads = reads
reads_error X Y a b FaultMemory reads = reads

-- a reader that goes on within its slot has less left
pub fewer_left : (r s : SlotReader) → IsSameSlot r s → IsWithin s.shown → r.shown.place < s.shown.place → bytes_left (with_reader s) < bytes_left (with_reader r)
fewer_left r s same within on = omega (arith, same.long, within.ends, on)

pub ruleset given = (reads_error, fewer_left)

pub none_given : (a : Standing) → OnlyReads false a a
none_given a = reads_same a

-- ---- the view and the inputs that were stored

empty_top : (number : ℕ) (stored : Stored) (p : Parsed) → p ≡ Empty → IsTop number stored p → stored ≡ record { view = empty_view; inputs = [] }
empty_top number stored p is top = (subst (IsTop number stored) is top).1

bad_top : (number other at : ℕ) (stored : Stored) (p : Parsed) → p ≡ Bad other at → IsTop number stored p → ⊥
bad_top number other at stored p is top = subst (IsTop number stored) is top

-- the current slot is open, as it begins like one
open_top : (number : ℕ) (stored : Stored) (first : Start) (p : Parsed) → Begins first [] p → IsTop number stored p → (o : Opened) × (p ≡ Open o) × (o.start ≡ first) × (stored ≡ record { view = o.start.view; inputs = o.inputs })
open_top number stored first Empty is top = absurd is
open_top number stored first (Open o) is top = (o, refl, is.1, top.1)
open_top number stored first (Bad other at) is top = absurd top

abbrev pub BegunAt : Position → Option History → Result (View × StoredInputs) LoadError → Type 0
BegunAt p told result = (limit : ℕ) (stored : Stored) → WhereTold told (λ g. StandsOver limit p stored (content g) → IsBegun stored (content g) result)

pub begun_empty : (p : Position) (head : Head) (told : Option History) → IsTold (λ now. IsOpened now (EmptyOpening head)) p.slot told → BegunAt p told (Ok (empty_view, record { reader = None }))
begun_empty p head told opened limit stored g is stands =
    let nothing = empty_top p.generation stored (parse_slot (content g p.slot)) (opened g is).1.0 stands.top in
    (sym (ap (λ (x : Stored). x.view) nothing), ap (λ (x : Stored). x.inputs) nothing)

pub begun_open : (p : Position) (r : SlotReader) (v : View) (told : Option History) → IsTold (λ now. IsOpened now (OpenOpening r v)) p.slot told → Stands p.slot (OpenOpening r v) told → BegunAt p told (Ok (v, with_reader r))
begun_open p r v told opened at limit stored g is stands =
    let now = content g p.slot in
    let read : HasRead r v [] now = (opened g is).1 in
    let t = open_top p.generation stored (start_of r v) (parse_slot now) (begins r v [] now read) stands.top in
    let view_is : v ≡ stored.view = sym (ap (λ (x : Start). x.view) t.2) ∙ sym (ap (λ (x : Stored). x.view) t.3) in
    let behind : StandBehind r stored.inputs now = record { view = v; before = []; opened = t.0; read = read; parsed = t.1; inputs = sym (ap (λ (x : Stored). x.inputs) t.3) } in
    (view_is, subst (λ (k : ℕ). StandBehind r stored.inputs (content g k)) (sym at.0) behind)

pub begun_bad : (p : Position) (number slot at : ℕ) (told : Option History) → IsTold (λ now. IsOpened now (BadOpening number at)) p.slot told → BegunAt p told (Err (NotAJournal slot at))
begun_bad p number slot at told opened limit stored g is stands = bad_top p.generation number at stored (parse_slot (content g p.slot)) (opened g is).1 stands.top

pub begun_fails : (p : Position) (fault : Fault) (told : Option History) → BegunAt p told (Err (load_error fault))
begun_fails p FaultDisk told limit stored g is stands = tt
begun_fails p FaultMemory told limit stored g is stands = tt

-- the view before the first configuration can be stored
pub empty_storable : IsStorableView empty_view
empty_storable = record {
  now = record {
    at = omega arith;
    purge = omega arith;
    jails = tt;
    names = tt;
    most = omega arith;
    patterns = omega arith;
    numbered = tt;
    next_ban = omega arith;
    lanes = record { up = tt; apart = record { one = λ id. tt }; jobs = tt };
    by_id = omega arith;
    next_job = omega arith;
  };
  named = refl;
  watched = tt;
  times = tt;
}

pub ruleset begun = (begun_empty, begun_bad, begun_fails, reads_error, empty_storable)

-- ---- the journal

least_within : (head : Head) (bytes : List ℕ) → IsHead head bytes → least_bytes head ≤ length bytes
least_within Short bytes is = omega arith
least_within Ajar bytes is = let long = is.0 in omega (arith, long)
least_within Shut bytes is = let long = is.0 in omega (arith, long)

gate_within : (gate number : ℕ) (stored : Stored) (bytes : List ℕ) → IsOpenAt gate number stored bytes → gate + 1 ≤ length bytes
gate_within gate number stored bytes is = omega (arith, is.gate_is, ap length is.holds, length-append is.front (0 ∷ is.rest))

placed_of : (limit : ℕ) (p : Position) (told : Option History) → ((g : History) → told ≡ Some g → (stored : Stored) × StandsOver limit p stored (content g)) → IsPlaced p told
placed_of limit p told stands = record {
  current = λ g is. least_within p.head (content g p.slot) ((stands g is).1.head);
  other = λ g is. least_within p.other (content g (fresh_slot p)) ((stands g is).1.other);
  gate = λ grows g is. gate_within p.gate p.generation (stands g is).0 (content g p.slot) ((stands g is).1.grows grows);
}

held_both : (g : History) → IsHeld (content g 0) → IsHeld (content g 1) → (k : ℕ) → k < 2 → IsHeld (content g k)
held_both g zero_held one_held zero lt = zero_held
held_both g zero_held one_held (suc zero) lt = one_held
held_both g zero_held one_held (suc (suc n)) lt = absurd (omega (arith, lt))

-- Where nothing is unsynced, a journal that stands over what the slots hold is at rest.
rests_of : (limit : ℕ) (p : Position) (stored : Stored) (g : History) → p.slot < 2 → ((k : ℕ) → k < 2 → IsHeld (content g k)) → StandsOver limit p stored (content g) → AreSettled g → IsAtRest p stored g
rests_of limit p stored g small held is settled_are =
    let fresh : fresh_slot p < 2 = omega arith in
    record {
      content = content g p.slot;
      past = content g (fresh_slot p);
      slot = small;
      holds = settled_are p.slot small;
      held = held p.slot small;
      head = is.head;
      top = is.top;
      grows = is.grows;
      beside = settled_are (fresh_slot p) fresh;
      past_held = held (fresh_slot p) fresh;
      past_head = is.other;
      older = is.older;
    }

-- where it stands whose slots are these
abbrev pub FoundBy : ℕ → Checked → Checked → Result Position LoadError → Type 0
FoundBy limit first second result = (now : ℕ → List ℕ) → IsChecked (now 0) first → IsChecked (now 1) second → IsFound limit now result

module _ (limit : ℕ) (first second : Checked) (b c : Standing) (first_is : IsTold (λ now. IsChecked now first) 0 b.told) (then_reads : OnlyReads false b c) (second_is : IsTold (λ now. IsChecked now second) 1 c.told) where
  pub loaded_refused : (e : LoadError) → FoundBy limit first second (Err e) → WhereTold c.told (λ g. IsLoaded limit g (Err e))
  loaded_refused DiskFault found g is = tt
  loaded_refused NoMemory found g is = tt
  loaded_refused (NotAJournal slot at) found g is = found (content g) ((told_still false (λ now. IsChecked now first) 0 b c then_reads first_is g is).1) ((second_is g is).1)

  module _ (p : Position) (failed : Bool) (d : Standing) (found : FoundBy limit first second (Ok p)) (reads : OnlyReads failed c d) where
    -- where the journal stands over what both slots hold
    stands_over : (g : History) → d.told ≡ Some g → ((k : ℕ) → k < 2 → IsHeld (content g k)) × ((stored : Stored) × StandsOver limit p stored (content g))
    stands_over g is =
        let one = told_still failed (λ now. IsChecked now first) 0 c d reads (told_still false (λ now. IsChecked now first) 0 b c then_reads first_is) g is in
        let two = told_still failed (λ now. IsChecked now second) 1 c d reads second_is g is in
        (held_both g one.0 two.0, found (content g) one.1 two.1)

    pub loaded_ok : (v : View) (s : StoredInputs) → p.slot < 2 → BegunAt p d.told (Ok (v, s)) → WhereTold d.told (λ g. IsLoaded limit g (Ok (record { journal = p; view = v; inputs = s })))
    loaded_ok v s small begun_is g is =
        let t = stands_over g is in
        let stored = t.1.0 in
        let parts = begun_is limit stored g is t.1.1 in
        let same : stored ≡ record { view = v; inputs = stored.inputs } = ap (λ (x : View). let y : Stored = record { view = x; inputs = stored.inputs } in y) (sym parts.0) in
        record {
          inputs = stored.inputs;
          means = t.1.1.means ∙ ap (λ (x : Stored). Some x) same;
          left = parts.1;
          at = t.1.1.at;
          rests = λ settled_are. subst (λ (x : Stored). IsAtRest p x g) same (rests_of limit p stored g small t.0 t.1.1 settled_are);
        }

    pub loaded_placed : IsPlaced p d.told
    loaded_placed = placed_of limit p d.told (λ g is. (stands_over g is).1)

    pub loaded_stops : (e : LoadError) → BegunAt p d.told (Err e) → WhereTold d.told (λ g. IsLoaded limit g (Err e))
    loaded_stops DiskFault begun_is g is = tt
    loaded_stops NoMemory begun_is g is = tt
    loaded_stops (NotAJournal slot at) begun_is g is = let t = stands_over g is in absurd (begun_is limit t.1.0 g is t.1.1)

pub loaded_fault : (limit : ℕ) (fault : Fault) (told : Option History) → WhereTold told (λ g. IsLoaded limit g (Err (load_error fault)))
loaded_fault limit FaultDisk told g is = tt
loaded_fault limit FaultMemory told g is = tt

-- an error of no call on the disk comes behind reads that were done
pub reads_and_error : (a b : Standing) (x : Bool) → x ≡ false → OnlyReads false a b → OnlyReads x a b
reads_and_error a b x is reads = subst (λ (y : Bool). OnlyReads y a b) (sym is) reads

pub ruleset loads = (reads_then, reads_error, reads_and_error, loaded_fault)
