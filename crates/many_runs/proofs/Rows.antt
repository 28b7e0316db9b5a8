-- Two runs one after the other, computed: the first is stopped before the last sync of its only input, which may then be there or not.
use Rattle.std.proofs.Common.{ℕ, zero, suc, ◌≡◌, ◌<◌, ◌&&◌, nat_lt, inl, inr, Bool, true, Some, List, [], ◌∷◌, ◌++◌, length, drop, replicate, refl, sym, ap, ◌∙◌, ◌^◌, subst, arith}
use Rattle.std.specs.Char.{encode_utf8}
use Rattle.std.specs.Fmt.{digits}
use Rattle.std.specs.Prelude.{IfSome, codes, slice_index, slice_index_or, take}
use Rattle.std.proofs.lemmas.Bool.{and_parts, ltb-true}
use Rattle.std.specs.Str.{is_utf8, chars}
use Rattle.f2b_base.specs.declared.input.Input.{Input}
use Rattle.f2b_base.specs.declared.input.What.TheVariants.{Config as Configured}
use Rattle.f2b_base.specs.declared.outside.Tree.{Tree}
use Rattle.f2b_base.specs.declared.outside.TreeFile.{TreeFile}
use Rattle.f2b_base.specs.declared.outside.TreeAnswer.TheVariants.{Tree as TreeGiven}
use Rattle.f2b_model.specs.Storable.{IsStorableInput}
use Rattle.f2b_world.specs.Bounds.{FitsFile}
use Rattle.f2b_world.specs.Slots.{IsOutside, Permits, Slot, settled}
use Rattle.f2b_world.specs.Told.{History, grown, slot_of}
use Rattle.f2b_world.specs.Walks.{Along, Comes}
use Rattle.f2b_world.specs.declared.answer.Listen.TheVariants.{Listening}
use Rattle.f2b_world.specs.declared.answer.StoreAnswer.TheVariants.{Kept}
use Rattle.f2b_world.specs.declared.event.Event.{Event}
use Rattle.f2b_world.specs.declared.event.Event.TheVariants.{Clock, Config, GateListen, StoreAt}
use Rattle.ini_interp.specs.Files.{file_of, meaning_of}
use Rattle.ini_interp.specs.Joins.{joined}
use Rattle.ini_interp.specs.Known.{known_replaced}
use Rattle.ini_interp.specs.Lines.{trimmed_start, trimmed_end, opened_by, item_of, content_form, form_of}
use Rattle.ini_interp.specs.Merges.{files_of, read_with, all_read, merged_in}
use Rattle.ini_interp.specs.References.{referred, percent_piece, piece_at, pieces_from}
use Rattle.ini_interp.specs.Sections.{items_of, raw, opened, with_raw}
use Rattle.ini_interp.specs.Values.{replaced}
use Rattle.jail_conf.specs.Conf.{settings_in}
use Rattle.jail_conf.specs.Sources.{text_in, own}
use Rattle.jail_conf.specs.Times.{time_word}
use Rattle.journal_slots.specs.Grammar.{inputs_at, opened_at, parse_slot}
use Rattle.journal_slots.specs.Starts.{generation, start, version}
use Rattle.journal_slots.specs.Tops.{meaning}
use Rattle.record_codec.specs.Definitions.{defs as defs_codec}
use Rattle.record_codec.specs.Inputs.{input, what, config_at}
use Rattle.record_codec.specs.Views.{jails_at, view as view_codec}
use Rattle.record_fields.specs.Addresses.{eight, fixed_at}
use Rattle.record_fields.specs.Lists.{list_of, list_at, items_at, each_at, each_list_at}
use Rattle.record_fields.specs.Numbers.{digits as number_digits, digits_at, number_at}
use Rattle.record_fields.specs.Codec.{IsBytes}
use Rattle.run_law.specs.Calls.{IsNext}
use Rattle.run_law.specs.Changes.{config_changes}
use Rattle.run_law.specs.Law.{Free, MayCome, begin, call_behind, call_of, feed}
use Rattle.run_law.specs.News.{brings, inputs_of, writing}
use Rattle.run_law.specs.Points.{Run}
use Rattle.run_law.specs.Served.{Obeys}
use Rattle.slot_writes.specs.Rests.{PermitsBoth, and_input, nothing_stored}
use Rattle.slot_writes.specs.Writes.{Write, Put, Sync, done_event, done_events}
use Rattle.many_runs.specs.Sessions.{IsSession, MayHold, Session, history_of, run_at, run_of, slots_of}

-- ---- what both runs are asked for

abbrev words : List (List ℕ)
words = codes "--conf" ∷ codes "/c" ∷ codes "--turns" ∷ codes "1" ∷ []

-- no jails, and bans that are over count for ten minutes
abbrev tree : Tree
tree = record { files = record { path = codes "fail2ban.conf"; content = codes "[Definition]\ndbpurgeage = 600\n" } ∷ [] }

abbrev configured : ℕ → Input
configured secs = record { secs = secs; word = 0; what = Configured (record { purge = 600; jails = [] }) }

abbrev socket : List ℕ
socket = codes "/var/run/fail2ban/fail2ban.sock"

-- a run up to its first reading of the clock
abbrev started_at : ℕ → List Event
started_at secs = Config (codes "/c") (TreeGiven tree) ∷ StoreAt socket Kept ∷ GateListen socket Listening ∷ Clock (record { secs = secs; word = 0 }) ∷ []

-- a run that begins on these slots and is stopped behind these calls
abbrev session : (ℕ → List ℕ) → List Event → Session
session slots events = record { words = words; before = record { first = slots; events = [] }; events = events; stop = length events }

-- ---- the first run

abbrev no_slots : ℕ → List ℕ
no_slots slot = []

abbrev first_body : List ℕ
first_body = 0 ∷ 0 ∷ 0 ∷ 0 ∷ 0 ∷ 0 ∷ 0 ∷ 1 ∷ 2 ∷ 0 ∷ 0x80 ∷ 0xa3 ∷ 5 ∷ 0 ∷ 0 ∷ 0 ∷ 0 ∷ 0 ∷ 0 ∷ 0 ∷ []

abbrev first_input : List ℕ
first_input = 0xe8 ∷ 7 ∷ 0 ∷ 3 ∷ 0xd8 ∷ 4 ∷ 0 ∷ []

-- nine of the ten calls that write its input: the gate before that is written, and not synced
abbrev nine_calls : List Write
nine_calls =
    Put 0 0 (replicate 16 0) ∷ Sync 0 ∷ Put 0 1 (first_body ++ 0 ∷ []) ∷ Sync 0 ∷ Put 0 0 (1 ∷ []) ∷ Sync 0 ∷ Put 0 22 (first_input ++ 0 ∷ []) ∷ Sync 0 ∷ Put 0 21 (1 ∷ []) ∷ []

abbrev first : Session
first = session no_slots (started_at 1000 ++ done_events nine_calls)

has_closed_none : (run_of first).closed ≡ []
unfolding settings_in own text_in files_of file_of meaning_of read_with all_read merged_in joined known_replaced items_of raw opened with_raw replaced referred percent_piece piece_at pieces_from time_word trimmed_start trimmed_end opened_by item_of content_form form_of is_utf8 chars encode_utf8 brings config_changes parse_slot input what defs_codec list_of view_codec start generation version eight number_digits digits
has_closed_none = refl

has_made_one : inputs_of (run_of first) ≡ configured 1000 ∷ []
unfolding settings_in own text_in files_of file_of meaning_of read_with all_read merged_in joined known_replaced items_of raw opened with_raw replaced referred percent_piece piece_at pieces_from time_word trimmed_start trimmed_end opened_by item_of content_form form_of is_utf8 chars encode_utf8 brings config_changes parse_slot input what defs_codec list_of view_codec start generation version eight number_digits digits
has_made_one = refl

-- what its slot holds, with this byte for the last gate
abbrev with_gate : ℕ → List ℕ
with_gate gate = (1 ∷ first_body) ++ gate ∷ (first_input ++ 0 ∷ [])

leaves_a_gate : slot_of (history_of first) 0 ≡ record { now = with_gate 1; synced = with_gate 0; ranges = (21, 1) ∷ [] }
leaves_a_gate = refl

-- ---- the second one

abbrev left : ℕ → ℕ → List ℕ
left gate zero = with_gate gate
left gate (suc n) = []

means_the_input : meaning (left 1) ≡ Some (and_input nothing_stored (configured 1000))
unfolding parse_slot opened_at inputs_at input what config_at defs_codec list_of list_at items_at each_at each_list_at view_codec jails_at start generation version eight fixed_at number_digits number_at digits_at
means_the_input = refl

means_nothing : meaning (left 0) ≡ Some nothing_stored
unfolding parse_slot opened_at inputs_at input what config_at defs_codec list_of list_at items_at each_at each_list_at view_codec jails_at start generation version eight fixed_at number_digits number_at digits_at
means_nothing = refl

-- where the input is there the same configuration is none once more
takes_nothing_twice : inputs_of (run_of (session (left 1) (started_at 2000))) ≡ []
unfolding settings_in own text_in files_of file_of meaning_of read_with all_read merged_in joined known_replaced items_of raw opened with_raw replaced referred percent_piece piece_at pieces_from time_word trimmed_start trimmed_end opened_by item_of content_form form_of is_utf8 chars encode_utf8 brings config_changes parse_slot opened_at inputs_at input what config_at defs_codec list_of list_at items_at each_at each_list_at view_codec jails_at start generation version eight fixed_at number_digits number_at digits_at digits
takes_nothing_twice = refl

-- where it is not the second run makes it, at its own moment
abbrev four_calls : List Write
four_calls = Put 0 22 (0xd0 ∷ 15 ∷ 0 ∷ 3 ∷ 0xd8 ∷ 4 ∷ 0 ∷ 0 ∷ []) ∷ Sync 0 ∷ Put 0 21 (1 ∷ []) ∷ Sync 0 ∷ []

makes_it_anew : (run_of (session (left 0) (started_at 2000 ++ done_events four_calls))).closed ≡ configured 2000 ∷ []
unfolding settings_in own text_in files_of file_of meaning_of read_with all_read merged_in joined known_replaced items_of raw opened with_raw replaced referred percent_piece piece_at pieces_from time_word trimmed_start trimmed_end opened_by item_of content_form form_of is_utf8 chars encode_utf8 brings config_changes parse_slot opened_at inputs_at input what config_at defs_codec list_of list_at items_at each_at each_list_at view_codec jails_at start generation version eight fixed_at number_digits number_at digits_at digits
makes_it_anew = refl

-- ---- both are sessions, one behind the other

-- the calls that are left to write an input that can be stored may come

write_next : (w : Write) (ws : List Write) (r : Run) → r.writes ≡ w ∷ ws → IfSome r.unclosed IsStorableInput → MayCome r (done_event w)
write_next (Put slot at bytes) ws r is stored =
    let P : List Write → Type 0 = λ vs. IsNext (call_behind vs (call_of r.plan r.point r.owed)) (done_event (Put slot at bytes)) in
    (subst P (sym is) (refl, refl, refl), stored)
write_next (Sync slot) ws r is stored =
    let P : List Write → Type 0 = λ vs. IsNext (call_behind vs (call_of r.plan r.point r.owed)) (done_event (Sync slot)) in
    (subst P (sym is) refl, stored)

write_comes : (w : Write) (ws : List Write) (r : Run) (g : History) → r.writes ≡ w ∷ ws → IfSome r.unclosed IsStorableInput → Comes feed MayCome Free r g (done_event w)
write_comes (Put slot at bytes) ws r g is stored = record { holds = tt; allowed = write_next (Put slot at bytes) ws r is stored; honest = tt; bounded = tt }
write_comes (Sync slot) ws r g is stored = record { holds = tt; allowed = write_next (Sync slot) ws r is stored; honest = tt; bounded = tt }

one_done : (w : Write) (r : Run) → feed r (done_event w) ≡ writing (drop 1 r.writes) r
one_done (Put slot at bytes) r = refl
one_done (Sync slot) r = refl

left_behind : (ws : List Write) (r : Run) → (writing ws r).writes ≡ ws
left_behind [] r = refl
left_behind (w ∷ ws) r = refl

stored_behind : (ws : List Write) (r : Run) → IfSome r.unclosed IsStorableInput → IfSome (writing ws r).unclosed IsStorableInput
stored_behind [] r stored = tt
stored_behind (w ∷ ws) r stored = stored

write_along : (ws rest : List Write) (r : Run) (g : History) → r.writes ≡ ws ++ rest → IfSome r.unclosed IsStorableInput → Along feed MayCome Free r g (done_events ws)
write_along [] rest r g is stored = tt
write_along (w ∷ ws) rest r g is stored =
    let next : feed r (done_event w) ≡ writing (ws ++ rest) r = one_done w r ∙ ap (λ (vs : List Write). writing (drop 1 vs) r) is in
    let h : History = grown g (done_event w ∷ []) in
    let P : Run → Type 0 = λ n. Along feed MayCome Free n h (done_events ws) in
    (write_comes w (ws ++ rest) r g is stored, subst P (sym next) (write_along ws rest (writing (ws ++ rest) r) h (left_behind (ws ++ rest) r) (stored_behind (ws ++ rest) r stored)))

-- numbers and texts of what is answered

small : List ℕ → Bool
small [] = true
small (b ∷ bytes) = nat_lt b 256 && small bytes

small_bytes : (bytes : List ℕ) → small bytes ≡ true → IsBytes bytes
unfolding small
small_bytes [] is i = omega arith
small_bytes (b ∷ bytes) is zero = ltb-true b 256 (and_parts (nat_lt b 256) (small bytes) is).0
small_bytes (b ∷ bytes) is (suc i) = small_bytes bytes (and_parts (nat_lt b 256) (small bytes) is).1 i

file_fits : (k : ℕ) (other : TreeFile) → k < 1 → FitsFile (slice_index_or tree.files k other)
unfolding encode_utf8 small
file_fits zero other few = record { path = (codes "fail2ban.conf", (refl, refl)); content = small_bytes (codes "[Definition]\ndbpurgeage = 600\n") refl }
file_fits (suc k) other few = absurd (omega (arith, few))

storable : IsStorableInput (configured 1000)
storable = record { secs = omega arith; word = omega arith; what = record { purge = omega arith; jails = tt; names = tt; most = omega arith; patterns = omega arith } }

-- the history behind the first reading of the clock
abbrev begun_at : (ℕ → List ℕ) → ℕ → History
begun_at slots secs =
    grown (grown (grown (grown (record { first = slots; events = [] }) (take 1 (started_at secs))) (take 1 (drop 1 (started_at secs)))) (take 1 (drop 2 (started_at secs)))) (drop 3 (started_at secs))

first_obeys : Obeys (begin words (slots_of first)) first.before first.events
unfolding settings_in own text_in files_of file_of meaning_of read_with all_read merged_in joined known_replaced items_of raw opened with_raw replaced referred percent_piece piece_at pieces_from time_word trimmed_start trimmed_end opened_by item_of content_form form_of is_utf8 chars encode_utf8 brings config_changes parse_slot input what defs_codec list_of view_codec start generation version eight number_digits digits
first_obeys = (
  record { holds = tt; allowed = refl; honest = tt; bounded = file_fits },
  (
    record { holds = tt; allowed = refl; honest = tt; bounded = tt },
    (
      record { holds = tt; allowed = refl; honest = tt; bounded = tt },
      (
        record { holds = tt; allowed = tt; honest = tt; bounded = record { secs = omega arith; word = omega arith } },
        write_along nine_calls (Sync 0 ∷ []) (run_at first 4) (begun_at no_slots 1000) refl storable,
      ),
    ),
  ),
)

abbrev second : Session
second = session (left 1) (started_at 2000)

second_obeys : Obeys (begin words (slots_of second)) second.before second.events
unfolding settings_in own text_in files_of file_of meaning_of read_with all_read merged_in joined known_replaced items_of raw opened with_raw replaced referred percent_piece piece_at pieces_from time_word trimmed_start trimmed_end opened_by item_of content_form form_of is_utf8 chars encode_utf8 brings config_changes parse_slot opened_at inputs_at input what config_at defs_codec list_of list_at items_at each_at each_list_at view_codec jails_at start generation version eight fixed_at number_digits number_at digits_at digits
second_obeys = (
  record { holds = tt; allowed = refl; honest = tt; bounded = file_fits },
  (
    record { holds = tt; allowed = refl; honest = tt; bounded = tt },
    (
      record { holds = tt; allowed = refl; honest = tt; bounded = tt },
      (record { holds = tt; allowed = tt; honest = tt; bounded = record { secs = omega arith; word = omega arith } }, tt),
    ),
  ),
)

-- the slots

left_bytes : (slot : ℕ) → IsBytes (left 1 slot)
unfolding small
left_bytes zero = small_bytes (with_gate 1) refl
left_bytes (suc n) = small_bytes [] refl

left_held : (slot : ℕ) → length (left 1 slot) < 2 ^ 64
left_held zero = omega arith
left_held (suc n) = omega arith

first_is : IsSession first
unfolding small
first_is = record { obeys = first_obeys; settled = record { each = λ slot few. refl }; bytes = λ slot few. small_bytes [] refl; held = λ slot few. omega arith }

second_is : IsSession second
second_is = record { obeys = second_obeys; settled = record { each = λ slot few. refl }; bytes = λ slot few. left_bytes slot; held = λ slot few. left_held slot }

other_place : (front back : List ℕ) (x y i : ℕ) → (i ≡ length front → ⊥) → slice_index (front ++ x ∷ back) i ≡ slice_index (front ++ y ∷ back) i
other_place [] back x y zero other = absurd (other refl)
other_place [] back x y (suc i) other = refl
other_place (f ∷ front) back x y zero other = refl
other_place (f ∷ front) back x y (suc i) other = other_place front back x y i (λ e. other (ap suc e))

not_the_gate : (i : ℕ) → IsOutside i ((21, 1) ∷ []) → i ≡ 21 → ⊥
not_the_gate i outside is = elim outside.0 [
  | inl before ↦ omega (arith, before, is)
  | inr behind ↦ omega (arith, behind, is)
]

gate_permitted : Permits (record { now = with_gate 1; synced = with_gate 0; ranges = (21, 1) ∷ [] }) (with_gate 1)
gate_permitted = record {
  no_shorter = omega arith;
  no_longer = omega arith;
  kept = λ i small outside. other_place (1 ∷ first_body) (first_input ++ 0 ∷ []) 1 0 i (not_the_gate i outside);
}

own_permitted : (bytes : List ℕ) → Permits (settled bytes) bytes
own_permitted bytes = record { no_shorter = omega arith; no_longer = omega arith; kept = λ i few outside. refl }

first_leaves : PermitsBoth (history_of first) (left 1)
first_leaves zero few = subst (λ (s : Slot). Permits s (with_gate 1)) (sym leaves_a_gate) gate_permitted
first_leaves (suc zero) few = own_permitted []
first_leaves (suc (suc n)) few = absurd (omega (arith, few))

both_may_come : MayHold (second ∷ first ∷ []) (left 1)
unfolding parse_slot
both_may_come = ((record { first = refl; second = refl }, first_is, first_leaves), second_is, λ slot few. own_permitted (left 1 slot))
