-- Records at the front of bytes, with what follows them.
use Rattle.std.proofs.Common.{ℕ, ◌≡◌, ◌-◌, ◌<◌, ◌≤◌, ◌^◌, List, ◌++◌, length, drop, Result, Ok, Err, IfOk, sym, ap, ◌∙◌, subst, arith}
use Rattle.std.proofs.lemmas.List.{take-append-drop, length-take}
use Rattle.f2b_base.specs.declared.input.Input.{Input}
use Rattle.f2b_base.specs.declared.view.View.{View}
use Rattle.f2b_model.specs.Storable.{IsStorableInput}
use Rattle.f2b_model.specs.StorableViews.{IsStorableView}
use Rattle.journal_slots.specs.Starts.{Start, start}
use Rattle.journal_slots.proofs.StartLemmas.{what_whole, view_whole}
use Rattle.record_codec.specs.declared.read_error.ReadError.{ReadError}
use Rattle.record_codec.specs.declared.version.Version.{Version as Spelling}
use Rattle.record_codec.specs.declared.version.Version.TheVariants.{One, Two}
use Rattle.record_codec.specs.Fronts.{IsAtFront, front_of}
use Rattle.record_codec.specs.Inputs.{input, AreWholeIn}
use Rattle.record_codec.specs.Views.{view, IsRecordedView, IsViewWholeIn}
use Rattle.record_codec.proofs.InputLemmas.{input_codec, input_word}
use Rattle.record_codec.proofs.ViewLemmas.{view_codec, view_word}
use Rattle.record_fields.specs.Codec.{Codec, IsCodec, IsHeld}
use Rattle.slot_reader.specs.declared.version.Version.{Version}
use Rattle.slot_reader.specs.Versions.{spelling}
use Rattle.slot_reader.proofs.LeftLemmas.{LeavesUpTo, LeavesNoMore}
use Rattle.slot_reader.proofs.LeftRecords.{input_leaves, view_leaves}

-- ---- any record

left_of : {A : Type 0} (bytes : List ℕ) (r : Result (A × List ℕ) ℕ) (at : ℕ) → LeavesUpTo (length bytes) r → front_of bytes r ≡ Err at → r ≡ Err (length bytes - at)
left_of bytes (Ok x) at few is = absurd (cc)
left_of bytes (Err left) at few is =
    let same : length bytes - left ≡ at = cc in
    let back : left ≡ length bytes - at = omega (arith, same, few) in
    ap (λ (n : ℕ). Err n) back

-- where the place of a field that has no reading is said, so many bytes are left
pub at_left : {A : Type 0} (c : Codec A) → LeavesNoMore c → (bytes : List ℕ) (at left : ℕ) → front_of bytes (c.read bytes) ≡ Err at → left ≡ length bytes - at → c.read bytes ≡ Err left
at_left c leaves bytes at left is left_is = left_of bytes (c.read bytes) at (leaves.within bytes) is ∙ ap (λ (n : ℕ). Err n) (sym left_is)

pub front_within : {A : Type 0} (spell : A → List ℕ) (bytes : List ℕ) (x : A) (len : ℕ) → IsAtFront spell bytes (x, len) → len ≤ length bytes
front_within spell bytes x len is = omega (arith, is.len, ap length is.spelt, length-take len bytes)

-- what is at the front is read, and the rest follows it
pub front_read : {A : Type 0} (c : Codec A) → IsCodec c → (bytes : List ℕ) (x : A) (len : ℕ) (rest : List ℕ) → IsHeld bytes → c.Fits x → IsAtFront c.spell bytes (x, len) → rest ≡ drop len bytes → c.read bytes ≡ Ok (x, rest)
front_read c is_c bytes x len rest held fits is rest_is =
    let text : bytes ≡ c.spell x ++ rest = sym (take-append-drop len bytes) ∙ ap (λ (r : List ℕ). r ++ drop len bytes) is.spelt ∙ ap (λ (r : List ℕ). c.spell x ++ r) (sym rest_is) in
    ap c.read text ∙ is_c.again x rest fits (subst IsHeld text held)

-- ---- inputs

pub input_two : (bytes : List ℕ) (r : Result (Input × ℕ) ReadError) → IfOk r (λ x. IsStorableInput x.0 × IsAtFront (input Two).spell bytes x) → IfOk r (λ x. (input Two).Fits x.0 × IsAtFront (input Two).spell bytes x)
input_two bytes (Ok x) is = ((input_word Two).fit x.0 (is.0, what_whole x.0.what), is.1)
input_two bytes (Err e) is = tt

pub input_one : (bytes : List ℕ) (r : Result (Input × ℕ) ReadError) → IfOk r (λ x. IsStorableInput x.0 × AreWholeIn One x.0.what × IsAtFront (input One).spell bytes x) → IfOk r (λ x. (input One).Fits x.0 × IsAtFront (input One).spell bytes x)
input_one bytes (Ok x) is = ((input_word One).fit x.0 (is.0, is.1), is.2)
input_one bytes (Err e) is = tt

pub ruleset whole_inputs = (input_one, input_two)

pub input_read : (version : Version) (bytes : List ℕ) (i : Input) (len : ℕ) (rest : List ℕ) → length bytes < 2 ^ 64 → (input (spelling version)).Fits i → IsAtFront (input (spelling version)).spell bytes (i, len) → rest ≡ drop len bytes
    → (input (spelling version)).read bytes ≡ Ok (i, rest)
input_read version bytes i len rest held fits is rest_is = front_read (input (spelling version)) (input_codec (spelling version)) bytes i len rest held fits is rest_is

pub input_left : (version : Version) (bytes : List ℕ) (at left : ℕ) → front_of bytes ((input (spelling version)).read bytes) ≡ Err at → left ≡ length bytes - at → (input (spelling version)).read bytes ≡ Err left
input_left version bytes at left is left_is = at_left (input (spelling version)) (input_leaves (spelling version)) bytes at left is left_is

pub input_within : (version : Version) (bytes : List ℕ) (i : Input) (len : ℕ) → IsAtFront (input (spelling version)).spell bytes (i, len) → len ≤ length bytes
input_within version bytes i len is = front_within (input (spelling version)).spell bytes i len is

pub ruleset inputs_taken = (input_read, input_left, input_within)

-- ---- views

pub view_two : (bytes : List ℕ) (r : Result (View × ℕ) ReadError) → IfOk r (λ x. IsRecordedView x.0 × IsAtFront (view Two).spell bytes x) → IfOk r (λ x. (view Two).Fits x.0 × IsAtFront (view Two).spell bytes x)
view_two bytes (Ok x) is = ((view_word Two).fit x.0 (is.0, view_whole x.0), is.1)
view_two bytes (Err e) is = tt

pub view_one : (bytes : List ℕ) (r : Result (View × ℕ) ReadError) → IfOk r (λ x. IsRecordedView x.0 × IsViewWholeIn One x.0 × IsAtFront (view One).spell bytes x) → IfOk r (λ x. (view One).Fits x.0 × IsAtFront (view One).spell bytes x)
view_one bytes (Ok x) is = ((view_word One).fit x.0 (is.0, is.1), is.2)
view_one bytes (Err e) is = tt

pub ruleset whole_views = (view_one, view_two)

pub view_read : (version : Version) (bytes : List ℕ) (v : View) (len : ℕ) (rest : List ℕ) → length bytes < 2 ^ 64 → (view (spelling version)).Fits v → IsAtFront (view (spelling version)).spell bytes (v, len) → rest ≡ drop len bytes
    → (view (spelling version)).read bytes ≡ Ok (v, rest)
view_read version bytes v len rest held fits is rest_is = front_read (view (spelling version)) (view_codec (spelling version)) bytes v len rest held fits is rest_is

pub view_left : (version : Version) (bytes : List ℕ) (at left : ℕ) → front_of bytes ((view (spelling version)).read bytes) ≡ Err at → left ≡ length bytes - at → (view (spelling version)).read bytes ≡ Err left
view_left version bytes at left is left_is = at_left (view (spelling version)) (view_leaves (spelling version)) bytes at left is left_is

pub view_within : (version : Version) (bytes : List ℕ) (v : View) (len : ℕ) → IsAtFront (view (spelling version)).spell bytes (v, len) → len ≤ length bytes
view_within version bytes v len is = front_within (view (spelling version)).spell bytes v len is

pub ruleset views_taken = (view_read, view_left, view_within)

-- ---- what was read can be stored

pub input_storable : (version : Spelling) (i : Input) → (input version).Fits i → IsStorableInput i
input_storable version i fits = ((input_word version).are i fits).0

pub view_storable : (version : Spelling) (v : View) → (view version).Fits v → IsStorableView v
view_storable version v fits = ((view_word version).are v fits).0.storable

pub start_storable : (first : Start) → start.Fits first → IsStorableView first.view
unfolding start
start_storable first fits = view_storable first.version first.view fits.1.1
