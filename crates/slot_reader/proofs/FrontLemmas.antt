-- What stands at the front of a window.
use Rattle.std.proofs.Common.{ℕ, ◌≡◌, ◌-◌, ◌≤◌, inl, inr, List, [], ◌∷◌, length, drop, slice_index, Ok, Err, length-append, refl, sym, ap, ◌∙◌, arith}
use Rattle.f2b_base.specs.declared.input.Input.{Input}
use Rattle.journal_slots.specs.Grammar.{number_of}
use Rattle.journal_slots.specs.Starts.{start, generation}
use Rattle.journal_slots.proofs.StartLemmas.{start_codec}
use Rattle.record_codec.specs.declared.version.Version.{Version as Spelling}
use Rattle.record_codec.specs.Inputs.{input}
use Rattle.record_codec.proofs.InputLemmas.{input_codec}
use Rattle.record_fields.specs.Codec.{IsBytes}
use Rattle.record_fields.proofs.CodecLemmas.{IsBytes-tail}
use Rattle.slot_reader.specs.declared.item.Item.TheVariants.{Closed, Taken, Bad as BadItem}
use Rattle.slot_reader.specs.declared.lead.Begun.{Begun}
use Rattle.slot_reader.specs.declared.lead.Lead.TheVariants.{Shut, Opens, Bad as BadLead}
use Rattle.slot_reader.specs.Fronts.{start_in, IsLead, IsItem}

-- ---- a slot's beginning

pub lead_shut : (rest : List ℕ) → IsLead (0 ∷ rest) Shut
lead_shut rest = (rest, refl)

pub lead_none : IsLead [] (BadLead 0 0)
lead_none = inl (refl, refl)

pub lead_opens : (gate len : ℕ) (b : Begun) (behind rest : List ℕ) → ¬ (gate ≡ 0) → IsBytes behind → start.read behind ≡ Ok (start_in b, rest) → len ≡ length (gate ∷ behind) - length rest → IsLead (gate ∷ behind) (Opens b len)
lead_opens gate len b behind rest on ok is len_is =
    let p = start_codec.takes behind (start_in b) rest ok is in
    (gate, rest, omega (arith, on), p.1, ap (λ (r : List ℕ). gate ∷ r) p.0, omega (arith, len_is, ap length p.0, length-append (start.spell (start_in b)) rest))

pub lead_bad : (gate number at left : ℕ) (behind : List ℕ) → ¬ (gate ≡ 0) → start.read behind ≡ Err left → at ≡ length (gate ∷ behind) - left → number ≡ number_of (generation.read behind) → IsLead (gate ∷ behind) (BadLead number at)
lead_bad gate number at left behind on is at_is number_is = inr (gate, behind, left, omega (arith, on), refl, is, at_is, number_is)

pub ruleset leads = (lead_shut, lead_none, lead_opens, lead_bad)

-- ---- an item

pub item_closed : (version : Spelling) (rest : List ℕ) → IsItem version (0 ∷ rest) Closed
item_closed version rest = (rest, refl)

pub item_none : (version : Spelling) → IsItem version [] (BadItem 0)
item_none version = inl (refl, refl)

pub item_taken : (version : Spelling) (gate len : ℕ) (i : Input) (behind rest : List ℕ) → ¬ (gate ≡ 0) → IsBytes behind → (input version).read behind ≡ Ok (i, rest) → len ≡ length (gate ∷ behind) - length rest
    → IsItem version (gate ∷ behind) (Taken i len)
item_taken version gate len i behind rest on ok is len_is =
    let p = (input_codec version).takes behind i rest ok is in
    (gate, rest, omega (arith, on), p.1, ap (λ (r : List ℕ). gate ∷ r) p.0, omega (arith, len_is, ap length p.0, length-append ((input version).spell i) rest))

pub item_bad : (version : Spelling) (gate at left : ℕ) (behind : List ℕ) → ¬ (gate ≡ 0) → (input version).read behind ≡ Err left → at ≡ length (gate ∷ behind) - left → IsItem version (gate ∷ behind) (BadItem at)
item_bad version gate at left behind on is at_is = inr (gate, behind, left, omega (arith, on), refl, is, at_is)

pub ruleset items = (item_closed, item_none, item_taken, item_bad)

-- ---- at the front of bytes of which the first is read

pub lead_found : (bytes behind : List ℕ) (len : ℕ) (b : Begun) (rest : List ℕ) → behind ≡ drop 1 bytes → IsBytes bytes → 1 ≤ length bytes → ¬ (slice_index bytes 0 ≡ 0) → start.read behind ≡ Ok (start_in b, rest) → len ≡ length bytes - length rest → IsLead bytes (Opens b len)
lead_found [] behind len b rest behind_is ok long on is len_is = absurd (omega (arith, long))
lead_found (gate ∷ more) behind len b rest behind_is ok long on is len_is = lead_opens gate len b more rest on (IsBytes-tail gate more ok) (sym (ap start.read behind_is) ∙ is) len_is

pub item_found : (version : Spelling) (bytes behind : List ℕ) (len : ℕ) (i : Input) (rest : List ℕ) → behind ≡ drop 1 bytes → IsBytes bytes → 1 ≤ length bytes → ¬ (slice_index bytes 0 ≡ 0) → (input version).read behind ≡ Ok (i, rest) → len ≡ length bytes - length rest
    → IsItem version bytes (Taken i len)
item_found version [] behind len i rest behind_is ok long on is len_is = absurd (omega (arith, long))
item_found version (gate ∷ more) behind len i rest behind_is ok long on is len_is = item_taken version gate len i more rest on (IsBytes-tail gate more ok) (sym (ap (input version).read behind_is) ∙ is) len_is
