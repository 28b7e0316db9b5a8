-- Clients by their numbers: of those that are in use no two are the same, and what happens to one leaves the others.
use Rattle.std.proofs.Common.{ℕ, zero, suc, ◌≡◌, ◌⊎◌, inl, inr, true, false, if◌then◌else◌, List, [], ◌∷◌, Option, Some, None, refl, sym, ap, ◌∙◌, subst}
use Rattle.std.specs.Prelude.{◌==◌, slice_get}
use Rattle.std.specs.List.{insert, remove}
use Rattle.std.proofs.lemmas.Bool.{cases_Bool, eq-eqb, eqb-true, ne_eqb, or_right}
use Rattle.client_table.specs.Clients.{Client, changed_at, place_for, with_client}
use Rattle.f2b_world.specs.Told.{is_in, left_out}

-- ---- numbers

pub same_or_not : (a b : ℕ) → (a ≡ b) ⊎ (a ≡ b → ⊥)
same_or_not a b = elim (cases_Bool (a == b)) [ inl h ↦ inl (eqb-true a b h) | inr h ↦ inr (λ e. absurd (let both : true ≡ false = sym (eq-eqb a b e) ∙ h in cc)) ]

-- another one is in use, whichever goes
in_left : (n m : ℕ) (used : List ℕ) → (n ≡ m → ⊥) → is_in n used ≡ true → is_in n (left_out m used) ≡ true
in_left n m [] other is = is
in_left n m (u ∷ used) other is =
    elim (same_or_not m u) [
      | inl same ↦ rw (eq-eqb m u same) (in_left n m used other (rw (ne_eqb n u (λ e. other (e ∙ sym same))) at is))
      | inr not ↦ rw (ne_eqb m u not) (elim (same_or_not n u) [
        | inl here ↦ rw (eq-eqb n u here) refl
        | inr past ↦ rw (ne_eqb n u past) (in_left n m used other (rw (ne_eqb n u past) at is))
      ])
    ]

-- ---- the client with a number

abbrev pub client_of : ℕ → List Client → Option Client
client_of conn [] = None
client_of conn (c ∷ cs) = if c.conn == conn then Some c else client_of conn cs

pub client_here : (conn : ℕ) (c : Client) (cs : List Client) → c.conn ≡ conn → client_of conn (c ∷ cs) ≡ Some c
client_here conn c cs is = rw (eq-eqb c.conn conn is) refl

pub client_past : (conn : ℕ) (c : Client) (cs : List Client) → (c.conn ≡ conn → ⊥) → client_of conn (c ∷ cs) ≡ client_of conn cs
client_past conn c cs not = rw (ne_eqb c.conn conn not) refl

-- where there is none, the first is none and the others are none
record HasNone (conn : ℕ) (c : Client) (cs : List Client) : Type 0 where
  pub first : c.conn ≡ conn → ⊥
  pub others : client_of conn cs ≡ None

has_none : (conn : ℕ) (c : Client) (cs : List Client) → client_of conn (c ∷ cs) ≡ None → HasNone conn c cs
has_none conn c cs none =
    elim (same_or_not c.conn conn) [
      | inl same ↦ absurd (let some : Some c ≡ None = sym (client_here conn c cs same) ∙ none in cc)
      | inr not ↦ record { first = not; others = sym (client_past conn c cs not) ∙ none }
    ]

-- none of them stands at a place
none_at : (conn : ℕ) (cs : List Client) (place : ℕ) (c : Client) → client_of conn cs ≡ None → slice_get cs place ≡ Some c → c.conn ≡ conn → ⊥
none_at conn [] place c none at is = let e : None ≡ Some c = at in absurd (cc)
none_at conn (d ∷ cs) zero c none at is = let same : d ≡ c = cc in (has_none conn d cs none).first (ap (λ (x : Client). x.conn) same ∙ is)
none_at conn (d ∷ cs) (suc place) c none at is = none_at conn cs place c (has_none conn d cs none).others at is

-- ---- numbers that are in use

-- each of them is in use, and no two are the same
abbrev pub AreNumbered : List ℕ → List Client → Type 0
AreNumbered used [] = Unit {0}
AreNumbered used (c ∷ cs) = (is_in c.conn used ≡ true) × (client_of c.conn cs ≡ None) × AreNumbered used cs

-- the client at a place is the one with its number
pub client_at : (used : List ℕ) (cs : List Client) (place : ℕ) (c : Client) → AreNumbered used cs → slice_get cs place ≡ Some c → client_of c.conn cs ≡ Some c
client_at used [] place c are at = absurd (let e : None ≡ Some c = at in cc)
client_at used (d ∷ cs) zero c are at = let same : d ≡ c = cc in client_here c.conn d cs (ap (λ (x : Client). x.conn) same) ∙ ap (λ (x : Client). Some x) same
client_at used (d ∷ cs) (suc place) c are at =
    client_past c.conn d cs (λ e. none_at d.conn cs place c are.1 at (sym e)) ∙ client_at used cs place c are.2 at

-- a number that is not in use is nobody's
pub none_of : (used : List ℕ) (conn : ℕ) (cs : List Client) → AreNumbered used cs → is_in conn used ≡ false → client_of conn cs ≡ None
none_of used conn [] are new = refl
none_of used conn (c ∷ cs) are new =
    client_past conn c cs (λ e. let both : true ≡ false = sym are.0 ∙ ap (λ (n : ℕ). is_in n used) e ∙ new in absurd (cc)) ∙ none_of used conn cs are.2 new

-- ---- one is changed

abbrev pub KeepsNumber : (Client → Client) → Type 0
KeepsNumber change = (c : Client) → (change c).conn ≡ c.conn

module _ (change : Client → Client) (keeps : KeepsNumber change) where
  none_changed : (conn place : ℕ) (cs : List Client) → client_of conn cs ≡ None → client_of conn (changed_at place change cs) ≡ None
  none_changed conn place [] none = none
  none_changed conn zero (c ∷ cs) none =
      let parts = has_none conn c cs none in client_past conn (change c) cs (λ e. parts.first (sym (keeps c) ∙ e)) ∙ parts.others
  none_changed conn (suc place) (c ∷ cs) none =
      let parts = has_none conn c cs none in client_past conn c (changed_at place change cs) parts.first ∙ none_changed conn place cs parts.others

  pub numbered_changed : (used : List ℕ) (place : ℕ) (cs : List Client) → AreNumbered used cs → AreNumbered used (changed_at place change cs)
  numbered_changed used place [] are = are
  numbered_changed used zero (c ∷ cs) are =
      (ap (λ (n : ℕ). is_in n used) (keeps c) ∙ are.0, ap (λ (n : ℕ). client_of n cs) (keeps c) ∙ are.1, are.2)
  numbered_changed used (suc place) (c ∷ cs) are = (are.0, none_changed c.conn place cs are.1, numbered_changed used place cs are.2)

  -- the changed one is the one with its number then
  pub own_changed : (used : List ℕ) (place : ℕ) (cs : List Client) (c : Client) → AreNumbered used cs → slice_get cs place ≡ Some c
      → client_of c.conn (changed_at place change cs) ≡ Some (change c)
  own_changed used place [] c are at = absurd (let e : None ≡ Some c = at in cc)
  own_changed used zero (d ∷ cs) c are at =
      let same : d ≡ c = cc in client_here c.conn (change d) cs (keeps d ∙ ap (λ (x : Client). x.conn) same) ∙ ap (λ (x : Client). Some (change x)) same
  own_changed used (suc place) (d ∷ cs) c are at =
      client_past c.conn d (changed_at place change cs) (λ e. none_at d.conn cs place c are.1 at (sym e)) ∙ own_changed used place cs c are.2 at

  -- the others are as they were
  pub other_changed : (conn place : ℕ) (cs : List Client) (c : Client) → slice_get cs place ≡ Some c → (c.conn ≡ conn → ⊥)
      → client_of conn (changed_at place change cs) ≡ client_of conn cs
  other_changed conn place [] c at not = refl
  other_changed conn zero (d ∷ cs) c at not =
      let same : d ≡ c = cc in
      let other : d.conn ≡ conn → ⊥ = λ e. not (ap (λ (x : Client). x.conn) (sym same) ∙ e) in
      client_past conn (change d) cs (λ e. other (sym (keeps d) ∙ e)) ∙ sym (client_past conn d cs other)
  other_changed conn (suc place) (d ∷ cs) c at not =
      elim (same_or_not d.conn conn) [
        | inl is ↦ client_here conn d (changed_at place change cs) is ∙ sym (client_here conn d cs is)
        | inr past ↦ client_past conn d (changed_at place change cs) past ∙ other_changed conn place cs c at not ∙ sym (client_past conn d cs past)
      ]

-- ---- one is taken out

none_removed : (conn place : ℕ) (cs : List Client) → client_of conn cs ≡ None → client_of conn (remove cs place) ≡ None
none_removed conn zero [] none = none
none_removed conn (suc place) [] none = none
none_removed conn zero (c ∷ cs) none = (has_none conn c cs none).others
none_removed conn (suc place) (c ∷ cs) none =
    let parts = has_none conn c cs none in client_past conn c (remove cs place) parts.first ∙ none_removed conn place cs parts.others

pub other_removed : (conn place : ℕ) (cs : List Client) (c : Client) → slice_get cs place ≡ Some c → (c.conn ≡ conn → ⊥)
    → client_of conn (remove cs place) ≡ client_of conn cs
other_removed conn place [] c at not = absurd (let e : None ≡ Some c = at in cc)
other_removed conn zero (d ∷ cs) c at not =
    let same : d ≡ c = cc in sym (client_past conn d cs (λ e. not (ap (λ (x : Client). x.conn) (sym same) ∙ e)))
other_removed conn (suc place) (d ∷ cs) c at not =
    elim (same_or_not d.conn conn) [
      | inl is ↦ client_here conn d (remove cs place) is ∙ sym (client_here conn d cs is)
      | inr past ↦ client_past conn d (remove cs place) past ∙ other_removed conn place cs c at not ∙ sym (client_past conn d cs past)
    ]

-- without a number that is nobody's
numbered_left : (used : List ℕ) (conn : ℕ) (cs : List Client) → AreNumbered used cs → client_of conn cs ≡ None → AreNumbered (left_out conn used) cs
numbered_left used conn [] are none = tt
numbered_left used conn (c ∷ cs) are none =
    let parts = has_none conn c cs none in (in_left c.conn conn used parts.first are.0, are.1, numbered_left used conn cs are.2 parts.others)

pub numbered_removed : (used : List ℕ) (place : ℕ) (cs : List Client) (c : Client) → AreNumbered used cs → slice_get cs place ≡ Some c
    → AreNumbered (left_out c.conn used) (remove cs place)
numbered_removed used place [] c are at = absurd (let e : None ≡ Some c = at in cc)
numbered_removed used zero (d ∷ cs) c are at =
    let same : d ≡ c = cc in subst (λ (x : Client). AreNumbered (left_out x.conn used) cs) same (numbered_left used d.conn cs are.2 are.1)
numbered_removed used (suc place) (d ∷ cs) c are at = (
  in_left d.conn c.conn used (λ e. none_at d.conn cs place c are.1 at (sym e)) are.0,
  none_removed d.conn place cs are.1,
  numbered_removed used place cs c are.2 at,
)

-- ---- one is added

-- wherever it is put in
module _ (new : Client) where
  none_put : (conn place : ℕ) (cs : List Client) → client_of conn cs ≡ None → (new.conn ≡ conn → ⊥) → client_of conn (insert cs place new) ≡ None
  none_put conn zero [] none other = client_past conn new [] other
  none_put conn (suc place) [] none other = client_past conn new [] other
  none_put conn zero (c ∷ cs) none other = client_past conn new (c ∷ cs) other ∙ none
  none_put conn (suc place) (c ∷ cs) none other =
      let parts = has_none conn c cs none in client_past conn c (insert cs place new) parts.first ∙ none_put conn place cs parts.others other

  in_more : (c : Client) (used : List ℕ) → is_in c.conn used ≡ true → is_in c.conn (new.conn ∷ used) ≡ true
  in_more c used is = or_right (c.conn == new.conn) (is_in c.conn used) is

  numbered_more : (used : List ℕ) (cs : List Client) → AreNumbered used cs → AreNumbered (new.conn ∷ used) cs
  numbered_more used [] are = tt
  numbered_more used (c ∷ cs) are = (in_more c used are.0, are.1, numbered_more used cs are.2)

  numbered_put : (used : List ℕ) (place : ℕ) (cs : List Client) → AreNumbered used cs → is_in new.conn used ≡ false → AreNumbered (new.conn ∷ used) (insert cs place new)
  numbered_put used zero [] are is = (rw (eq-eqb new.conn new.conn refl) refl, refl, tt)
  numbered_put used (suc place) [] are is = (rw (eq-eqb new.conn new.conn refl) refl, refl, tt)
  numbered_put used zero (c ∷ cs) are is = (rw (eq-eqb new.conn new.conn refl) refl, none_of used new.conn (c ∷ cs) are is, numbered_more used (c ∷ cs) are)
  numbered_put used (suc place) (c ∷ cs) are is = (
    in_more c used are.0,
    none_put c.conn place cs are.1 (λ e. let both : true ≡ false = sym are.0 ∙ ap (λ (n : ℕ). is_in n used) (sym e) ∙ is in absurd (cc)),
    numbered_put used place cs are.2 is,
  )

  own_put : (conn place : ℕ) (cs : List Client) → client_of conn cs ≡ None → new.conn ≡ conn → client_of conn (insert cs place new) ≡ Some new
  own_put conn zero [] none is = client_here conn new [] is
  own_put conn (suc place) [] none is = client_here conn new [] is
  own_put conn zero (c ∷ cs) none is = client_here conn new (c ∷ cs) is
  own_put conn (suc place) (c ∷ cs) none is =
      let parts = has_none conn c cs none in client_past conn c (insert cs place new) parts.first ∙ own_put conn place cs parts.others is

  other_put : (conn place : ℕ) (cs : List Client) → (new.conn ≡ conn → ⊥) → client_of conn (insert cs place new) ≡ client_of conn cs
  other_put conn zero [] not = client_past conn new [] not
  other_put conn (suc place) [] not = client_past conn new [] not
  other_put conn zero (c ∷ cs) not = client_past conn new (c ∷ cs) not
  other_put conn (suc place) (c ∷ cs) not = elim (same_or_not c.conn conn) [
    | inl same ↦ client_here conn c (insert cs place new) same ∙ sym (client_here conn c cs same)
    | inr past ↦ client_past conn c (insert cs place new) past ∙ other_put conn place cs not ∙ sym (client_past conn c cs past)
  ]

  -- at the place of its number
  pub numbered_added : (used : List ℕ) (cs : List Client) → AreNumbered used cs → is_in new.conn used ≡ false → AreNumbered (new.conn ∷ used) (with_client new cs)
  numbered_added used cs are is = numbered_put used (place_for new.conn cs) cs are is

  -- the added one is the one with its number, where there was none
  pub own_added : (conn : ℕ) (cs : List Client) → client_of conn cs ≡ None → new.conn ≡ conn → client_of conn (with_client new cs) ≡ Some new
  own_added conn cs none is = own_put conn (place_for new.conn cs) cs none is

  -- and the others are as they were
  pub other_added : (conn : ℕ) (cs : List Client) → (new.conn ≡ conn → ⊥) → client_of conn (with_client new cs) ≡ client_of conn cs
  other_added conn cs not = other_put conn (place_for new.conn cs) cs not
