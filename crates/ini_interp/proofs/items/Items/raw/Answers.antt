use Rattle.std.proofs.Common.{◌≡◌, ◌∙◌, ◌≤◌, ap, sym, refl, length, true, false, Some, string_bytes, add-one, arith}
use Rattle.std.proofs.lemmas.List.{drop_all}
use Rattle.std.proofs.lemmas.Slice.Eq.{bytes_eq-Decides}
use Rattle.std.specs.Str.{bytes_eq, str_to_ascii_lowercase}
use Rattle.ini_interp.specs.Entries.{by_bytes}
use Rattle.ini_interp.specs.Kept.{Kept}
use Rattle.ini_interp.specs.Sections.{value_of}
use Rattle.ini_interp.proofs.EntriesLemmas.{value_is, found_at, passed_at, nothing_from}
use Rattle.ini_interp.proofs.items.Items.raw.Goals as goal

pub returns-in-Some : goal.returns-in-Some
returns-in-Some c =
    let low = str_to_ascii_lowercase c.args.name.now in
    let es = c.self.inside.map.entries in
    let own : low ≡ c.args.name.now = (bytes_eq-Decides low c.args.name.now).0 (sym c.is_lowercase_of.ensures ∙ c.if-is_lowercase_of.true) in
    ap Some c.as_str.ensures.value ∙ c.in-Some.ensures.value ∙ value_is c.args.name.now es ∙ ap (λ n. value_of n (by_bytes es)) (sym own)
    ∙ ap (λ (kept : Kept). value_of low kept.items) c.self.view_is

pub returns-in-None : goal.returns-in-None
returns-in-None c =
    let low = str_to_ascii_lowercase c.args.name.now in
    let es = c.self.inside.map.entries in
    let own : low ≡ c.args.name.now = (bytes_eq-Decides low c.args.name.now).0 (sym c.is_lowercase_of.ensures ∙ c.if-is_lowercase_of.true) in
    c.in-None.ensures.value ∙ value_is c.args.name.now es ∙ ap (λ n. value_of n (by_bytes es)) (sym own)
    ∙ ap (λ (kept : Kept). value_of low kept.items) c.self.view_is

pub loop-index-init : goal.loop-index-init
loop-index-init c = refl

pub returns-in_err-kept : goal.returns-in_err-kept
returns-in_err-kept c =
    let low = str_to_ascii_lowercase c.args.name.now in
    let es = c.self.inside.map.entries in
    rw c.from_residual.ensures
    (sym (nothing_from low es c.loop-index.index (sym c.in_err-kept.ensures.entry)) ∙ sym c.loop-index.invariant ∙ ap (λ (kept : Kept). value_of low kept.items) c.self.view_is)

pub returns-then-is_lowercase_of-2 : goal.returns-then-is_lowercase_of-2
returns-then-is_lowercase_of-2 c =
    let low = str_to_ascii_lowercase c.args.name.now in
    let es = c.self.inside.map.entries in
    let is : bytes_eq low (string_bytes c.in_ok-kept.kept.now) ≡ true =
    ap (bytes_eq low) (sym c.as_str-in-loop-index.ensures.value) ∙ sym c.is_lowercase_of-in-loop-index.ensures ∙ c.if-is_lowercase_of-2.true in
    ap Some c.as_str-then-is_lowercase_of-2.ensures.value
    ∙ sym (found_at low es c.loop-index.index (c.in_ok-kept.kept.now, c.in_ok-kept.value.now) (sym c.in_ok-kept.ensures.entry) is)
    ∙ sym c.loop-index.invariant ∙ ap (λ (kept : Kept). value_of low kept.items) c.self.view_is

pub loop-index-preserved : goal.loop-index-preserved
loop-index-preserved c =
    let low = str_to_ascii_lowercase c.args.name.now in
    let es = c.self.inside.map.entries in
    let other : bytes_eq low (string_bytes c.in_ok-kept.kept.now) ≡ false =
    ap (bytes_eq low) (sym c.as_str-in-loop-index.ensures.value) ∙ sym c.is_lowercase_of-in-loop-index.ensures ∙ c.if-is_lowercase_of-2.false in
    c.loop-index.invariant ∙ rw add-one (passed_at low es c.loop-index.index (c.in_ok-kept.kept.now, c.in_ok-kept.value.now) (sym c.in_ok-kept.ensures.entry) other)

pub returns : goal.returns
returns c =
    let low = str_to_ascii_lowercase c.args.name.now in
    let es = c.self.inside.map.entries in
    let past : length es ≤ c.loop-index.index = omega arith in
    sym (ap (λ l. value_of low (by_bytes l)) (drop_all c.loop-index.index es past)) ∙ sym c.loop-index.invariant ∙ ap (λ (kept : Kept). value_of low kept.items) c.self.view_is
