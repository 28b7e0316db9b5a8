use Rattle.std.proofs.Common.{◌≡◌, ◌∙◌, ◌++◌, ◌∷◌, ◌+◌, [], List, None, Some, Result, Ok, Err, IfErr, map, ℕ, suc, length, drop, Bor, refl, sym, ap, ap₂, subst, append_assoc, append-nil, length-append, length-drop, arith, rules}
use Rattle.std.proofs.lemmas.Iterator.Splits.{YieldsList-from_lines}
use Rattle.std.proofs.lemmas.List.{map-append}
use Rattle.std.specs.Iterator.{AlwaysYields}
use Rattle.std.specs.Result.{IsErrAnd}
use Rattle.std.specs.Str.Iter.{lines_rest, lines_steps}
use Rattle.std.specs.Str.Lines.{lines}
use Rattle.ini_interp.specs.declared.error.IniError.{IniError}
use Rattle.ini_interp.specs.Files.{fault, first_fault, meaning_of, sections_of, UnlessNoMemory}
use Rattle.ini_interp.specs.Kept.{Read, with_line, without_last, fault_of}
use Rattle.ini_interp.specs.Lines.{Form, form_of}
use Rattle.ini_interp.proofs.AheadLemmas.{next_is, rest_is, none_ahead, length-lines, fault_behind, fault_here, meaning_at_fault, meaning_sound, unless_weaker}
use Rattle.ini_interp.proofs.ReadLemmas.{read_of, read_of-more, fault_of-read, sections-read}
use Rattle.ini_interp.proofs.file.read_text.Invariants.{said}
use Rattle.ini_interp.proofs.file.read_text.Goals as goal

-- what was said, and one line more
said-more : (before : List (Bor (List ℕ))) (line : Bor (List ℕ)) → said (before ++ line ∷ []) ≡ said before ++ form_of line.now ∷ []
said-more before line = map-append (λ (l : Bor (List ℕ)). form_of l.now) before (line ∷ [])

length-said : (before : List (Bor (List ℕ))) → length (said before) ≡ length before
length-said [] = refl
length-said (line ∷ before) = ap suc (length-said before)

-- the fault that the reader finds is the line's
fault_found : (before : List (Bor (List ℕ))) (line : Form) (number : ℕ) (read : Read) → read ≡ read_of (said before) → number ≡ length before →
    fault_of line (number + 1) read ≡ fault (said before) line
fault_found before line number read is count =
    let long : number ≡ length (said before) = count ∙ sym (length-said before) in
    ap₂ (λ n r. fault_of line (n + 1) r) long is ∙ fault_of-read (said before) line

-- what is said of an error that is handed on
same_error : {A : Type 0} (r : Result A IniError) (error : IniError) (P : IniError → Type 0) → IsErrAnd r (λ e. e ≡ error) → P error → IfErr r P
same_error (Ok x) error P is says = tt
same_error (Err e) error P is says = subst P (sym is) says

pub loop-line-init : goal.loop-line-init
loop-line-init c = record {
  can = search rules;
  read = c.new-reader.ensures;
  count = refl;
  ahead = (YieldsList-from_lines c.args.text.now (ap lines_rest c.into_iter-line-iterator.ensures.into_iter_gives ∙ c.lines-line-items.ensures.rest)).runs;
  whole = refl;
  sound = refl;
}

pub overflow_add-number : goal.overflow_add-number
overflow_add-number c =
    let all = lines c.args.text.now in
    let k = length c.loop-line.yielded in
    let next = next_is lines_steps (λ (l : Bor (List ℕ)). l.now) all k c.loop-line.line-iterator c.next.new.self c.in-Some.line c.loop-line.invariant.ahead c.in-Some.ensures.steps in
    let left = ap length next in
    let short = length-lines c.args.text.now in
    omega (arith, c.loop-line.invariant.count, left, short, length-drop k all)

pub loop-line-preserved : goal.loop-line-preserved
loop-line-preserved c =
    let all = lines c.args.text.now in
    let before = c.loop-line.yielded in
    let k = length before in
    let line = form_of c.in-Some.line.now in
    let step = c.in-Some.ensures.steps in
    let next = next_is lines_steps (λ (l : Bor (List ℕ)). l.now) all k c.loop-line.line-iterator c.next.new.self c.in-Some.line c.loop-line.invariant.ahead step in
    let longer : k + 1 ≡ length (before ++ c.in-Some.line ∷ []) = sym (length-append before (c.in-Some.line ∷ [])) in
    let more = said-more before c.in-Some.line in
    let rest : List Form = map form_of (drop (k + 1) all) in
    let none : fault (said before) line ≡ None =
    sym (fault_found before line c.loop-line.number c.loop-line.reader c.loop-line.invariant.read c.loop-line.invariant.count)
    ∙ ap (λ l. fault_of l (c.loop-line.number + 1) c.loop-line.reader) (sym c.read.ensures) ∙ c.in_ok-read.ensures.fault in
    record {
      can = search rules;
      read = c.in_ok-read.ensures.ok ∙ ap₂ with_line c.read.ensures c.loop-line.invariant.read ∙ read_of-more (said before) line ∙ ap read_of (sym more);
      count = ap (λ n. n + 1) c.loop-line.invariant.count ∙ longer;
      ahead = subst (λ n. AlwaysYields lines_steps (λ l. l.now) c.next.new.self (drop n all)) longer
          (rest_is lines_steps (λ (l : Bor (List ℕ)). l.now) all k c.loop-line.line-iterator c.next.new.self c.in-Some.line c.loop-line.invariant.ahead step);
      whole = c.loop-line.invariant.whole ∙ ap (λ l. said before ++ map form_of l) next ∙ sym (append_assoc (said before) (line ∷ []) rest)
          ∙ ap₂ (λ l n. l ++ map form_of (drop n all)) (sym more) longer;
      sound = c.loop-line.invariant.sound ∙ ap (λ l. first_fault (said before) (map form_of l)) next ∙ fault_behind (said before) rest line none
          ∙ ap₂ (λ l n. first_fault l (map form_of (drop n all))) (sym more) longer;
    }

pub returns-in_err-read-clause-fault : goal.returns-in_err-read-clause-fault
returns-in_err-read-clause-fault c =
    let all = lines c.args.text.now in
    let before = c.loop-line.yielded in
    let k = length before in
    let line = form_of c.in-Some.line.now in
    let next = next_is lines_steps (λ (l : Bor (List ℕ)). l.now) all k c.loop-line.line-iterator c.next.new.self c.in-Some.line c.loop-line.invariant.ahead c.in-Some.ensures.steps in
    let rest : List Form = map form_of (drop (k + 1) all) in
    let found : (error : IniError) → fault_of line (c.loop-line.number + 1) c.loop-line.reader ≡ Some error → meaning_of (map form_of all) ≡ Err error =
    λ error is. meaning_at_fault (map form_of all) error
    (c.loop-line.invariant.sound ∙ ap (λ l. first_fault (said before) (map form_of l)) next
    ∙ fault_here (said before) rest line error (sym (fault_found before line c.loop-line.number c.loop-line.reader c.loop-line.invariant.read c.loop-line.invariant.count) ∙ is)) in
    let error = c.in_err-read.field-0.0 in
    let says : UnlessNoMemory error (meaning_of (map form_of all) ≡ Err error) =
    unless_weaker error (λ is. found error (ap (λ l. fault_of l (c.loop-line.number + 1) c.loop-line.reader) (sym c.read.ensures) ∙ is)) c.in_err-read.ensures.fault in
    same_error c.from_residual.result error (λ e. UnlessNoMemory e (meaning_of (map form_of all) ≡ Err e)) c.from_residual.ensures.1 says

pub returns-clause-sections : goal.returns-clause-sections
returns-clause-sections c =
    let all = lines c.args.text.now in
    let before = c.loop-line.yielded in
    let none = none_ahead lines_steps (λ (l : Bor (List ℕ)). l.now) (drop (length before) all) c.loop-line.line-iterator c.next.new.self c.loop-line.invariant.ahead c.in-None.ensures.steps in
    let whole : map form_of all ≡ said before = c.loop-line.invariant.whole ∙ ap (λ l. said before ++ map form_of l) none ∙ append-nil (said before) in
    let sound : first_fault [] (map form_of all) ≡ None = c.loop-line.invariant.sound ∙ ap (λ l. first_fault (said before) (map form_of l)) none in
    let read : c.from.result ≡ sections_of (said before) =
    c.from.ensures ∙ ap (λ (r : Read). without_last r.sections) (c.reader-2.view_is ∙ c.loop-line.invariant.read) ∙ sections-read (said before) in
    meaning_sound (map form_of all) sound ∙ ap (λ l. Ok (sections_of l)) whole ∙ ap Ok (sym read)
