use Rattle.std.proofs.Common.{◌≡◌, ◌∙◌, ◌++◌, ◌∷◌, [], List, ℕ, None, Some, lit<, sym, ap, append_assoc, append-nil, take}
use Rattle.std.proofs.lemmas.Result.{on_ok_weaker}
use Rattle.std.proofs.lemmas.Str.Pattern.{rfind_char}
use Rattle.ini_interp.proofs.NamesLemmas.{directory-none, directory-at}
use Rattle.ini_interp.proofs.PartsLemmas.{range_front}
use Rattle.ini_interp.specs.Merges.{directory}
use Rattle.ini_interp.proofs.names.push_directory.Goals as goal

pub returns-in_default : goal.returns-in_default
returns-in_default c =
    sym (append-nil c.args.path.now)
    ∙ ap (λ (l : List ℕ). c.args.path.now ++ l) (sym (directory-none c.args.file.now (rfind_char 47 c.args.file.now None c.in_default.ensures.cases (lit< tt))))

pub returns : goal.returns
returns c =
    let last = rfind_char 47 c.args.file.now (Some c.in-Some.at) c.in-Some.ensures.cases (lit< tt) in
    let upto = directory-at c.args.file.now c.in-Some.at last.0 last.1 last.2 in
    on_ok_weaker c.push_str-2.result
    (λ (added : c.push_str-2.new.self ≡ c.push_str.new.self ++ 47 ∷ []).
    added ∙ ap (λ (l : List ℕ). l ++ 47 ∷ []) c.in_ok-push_str.ensures.ok ∙ append_assoc c.args.path.now c.range.result.now (47 ∷ [])
    ∙ ap (λ (l : List ℕ). c.args.path.now ++ l)
    (ap (λ (l : List ℕ). l ++ 47 ∷ []) (c.range.ensures.value ∙ range_front c.args.file.now c.in-Some.at) ∙ sym upto))
    c.push_str-2.ensures.ok
