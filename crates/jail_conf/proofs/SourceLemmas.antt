-- What goes into a source: an option with its percent signs doubled, and the names of a scope.
use Rattle.std.proofs.Common.{◌≡◌, ℕ, true, List, [], ◌∷◌, ◌++◌, Result, Ok, Err, codes, sym, ap, ◌∙◌, append_assoc}
use Rattle.std.specs.Prelude.{OnOk}
use Rattle.jail_conf.specs.Sources.{percents_doubled, in_definition}
use Rattle.jail_conf.specs.Words.{is_among_bytes, HasNone}
use Rattle.jail_conf.proofs.OptionLemmas.{percents_doubled-part, percents_doubled-none}

-- one percent sign more
pub percents-more : (doubled after text left part rest : List ℕ) (byte : ℕ) → doubled ++ percents_doubled left ≡ percents_doubled text → left ≡ part ++ byte ∷ rest →
    HasNone (codes "%") part → is_among_bytes (codes "%") byte ≡ true → after ≡ (doubled ++ part) ++ codes "%%" → after ++ percents_doubled rest ≡ percents_doubled text
percents-more doubled after text left part rest byte before is none among more =
    let left_is : percents_doubled left ≡ part ++ (codes "%%" ++ percents_doubled rest) = ap percents_doubled is ∙ percents_doubled-part part rest byte none among in
    ap (λ all. all ++ percents_doubled rest) more
    ∙ (append_assoc (doubled ++ part) (codes "%%") (percents_doubled rest)
    ∙ (append_assoc doubled part (codes "%%" ++ percents_doubled rest) ∙ (ap (λ others. doubled ++ others) (sym left_is) ∙ before)))

-- and no more
pub percents-none : (doubled after text left : List ℕ) → doubled ++ percents_doubled left ≡ percents_doubled text → HasNone (codes "%") left → after ≡ doubled ++ left →
    after ≡ percents_doubled text
percents-none doubled after text left before none last = last ∙ (ap (λ others. doubled ++ others) (sym (percents_doubled-none left none)) ∙ before)

-- four names, one after the other
pub pushed_definition : (scope one two three four : List (List ℕ)) → one ≡ scope ++ codes "Init" ∷ [] → two ≡ one ++ codes "Definition" ∷ [] →
    three ≡ two ++ codes "DEFAULT" ∷ [] → four ≡ three ++ codes "]name" ∷ [] → four ≡ scope ++ in_definition
pushed_definition scope one two three four first second third last = rw (last, third, second, first) (simp append_assoc)

pub on_ok : {A E P Q : Type 0} (result : Result A E) → (P → Q) → OnOk result P → OnOk result Q
on_ok (Ok x) more is = more is
on_ok (Err fail) more is = is
