-- One text of a list after another.
use Rattle.std.proofs.Common.{◌≡◌, List, [], ◌∷◌, ◌++◌, Result, Ok, Err, refl, sym, ap, append_assoc}
use Rattle.jail_conf.specs.declared.fail.Fail.{Fail}
use Rattle.jail_conf.specs.declared.fail.Fail.TheVariants.{Refused, NoMemory}
use Rattle.jail_conf.specs.Then.{◌>>=◌, each, Gives}

-- what the others are read as, behind what was read
abbrev pub behind : {A E : Type 0} → List A → Result (List A) E → Result (List A) E
behind values (Ok others) = Ok (values ++ others)
behind values (Err refusal) = Err refusal

-- before the first nothing was read
pub behind-none : {A E : Type 0} (rest : Result (List A) E) → behind [] rest ≡ rest
behind-none (Ok others) = refl
behind-none (Err refusal) = refl

-- one more was read
pub behind-more : {X A E : Type 0} (read : X → Result A E) (values : List A) (text : X) (texts : List X) (value : A) →
    read text ≡ Ok value → behind values (each read (text ∷ texts)) ≡ behind (values ++ value ∷ []) (each read texts)
behind-more {A = A} {E = E} read values text texts value is = rw is (by (each read texts))
  where
    by : (rest : Result (List A) E) → behind values (rest >>= (λ others. Ok (value ∷ others))) ≡ behind (values ++ value ∷ []) rest
    by (Ok others) = ap Ok (sym (append_assoc values (value ∷ []) others))
    by (Err refusal) = refl

-- one was refused
pub behind-refused : {X A E : Type 0} (read : X → Result A E) (values : List A) (text : X) (texts : List X) (refusal : E) →
    read text ≡ Err refusal → behind values (each read (text ∷ texts)) ≡ Err refusal
behind-refused read values text texts refusal is = rw is refl

-- a refusal stays one behind what was read
pub behind_fails : {A E : Type 0} (values : List A) (rest : Result (List A) E) (fail : Fail E) → Gives rest (Err fail) → Gives (behind values rest) (Err fail)
behind_fails values rest (Refused refusal) is = rw is refl
behind_fails values rest NoMemory is = tt
