-- The usual forms are patterns, at the beginning of a line and anywhere: their readings are computed.
use Rattle.std.proofs.Common.{List, [], ◌∷◌, Bool, true, false, All, IsSome, arith, refl}
use Rattle.std.proofs.lemmas.List.Elements.{All-cons}
use Rattle.regex.proofs.OnLiterals.{regex_on_literals}
use Rattle.f2b_world.specs.Reading.{reading}
use Rattle.date_detect.specs.Forms.{framed, usual_rule, texts}
use Rattle.date_detect.specs.Usual.{usual_text}
use Rattle.date_detect.specs.declared.usual.UsualForm.{UsualForm}
use Rattle.date_detect.specs.declared.usual.UsualForm.TheVariants.{Iso, Access, Ctime, Slashes, Syslog, Epoch}

pub usual_reads : (anchored : Bool) (form : UsualForm) → IsSome (reading (framed anchored (usual_text form)))
unfolding regex_on_literals reading
usual_reads false Iso = refl
usual_reads false Access = refl
usual_reads false Ctime = refl
usual_reads false Slashes = refl
usual_reads false Syslog = refl
usual_reads false Epoch = refl
usual_reads true Iso = refl
usual_reads true Access = refl
usual_reads true Ctime = refl
usual_reads true Slashes = refl
usual_reads true Syslog = refl
usual_reads true Epoch = refl

pub all_read : (anchored : Bool) (usual : List UsualForm) → All (λ text. IsSome (reading text)) (texts (usual_rule anchored usual))
all_read anchored [] = λ k d within. absurd (omega (arith, within))
all_read anchored (form ∷ usual) = All-cons (λ text. IsSome (reading text)) (framed anchored (usual_text form)) _ (usual_reads anchored form) (all_read anchored usual)
