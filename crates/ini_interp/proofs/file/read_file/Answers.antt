use Rattle.std.proofs.Common.{◌∙◌, ap, map, sym, Err}
use Rattle.std.proofs.lemmas.Result.{IfOk-weaker, IfErr-weaker}
use Rattle.std.specs.Str.Lines.{lines}
use Rattle.ini_interp.specs.Lines.{form_of}
use Rattle.ini_interp.specs.declared.error.IniError.TheVariants.{NotUtf8}
use Rattle.ini_interp.proofs.AheadLemmas.{file_text, file_not_text, unless_weaker, well_formed}
use Rattle.ini_interp.proofs.AreSectionsLemmas.{file_are}
use Rattle.ini_interp.proofs.file.read_file.Goals as goal

pub returns-in-Ok-clause-sections : goal.returns-in-Ok-clause-sections
returns-in-Ok-clause-sections c =
    IfOk-weaker c.read_text.result _ _ (λ sections is. file_text c.in-Ok.text.now c.args.bytes.now c.in-Ok.ensures.cases ∙ is) c.read_text.ensures.sections

pub returns-in-Ok-clause-fault : goal.returns-in-Ok-clause-fault
returns-in-Ok-clause-fault c =
    IfErr-weaker c.read_text.result _ _ (λ e. unless_weaker e (λ is. file_text c.in-Ok.text.now c.args.bytes.now c.in-Ok.ensures.cases ∙ is)) c.read_text.ensures.fault

pub returns-in-Err-clause-fault : goal.returns-in-Err-clause-fault
returns-in-Err-clause-fault c =
    file_not_text c.args.bytes.now c.in-Err.ensures.cases.0 ∙ ap (λ n. Err (NotUtf8 n)) (sym (c.valid_up_to.ensures ∙ c.in-Err.ensures.valid_len))

pub returns-in-Ok-clause-place : goal.returns-in-Ok-clause-place
returns-in-Ok-clause-place c = IfErr-weaker c.read_text.result _ _ (λ e. well_formed c.args.bytes.now (map form_of (lines c.in-Ok.text.now)) e) c.read_text.ensures.fault

pub returns-in-Err-clause-place : goal.returns-in-Err-clause-place
returns-in-Err-clause-place c = rw c.valid_up_to.ensures c.in-Err.ensures.cases.1

pub returns-in-Ok-clause-named : goal.returns-in-Ok-clause-named
returns-in-Ok-clause-named c =
    IfOk-weaker c.read_text.result _ _ (λ sections is. file_are c.args.bytes.now sections (file_text c.in-Ok.text.now c.args.bytes.now c.in-Ok.ensures.cases ∙ is)) c.read_text.ensures.sections
