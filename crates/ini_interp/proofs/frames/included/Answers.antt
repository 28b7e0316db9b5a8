use Rattle.std.proofs.Common.{◌≡◌, ◌∙◌, ◌++◌, List, ℕ, [], sym, ap, Some, false}
use Rattle.ini_interp.proofs.FramesLemmas.{included_reads, reads_fault, within_files}
use Rattle.ini_interp.specs.Frames.{read_at, way_of}
use Rattle.ini_interp.specs.Merges.{is_among, is_outside, directory}
use Rattle.ini_interp.specs.Sections.{value_of}
use Rattle.ini_interp.proofs.frames.included.Goals as goal

pub returns-clause-fault : goal.returns-clause-fault
returns-clause-fault c = λ memory.
    let way : List (List ℕ) = way_of [] c.args.frames.now in
    let apart : is_among way c.in_ok-path.path ≡ false = sym (c.is_among.ensures ∙ ap (is_among way) c.as_str-3.ensures.value) ∙ c.if-is_among.false in
    let there : Some c.in-Some.content.now ≡ value_of c.in_ok-path.path c.args.files.now =
    c.in-Some.ensures ∙ ap (λ (path : List ℕ). value_of path c.args.files.now) c.as_str-4.ensures.value in
    included_reads c.args.files.now (read_at c.args.files.now way) way c.args.file.now c.args.name c.in_ok-path.path c.in-Some.content.now
    (c.in_ok-path.ensures ∙ ap (λ (name : List ℕ). directory c.args.file.now ++ name) c.as_str-2.ensures.value)
    (sym (c.is_outside.ensures ∙ ap is_outside c.as_str.ensures.value) ∙ c.if-is_outside.false) apart there
    ∙ reads_fault c.args.files.now way c.in_ok-path.path c.in-Some.content.now c.in-Err.fault
    (within_files c.args.files.now way c.in_ok-path.path c.in-Some.content.now c.requires apart (sym there)) (c.in-Err.ensures.fault memory)
