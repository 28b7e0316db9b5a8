use Rattle.std.proofs.Common.{◌≡◌, ◌∙◌, ◌<◌, List, ℕ, [], Some, length, slice_get, sym, ap, arith}
use Rattle.std.proofs.lemmas.Option.{slice_get-get_or}
use Rattle.ini_interp.specs.InTurn.{in_turn}
use Rattle.ini_interp.specs.Merges.{base_file, base_files}
use Rattle.ini_interp.proofs.MergesLemmas.{base_starts, turn}
use Rattle.ini_interp.proofs.merges.read_base.Goals as goal

pub loop-path-init : goal.loop-path-init
loop-path-init c =
    base_starts c.args.files.now c.args.base.now c.in_ok-paths.paths c.as_slice-path-items.result.now c.new-sections.result c.as_slice-path-items.ensures
    c.in_ok-paths.ensures c.new-sections.ensures

pub loop-path-preserved : goal.loop-path-preserved
loop-path-preserved c =
    let within : c.loop-path.path-index < length c.as_slice-path-items.result.now = omega arith in
    let there : Some c.path-item.result ≡ slice_get c.as_slice-path-items.result.now c.loop-path.path-index =
    ap (λ (path : List ℕ). Some path) c.path-item.is
    ∙ sym (slice_get-get_or c.as_slice-path-items.result.now c.loop-path.path-index c.path-item.result within) in
    turn (base_file c.args.files.now) (in_turn (base_file c.args.files.now) (base_files c.args.files.now c.args.base.now)) c.as_slice-path-items.result.now
    c.loop-path.path-index c.path-item.result [] c.loop-path.sections there c.loop-path.invariant c.read_base_file.new.sections c.in-Ok.ensures.ok
