use Rattle.std.proofs.Common.{◌∙◌, sym, arith}
use Rattle.run_start.proofs.DirectoryLemmas.{directory_root, directory_below, directory_none}
use Rattle.run_start.proofs.listing.directory.Goals as goal

pub returns-in-Some-eq0 : goal.returns-in-Some-eq0
returns-in-Some-eq0 c =
    let found = rw c.as_bytes.ensures.value at c.in-Some-eq0.ensures in
    sym (directory_root c.args.path.now c.in-Some-eq0.field-0 (omega (arith, c.in-Some-eq0.field-0-test)) found.0 found.1)

pub returns-in-Some : goal.returns-in-Some
returns-in-Some c =
    let found = rw c.as_bytes.ensures.value at c.in-Some.ensures in
    c.split_at.ensures.front ∙ sym (directory_below c.args.path.now c.in-Some.end (omega (arith, c.in-Some.end-test)) found.0 found.1)

pub returns-in-None : goal.returns-in-None
returns-in-None c = sym (directory_none c.args.path.now (rw c.as_bytes.ensures.value at c.in-None.ensures))
