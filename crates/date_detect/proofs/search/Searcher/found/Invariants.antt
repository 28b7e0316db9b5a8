use Rattle.std.proofs.Common.{◌≡◌, drop}
use Rattle.date_detect.specs.Dates.{first_date, date_in}
use Rattle.date_detect.proofs.search.Searcher.found.Given as goal

abbrev pub invariant-loop-form : goal.invariant-loop-form
invariant-loop-form l =
    (l.form-items ≡ l.initial.form-items)
    × (first_date l.anchored (drop l.form-index l.form-items) l.now l.zone l.line ≡ date_in l.fn.self l.now l.zone l.line)
