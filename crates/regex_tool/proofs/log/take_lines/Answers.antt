use Rattle.std.proofs.Common.{◌∙◌, ap, refl}
use Rattle.regex_tool.specs.Logs.{seen_of}
use Rattle.regex_tool.proofs.ReadLemmas.{adds_none_of, adds_line, adds_next}
use Rattle.regex_tool.proofs.log.take_lines.Goals as goal

pub loop-line-init : goal.loop-line-init
loop-line-init c = record { same = refl; results = adds_none_of c.args.search.now c.args.now c.args.results.now }

pub loop-line-preserved : goal.loop-line-preserved
loop-line-preserved c =
    let looks = c.args.search.now in
    let line = c.line-item.result in
    let seen = c.in_ok-seen.ensures.seen ∙ ap (λ l. seen_of l c.args.now line) c.loop-line.invariant.same in
    record {
      same = c.in_ok-seen.ensures.same ∙ c.loop-line.invariant.same;
      results = adds_next looks c.args.now c.args.results.now c.loop-line.results c.add.new.self c.args.lines.now c.loop-line.line-index line c.loop-line-test.true c.line-item.is
          c.loop-line.invariant.results
          (adds_line looks c.args.now c.loop-line.results c.add.new.self line _ seen c.in_ok-add.ensures.counts c.in_ok-add.ensures.sections c.in_ok-add.ensures.notes);
    }
