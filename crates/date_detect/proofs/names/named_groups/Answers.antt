use Rattle.std.proofs.Common.{◌≡◌, None, ap, sym, ◌∙◌}
use Rattle.regex.specs.Names.{names_of}
use Rattle.date_detect.specs.Forms.{names_in}
use Rattle.date_detect.proofs.NameLemmas.{names_are}
use Rattle.date_detect.proofs.names.named_groups.Goals as goal

pub returns : goal.returns
returns c =
    let read = names_are c.args.text.now _ _ (rw c.default.ensures at c.in-Ok.ensures.ok) in
    let names : names_in c.args.text.now ≡ names_of c.as_slice-names.result.now = read ∙ ap names_of (sym c.as_slice-names.ensures.value) in
    rw names (λ i. record {
      year = c.number_of.ensures i;
      short_year = c.number_of-2.ensures i;
      month = c.number_of-3.ensures i;
      month_name = c.number_of-4.ensures i;
      day = c.number_of-5.ensures i;
      hour = c.number_of-6.ensures i;
      minute = c.number_of-7.ensures i;
      second = c.number_of-8.ensures i;
      zone = c.number_of-9.ensures i;
      moment = None;
    })
