-- What is kept then is what the files come to.
use Rattle.std.proofs.Common.{◌≡◌, ◌∙◌, codes, string_bytes, sym, ap, subst}
use Rattle.ini_interp.specs.Merges.{Files}
use Rattle.ini_interp.specs.Sections.{without}
use Rattle.jail_conf.specs.MergedBases.{given_back, IsOfBase}
use Rattle.jail_conf.proofs.KeptLemmas.{more_of_bases}
use Rattle.jail_conf.proofs.merged_bases.MergedBases.give_back.Goals as goal

pub invariant_of-self-2 : goal.invariant_of-self-2
invariant_of-self-2 c =
    let files = c.self.inside.files.now in
    let file : string_bytes c.in_ok-file.file ≡ c.args.source.file = c.in_ok-file.ensures.ok ∙ c.as_str.ensures.value in
    let sections : c.clear-2.new.self ≡ given_back c.args.source = c.clear-2.ensures ∙ ap (without (codes "]name")) c.clear.ensures in
    let own : IsOfBase files (string_bytes c.in_ok-file.file) c.clear-2.new.self =
    subst (λ (files : Files). IsOfBase files (string_bytes c.in_ok-file.file) c.clear-2.new.self) (sym c.self.view_is)
    (rw (file, sections) c.requires) in
    rw c.in_ok-insert.ensures.entries (more_of_bases files c.in_ok-file.file c.clear-2.new.self c.self.inside.kept.entries own c.self.invariant)
