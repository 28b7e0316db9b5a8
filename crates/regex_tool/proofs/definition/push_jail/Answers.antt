use Rattle.std.proofs.Common.{◌≡◌, ◌++◌, codes, option_copied}
use Rattle.std.proofs.lemmas.Result.{on_ok_weaker}
use Rattle.regex_tool.specs.Definitions.{option_text}
use Rattle.regex_tool.proofs.TextLemmas.{grown}
use Rattle.regex_tool.proofs.definition.push_jail.Goals as goal

pub returns : goal.returns
returns c =
    let front : c.push_slice.new.self ≡ c.args.text.now ++ codes "[" = c.in_ok-push_slice.ensures.ok in
    let name : c.push_slice-2.new.self ≡ c.push_slice.new.self ++ c.args.target.name.now = cc (c.in_ok-push_slice-2.ensures.ok, c.as_bytes.ensures.value) in
    let items : c.push_slice-3.new.self ≡ c.push_slice-2.new.self ++ codes "]\nenabled = true\nignoreself = false\nfilter = " = c.in_ok-push_slice-3.ensures.ok in
    let filter : c.push_slice-4.new.self ≡ c.push_slice-3.new.self ++ c.args.target.name.now = cc (c.in_ok-push_slice-4.ensures.ok, c.as_bytes-2.ensures.value) in
    let options : c.push_options.new.text ≡ c.push_slice-4.new.self ++ option_text (option_copied c.args.target.options) = c.in_ok-push_options.ensures in
    on_ok_weaker c.push_slice-5.result
    (grown c.args.text.now _ (codes "\n") c.push_options.new.text c.push_slice-5.new.self
    (grown c.args.text.now _ _ c.push_slice-4.new.self c.push_options.new.text
    (grown c.args.text.now _ _ c.push_slice-3.new.self c.push_slice-4.new.self
    (grown c.args.text.now _ _ c.push_slice-2.new.self c.push_slice-3.new.self
    (grown c.args.text.now _ _ c.push_slice.new.self c.push_slice-2.new.self front name) items) filter) options))
    c.push_slice-5.ensures.ok
