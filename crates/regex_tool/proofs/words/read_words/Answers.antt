use Rattle.std.proofs.Common.{◌∙◌, sym, ap, map, Some, Ok, Err, string_bytes}
use Rattle.clap.specs.Words.{app_of}
use Rattle.regex_tool.proofs.AsksLemmas.{fails_by, has_matches, asks_as_found, asks_nothing}
use Rattle.regex_tool.proofs.words.read_words.Goals as goal

pub returns-in-Some : goal.returns-in-Some
returns-in-Some c =
    let words = map string_bytes c.args.words.now in
    let m = c.in-Ok-try_get_matches_from.matches in
    let has = has_matches (app_of c.in-Ok.command) c.in-Ok.ensures words m c.in-Ok-try_get_matches_from.ensures.matches in
    let fault = fails_by (app_of c.in-Ok.command) c.in-Ok.ensures words (Ok m) c.in-Ok-try_get_matches_from.ensures.kinds in
    asks_as_found words m _ fault has c.in-Some.ensures

pub returns-in-Ok-try_get_matches_from : goal.returns-in-Ok-try_get_matches_from
returns-in-Ok-try_get_matches_from c =
    let words = map string_bytes c.args.words.now in
    let m = c.in-Ok-try_get_matches_from.matches in
    let has = has_matches (app_of c.in-Ok.command) c.in-Ok.ensures words m c.in-Ok-try_get_matches_from.ensures.matches in
    let fault = fails_by (app_of c.in-Ok.command) c.in-Ok.ensures words (Ok m) c.in-Ok-try_get_matches_from.ensures.kinds in
    asks_as_found words m _ fault has c.in-None.ensures

pub returns : goal.returns
returns c =
    let words = map string_bytes c.args.words.now in
    let fails = fails_by (app_of c.in-Ok.command) c.in-Ok.ensures words (Err c.in-Err.error) c.in-Err.ensures.kinds in
    asks_nothing words c.in-Err.error fails (λ memory. c.in_default-kind.not-OutOfMemory (c.kind.ensures ∙ memory))
