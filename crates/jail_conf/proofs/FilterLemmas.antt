-- The filter of a jail, step by step.
use Rattle.std.proofs.Common.{◌≡◌, ℕ, not, true, false, List, None, Some, Result, Ok, Err, refl, sym, ap, ◌∙◌, subst}
use Rattle.ini_interp.specs.Lines.{trimmed}
use Rattle.ini_interp.specs.Sections.{Sections}
use Rattle.jail_conf.specs.declared.conf_error.ConfError.{ConfError}
use Rattle.jail_conf.specs.declared.conf_error.ConfKind.TheVariants.{BadOptions}
use Rattle.jail_conf.specs.declared.fail.Fail.{Fail}
use Rattle.jail_conf.specs.declared.filter.Filter.{Filter}
use Rattle.jail_conf.specs.declared.options.Named.{Named}
use Rattle.jail_conf.specs.declared.source.Source.{Source}
use Rattle.jail_conf.specs.Jails.{base_of, file_of, no_filter, known_of, named_filter, filter_of}
use Rattle.jail_conf.specs.Options.{named}
use Rattle.jail_conf.specs.Sources.{Bases, sections_of, of_definition, own, told, without_file}
use Rattle.jail_conf.specs.Table as table
use Rattle.jail_conf.specs.Then.{or_refuse, Gives}
use Rattle.jail_conf.specs.Told.{IsRefusal}
use Rattle.jail_conf.specs.Words.{is_empty}
use Rattle.jail_conf.proofs.ActionLemmas.{fails_first}
use Rattle.jail_conf.proofs.EnabledLemmas.{not_refused, refused}
use Rattle.jail_conf.proofs.FaultLemmas.{first_fails, first_is_there, first_is, refusal_gives}

pub filter_has_no_options : (bases : Bases) (jail : Source) (text : List ℕ) (fail : Fail ConfError) → named text ≡ None →
    IsRefusal (told jail table.filter.name BadOptions) fail → Gives (named_filter bases jail text) (Err fail)
unfolding named_filter
filter_has_no_options bases jail text fail none is =
    let bad = or_refuse {A = Named} (told jail table.filter.name BadOptions) in
    refusal_gives _ (told jail table.filter.name BadOptions) fail is (fails_first (bad (named text)) _ _ (ap bad none))

pub filter_has_no_file : (bases : Bases) (jail : Source) (text : List ℕ) (given : Named) (fail : Fail ConfError) → named text ≡ Some given →
    bases.has_file (file_of given.name) ≡ false → IsRefusal (without_file jail table.filter.name (file_of given.name)) fail → Gives (named_filter bases jail text) (Err fail)
unfolding named_filter
filter_has_no_file bases jail text given fail some absent is =
    let bad = or_refuse {A = Named} (told jail table.filter.name BadOptions) in
    refusal_gives _ (without_file jail table.filter.name (file_of given.name)) fail is
    (first_is (bad (named text)) _ given _ (ap bad some) (refused (not (bases.has_file (file_of given.name))) _ _ (ap not absent)))

pub filter_files_fail : (bases : Bases) (jail : Source) (text : List ℕ) (given : Named) (fail : Fail ConfError) → named text ≡ Some given →
    bases.has_file (file_of given.name) ≡ true → Gives (sections_of bases (base_of given.name)) (Err fail) → Gives (named_filter bases jail text) (Err fail)
unfolding named_filter
filter_files_fail bases jail text given fail some there failed =
    let bad = or_refuse {A = Named} (told jail table.filter.name BadOptions) in
    first_is_there (bad (named text)) _ given (Err fail) (ap bad some)
    (subst (λ (filter : Result Filter ConfError). Gives filter (Err fail)) (sym (not_refused (not (bases.has_file (file_of given.name))) _ _ (ap not there)))
    (first_fails (sections_of bases (base_of given.name)) _ fail failed))

pub named_filter_is : (bases : Bases) (jail : Source) (text : List ℕ) (given : Named) (sections : Sections) → named text ≡ Some given →
    bases.has_file (file_of given.name) ≡ true → sections_of bases (base_of given.name) ≡ Ok sections →
    named_filter bases jail text ≡ Ok (record { source = of_definition (file_of given.name) jail.section given.options sections; known = known_of sections })
unfolding named_filter
named_filter_is bases jail text given sections some there are =
    let bad = or_refuse {A = Named} (told jail table.filter.name BadOptions) in
    first_is (bad (named text)) _ given _ (ap bad some)
    (not_refused (not (bases.has_file (file_of given.name))) _ _ (ap not there) ∙ first_is (sections_of bases (base_of given.name)) _ sections _ are refl)

-- ---- the filter that a jail names, or none

pub filter_text_fails : (bases : Bases) (jail : Source) (fail : Fail ConfError) → Gives (own jail table.filter) (Err fail) → Gives (filter_of bases jail) (Err fail)
unfolding filter_of
filter_text_fails bases jail fail given = first_fails (own jail table.filter) _ fail given

pub filter_is_none : (bases : Bases) (jail : Source) (text : List ℕ) → own jail table.filter ≡ Ok text → is_empty (trimmed text) ≡ true →
    filter_of bases jail ≡ Ok (no_filter jail.section)
unfolding filter_of
filter_is_none bases jail text is empty = first_is (own jail table.filter) _ text _ is (rw empty refl)

pub filter_is_named : (bases : Bases) (jail : Source) (text : List ℕ) (result : Result Filter (Fail ConfError)) → own jail table.filter ≡ Ok text →
    is_empty (trimmed text) ≡ false → Gives (named_filter bases jail text) result → Gives (filter_of bases jail) result
unfolding filter_of
filter_is_named bases jail text result is some given = first_is_there (own jail table.filter) _ text result is (rw some given)
