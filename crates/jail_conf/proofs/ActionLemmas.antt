-- One action of a jail, step by step.
use Rattle.std.proofs.Common.{◌≡◌, ℕ, ◌<◌, ◌≤◌, not, nat_lt, true, false, List, length, None, Some, Result, Ok, Err, refl, ap, ◌∙◌, arith}
use Rattle.std.proofs.lemmas.Bool.Decides.{nat_tests}
use Rattle.f2b_base.specs.declared.jail.ActionDef.{ActionDef}
use Rattle.ini_interp.specs.Sections.{Sections}
use Rattle.jail_conf.specs.declared.conf_error.ConfError.{ConfError}
use Rattle.jail_conf.specs.declared.conf_error.ConfKind.TheVariants.{BadOptions, DoubleAction, TooMany}
use Rattle.jail_conf.specs.declared.fail.Fail.{Fail}
use Rattle.jail_conf.specs.declared.options.Named.{Named}
use Rattle.jail_conf.specs.declared.source.Source.{Source}
use Rattle.jail_conf.specs.Actions.{base_of, file_of, name_of, lanes_of, named_action, action_of, most_actions}
use Rattle.jail_conf.specs.Options.{named}
use Rattle.jail_conf.specs.Sources.{Bases, sections_of, of_definition, told, without_file}
use Rattle.jail_conf.specs.Table.{action}
use Rattle.jail_conf.specs.Then.{◌>>=◌, or_refuse, Gives}
use Rattle.jail_conf.specs.Told.{IsRefusal}
use Rattle.jail_conf.specs.Words.{is_among}
use Rattle.jail_conf.proofs.FaultLemmas.{first_fails, first_is_there, first_is, refusal_gives}
use Rattle.jail_conf.proofs.EnabledLemmas.{not_refused, refused}

-- what is refused at once
pub fails_first : {A B E : Type 0} (defined : Result A E) (next : A → Result B E) (error : E) → defined ≡ Err error → (defined >>= next) ≡ Err error
fails_first defined next error is = rw is refl

pub no_options : (bases : Bases) (jail : Source) (names : List (List ℕ)) (line : List ℕ) (fail : Fail ConfError) → named line ≡ None →
    IsRefusal (told jail action.name BadOptions) fail → Gives (named_action bases jail names line) (Err fail)
unfolding named_action
no_options bases jail names line fail none is =
    let bad = or_refuse {A = Named} (told jail action.name BadOptions) in
    refusal_gives _ (told jail action.name BadOptions) fail is (fails_first (bad (named line)) _ _ (ap bad none))

pub no_file : (bases : Bases) (jail : Source) (names : List (List ℕ)) (line : List ℕ) (given : Named) (fail : Fail ConfError) → named line ≡ Some given →
    bases.has_file (file_of given.name) ≡ false → IsRefusal (without_file jail action.name (file_of given.name)) fail → Gives (named_action bases jail names line) (Err fail)
unfolding named_action
no_file bases jail names line given fail some absent is =
    let bad = or_refuse {A = Named} (told jail action.name BadOptions) in
    refusal_gives _ (without_file jail action.name (file_of given.name)) fail is
    (first_is (bad (named line)) _ given _ (ap bad some) (refused (not (bases.has_file (file_of given.name))) _ _ (ap not absent)))

pub same_name : (bases : Bases) (jail : Source) (names : List (List ℕ)) (line : List ℕ) (given : Named) (fail : Fail ConfError) → named line ≡ Some given →
    bases.has_file (file_of given.name) ≡ true → is_among names (name_of given) ≡ true → IsRefusal (told jail action.name DoubleAction) fail →
    Gives (named_action bases jail names line) (Err fail)
unfolding named_action
same_name bases jail names line given fail some there among is =
    let bad = or_refuse {A = Named} (told jail action.name BadOptions) in
    refusal_gives _ (told jail action.name DoubleAction) fail is
    (first_is (bad (named line)) _ given _ (ap bad some)
    (not_refused (not (bases.has_file (file_of given.name))) _ _ (ap not there) ∙ refused (is_among names (name_of given)) _ _ among))

pub named_action_is : (bases : Bases) (jail : Source) (names : List (List ℕ)) (line : List ℕ) (given : Named) → named line ≡ Some given →
    bases.has_file (file_of given.name) ≡ true → is_among names (name_of given) ≡ false → named_action bases jail names line ≡ Ok given
unfolding named_action
named_action_is bases jail names line given some there other =
    let bad = or_refuse {A = Named} (told jail action.name BadOptions) in
    first_is (bad (named line)) _ given _ (ap bad some)
    (not_refused (not (bases.has_file (file_of given.name))) _ _ (ap not there) ∙ not_refused (is_among names (name_of given)) _ _ other)

-- ---- with its lanes

pub action_name_fails : (bases : Bases) (jail : Source) (names : List (List ℕ)) (line : List ℕ) (fail : Fail ConfError) → Gives (named_action bases jail names line) (Err fail) →
    Gives (action_of bases jail names line) (Err fail)
unfolding action_of
action_name_fails bases jail names line fail given = first_fails (named_action bases jail names line) _ fail given

pub action_files_fail : (bases : Bases) (jail : Source) (names : List (List ℕ)) (line : List ℕ) (given : Named) (fail : Fail ConfError) →
    named_action bases jail names line ≡ Ok given → Gives (sections_of bases (base_of given.name)) (Err fail) → Gives (action_of bases jail names line) (Err fail)
unfolding action_of
action_files_fail bases jail names line given fail is failed =
    first_is_there (named_action bases jail names line) _ given (Err fail) is (first_fails (sections_of bases (base_of given.name)) _ fail failed)

-- its lanes
abbrev pub lanes_given : (jail : Source) → Named → Sections → Result (List ActionDef) ConfError
lanes_given jail given sections = lanes_of sections (of_definition (file_of given.name) jail.section given.options sections) (name_of given)

pub action_lanes_fail : (bases : Bases) (jail : Source) (names : List (List ℕ)) (line : List ℕ) (given : Named) (sections : Sections) (fail : Fail ConfError) →
    named_action bases jail names line ≡ Ok given → sections_of bases (base_of given.name) ≡ Ok sections → Gives (lanes_given jail given sections) (Err fail) →
    Gives (action_of bases jail names line) (Err fail)
unfolding action_of
action_lanes_fail bases jail names line given sections fail is are failed =
    first_is_there (named_action bases jail names line) _ given (Err fail) is
    (first_is_there (sections_of bases (base_of given.name)) _ sections (Err fail) are (first_fails (lanes_given jail given sections) _ fail failed))

pub too_many_actions : (bases : Bases) (jail : Source) (names : List (List ℕ)) (line : List ℕ) (given : Named) (sections : Sections) (lanes : List ActionDef) (fail : Fail ConfError) →
    named_action bases jail names line ≡ Ok given → sections_of bases (base_of given.name) ≡ Ok sections → lanes_given jail given sections ≡ Ok lanes →
    most_actions ≤ length names → IsRefusal (told jail action.name TooMany) fail → Gives (action_of bases jail names line) (Err fail)
unfolding action_of
too_many_actions bases jail names line given sections lanes fail is are lanes_are many refusal =
    let full : not (nat_lt (length names) most_actions) ≡ true = grind (arith, nat_tests) in
    refusal_gives _ (told jail action.name TooMany) fail refusal
    (first_is (named_action bases jail names line) _ given _ is
    (first_is (sections_of bases (base_of given.name)) _ sections _ are
    (first_is (lanes_given jail given sections) _ lanes _ lanes_are (refused (not (nat_lt (length names) most_actions)) _ _ full))))

pub action_is : (bases : Bases) (jail : Source) (names : List (List ℕ)) (line : List ℕ) (given : Named) (sections : Sections) (lanes : List ActionDef) →
    named_action bases jail names line ≡ Ok given → sections_of bases (base_of given.name) ≡ Ok sections → lanes_given jail given sections ≡ Ok lanes →
    length names < most_actions → action_of bases jail names line ≡ Ok (record { name = name_of given; lanes = lanes })
unfolding action_of
action_is bases jail names line given sections lanes is are lanes_are few =
    let room : not (nat_lt (length names) most_actions) ≡ false = grind (arith, nat_tests) in
    first_is (named_action bases jail names line) _ given _ is
    (first_is (sections_of bases (base_of given.name)) _ sections _ are
    (first_is (lanes_given jail given sections) _ lanes _ lanes_are (not_refused (not (nat_lt (length names) most_actions)) _ _ room)))
