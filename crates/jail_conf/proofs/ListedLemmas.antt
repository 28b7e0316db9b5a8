-- What is listed one after the other: actions, and jails.
use Rattle.std.proofs.Common.{◌≡◌, ◌∙◌, ℕ, suc, ◌+◌, ◌<◌, List, [], ◌∷◌, ◌++◌, length, get_or, drop, drop-cons, add-one, Option, Result, Ok, Err, codes, refl, sym, ap, append_assoc}
use Rattle.f2b_base.specs.declared.jail.ActionDef.{ActionDef}
use Rattle.f2b_base.specs.declared.jail.JailDef.{JailDef}
use Rattle.ini_interp.specs.Sections.{Sections}
use Rattle.jail_conf.specs.declared.actions.Action.{Action}
use Rattle.jail_conf.specs.declared.conf_error.ConfError.{ConfError}
use Rattle.jail_conf.specs.declared.fail.Fail.{Fail}
use Rattle.jail_conf.specs.declared.source.Source.{Source}
use Rattle.jail_conf.specs.Actions.{action_of, actions_behind}
use Rattle.jail_conf.specs.Conf.{next_jail, with_next, jails_behind}
use Rattle.jail_conf.specs.Sources.{Bases, of_jail, sections_of}
use Rattle.jail_conf.specs.Then.{◌>>=◌, Gives}
use Rattle.jail_conf.proofs.EachLemmas.{behind, behind_fails}
use Rattle.jail_conf.proofs.FaultLemmas.{first_fails}

-- one action more
pub actions_behind-more : (bases : Bases) (jail : Source) (names : List (List ℕ)) (lanes : List ActionDef) (line : List ℕ) (lines : List (List ℕ)) (action : Action) →
    action_of bases jail names line ≡ Ok action →
    behind lanes (actions_behind bases jail names (line ∷ lines)) ≡ behind (lanes ++ action.lanes) (actions_behind bases jail (names ++ action.name ∷ []) lines)
actions_behind-more bases jail names lanes line lines action is = rw is (by (actions_behind bases jail (names ++ action.name ∷ []) lines))
  where
    by : (rest : Result (List ActionDef) ConfError) → behind lanes (rest >>= (λ others. Ok (action.lanes ++ others))) ≡ behind (lanes ++ action.lanes) rest
    by (Ok others) = ap Ok (sym (append_assoc lanes action.lanes others))
    by (Err refusal) = refl

-- one that is refused
pub actions_behind-fails : (bases : Bases) (jail : Source) (names : List (List ℕ)) (lanes : List ActionDef) (line : List ℕ) (lines : List (List ℕ)) (fail : Fail ConfError) →
    Gives (action_of bases jail names line) (Err fail) → Gives (behind lanes (actions_behind bases jail names (line ∷ lines))) (Err fail)
actions_behind-fails bases jail names lanes line lines fail given =
    behind_fails lanes (actions_behind bases jail names (line ∷ lines)) fail (first_fails (action_of bases jail names line) _ fail given)

-- one jail more
pub jails_behind-more : (bases : Bases) (sections : Sections) (before : List JailDef) (name : List ℕ) (names : List (List ℕ)) (next : Option JailDef) →
    next_jail bases (of_jail sections name) before ≡ Ok next →
    jails_behind bases sections before (name ∷ names) ≡ jails_behind bases sections (with_next before next) names
jails_behind-more bases sections before name names next is = rw is refl

pub jails_behind-fails : (bases : Bases) (sections : Sections) (before : List JailDef) (name : List ℕ) (names : List (List ℕ)) (fail : Fail ConfError) →
    Gives (next_jail bases (of_jail sections name) before) (Err fail) → Gives (jails_behind bases sections before (name ∷ names)) (Err fail)
jails_behind-fails bases sections before name names fail given = first_fails (next_jail bases (of_jail sections name) before) _ fail given

-- the name at a place, and those behind it
pub name_at : (names : List (List ℕ)) (place : ℕ) (name : List ℕ) → place < length names → name ≡ get_or names place name → drop place names ≡ name ∷ drop (place + 1) names
name_at names place name less is = rw (add-one, drop-cons names place name) (ap (λ first. first ∷ drop (suc place) names) (sym is))

-- one step over the names
pub jails_step : (bases : Bases) (sections : Sections) (before : List JailDef) (names : List (List ℕ)) (place : ℕ) (name : List ℕ) (next : Option JailDef)
    (all : Result (List JailDef) ConfError) → jails_behind bases sections before (drop place names) ≡ all → drop place names ≡ name ∷ drop (place + 1) names →
    next_jail bases (of_jail sections name) before ≡ Ok next → jails_behind bases sections (with_next before next) (drop (place + 1) names) ≡ all
jails_step bases sections before names place name next all done at is =
    sym (jails_behind-more bases sections before name (drop (place + 1) names) next is) ∙ (sym (ap (jails_behind bases sections before) at) ∙ done)

-- the next jail, as the code finds it
pub next_found : (bases : Bases) (merged sections : Sections) (jail : Source) (name text : List ℕ) (jails seen : List JailDef) (next : Option JailDef) →
    sections ≡ merged → jail ≡ of_jail sections text → text ≡ name → seen ≡ jails → next_jail bases jail seen ≡ Ok next → next_jail bases (of_jail merged name) jails ≡ Ok next
next_found bases merged sections jail name text jails seen next one made is all given =
    let is_jail : jail ≡ of_jail merged name = made ∙ (ap (λ (s : Sections). of_jail s text) one ∙ ap (of_jail merged) is) in
    sym (ap (λ (j : Source). next_jail bases j jails) is_jail) ∙ (sym (ap (next_jail bases jail) all) ∙ given)
