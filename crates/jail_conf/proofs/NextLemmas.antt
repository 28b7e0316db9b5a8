-- The next jail, step by step.
use Rattle.std.proofs.Common.{◌≡◌, true, false, List, length, None, Some, Ok, Err, refl}
use Rattle.std.specs.Prelude.{sum_by}
use Rattle.f2b_base.specs.declared.jail.JailDef.{JailDef}
use Rattle.jail_conf.specs.declared.conf_error.ConfError.{ConfError}
use Rattle.jail_conf.specs.declared.fail.Fail.{Fail}
use Rattle.jail_conf.specs.declared.source.Source.{Source}
use Rattle.jail_conf.specs.Conf.{is_enabled, patterns_in, next_jail}
use Rattle.jail_conf.specs.Jails.{jail_of}
use Rattle.jail_conf.specs.Sources.{Bases}
use Rattle.jail_conf.specs.Then.{Gives}
use Rattle.jail_conf.proofs.FaultLemmas.{first_fails, first_is_there, first_is}

pub next_enabled_fails : (bases : Bases) (jail : Source) (before : List JailDef) (fail : Fail ConfError) → Gives (is_enabled jail (length before)) (Err fail) →
    Gives (next_jail bases jail before) (Err fail)
unfolding next_jail
next_enabled_fails bases jail before fail given = first_fails (is_enabled jail (length before)) _ fail given

pub next_is_off : (bases : Bases) (jail : Source) (before : List JailDef) → is_enabled jail (length before) ≡ Ok false → next_jail bases jail before ≡ Ok None
unfolding next_jail
next_is_off bases jail before is = first_is (is_enabled jail (length before)) _ false _ is refl

pub next_fails : (bases : Bases) (jail : Source) (before : List JailDef) (fail : Fail ConfError) → is_enabled jail (length before) ≡ Ok true →
    Gives (jail_of bases jail (sum_by patterns_in before)) (Err fail) → Gives (next_jail bases jail before) (Err fail)
unfolding next_jail
next_fails bases jail before fail is given =
    first_is_there (is_enabled jail (length before)) _ true (Err fail) is (first_fails (jail_of bases jail (sum_by patterns_in before)) _ fail given)

pub next_is : (bases : Bases) (jail : Source) (before : List JailDef) (definition : JailDef) → is_enabled jail (length before) ≡ Ok true →
    jail_of bases jail (sum_by patterns_in before) ≡ Ok definition → next_jail bases jail before ≡ Ok (Some definition)
unfolding next_jail
next_is bases jail before definition is given =
    first_is (is_enabled jail (length before)) _ true _ is (first_is (jail_of bases jail (sum_by patterns_in before)) _ definition _ given refl)
