-- Which inputs are of the jails alone.
use Rattle.std.specs.Prelude.{Bool, true, false}
use Rattle.f2b_base.specs.declared.input.What.{What}
use Rattle.f2b_base.specs.declared.input.What.TheVariants.{Ended, Config, Stop, CheckFailed}

-- whether it is of the jails alone: no configuration, no stop, and neither the ending of a try nor a check that failed, which are of the lanes
abbrev pub is_of_jails : What → Bool
is_of_jails (Ended job outcome) = false
is_of_jails (Config defs) = false
is_of_jails Stop = false
is_of_jails (CheckFailed job outcome) = false
is_of_jails _ = true
