-- How a run ends whose words ask for nothing.
use Rattle.run_law.specs.declared.status.Status.{Status}
use Rattle.run_law.specs.declared.status.Status.TheVariants.{Usage, SinkFault, NoMemory}

-- what a run of words outside the table ends with: Usage, unless its line could not be said or memory ran out
abbrev pub IsOfUsage : Status → Type 0
IsOfUsage Usage = Unit {0}
IsOfUsage SinkFault = Unit {0}
IsOfUsage NoMemory = Unit {0}
IsOfUsage _ = ⊥
