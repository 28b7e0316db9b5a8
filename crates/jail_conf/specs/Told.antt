-- What is wrong, told with its place.
use Rattle.std.specs.Prelude.{◌≡◌, ℕ, List}
use Rattle.ini_interp.specs.declared.merge_error.MergeError.{MergeError}
use Rattle.ini_interp.specs.declared.merge_error.MergeError.TheVariants as merge
use Rattle.jail_conf.specs.declared.conf_error.ConfError.{ConfError}
use Rattle.jail_conf.specs.declared.conf_error.ConfKind.{ConfKind}
use Rattle.jail_conf.specs.declared.fail.Fail.{Fail}
use Rattle.jail_conf.specs.declared.fail.Fail.TheVariants.{Refused, NoMemory}
use Rattle.jail_conf.specs.declared.source.Source.{Source}
use Rattle.jail_conf.specs.Sources.{told, merge_refusal}

-- this refusal, unless memory is wanted
abbrev pub IsRefusal : ConfError → Fail ConfError → Type 0
IsRefusal refusal (Refused error) = error ≡ refusal
IsRefusal refusal NoMemory = Unit {0}

-- a refusal is told with the source's file and section, unless memory is wanted
abbrev pub IsTold : Source → List ℕ → Fail ConfKind → Fail ConfError → Type 0
IsTold source name (Refused kind) (Refused error) = error ≡ told source name kind
IsTold source name NoMemory (Refused error) = ⊥
IsTold source name fail NoMemory = Unit {0}

-- a fault of files is told as such, and want of memory has one name
abbrev pub IsMergeFail : MergeError → Fail ConfError → Type 0
IsMergeFail merge.NoMemory fail = fail ≡ NoMemory
IsMergeFail fault fail = fail ≡ Refused (merge_refusal fault)
