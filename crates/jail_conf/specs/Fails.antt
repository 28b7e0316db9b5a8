-- Faults of values as refusals. Want of memory has one name.
use Rattle.ini_interp.specs.declared.value_error.InterpError.{InterpError}
use Rattle.ini_interp.specs.declared.value_error.InterpError.TheVariants as interp
use Rattle.tag_subst.specs.declared.tag_error.TagError.{TagError}
use Rattle.tag_subst.specs.declared.tag_error.TagError.TheVariants as tag
use Rattle.jail_conf.specs.declared.conf_error.ConfKind.{ConfKind}
use Rattle.jail_conf.specs.declared.conf_error.ConfKind.TheVariants.{Missing, TooDeep, BadPercent}
use Rattle.jail_conf.specs.declared.fail.Fail.{Fail}
use Rattle.jail_conf.specs.declared.fail.Fail.TheVariants.{Refused, NoMemory}

abbrev pub interp_fail : InterpError → Fail ConfKind
interp_fail (interp.Missing name) = Refused (Missing name)
interp_fail (interp.TooDeep name) = Refused (TooDeep name)
interp_fail (interp.BadPercent at) = Refused (BadPercent at)
interp_fail interp.NoMemory = NoMemory

abbrev pub tag_fail : TagError → Fail ConfKind
tag_fail (tag.TooDeep name) = Refused (TooDeep name)
tag_fail (tag.Interp fault) = interp_fail fault
tag_fail tag.NoMemory = NoMemory
