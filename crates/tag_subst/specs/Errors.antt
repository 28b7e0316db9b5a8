-- The fault of a value as that of a text with a tag for it.
use Rattle.ini_interp.specs.declared.value_error.InterpError.{InterpError}
use Rattle.ini_interp.specs.declared.value_error.InterpError.TheVariants as interp
use Rattle.tag_subst.specs.declared.tag_error.TagError.{TagError}
use Rattle.tag_subst.specs.declared.tag_error.TagError.TheVariants.{Interp, NoMemory}

-- want of memory has no other name there
abbrev pub tag_fault : InterpError → TagError
tag_fault (interp.Missing name) = Interp (interp.Missing name)
tag_fault (interp.TooDeep name) = Interp (interp.TooDeep name)
tag_fault (interp.BadPercent at) = Interp (interp.BadPercent at)
tag_fault interp.NoMemory = NoMemory
