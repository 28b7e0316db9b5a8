-- What contracts see of the changes that a file makes.
use Rattle.std.specs.Prelude.{List, map}
use Rattle.ini_interp.specs.declared.joins.Change.{Change}
use Rattle.ini_interp.specs.declared.joins.Change.TheVariants.{Open, Set}
use Rattle.ini_interp.specs.Joins.{Setting, Opens, Sets}

abbrev pub setting_of : Change → Setting
setting_of (Open section) = Opens section.now
setting_of (Set section name value) = Sets section.now name.now value

abbrev pub settings_of : List Change → List Setting
settings_of changes = map setting_of changes
