-- A line in memory, as what it says.
use Rattle.ini_interp.specs.declared.line.Line.{Line}
use Rattle.ini_interp.specs.declared.line.Line.TheVariants.{Skipped, Header, Continuation, Item, Broken}
use Rattle.ini_interp.specs.Lines as lines
use Rattle.ini_interp.specs.Lines.{Form}

abbrev pub form : Line → Form
form Skipped = lines.Nothing
form (Header section) = lines.Opens section.now
form (Continuation value) = lines.Continues value.now
form (Item name value) = lines.Sets name.now value.now
form Broken = lines.Broken
