-- The version of a slot that is read.
use Rattle.record_codec.specs.declared.version.Version.{Version as Spelling}
use Rattle.record_codec.specs.declared.version.Version.TheVariants as spellings
use Rattle.slot_reader.specs.declared.version.Version.{Version}
use Rattle.slot_reader.specs.declared.version.Version.TheVariants.{One, Two}

abbrev pub spelling : Version → Spelling
spelling One = spellings.One
spelling Two = spellings.Two
