-- What the files of a base come to.
use Rattle.std.proofs.Common.{◌≡◌, ℕ, List, Result, Ok, Err, ap}
use Rattle.ini_interp.specs.declared.merge_error.MergeError.{MergeError}
use Rattle.ini_interp.specs.AreSections.{AreSections}
use Rattle.ini_interp.specs.Merges.{Files, merged_in}
use Rattle.ini_interp.specs.Sections.{Sections}
use Rattle.ini_interp.proofs.JoinedLemmas.{merged_are}
use Rattle.jail_conf.specs.Sources.{bases_of, or_merge_refusal, sections_of}

-- what is no refusal was merged
pub merged_from : (merged : Result Sections MergeError) (sections : Sections) → or_merge_refusal merged ≡ Ok sections → merged ≡ Ok sections
merged_from (Ok found) sections is = let same : found ≡ sections = cc in ap Ok same
merged_from (Err fault) sections is = absurd (cc)

-- the sections of a base are those of files
pub sections_are : (files : Files) (base : List ℕ) (sections : Sections) → sections_of (bases_of files) base ≡ Ok sections → AreSections sections
sections_are files base sections is = merged_are files base sections (merged_from (merged_in files base) sections is)
