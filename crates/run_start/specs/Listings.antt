-- What listing the directory of a path brings.
use Rattle.std.specs.Prelude.{ℕ, ◌≡◌, ◌∷◌, []}
use Rattle.f2b_world.specs.Told.{Asked, Called, Standing, names_event}
use Rattle.f2b_world.specs.declared.answer.NamesAnswer.{NamesAnswer}
use Rattle.f2b_world.specs.declared.answer.NamesAnswer.TheVariants.{Failed as NamesFailed, NoMemory as NamesNoMemory}
use Rattle.f2b_world.specs.declared.event.Event.TheVariants.{Names}
use Rattle.run_law.specs.Paths.{Path, directory}
use Rattle.run_law.specs.Reading.{names_in, unread_by}
use Rattle.run_start.specs.declared.listing.Listing.{Listing}

-- the directory of the path was asked for its names
pub record AsksNames (old new : Standing) (p : Path) : Type 0 where
  pub answer : NamesAnswer
  pub asked : Asked old (names_event (directory p.watch.path) answer) new

-- an answer's names, and the line that tells where there is none
pub record IsListed (now : ℕ) (p : Path) (answer : NamesAnswer) (listing : Listing) : Type 0 where
  pub given : answer ≡ NamesNoMemory → ⊥
  pub names : listing.names ≡ names_in answer
  pub unread : listing.unread ≡ unread_by answer now (p ∷ [])

-- the answer has no names, since the directory could not be listed
abbrev pub IsUnlisted : NamesAnswer → Type 0
IsUnlisted NamesFailed = Unit {0}
IsUnlisted NamesNoMemory = Unit {0}
IsUnlisted _ = ⊥

-- the directory of the path was listed
pub record Lists (old new : Standing) (now : ℕ) (p : Path) (listing : Listing) : Type 0 where
  pub answer : NamesAnswer
  pub called : Called old (Names (directory p.watch.path) answer) new
  pub names : listing.names ≡ names_in answer
  pub unread : listing.unread ≡ unread_by answer now (p ∷ [])
