-- The calls on the disk: reads while the journal is loaded, and the writes and syncs of an input.
use Rattle.std.specs.Prelude.{ℕ, List, [], ◌∷◌, drop, Option, Some, None}
use Rattle.f2b_base.specs.declared.input.Input.{Input}
use Rattle.f2b_world.specs.declared.answer.Len.{Len}
use Rattle.f2b_world.specs.declared.answer.Len.TheVariants.{Bytes as LenIs, Failed as LenFailed}
use Rattle.f2b_world.specs.declared.answer.Piece.{Piece}
use Rattle.f2b_world.specs.declared.answer.Piece.TheVariants.{Bytes as PieceIs, Failed as PieceFailed, NoMemory as PieceNoMemory}
use Rattle.f2b_world.specs.declared.answer.Synced.{Synced}
use Rattle.f2b_world.specs.declared.answer.Synced.TheVariants.{Done as SyncDone, Failed as SyncFailed}
use Rattle.f2b_world.specs.declared.answer.Wrote.{Wrote}
use Rattle.f2b_world.specs.declared.answer.Wrote.TheVariants.{Done as WroteDone, Failed as WroteFailed, NoMemory as WroteNoMemory}
use Rattle.run_law.specs.News.{writing}
use Rattle.run_law.specs.Points.{Point, AtListen, Over, Run}
use Rattle.run_law.specs.Refusals.{status_lines}
use Rattle.run_law.specs.declared.status.Status.TheVariants.{DiskFault, NotAJournal}

-- ---- a fault

-- the moment of the input that was being written, and 0 where there is none, before the first reading of the clock
abbrev pub moment_in : Option Input → ℕ
moment_in None = 0
moment_in (Some input) = input.secs

-- A fault of the disk ends the run, once that alone is said: nothing more is written, and neither lines that waited for a write are said,
-- nor what the slots came to.
abbrev pub broken : Run → Run
broken r = record r { point = Over DiskFault; owed = status_lines (moment_in r.unclosed) DiskFault; writes = []; held = [] }

-- ---- the load

-- Slots may be read from their naming on, until the next call: clients are let in, or it is said that the slots are no journal.
abbrev pub IsLoading : Point → List (List ℕ) → Type 0
IsLoading (AtListen settings l) owed = Unit {0}
IsLoading (Over (NotAJournal slot at)) (line ∷ lines) = Unit {0}
IsLoading _ _ = ⊥

abbrev pub measured : Len → Run → Run
measured (LenIs n) r = r
measured LenFailed r = broken r

abbrev pub piece_read : Piece → Run → Run
piece_read (PieceIs bytes) r = r
piece_read PieceFailed r = broken r
piece_read PieceNoMemory r = r

-- ---- an input

-- the first of the calls that are left is done
abbrev pub written_on : Run → Run
written_on r = writing (drop 1 r.writes) r

abbrev pub wrote : Wrote → Run → Run
wrote WroteDone r = written_on r
wrote WroteFailed r = broken r
wrote WroteNoMemory r = r

abbrev pub synced : Synced → Run → Run
synced SyncDone r = written_on r
synced SyncFailed r = broken r
