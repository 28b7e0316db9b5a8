-- To which points a call on the disk leads, and what an event brings: whatever holds of them holds there.
use Rattle.std.proofs.Common.{ℕ, ◌≡◌, Option, Some, None, refl, sym, subst}
use Rattle.std.specs.Prelude.{drop}
use Rattle.f2b_base.specs.declared.input.What.{What}
use Rattle.f2b_world.specs.declared.answer.Len.{Len}
use Rattle.f2b_world.specs.declared.answer.Len.TheVariants.{Bytes as LenIs, Failed as LenFailed}
use Rattle.f2b_world.specs.declared.answer.Piece.{Piece}
use Rattle.f2b_world.specs.declared.answer.Piece.TheVariants.{Bytes as PieceIs, Failed as PieceFailed, NoMemory as PieceNoMemory}
use Rattle.f2b_world.specs.declared.answer.Synced.{Synced}
use Rattle.f2b_world.specs.declared.answer.Synced.TheVariants.{Done as SyncDone, Failed as SyncFailed}
use Rattle.f2b_world.specs.declared.answer.Wrote.{Wrote}
use Rattle.f2b_world.specs.declared.answer.Wrote.TheVariants.{Done as WroteDone, Failed as WroteFailed, NoMemory as WroteNoMemory}
use Rattle.run_law.specs.Disk.{measured, piece_read, synced, wrote}
use Rattle.run_law.specs.News.{News, after_news, brings, brings_by, entered, server_after, taking}
use Rattle.run_law.specs.Points.{Point, Over, Run}
use Rattle.run_law.specs.Server.{Server, entry_in, taken}
use Rattle.run_law.specs.declared.status.Status.TheVariants.{DiskFault, JournalFull, NumbersSpent}
use Rattle.run_law.proofs.DiskLemmas.{writing_plan, writing_point}
use Rattle.slot_writes.specs.Entries.{Entry, Written, Full, Spent}

-- ---- a call on the disk: the point is the same, or the run is over

module _ (P : Point → Type 0) (over : P (Over DiskFault)) (r : Run) (here : P r.point) where
  pub measured_point : (answer : Len) → P (measured answer r).point
  measured_point (LenIs n) = here
  measured_point LenFailed = over

  pub piece_point : (answer : Piece) → P (piece_read answer r).point
  piece_point (PieceIs bytes) = here
  piece_point PieceFailed = over
  piece_point PieceNoMemory = here

  pub wrote_point : (answer : Wrote) → P (wrote answer r).point
  wrote_point WroteDone = subst P (sym (writing_point (drop 1 r.writes) r)) here
  wrote_point WroteFailed = over
  wrote_point WroteNoMemory = here

  pub synced_point : (answer : Synced) → P (synced answer r).point
  synced_point SyncDone = subst P (sym (writing_point (drop 1 r.writes) r)) here
  synced_point SyncFailed = over

-- ---- what an event brings: the run goes to its point, or is over

module _ (P : Point → Type 0) (full : (need limit : ℕ) → P (Over (JournalFull need limit))) (spent : P (Over NumbersSpent)) (news : News) (next : Server → Point) (s : Server) (r : Run)
    (goes : P (next (after_news news s))) where
  entered_point : (e : Entry) (what : What) → P (next (taken what s)) → P (entered e news what next s r).point
  entered_point (Written at ws) what there = subst P (sym (writing_point ws (taking news what next s r))) there
  entered_point (Full need) what there = full _ _
  entered_point Spent what there = spent

  by_point : (o : Option What) → P (next (server_after o s)) → P (brings_by o news next s r).point
  by_point None there = there
  by_point (Some what) there = entered_point (entry_in s what) what there

  pub brings_point : P (brings news next s r).point
  unfolding brings
  brings_point = by_point news.what goes

-- the words are the same

entered_plan : (e : Entry) (news : News) (what : What) (next : Server → Point) (s : Server) (r : Run) → (entered e news what next s r).plan ≡ r.plan
entered_plan (Written at ws) news what next s r = writing_plan ws (taking news what next s r)
entered_plan (Full need) news what next s r = refl
entered_plan Spent news what next s r = refl

by_plan : (o : Option What) (news : News) (next : Server → Point) (s : Server) (r : Run) → (brings_by o news next s r).plan ≡ r.plan
by_plan None news next s r = refl
by_plan (Some what) news next s r = entered_plan (entry_in s what) news what next s r

pub brings_plan : (news : News) (next : Server → Point) (s : Server) (r : Run) → (brings news next s r).plan ≡ r.plan
unfolding brings
brings_plan news next s r = by_plan news.what news next s r
