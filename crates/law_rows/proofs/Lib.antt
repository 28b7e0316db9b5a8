mod RowJails
mod StartRows
mod ChildRows
mod TreeRows
mod TurnRows
mod JournalRows
mod BeginRows
mod WordRows
pub mod ClientRows
mod ReloadRows
