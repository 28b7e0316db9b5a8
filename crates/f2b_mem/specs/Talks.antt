-- What was said over a connection in memory.
use Rattle.std.specs.Prelude.{ℕ, ◌≡◌, ◌++◌, if◌then◌else◌, Option, Some, None, List, [], take, drop}
use Rattle.f2b_world.specs.declared.answer.LinkRead.{LinkRead}
use Rattle.f2b_world.specs.declared.answer.LinkRead.TheVariants.{Bytes as LinkBytes, End, Failed as ReadFailed, NoMemory as ReadNoMemory}
use Rattle.f2b_world.specs.Links.{Talk}
use Rattle.f2b_world.specs.Faults.{Fault, OfLink}
use Rattle.f2b_world.specs.Told.{Standing}
use Rattle.f2b_mem.specs.declared.calls.Calls.{Calls}
use Rattle.f2b_mem.specs.declared.link.MemLink.{MemLink}

-- what was said, as long as it is told
abbrev pub talk_in : MemLink → Option Talk
talk_in link = if link.told then Some (record { server = link.server; sent = link.sent; received = take link.given link.bytes; ended = link.ended }) else None

-- all that the server says
abbrev pub bytes_of : MemLink → List ℕ
bytes_of link = link.bytes

-- those of them that were not given yet
abbrev pub rest_of : MemLink → List ℕ
rest_of link = drop link.given link.bytes

-- the most bytes that it gives at once
abbrev pub piece_of : MemLink → ℕ
piece_of link = link.piece

-- which calls fail, and how many were made
abbrev pub calls_of : MemLink → Calls
calls_of link = link.calls

-- Of the bytes that were not given yet the first are given, at most so many, and the others are left. It is the end where there
-- are none. Where a call fails or finds no memory all are left.
abbrev pub Gives : List ℕ → ℕ → LinkRead → List ℕ → Type 0
Gives rest most (LinkBytes bytes) left = (bytes ≡ take most rest) × (left ≡ drop most rest)
Gives rest most End left = (rest ≡ []) × (left ≡ [])
Gives rest most ReadFailed left = left ≡ rest
Gives rest most ReadNoMemory left = left ≡ rest

-- the count of each kind of fault
abbrev pub link_counts : ℕ → Fault → ℕ
link_counts count OfLink = count
link_counts count _ = 0

abbrev pub faults_of : MemLink → Fault → ℕ
faults_of link = link_counts link.faults

abbrev pub stands_of : MemLink → Standing
stands_of link = record { told = None; talk = talk_in link; shelf = None; faults = faults_of link }
