-- Worked rows: clients that come, are read, are replied to, and are over.
use Rattle.std.proofs.Common.{◌≡◌, true, false, List, [], ◌∷◌, refl}
use Rattle.std.specs.Prelude.{remove}
use Rattle.client_table.specs.Clients.{Client, Nothing, Writes, accepted, after_read, after_write, asks, changed_at, conn_at, have_unwritten, is_over, is_over_at}
use Rattle.f2b_world.specs.declared.answer.GateRead.TheVariants as read
use Rattle.f2b_world.specs.declared.answer.GateWrite.TheVariants as write

-- one that was accepted at 1000, and one to which three bytes are unwritten
abbrev fresh : Client
fresh = accepted 7 1000

abbrev replied : Client
replied = record { conn = 8; hearing = record { came = []; refused = false }; unwritten = 1 ∷ 2 ∷ 3 ∷ []; last = 1000; gone = false }

-- one whose frame was refused, and to which nothing is unwritten any more
abbrev refused : Client
refused = record { conn = 9; hearing = record { came = []; refused = true }; unwritten = []; last = 1000; gone = false }

-- ---- what each asks

replied_asks : asks replied ≡ Writes (1 ∷ 2 ∷ 3 ∷ [])
replied_asks = refl

refused_asks : asks refused ≡ Nothing
refused_asks = refl

-- ---- bytes that are taken, and no others

two_taken : after_write 1010 (write.Took 2) replied ≡ record replied { unwritten = 3 ∷ []; last = 1010 }
two_taken = refl

all_taken : (after_write 1010 (write.Took 3) replied).unwritten ≡ []
all_taken = refl

none_taken : after_write 1010 write.Quiet replied ≡ replied
none_taken = refl

-- ---- when one is over

-- 30 seconds after the accept, and not a second earlier
in_time : is_over 1029 fresh ≡ false
in_time = refl

too_late : is_over 1030 fresh ≡ true
too_late = refl

-- a clock that went back leaves nobody idle
back_in_time : is_over 0 fresh ≡ false
back_in_time = refl

-- a byte that was taken counts as one that came
after_a_byte : is_over 1039 (after_write 1010 (write.Took 1) replied) ≡ false
after_a_byte = refl

idle_after_a_byte : is_over 1040 (after_write 1010 (write.Took 1) replied) ≡ true
idle_after_a_byte = refl

-- one that takes nothing is idle, however often it is tried
never_taken : is_over 1030 (after_write 1029 write.Quiet replied) ≡ true
never_taken = refl

at_its_end : is_over 1000 (after_read 1000 read.End fresh) ≡ true
at_its_end = refl

at_a_fault : is_over 1000 (after_write 1000 write.Failed replied) ≡ true
at_a_fault = refl

-- a refusal that is written whole ends the connection, and not before
at_a_refusal : is_over 1000 refused ≡ true
at_a_refusal = refl

while_it_is_written : is_over 1000 (record refused { unwritten = 1 ∷ [] }) ≡ false
while_it_is_written = refl

-- ---- all of them

abbrev three : List Client
three = fresh ∷ replied ∷ refused ∷ []

something_unwritten : have_unwritten three ≡ true
something_unwritten = refl

nothing_unwritten : have_unwritten (fresh ∷ refused ∷ []) ≡ false
nothing_unwritten = refl

-- the second is closed: the third stands in its place
one_less : conn_at 1 (remove three 1) ≡ 9
one_less = refl

over_at_place : is_over_at 1000 2 three ≡ true
over_at_place = refl

-- the second alone takes two bytes
one_changed : changed_at 1 (after_write 1010 (write.Took 2)) three ≡ fresh ∷ record replied { unwritten = 3 ∷ []; last = 1010 } ∷ refused ∷ []
one_changed = refl
