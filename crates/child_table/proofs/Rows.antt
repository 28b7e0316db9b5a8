-- Worked rows: children that start, end and pass.
use Rattle.std.proofs.Common.{ℕ, ◌≡◌, true, false, [], ◌∷◌, refl}
use Rattle.child_table.specs.declared.child.Child.{Child}
use Rattle.child_table.specs.declared.child.Task.TheVariants.{Check, Command}
use Rattle.child_table.specs.Children.{Children, ended, has_passed, jobs_of, nobody, not_started, passed_by, runs, started}
use Rattle.child_table.specs.Late.{is_late}

-- a command and a check that were started at 1000 and may run for 60 seconds
abbrev command : ℕ → Child
command job = record { job = job; task = Command; since = 1000; timeout = 60 }

abbrev check : ℕ → Child
check job = record { job = job; task = Check; since = 1000; timeout = 60 }

-- 5, 2 and 9 are started, in this order
abbrev three : Children
three = started (check 9) (started (command 2) (started (check 5) nobody))

by_number : three.running ≡ command 2 ∷ check 5 ∷ check 9 ∷ []
by_number = refl

-- 2 has ended: 5 stands in its place
one_less : jobs_of (ended 0 three).running ≡ 5 ∷ 9 ∷ []
one_less = refl

something_runs : runs 5 three ≡ true
something_runs = refl

nothing_runs : runs 4 three ≡ false
nothing_runs = refl

in_time : is_late 1059 (command 2) ≡ false
in_time = refl

late : is_late 1060 (command 2) ≡ true
late = refl

-- a clock that went back makes nobody late
back_in_time : is_late 0 (command 2) ≡ false
back_in_time = refl

-- the checks of 5 and 9 have passed
abbrev two_passed : Children
two_passed = passed_by 9 (passed_by 5 (ended 1 (ended 1 three)))

still_runs : jobs_of two_passed.running ≡ 2 ∷ []
still_runs = refl

-- another check uses up none, the command of 5 its own alone
by_check : (started (check 5) two_passed).passed ≡ 5 ∷ 9 ∷ []
by_check = refl

by_command : (started (command 5) two_passed).passed ≡ 9 ∷ []
by_command = refl

-- so the next try is checked again
checked_again : has_passed 5 (ended 1 (started (command 5) two_passed)) ≡ false
checked_again = refl

-- also where the command could not be started
by_failed_start : not_started (command 5) two_passed ≡ record { running = command 2 ∷ []; passed = 9 ∷ [] }
by_failed_start = refl
