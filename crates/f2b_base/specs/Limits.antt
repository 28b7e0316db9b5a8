-- Numbers that several parts share: those of src/limits.rt.
use Rattle.std.specs.Prelude.{ℕ, ◌-◌, ◌^◌}

-- the last second that a moment can be
abbrev pub last_moment : ℕ
last_moment = 2 ^ 40 - 1

-- the latest reading of the clock that is taken
abbrev pub latest_reading : ℕ
latest_reading = 250000000000

-- how many seconds a ban that is over still counts, where a configuration does not say
abbrev pub default_purge : ℕ
default_purge = 86400

-- how many of a log's first bytes tell whether it is the one that was followed
abbrev pub head_bytes : ℕ
head_bytes = 64

-- the most bytes that one look at a log brings
abbrev pub look_bytes : ℕ
look_bytes = 65536

-- the most bytes of a line that a failure keeps
abbrev pub kept_line_bytes : ℕ
kept_line_bytes = 512
