-- The words of the command line.
use Rattle.std.specs.Prelude.{ℕ, ◌^◌, ◌-◌, ◌&&◌, ◌||◌, Bool, nat_le, nat_lt, bytes_eq, codes, option_and_then, option_map, unwrap_or, List, [], ◌∷◌, Option, Some, None, if◌then◌else◌}
use Rattle.std.specs.Fmt.{decimal}
use Rattle.std.specs.Str.Parse.{digits_value}
use Rattle.run_law.specs.declared.plan.Plan.{Plan}

-- the number below 2^64 whose decimal text this is, without leading zeros
abbrev pub number_of : List ℕ → Option ℕ
number_of text = let n = digits_value 10 text in if bytes_eq text (decimal n) && nat_lt n (2 ^ 64) then Some n else None

-- a number from 1 on
abbrev pub count_of : List ℕ → Option ℕ
count_of text = option_and_then (λ n. if nat_le 1 n then Some n else None) (number_of text)

-- turns without end, as far as a number goes
abbrev pub all_turns : ℕ
all_turns = 2 ^ 64 - 1

-- how long a slot of the journal may get where nothing else is asked for, in bytes
abbrev pub usual_limit : ℕ
usual_limit = 67108864

-- ---- options

-- what was asked for so far
pub record Asked : Type 0 where
  pub turns : Option ℕ
  pub limit : Option ℕ

abbrev pub nothing_asked : Asked
nothing_asked = record { turns = None; limit = None }

-- the number of an option, which is given once
abbrev pub once : Option ℕ → List ℕ → Option ℕ
once None text = count_of text
once (Some before) text = None

abbrev pub with_turns : List ℕ → Asked → Option Asked
with_turns text a = option_map (λ n. let b : Asked = record { turns = Some n; limit = a.limit } in b) (once a.turns text)

abbrev pub with_limit : List ℕ → Asked → Option Asked
with_limit text a = option_map (λ n. let b : Asked = record { turns = a.turns; limit = Some n } in b) (once a.limit text)

-- an option and its number
abbrev pub with_option : List ℕ → List ℕ → Asked → Option Asked
with_option name text a =
    if bytes_eq name (codes "--turns") then with_turns text a
    else if bytes_eq name (codes "--journal-limit") then with_limit text a else None

-- options, each with its number, in any order
abbrev pub with_options : List (List ℕ) → Asked → Option Asked
with_options [] a = Some a
with_options (name ∷ []) a = None
with_options (name ∷ text ∷ words) a = option_and_then (with_options words) (with_option name text a)

-- ---- all words

abbrev pub plan_asked : List ℕ → Asked → Plan
plan_asked root a = record { root = root; turns = unwrap_or a.turns all_turns; limit = unwrap_or a.limit usual_limit }

-- a run of the configuration in this directory, which is not empty
abbrev pub plan_in : List ℕ → List (List ℕ) → Option Plan
plan_in root words = if bytes_eq root [] then None else option_map (plan_asked root) (with_options words nothing_asked)

-- whether a word says that a directory follows
abbrev pub is_conf : List ℕ → Bool
is_conf word = bytes_eq word (codes "--conf") || bytes_eq word (codes "-c")

-- `--conf DIR`, or `-c DIR`, and behind it `--turns N` and `--journal-limit BYTES`
abbrev pub plan_of : List (List ℕ) → Option Plan
plan_of (conf ∷ root ∷ words) = if is_conf conf then plan_in root words else None
plan_of _ = None
