-- What the words of the command line ask for.
use Rattle.std.proofs.Common.{ℕ, ◌≡◌, ◌<◌, ◌≤◌, ◌^◌, ◌&&◌, nat_le, nat_lt, cond, List, [], ◌∷◌, Option, Some, None, subst, arith}
use Rattle.std.specs.Fmt.{decimal}
use Rattle.std.specs.Prelude.{bytes_eq, codes, option_and_then, option_map, unwrap_or, IfSome}
use Rattle.std.specs.Str.Parse.{digits_value}
use Rattle.std.proofs.lemmas.Bool.{leb-true, ltb-true}
use Rattle.f2b_model.proofs.ListLemmas.{by_test}
use Rattle.record_fields.proofs.NumberLemmas.{both_of}
use Rattle.run_law.specs.Words.{Asked, all_turns, is_conf, nothing_asked, number_of, once, plan_asked, plan_in, plan_of, usual_limit, with_option, with_options}
use Rattle.run_law.specs.declared.plan.Plan.{Plan}

-- a number that an option may ask for
abbrev IsCount : ℕ → Type 0
IsCount n = (1 ≤ n) × (n < 2 ^ 64)

number_below : (text : List ℕ) → IfSome (number_of text) (λ n. n < 2 ^ 64)
number_below text =
    let n = digits_value 10 text in
    by_test (bytes_eq text (decimal n) && nat_lt n (2 ^ 64)) _
    (λ e. rw e (ltb-true n (2 ^ 64) (both_of (bytes_eq text (decimal n)) (nat_lt n (2 ^ 64)) e).1))
    (λ e. rw e tt)

least_one : (n : ℕ) → n < 2 ^ 64 → IfSome (cond (nat_le 1 n) (Some n) None) IsCount
least_one n below = by_test (nat_le 1 n) _ (λ e. rw e (leb-true 1 n e, below)) (λ e. rw e tt)

counted_of : (o : Option ℕ) → IfSome o (λ n. n < 2 ^ 64) → IfSome (option_and_then (λ n. cond (nat_le 1 n) (Some n) None) o) IsCount
counted_of None below = tt
counted_of (Some n) below = least_one n below

once_counts : (o : Option ℕ) (text : List ℕ) → IfSome (once o text) IsCount
once_counts None text = counted_of (number_of text) (number_below text)
once_counts (Some before) text = tt

-- what was asked for so far are such numbers
record IsAsked (a : Asked) : Type 0 where
  pub turns : IfSome a.turns IsCount
  pub limit : IfSome a.limit IsCount

turns_asked : (o : Option ℕ) (a : Asked) → IfSome o IsCount → IsAsked a → IfSome (option_map (λ n. let b : Asked = record { turns = Some n; limit = a.limit } in b) o) IsAsked
turns_asked None a new old = tt
turns_asked (Some n) a new old = record { turns = new; limit = old.limit }

limit_asked : (o : Option ℕ) (a : Asked) → IfSome o IsCount → IsAsked a → IfSome (option_map (λ n. let b : Asked = record { turns = a.turns; limit = Some n } in b) o) IsAsked
limit_asked None a new old = tt
limit_asked (Some n) a new old = record { turns = old.turns; limit = new }

option_asked : (name text : List ℕ) (a : Asked) → IsAsked a → IfSome (with_option name text a) IsAsked
option_asked name text a old =
    by_test (bytes_eq name (codes "--turns")) _
    (λ e. rw e (turns_asked (once a.turns text) a (once_counts a.turns text) old))
    (λ e. rw e (by_test (bytes_eq name (codes "--journal-limit")) _
    (λ f. rw f (limit_asked (once a.limit text) a (once_counts a.limit text) old))
    (λ f. rw f tt)))

then_asked : (words : List (List ℕ)) (o : Option Asked) → ((a : Asked) → IsAsked a → IfSome (with_options words a) IsAsked) → IfSome o IsAsked → IfSome (option_and_then (with_options words) o) IsAsked
then_asked words None rest old = tt
then_asked words (Some a) rest old = rest a old

options_asked : (words : List (List ℕ)) (a : Asked) → IsAsked a → IfSome (with_options words a) IsAsked
options_asked [] a old = old
options_asked (name ∷ []) a old = tt
options_asked (name ∷ text ∷ words) a old = then_asked words (with_option name text a) (λ b is. options_asked words b is) (option_asked name text a old)

-- a run makes a turn at least, and its limit is a number of 64 bits
pub record IsPlanned (plan : Plan) : Type 0 where
  pub turns : 1 ≤ plan.turns
  pub limit : plan.limit < 2 ^ 64

or_counts : (o : Option ℕ) (usual : ℕ) → IsCount usual → IfSome o IsCount → IsCount (unwrap_or o usual)
or_counts None usual is asked = is
or_counts (Some n) usual is asked = asked

planned_of : (root : List ℕ) (o : Option Asked) (plan : Plan) → IfSome o IsAsked → option_map (plan_asked root) o ≡ Some plan → IsPlanned plan
planned_of root None plan asked is = absurd (cc)
planned_of root (Some a) plan asked is =
    let same : plan_asked root a ≡ plan = cc in
    let turns = or_counts a.turns all_turns (omega arith, omega arith) asked.turns in
    let limit = or_counts a.limit usual_limit (omega arith, omega arith) asked.limit in
    subst IsPlanned same (record { turns = turns.0; limit = limit.1 })

planned_in : (root : List ℕ) (words : List (List ℕ)) (plan : Plan) → plan_in root words ≡ Some plan → IsPlanned plan
planned_in root words plan is =
    by_test (bytes_eq root []) _
    (λ e. absurd (let none : None ≡ Some plan = rw e at is in cc))
    (λ e. let same : option_map (plan_asked root) (with_options words nothing_asked) ≡ Some plan = rw e at is in
    planned_of root (with_options words nothing_asked) plan (options_asked words nothing_asked (record { turns = tt; limit = tt })) same)

pub planned : (words : List (List ℕ)) (plan : Plan) → plan_of words ≡ Some plan → IsPlanned plan
planned (conf ∷ root ∷ words) plan is =
    by_test (is_conf conf) _
    (λ e. let same : plan_in root words ≡ Some plan = rw e at is in planned_in root words plan same)
    (λ e. absurd (let none : None ≡ Some plan = rw e at is in cc))
planned _ plan is = absurd (cc)

-- a run that is asked for makes a turn at least
pub plan_turns : (words : List (List ℕ)) (plan : Plan) → plan_of words ≡ Some plan → 1 ≤ plan.turns
plan_turns words plan is = (planned words plan is).turns
