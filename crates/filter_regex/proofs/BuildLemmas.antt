-- The calls of a whole build: dates, the prefix pattern, failures, ignored lines.
use Rattle.std.proofs.Common.{ℕ, List, ◌++◌, Ok, Err, map, option_map}
use Rattle.f2b_base.specs.declared.jail.JailDef.{JailDef}
use Rattle.f2b_world.specs.Told.{Standing}
use Rattle.host_ident.specs.Expanded.{expanded}
use Rattle.date_detect.specs.Forms.{rule_of, texts}
use Rattle.filter_regex.specs.Rules.{rules_of, patterns, date_places, pref_place, numbered}
use Rattle.filter_regex.specs.Builds.{MakesAll}
use Rattle.filter_regex.specs.declared.error.PatternPlace.TheVariants.{Fail, Ignore}
use Rattle.filter_regex.specs.declared.error.PatternError.{PatternError}
use Rattle.filter_regex.proofs.MakesLemmas.{Placed, first_failed, second_failed, both_made}

module _ (jail : JailDef) where
  abbrev pub of_dates : List Placed
  of_dates = date_places (texts (rule_of jail.date))

  abbrev pub of_pref : List Placed
  of_pref = pref_place (option_map expanded jail.pref)

  abbrev pub of_fail : List Placed
  of_fail = numbered Fail 1 (map expanded jail.fail)

  abbrev pub of_ignore : List Placed
  of_ignore = numbered Ignore 1 (map expanded jail.ignore_lines)

  pub dates_failed : {A : Type 0} (Z : Type 0) (error : PatternError) (old new : Standing) → MakesAll {A = A} of_dates (Err error) old new
      → MakesAll {A = Z} (patterns (rules_of jail)) (Err error) old new
  dates_failed Z error old new made = first_failed Z of_dates (of_pref ++ (of_fail ++ of_ignore)) error old new made

  module _ {A : Type 0} (a : A) (old d : Standing) (dates : MakesAll {A = A} of_dates (Ok a) old d) where
    pub pref_failed : {B : Type 0} (Z : Type 0) (error : PatternError) (new : Standing) → MakesAll {A = B} of_pref (Err error) d new
        → MakesAll {A = Z} (patterns (rules_of jail)) (Err error) old new
    pref_failed Z error new made =
        second_failed a of_dates (of_pref ++ (of_fail ++ of_ignore)) old d new dates Z error
        (first_failed Z of_pref (of_fail ++ of_ignore) error d new made)

    module _ {B : Type 0} (b : B) (p : Standing) (pref : MakesAll {A = B} of_pref (Ok b) d p) where
      pub fail_failed : {C : Type 0} (Z : Type 0) (error : PatternError) (new : Standing) → MakesAll {A = C} of_fail (Err error) p new
          → MakesAll {A = Z} (patterns (rules_of jail)) (Err error) old new
      fail_failed Z error new made =
          second_failed a of_dates (of_pref ++ (of_fail ++ of_ignore)) old d new dates Z error
          (second_failed b of_pref (of_fail ++ of_ignore) d p new pref Z error
          (first_failed Z of_fail of_ignore error p new made))

      module _ {C : Type 0} (c : C) (f : Standing) (fails : MakesAll {A = C} of_fail (Ok c) p f) where
        pub ignore_failed : {D : Type 0} (Z : Type 0) (error : PatternError) (new : Standing) → MakesAll {A = D} of_ignore (Err error) f new
            → MakesAll {A = Z} (patterns (rules_of jail)) (Err error) old new
        ignore_failed Z error new made =
            second_failed a of_dates (of_pref ++ (of_fail ++ of_ignore)) old d new dates Z error
            (second_failed b of_pref (of_fail ++ of_ignore) d p new pref Z error
            (second_failed c of_fail of_ignore p f new fails Z error made))

        module _ {D : Type 0} (i : D) (new : Standing) (ignores : MakesAll {A = D} of_ignore (Ok i) f new) where
          pub all_made : {Z : Type 0} (z : Z) → MakesAll {A = Z} (patterns (rules_of jail)) (Ok z) old new
          all_made z =
              let any : ℕ = 0 in
              both_made a of_dates (of_pref ++ (of_fail ++ of_ignore)) old d new dates any z
              (both_made b of_pref (of_fail ++ of_ignore) d p new pref any any
              (both_made c of_fail of_ignore p f new fails i any ignores))
