-- Words of the command line, computed.
use Rattle.std.proofs.Common.{◌≡◌, Some, None, [], ◌∷◌, refl}
use Rattle.std.specs.Fmt.{digits}
use Rattle.std.specs.Prelude.{codes}
use Rattle.run_law.specs.Words.{all_turns, plan_of, usual_limit}

asks_for_all_turns : plan_of (codes "--conf" ∷ codes "/c" ∷ []) ≡ Some (record { root = codes "/c"; turns = all_turns; limit = usual_limit })
asks_for_all_turns = refl

takes_the_short_word_too : plan_of (codes "-c" ∷ codes "/c" ∷ []) ≡ plan_of (codes "--conf" ∷ codes "/c" ∷ [])
takes_the_short_word_too = refl

refuses_a_word_between : plan_of (codes "--co" ∷ codes "/c" ∷ []) ≡ None
refuses_a_word_between = refl

asks_for_twelve : plan_of (codes "--conf" ∷ codes "/c" ∷ codes "--turns" ∷ codes "12" ∷ []) ≡ Some (record { root = codes "/c"; turns = 12; limit = usual_limit })
unfolding digits
asks_for_twelve = refl

takes_both_options : plan_of (codes "--conf" ∷ codes "/c" ∷ codes "--turns" ∷ codes "12" ∷ codes "--journal-limit" ∷ codes "4096" ∷ []) ≡ Some (record { root = codes "/c"; turns = 12; limit = 4096 })
unfolding digits
takes_both_options = refl

takes_them_in_either_order : plan_of (codes "--conf" ∷ codes "/c" ∷ codes "--journal-limit" ∷ codes "4096" ∷ codes "--turns" ∷ codes "12" ∷ []) ≡ Some (record { root = codes "/c"; turns = 12; limit = 4096 })
unfolding digits
takes_them_in_either_order = refl

refuses_an_option_twice : plan_of (codes "--conf" ∷ codes "/c" ∷ codes "--turns" ∷ codes "12" ∷ codes "--turns" ∷ codes "12" ∷ []) ≡ None
unfolding digits
refuses_an_option_twice = refl

refuses_no_bytes : plan_of (codes "--conf" ∷ codes "/c" ∷ codes "--journal-limit" ∷ codes "0" ∷ []) ≡ None
unfolding digits
refuses_no_bytes = refl

refuses_an_option_without_its_number : plan_of (codes "--conf" ∷ codes "/c" ∷ codes "--journal-limit" ∷ []) ≡ None
refuses_an_option_without_its_number = refl

refuses_an_empty_directory : plan_of (codes "--conf" ∷ [] ∷ []) ≡ None
refuses_an_empty_directory = refl
