-- The lanes of a jail that is accepted: how many there are, and that no two have one name and one family.
use Rattle.std.proofs.Common.{◌≡◌, ◌∙◌, ℕ, ◌+◌, ◌*◌, ◌<◌, ◌≤◌, Bool, true, false, ◌||◌, ◌&&◌, not, nat_lt, List, [], ◌∷◌, ◌++◌, length, Ok, codes, refl, ap, subst, arith}
use Rattle.std.specs.List.{list_any}
use Rattle.std.specs.Str.{bytes_eq}
use Rattle.std.proofs.lemmas.Bool.Decides.{nat_tests}
use Rattle.std.proofs.lemmas.List.{length-append}
use Rattle.f2b_base.specs.Families.{same_family}
use Rattle.f2b_base.specs.declared.addr.Family.{Family}
use Rattle.f2b_base.specs.declared.addr.Family.TheVariants.{Both, Inet4, Inet6}
use Rattle.f2b_base.specs.declared.jail.ActionDef.{ActionDef}
use Rattle.f2b_model.specs.Lists.{AllOf, AreDistinct}
use Rattle.f2b_model.specs.Sound.{same_kind}
use Rattle.f2b_model.specs.Storable.{IsSpanOfTime}
use Rattle.ini_interp.proofs.AreSectionsLemmas.{bytes_eq-flip}
use Rattle.ini_interp.specs.Sections.{Sections}
use Rattle.jail_conf.specs.declared.actions.Action.{Action}
use Rattle.jail_conf.specs.declared.conf_error.ConfKind.TheVariants.{BadOptions, DoubleAction, TooMany}
use Rattle.jail_conf.specs.declared.options.Named.{Named}
use Rattle.jail_conf.specs.declared.source.Source.{Source}
use Rattle.jail_conf.specs.Actions.{base_of, file_of, name_of, lane, lane_of_both, lane_of_each, lanes_of, most_actions, named_action, action_of, actions_behind, actions_of}
use Rattle.jail_conf.specs.Options.{named}
use Rattle.jail_conf.specs.Sources.{Bases, section_names, sections_of, of_definition, inet6_section, for_inet6, own, told, without_file}
use Rattle.jail_conf.specs.Table.{command, timeout, action}
use Rattle.jail_conf.specs.Then.{refuse_if, or_refuse}
use Rattle.jail_conf.specs.Times.{seconds_from}
use Rattle.jail_conf.specs.Words.{full_lines, is_among}
use Rattle.jail_conf.proofs.DistinctLemmas.{all_weaker, all_append, none_in_first, none_in_second, none_passes_all, distinct_append, neither}
use Rattle.jail_conf.proofs.BoundLemmas.{seconds_are}
use Rattle.jail_conf.proofs.GoodLemmas.{OfOk, bind_ok, then_ok, own_good, was_not_refused}

-- ---- one action

-- a try of the lane's commands takes so long at most
abbrev pub HasTimeout : ActionDef → Type 0
HasTimeout one = IsSpanOfTime one.timeout

-- a lane of this name and family
record IsLaneOf (name : List ℕ) (family : Family) (one : ActionDef) : Type 0 where
  named : one.name ≡ name
  of_family : one.family ≡ family
  timeout : HasTimeout one

lane_is : (source : Source) (name : List ℕ) (family : Family) (one : ActionDef) → lane source name family ≡ Ok one → IsLaneOf name family one
unfolding lane
lane_is source name family one is =
    let start = bind_ok (own source (command (codes "actionstart"))) _ one is in
    let stop = bind_ok (own source (command (codes "actionstop"))) _ one start.2 in
    let ban = bind_ok (own source (command (codes "actionban"))) _ one stop.2 in
    let unban = bind_ok (own source (command (codes "actionunban"))) _ one ban.2 in
    let check = bind_ok (own source (command (codes "actioncheck"))) _ one unban.2 in
    let seconds = bind_ok (own source timeout) _ one check.2 in
    subst (OfOk (IsLaneOf name family)) seconds.2 (record {
      named = refl;
      of_family = refl;
      timeout = own_good IsSpanOfTime (seconds_from 1) (seconds_are 1) source (codes "timeout") 60 seconds.0 (omega arith, omega arith) seconds.1;
    })

-- the lanes of an action of this name
pub record AreLanesOf (name : List ℕ) (lanes : List ActionDef) : Type 0 where
  pub few : length lanes ≤ 2
  pub named : AllOf (λ (one : ActionDef). one.name ≡ name) lanes
  pub apart : AreDistinct same_kind lanes
  pub timeouts : AllOf HasTimeout lanes

lane_of_both_is : (source : Source) (name : List ℕ) (lanes : List ActionDef) → lane_of_both source name ≡ Ok lanes → AreLanesOf name lanes
unfolding lane_of_both
lane_of_both_is source name lanes is =
    let both = bind_ok (lane source name Both) _ lanes is in
    let one : IsLaneOf name Both both.0 = lane_is source name Both both.0 both.1 in
    subst (OfOk (AreLanesOf name)) both.2 (record { few = omega arith; named = (one.named, tt); apart = (refl, tt); timeouts = (one.timeout, tt) })

none_of_another : (x y : Bool) → y ≡ false → ((x && y) || false) ≡ false
none_of_another true true is = is
none_of_another true false is = refl
none_of_another false y is = refl

lane_of_each_is : (source : Source) (name : List ℕ) (lanes : List ActionDef) → lane_of_each source name ≡ Ok lanes → AreLanesOf name lanes
unfolding lane_of_each
lane_of_each_is source name lanes is =
    let inet4 = bind_ok (lane source name Inet4) _ lanes is in
    let inet6 = bind_ok (lane (for_inet6 source) name Inet6) _ lanes inet4.2 in
    let first : IsLaneOf name Inet4 inet4.0 = lane_is source name Inet4 inet4.0 inet4.1 in
    let second : IsLaneOf name Inet6 inet6.0 = lane_is (for_inet6 source) name Inet6 inet6.0 inet6.1 in
    let families : same_family inet4.0.family inet6.0.family ≡ false =
    ap (λ (family : Family). same_family family inet6.0.family) first.of_family ∙ ap (same_family Inet4) second.of_family in
    subst (OfOk (AreLanesOf name)) inet6.2 (record {
      few = omega arith;
      named = (first.named, (second.named, tt));
      apart = (none_of_another (bytes_eq inet4.0.name inet6.0.name) (same_family inet4.0.family inet6.0.family) families, (refl, tt));
      timeouts = (first.timeout, (second.timeout, tt));
    })

lanes_are : (sections : Sections) (source : Source) (name : List ℕ) (lanes : List ActionDef) → lanes_of sections source name ≡ Ok lanes →
    AreLanesOf name lanes
lanes_are sections source name lanes is = by (is_among (section_names sections) inet6_section) refl
  where
    by : (each : Bool) → is_among (section_names sections) inet6_section ≡ each → AreLanesOf name lanes
    by true each = lane_of_each_is source name lanes (rw each at is)
    by false each = lane_of_both_is source name lanes (rw each at is)

-- an action behind those of these names
pub record IsActionBehind (names : List (List ℕ)) (one : Action) : Type 0 where
  pub few : length names < 16
  pub new : is_among names one.name ≡ false
  pub lanes : AreLanesOf one.name one.lanes

named_is_new : (bases : Bases) (jail : Source) (names : List (List ℕ)) (line : List ℕ) (given : Named) →
    named_action bases jail names line ≡ Ok given →
    is_among names (name_of given) ≡ false
unfolding named_action
named_is_new bases jail names line given is =
    let first = bind_ok (or_refuse (told jail action.name BadOptions) (named line)) _ given is in
    let there = then_ok (refuse_if (not (bases.has_file (file_of first.0.name))) (without_file jail action.name (file_of first.0.name))) _ given first.2 in
    let apart = then_ok (refuse_if (is_among names (name_of first.0)) (told jail action.name DoubleAction)) _ given there in
    let new : is_among names (name_of first.0) ≡ false =
    was_not_refused (is_among names (name_of first.0)) (told jail action.name DoubleAction) _ given there in
    let same : first.0 ≡ given = cc apart in
    subst (λ (given : Named). is_among names (name_of given) ≡ false) same new

action_is : (bases : Bases) (jail : Source) (names : List (List ℕ)) (line : List ℕ) (one : Action) →
    action_of bases jail names line ≡ Ok one → IsActionBehind names one
unfolding action_of
action_is bases jail names line one is =
    let given = bind_ok (named_action bases jail names line) _ one is in
    let sections = bind_ok (sections_of bases (base_of given.0.name)) _ one given.2 in
    let lanes = bind_ok (lanes_of sections.0 (of_definition (file_of given.0.name) jail.section given.0.options sections.0) (name_of given.0)) _ one sections.2 in
    let full : not (nat_lt (length names) most_actions) ≡ false =
    was_not_refused (not (nat_lt (length names) most_actions)) (told jail action.name TooMany) _ one lanes.2 in
    let last = then_ok (refuse_if (not (nat_lt (length names) most_actions)) (told jail action.name TooMany)) _ one lanes.2 in
    subst (OfOk (IsActionBehind names)) last (record {
      few = grind (arith, nat_tests, full);
      new = named_is_new bases jail names line given.0 given.1;
      lanes = lanes_are sections.0 (of_definition (file_of given.0.name) jail.section given.0.options sections.0) (name_of given.0) lanes.0 lanes.1;
    })

-- ---- all actions

-- the lanes of actions behind those of these names
pub record AreLanesBehind (names : List (List ℕ)) (lanes : List ActionDef) : Type 0 where
  pub few : length lanes + 2 * length names ≤ 32
  pub new : AllOf (λ (one : ActionDef). is_among names one.name ≡ false) lanes
  pub apart : AreDistinct same_kind lanes
  pub timeouts : AllOf HasTimeout lanes

no_lanes : (names : List (List ℕ)) → length names ≤ 16 → AreLanesBehind names []
no_lanes names few = record { few = omega arith; new = tt; apart = tt; timeouts = tt }

-- a lane of another name is of another kind
other_kind : (x y : Bool) → x ≡ false → (x && y) ≡ false
other_kind true y is = absurd (cc)
other_kind false y is = refl

lanes_join : (names : List (List ℕ)) (one : Action) (others : List ActionDef) → IsActionBehind names one →
    AreLanesBehind (names ++ one.name ∷ []) others →
    AreLanesBehind names (one.lanes ++ others)
lanes_join names one others first rest = record {
  few =
      let all = length-append one.lanes others in
      let more = length-append names (one.name ∷ []) in
      let below = rest.few in
      let two = first.lanes.few in
      omega (arith, all, more, below, two);
  new =
      all_append (λ (lane : ActionDef). is_among names lane.name ≡ false) one.lanes others
      (all_weaker _ (λ (lane : ActionDef). is_among names lane.name ≡ false) (λ lane named. ap (is_among names) named ∙ first.new) one.lanes first.lanes.named)
      (all_weaker _ (λ (lane : ActionDef). is_among names lane.name ≡ false)
      (λ lane new. none_in_first (bytes_eq lane.name) names (one.name ∷ []) new) others rest.new);
  apart =
      distinct_append same_kind one.lanes others first.lanes.apart rest.apart
      (all_weaker (λ (lane : ActionDef). lane.name ≡ one.name) (λ (lane : ActionDef). list_any (same_kind lane) others ≡ false) apart one.lanes first.lanes.named);
  timeouts = all_append HasTimeout one.lanes others first.lanes.timeouts rest.timeouts;
}
  where
    differs : (lane : ActionDef) → is_among (names ++ one.name ∷ []) lane.name ≡ false → bytes_eq lane.name one.name ≡ false
    differs lane new = (neither (bytes_eq lane.name one.name) false (none_in_second (bytes_eq lane.name) names (one.name ∷ []) new)).0

    apart : (lane : ActionDef) → lane.name ≡ one.name → list_any (same_kind lane) others ≡ false
    apart lane named =
        none_passes_all (same_kind lane) others
        (all_weaker _ (λ (other : ActionDef). same_kind lane other ≡ false)
        (λ other new.
        other_kind (bytes_eq lane.name other.name) (same_family lane.family other.family)
        (ap (λ (name : List ℕ). bytes_eq name other.name) named ∙ bytes_eq-flip other.name one.name (differs other new))) others rest.new)

pub actions_behind_are : (bases : Bases) (jail : Source) (names lines : List (List ℕ)) (lanes : List ActionDef) → length names ≤ 16 →
    actions_behind bases jail names lines ≡ Ok lanes → AreLanesBehind names lanes
actions_behind_are bases jail names [] lanes few is = subst (OfOk (AreLanesBehind names)) is (no_lanes names few)
actions_behind_are bases jail names (line ∷ lines) lanes few is =
    let first = bind_ok (action_of bases jail names line) _ lanes is in
    let rest = bind_ok (actions_behind bases jail (names ++ first.0.name ∷ []) lines) (λ others. Ok (first.0.lanes ++ others)) lanes first.2 in
    let one : IsActionBehind names first.0 = action_is bases jail names line first.0 first.1 in
    let below : length (names ++ first.0.name ∷ []) ≤ 16 =
    (let more = length-append names (first.0.name ∷ []) in let less = one.few in omega (arith, more, less)) in
    let others : AreLanesBehind (names ++ first.0.name ∷ []) rest.0 =
    actions_behind_are bases jail (names ++ first.0.name ∷ []) lines rest.0 below rest.1 in
    subst (OfOk (AreLanesBehind names)) rest.2 (lanes_join names first.0 rest.0 one others)

-- those that a jail lists
pub actions_are : (bases : Bases) (jail : Source) (lanes : List ActionDef) → actions_of bases jail ≡ Ok lanes → AreLanesBehind [] lanes
unfolding actions_of
actions_are bases jail lanes is =
    let text = bind_ok (own jail action) _ lanes is in
    actions_behind_are bases jail [] (full_lines text.0) lanes (omega arith) text.2
