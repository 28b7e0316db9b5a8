-- What a line says, by the steps of a search.
use Rattle.std.proofs.Common.{◌≡◌, ℕ, ℤ, Bool, true, false, List, Option, Some, None, refl, sym}
use Rattle.std.specs.Prelude.{◌↔◌, Any, IsTrue}
use Rattle.std.proofs.lemmas.List.Folds.{Any-from_list_any, list_any-from_Any}
use Rattle.f2b_base.specs.declared.addr.Addr.{Addr}
use Rattle.f2b_base.specs.declared.addr.Cidr.{Cidr}
use Rattle.f2b_base.specs.Masks.{holds}
use Rattle.host_ident.specs.Hosts.{host_of}
use Rattle.date_detect.specs.Dates.{date_in}
use Rattle.filter_regex.specs.Rules.{Rules}
use Rattle.filter_regex.specs.Findings.{without, part, content, first_match, moment_of, is_ignored, failure, finding}
use Rattle.date_detect.specs.declared.search.Found.{Found}
use Rattle.filter_regex.specs.declared.part.Hit.{Hit}
use Rattle.filter_regex.specs.declared.finding.Finding.TheVariants.{Ignored, NoDate, Missed}

bools : (a b : Bool) → (a ≡ true → b ≡ true) → (b ≡ true → a ≡ true) → a ≡ b
bools true b f g = sym (f refl)
bools false true f g = g refl
bools false false f g = refl

-- the test of a set of masks computes whether some mask holds the address
pub is_test : (answer : Bool) (masks : List Cidr) (addr : Addr) → (IsTrue answer ↔ Any (λ mask. IsTrue (holds mask addr)) masks) → answer ≡ is_ignored masks addr
is_test answer masks addr both =
    bools answer (is_ignored masks addr) (λ yes. list_any-from_Any (λ mask. holds mask addr) masks (both.0 yes))
    (λ yes. both.1 (Any-from_list_any (λ mask. holds mask addr) masks yes))

module _ (rules : Rules) (masks : List Cidr) (now findtime : ℕ) (line rest : List ℕ) (date : Option Found) (is : date ≡ date_in rules.dates now rules.zone line)
    (rest_is : rest ≡ without line date) where
  pub ignored : (hit : Hit) → Some hit ≡ first_match 1 rules.ignore_lines rest → Ignored hit.number ≡ finding rules masks now findtime line
  unfolding finding
  ignored hit found = rw (← is, ← rest_is, ← found) refl

  module _ (passes : None ≡ first_match 1 rules.ignore_lines rest) where
    pub no_date : None ≡ moment_of rules.undated now date → NoDate ≡ finding rules masks now findtime line
    unfolding finding
    no_date none = rw (← is, ← rest_is, ← passes, ← none) refl

    module _ (moment : ℤ) (moment_is : Some moment ≡ moment_of rules.undated now date) where
      pub no_content : None ≡ content rules.pref rest → Missed ≡ finding rules masks now findtime line
      unfolding finding
      no_content none = rw (← is, ← rest_is, ← passes, ← moment_is, ← none) refl

      module _ (text : List ℕ) (text_is : Some text ≡ content rules.pref rest) where
        pub missed : None ≡ first_match 1 rules.fail text → Missed ≡ finding rules masks now findtime line
        unfolding finding
        missed none = rw (← is, ← rest_is, ← passes, ← moment_is, ← text_is, ← none) refl

        pub failed : (hit : Hit) → Some hit ≡ first_match 1 rules.fail text →
            failure masks now findtime moment hit.number (host_of (part text hit.spans.ip4) (part text hit.spans.ip6)) ≡ finding rules masks now findtime line
        unfolding finding
        failed hit found = rw (← is, ← rest_is, ← passes, ← moment_is, ← text_is, ← found) refl
