use Rattle.std.proofs.Common.{◌≡◌, rules, to_z, of_z, w32, w64}
use Rattle.filter_regex.specs.Rules.{Rules}
use Rattle.filter_regex.proofs.FindingLemmas.{ignored, no_date, no_content, missed, failed}
use Rattle.filter_regex.proofs.search.Searcher.found.Goals as goal

pub returns-in-Some-clause-found : goal.returns-in-Some-clause-found
returns-in-Some-clause-found c =
    let zone : to_z w32 (of_z w32 c.self.inside.zone) ≡ c.self.inside.zone = search rules in
    let date = rw zone at c.found-date.ensures.found in
    let all : Rules = record {
      dates = c.self.inside.dates;
      undated = c.self.inside.undated;
      zone = c.self.inside.zone;
      pref = c.self.inside.pref;
      fail = c.self.inside.fail.items;
      ignore_lines = c.self.inside.ignore_lines.items;
    } in
    rw (← c.self.view_is) (ignored all _ _ _ _ _ _ date c.in_ok-rest.ensures _ c.in-Some.ensures.found)

pub returns-in_default-moment_of-clause-found : goal.returns-in_default-moment_of-clause-found
returns-in_default-moment_of-clause-found c =
    let zone : to_z w32 (of_z w32 c.self.inside.zone) ≡ c.self.inside.zone = search rules in
    let date = rw zone at c.found-date.ensures.found in
    let all : Rules = record {
      dates = c.self.inside.dates;
      undated = c.self.inside.undated;
      zone = c.self.inside.zone;
      pref = c.self.inside.pref;
      fail = c.self.inside.fail.items;
      ignore_lines = c.self.inside.ignore_lines.items;
    } in
    rw (← c.self.view_is)
    (no_date all _ _ _ _ _ _ date c.in_ok-rest.ensures c.in_default.ensures.found c.in_default-moment_of.ensures)

pub returns-in_default-content-clause-found : goal.returns-in_default-content-clause-found
returns-in_default-content-clause-found c =
    let zone : to_z w32 (of_z w32 c.self.inside.zone) ≡ c.self.inside.zone = search rules in
    let date = rw zone at c.found-date.ensures.found in
    let all : Rules = record {
      dates = c.self.inside.dates;
      undated = c.self.inside.undated;
      zone = c.self.inside.zone;
      pref = c.self.inside.pref;
      fail = c.self.inside.fail.items;
      ignore_lines = c.self.inside.ignore_lines.items;
    } in
    rw (← c.self.view_is)
    (no_content all _ _ _ _ _ _ date c.in_ok-rest.ensures c.in_default.ensures.found _ c.in-Some-moment_of.ensures
    c.in_default-content.ensures.found)

pub returns-in_default-first_match-clause-found : goal.returns-in_default-first_match-clause-found
returns-in_default-first_match-clause-found c =
    let zone : to_z w32 (of_z w32 c.self.inside.zone) ≡ c.self.inside.zone = search rules in
    let date = rw zone at c.found-date.ensures.found in
    let all : Rules = record {
      dates = c.self.inside.dates;
      undated = c.self.inside.undated;
      zone = c.self.inside.zone;
      pref = c.self.inside.pref;
      fail = c.self.inside.fail.items;
      ignore_lines = c.self.inside.ignore_lines.items;
    } in
    rw (← c.self.view_is)
    (missed all _ _ _ _ _ _ date c.in_ok-rest.ensures c.in_default.ensures.found _ c.in-Some-moment_of.ensures _
    c.in-Some-content.ensures.found c.in_default-first_match.ensures.found)

pub returns-clause-found : goal.returns-clause-found
returns-clause-found c =
    let zone : to_z w32 (of_z w32 c.self.inside.zone) ≡ c.self.inside.zone = search rules in
    let date = rw zone at c.found-date.ensures.found in
    let all : Rules = record {
      dates = c.self.inside.dates;
      undated = c.self.inside.undated;
      zone = c.self.inside.zone;
      pref = c.self.inside.pref;
      fail = c.self.inside.fail.items;
      ignore_lines = c.self.inside.ignore_lines.items;
    } in
    let moment : to_z w64 (of_z w64 c.in-Some-moment_of.moment) ≡ c.in-Some-moment_of.moment = search rules in
    rw (c.failure.ensures, moment, c.host_in-host.ensures, ← c.self.view_is)
    (failed all _ _ _ _ _ _ date c.in_ok-rest.ensures c.in_default.ensures.found _ c.in-Some-moment_of.ensures _
    c.in-Some-content.ensures.found _ c.in-Some-first_match.ensures.found)
