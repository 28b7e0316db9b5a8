use Rattle.filter_regex.proofs.build.Filter.found.Goals as goal

pub returns : goal.returns
returns c = rw (← c.in_ok-searcher.ensures) c.found.ensures.found
