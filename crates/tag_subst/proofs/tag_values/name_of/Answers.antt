use Rattle.std.proofs.Common.{None, lit<}
use Rattle.std.proofs.lemmas.Str.Pattern.{split_once_first}
use Rattle.ini_interp.proofs.ScopeLemmas.{name_of-plain}
use Rattle.tag_subst.proofs.tag_values.name_of.Goals as goal

pub returns-in-None : goal.returns-in-None
returns-in-None c = name_of-plain c.args.tag.now (split_once_first 47 c.args.tag.now None c.in-None.ensures.cases (lit< tt))
