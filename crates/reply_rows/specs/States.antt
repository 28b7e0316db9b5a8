-- What is asked of the logs and the actions of a jail.
use Rattle.std.specs.Prelude.{List, map, bytes_eq}
use Rattle.f2b_base.specs.declared.jail.ActionDef.{ActionDef}
use Rattle.f2b_base.specs.declared.jail.WatchDef.{WatchDef}
use Rattle.f2b_model.specs.Lists.{AreDistinct}
use Rattle.f2b_model.specs.Sound.{same_kind}

-- no two have one path
abbrev pub AreApart : List WatchDef → Type 0
AreApart watches = AreDistinct bytes_eq (map (λ (w : WatchDef). w.path) watches)

-- no two are of one name and one family
abbrev pub AreOfKinds : List ActionDef → Type 0
AreOfKinds actions = AreDistinct same_kind actions
