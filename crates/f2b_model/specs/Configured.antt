-- What a configuration changes, once the bans that are due have ended.
use Rattle.f2b_base.specs.declared.input.What.TheVariants.{Config}
use Rattle.f2b_base.specs.declared.jail.Defs.{Defs}
use Rattle.f2b_model.specs.Active.{held}
use Rattle.f2b_model.specs.Lanes.{books_now, lanes_configured, lanes_of}
use Rattle.f2b_model.specs.Steps.{done, moves_now}
use Rattle.f2b_model.specs.Whole.{Now}

-- the middle state after these definitions were taken, ends by time and drops left aside
abbrev pub configured_now : Defs → Now → Now
configured_now defs n =
    let w = done moves_now 0 (Config defs) n.jails in
    record { jails = w; lanes = lanes_configured books_now n.jails.at (held moves_now n.jails) (held moves_now w) (lanes_of defs) n.lanes }
