use Rattle.std.proofs.Common.{append_assoc}
use Rattle.host_ident.proofs.tag.push_addresses.Goals as goal

pub returns : goal.returns
returns c =
    rw (c.in_ok-push_str-4.ensures.ok, c.in_ok-push_str-3.ensures.ok, c.in_ok-push_str-2.ensures.ok, c.in_ok-push_str.ensures.ok)
    (simp append_assoc)
