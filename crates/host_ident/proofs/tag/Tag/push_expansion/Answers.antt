use Rattle.std.proofs.Common.{append_assoc}
use Rattle.host_ident.proofs.tag.Tag.push_expansion.Goals as goal

pub returns-in_ok-push_str-in-Host-3 : goal.returns-in_ok-push_str-in-Host-3
returns-in_ok-push_str-in-Host-3 c =
    rw (
      c.in-Host.is,
      c.in_ok-push_str-in-Host-3.ensures.ok,
      c.in_ok-push_str-in-Host-2.ensures.ok,
      c.in_ok-push_str-in-Host.ensures.ok,
      c.in_ok-push_addresses-in-Host.ensures,
    ) (simp append_assoc)
