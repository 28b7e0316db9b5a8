-- Requests whose values are within the bounds of what is stored.
use Rattle.std.specs.Prelude.{◌≤◌, length}
use Rattle.f2b_base.specs.Addresses.{IsAddr}
use Rattle.f2b_base.specs.Masks.{IsCidr}
use Rattle.f2b_model.specs.Lists.{AllOf}
use Rattle.f2b_model.specs.Storable.{most_at_once, IsBase, IsJailName, IsSpanOfTime, IsWithin}
use Rattle.client_words.specs.declared.request.Request.{Request}
use Rattle.client_words.specs.declared.request.Request.TheVariants.{Unban, SetBanip, SetUnbanip, SetAttempt, AddIgnore, DelIgnore, SetFindtime, SetBantime, SetMaxretry, SetIdle}

-- the values of a request that changes something are within their bounds
abbrev pub IsBoundedRequest : Request → Type 0
IsBoundedRequest (Unban addrs) = AllOf IsAddr addrs
IsBoundedRequest (SetBanip jail addrs) = IsJailName jail × AllOf IsAddr addrs × (length addrs ≤ most_at_once)
IsBoundedRequest (SetUnbanip jail addrs) = IsJailName jail × AllOf IsAddr addrs
IsBoundedRequest (SetAttempt jail addr) = IsJailName jail × IsAddr addr
IsBoundedRequest (AddIgnore jail cidr) = IsJailName jail × IsCidr cidr
IsBoundedRequest (DelIgnore jail cidr) = IsJailName jail × IsCidr cidr
IsBoundedRequest (SetFindtime jail secs) = IsJailName jail × IsSpanOfTime secs
IsBoundedRequest (SetBantime jail secs) = IsJailName jail × IsBase secs
IsBoundedRequest (SetMaxretry jail number) = IsJailName jail × IsWithin 1 100000 number
IsBoundedRequest (SetIdle jail idle) = IsJailName jail
IsBoundedRequest _ = Unit {0}
