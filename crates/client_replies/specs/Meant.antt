-- What code knows of the jail of a name, and of the addresses that a request means.
use Rattle.std.specs.Prelude.{ℕ, cond, List, [], ◌∷◌, Option, Some, None, option_and_then, option_map, bytes_eq}
use Rattle.f2b_base.specs.declared.addr.Addr.{Addr}
use Rattle.f2b_base.specs.declared.ban.Ban.{Ban}
use Rattle.f2b_base.specs.declared.jail.JailDef.{JailDef}
use Rattle.f2b_base.specs.declared.view.JailView.{JailView}
use Rattle.f2b_model.specs.Whole.{Now}
use Rattle.f2b_model.specs.declared.jail_now.JailNow.{JailNow}
use Rattle.client_words.specs.declared.request.Request.{Request}
use Rattle.client_replies.specs.Banned.{is_among}
use Rattle.client_replies.specs.Known.{IsKnown}
use Rattle.client_replies.specs.Refusals.{jail_in, named}
use Rattle.client_replies.specs.declared.known.Known.{Known}

-- the bans of the jail of a name
abbrev pub bans_at : Now → List ℕ → Option (List Ban)
bans_at now name = option_map (λ (j : JailNow). j.bans) (jail_in now name)

-- the same of what a view shows of the jails
abbrev pub bans_named : List ℕ → List JailView → Option (List Ban)
bans_named name [] = None
bans_named name (v ∷ vs) = cond (bytes_eq v.name name) (Some v.bans) (bans_named name vs)

-- its definition
abbrev pub definition_at : Now → List ℕ → Option JailDef
definition_at now name = option_map (λ (j : JailNow). j.definition) (jail_in now name)

-- that of the jail that a request names
abbrev pub definition_named : Now → Request → Option JailDef
definition_named now asked = option_and_then (definition_at now) (named asked)

-- The addresses that a request means are known: these, or all.
abbrev pub IsWhom : Option Known → Option (List Addr) → Type 0
IsWhom None None = Unit {0}
IsWhom (Some known) (Some addrs) = IsKnown known (is_among addrs)
IsWhom _ _ = ⊥
