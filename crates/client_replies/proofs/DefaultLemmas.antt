-- What changes of a definition alone, and what is replied of one.
use Rattle.std.proofs.Common.{◌≡◌, ℕ, Bool, List, [], Option, Some, None, refl}
use Rattle.std.specs.Option.{option_and_then, option_map, option_map_or}
use Rattle.f2b_base.specs.declared.addr.Addr.{Addr}
use Rattle.f2b_base.specs.declared.input.What.{What}
use Rattle.f2b_base.specs.declared.jail.JailDef.{JailDef}
use Rattle.f2b_model.specs.Whole.{Now}
use Rattle.f2b_model.specs.declared.jail_now.JailNow.{JailNow}
use Rattle.client_words.specs.declared.request.Request.{Request}
use Rattle.client_words.specs.declared.request.Request.TheVariants as request
use Rattle.client_replies.specs.Changes.{change_in, change_of, change_of_definition}
use Rattle.client_replies.specs.Meant.{definition_at, definition_named}
use Rattle.client_replies.specs.Refusals.{jail_in, named}
use Rattle.client_replies.specs.Replies.{text_in, text_of, text_of_definition}

-- ---- what changes

change_same : (f : JailNow → Option What) (h : JailDef → Option What) (o : Option JailNow) → ((j : JailNow) → h j.definition ≡ f j)
    → option_and_then h (option_map (λ (j : JailNow). j.definition) o) ≡ option_and_then f o
change_same f h None same = refl
change_same f h (Some j) same = same j

change_named : (now : Now) (f : JailNow → Option What) (h : JailDef → Option What) (name : Option (List ℕ)) → ((j : JailNow) → h j.definition ≡ f j)
    → option_and_then h (option_and_then (definition_at now) name) ≡ option_and_then f (option_and_then (jail_in now) name)
change_named now f h None same = refl
change_named now f h (Some jail) same = change_same f h (jail_in now jail) same

-- by a request that is none of those that change something else
pub default_changes : (now : Now) (asked : Request) → (asked ≡ request.UnbanAll → ⊥) → ((addrs : List Addr) → asked ≡ request.Unban addrs → ⊥) → (asked ≡ request.Stop → ⊥)
    → ((jail : List ℕ) (addrs : List Addr) → asked ≡ request.SetBanip jail addrs → ⊥) → ((jail : List ℕ) (addrs : List Addr) → asked ≡ request.SetUnbanip jail addrs → ⊥)
    → ((jail : List ℕ) (addr : Addr) → asked ≡ request.SetAttempt jail addr → ⊥) → ((jail : List ℕ) (idle : Bool) → asked ≡ request.SetIdle jail idle → ⊥)
    → option_and_then (λ (d : JailDef). change_of_definition d asked) (definition_named now asked) ≡ change_of now asked
default_changes now request.UnbanAll a b c d e f g = absurd (a refl)
default_changes now (request.Unban addrs) a b c d e f g = absurd (b addrs refl)
default_changes now request.Stop a b c d e f g = absurd (c refl)
default_changes now (request.SetBanip jail addrs) a b c d e f g = absurd (d jail addrs refl)
default_changes now (request.SetUnbanip jail addrs) a b c d e f g = absurd (e jail addrs refl)
default_changes now (request.SetAttempt jail addr) a b c d e f g = absurd (f jail addr refl)
default_changes now (request.SetIdle jail idle) a b c d e f g = absurd (g jail idle refl)
default_changes now asked a b c d e f g = change_named now (λ (j : JailNow). change_in j asked) (λ (d : JailDef). change_of_definition d asked) (named asked) (λ j. refl)

-- ---- what is replied

told_same : (f : JailNow → List ℕ) (h : JailDef → List ℕ) (o : Option JailNow) → ((j : JailNow) → h j.definition ≡ f j)
    → option_map_or h (option_map (λ (j : JailNow). j.definition) o) [] ≡ option_map_or f o []
told_same f h None same = refl
told_same f h (Some j) same = same j

told_named : (now : Now) (f : JailNow → List ℕ) (h : JailDef → List ℕ) (name : Option (List ℕ)) → ((j : JailNow) → h j.definition ≡ f j)
    → option_map_or h (option_and_then (definition_at now) name) [] ≡ option_map_or f (option_and_then (jail_in now) name) []
told_named now f h None same = refl
told_named now f h (Some jail) same = told_same f h (jail_in now jail) same

-- to a request that is none of those to which something else is
pub default_tells : (moment : ℕ) (now : Now) (asked : Request) → (asked ≡ request.Ping → ⊥) → (asked ≡ request.Version → ⊥) → (asked ≡ request.Status → ⊥) → (asked ≡ request.StatusAll → ⊥)
    → ((jail : List ℕ) → asked ≡ request.StatusOf jail → ⊥) → (asked ≡ request.Banned → ⊥) → ((addrs : List Addr) → asked ≡ request.Holders addrs → ⊥)
    → (asked ≡ request.UnbanAll → ⊥) → ((addrs : List Addr) → asked ≡ request.Unban addrs → ⊥) → (asked ≡ request.Reload → ⊥)
    → (asked ≡ request.Stop → ⊥) → ((jail : List ℕ) (addrs : List Addr) → asked ≡ request.SetBanip jail addrs → ⊥)
    → ((jail : List ℕ) (addrs : List Addr) → asked ≡ request.SetUnbanip jail addrs → ⊥) → ((jail : List ℕ) (addr : Addr) → asked ≡ request.SetAttempt jail addr → ⊥)
    → ((jail : List ℕ) → asked ≡ request.GetBanip jail → ⊥) → ((jail : List ℕ) → asked ≡ request.GetBantimes jail → ⊥)
    → option_map_or (λ (d : JailDef). text_of_definition d asked) (definition_named now asked) [] ≡ text_of moment now asked
default_tells moment now request.Ping a b c d e f g h i j k l m n o p = absurd (a refl)
default_tells moment now request.Version a b c d e f g h i j k l m n o p = absurd (b refl)
default_tells moment now request.Status a b c d e f g h i j k l m n o p = absurd (c refl)
default_tells moment now request.StatusAll a b c d e f g h i j k l m n o p = absurd (d refl)
default_tells moment now (request.StatusOf jail) a b c d e f g h i j k l m n o p = absurd (e jail refl)
default_tells moment now request.Banned a b c d e f g h i j k l m n o p = absurd (f refl)
default_tells moment now (request.Holders addrs) a b c d e f g h i j k l m n o p = absurd (g addrs refl)
default_tells moment now request.UnbanAll a b c d e f g h i j k l m n o p = absurd (h refl)
default_tells moment now (request.Unban addrs) a b c d e f g h i j k l m n o p = absurd (i addrs refl)
default_tells moment now request.Reload a b c d e f g h i j k l m n o p = absurd (j refl)
default_tells moment now request.Stop a b c d e f g h i j k l m n o p = absurd (k refl)
default_tells moment now (request.SetBanip jail addrs) a b c d e f g h i j k l m n o p = absurd (l jail addrs refl)
default_tells moment now (request.SetUnbanip jail addrs) a b c d e f g h i j k l m n o p = absurd (m jail addrs refl)
default_tells moment now (request.SetAttempt jail addr) a b c d e f g h i j k l m n o p = absurd (n jail addr refl)
default_tells moment now (request.GetBanip jail) a b c d e f g h i j k l m n o p = absurd (o jail refl)
default_tells moment now (request.GetBantimes jail) a b c d e f g h i j k l m n o p = absurd (p jail refl)
default_tells moment now asked a b c d e f g h i j k l m n o p =
    told_named now (λ (j : JailNow). text_in moment j asked) (λ (d : JailDef). text_of_definition d asked) (named asked) (λ j. refl)
