-- The reply to a request, over the state before the input that it makes.
use Rattle.std.specs.Prelude.{ℕ, max, Bool, true, false, List, [], length, nat_le, Option, Some, None, option_and_then, codes, if◌then◌else◌}
use Rattle.std.specs.Fmt.{decimal, signed_decimal}
use Rattle.std.specs.List.{join_by}
use Rattle.std.specs.Option.{option_map_or}
use Rattle.client_frames.specs.Frames.{most_text}
use Rattle.client_frames.specs.declared.answer.Answer.{Answer}
use Rattle.f2b_base.specs.declared.jail.JailDef.{JailDef}
use Rattle.f2b_model.specs.Moves.{ignored, is_banned}
use Rattle.f2b_model.specs.Whole.{Now}
use Rattle.f2b_model.specs.declared.jail_now.JailNow.{JailNow}
use Rattle.client_words.specs.declared.request.Request.{Request}
use Rattle.client_words.specs.declared.request.Request.TheVariants as request
use Rattle.client_replies.specs.Banned.{ended, ended_in, new_addrs}
use Rattle.client_replies.specs.Refusals.{jail_in, named, refusal}
use Rattle.client_replies.specs.Texts.{actions_text_of, bans_text, banned_text, date_text, flag_text, holders_text, idle_text, jails_text, masks_text, name_of, paths_text, status_of, texts_text, timed_bans_text, version_text}

-- whether one failure more of an address is counted, as a number: not where it is banned
abbrev pub counted_text : Bool → List ℕ
counted_text true = codes "0"
counted_text false = codes "1"

-- what is replied of a definition, or of what a request makes of it
abbrev pub text_of_definition : JailDef → Request → List ℕ
text_of_definition d (request.AddIgnore jail cidr) = masks_text (ignored cidr true d).ignore
text_of_definition d (request.DelIgnore jail cidr) = masks_text (ignored cidr false d).ignore
text_of_definition d (request.SetFindtime jail secs) = decimal secs
text_of_definition d (request.SetBantime jail secs) = signed_decimal secs
text_of_definition d (request.SetMaxretry jail number) = decimal number
text_of_definition d (request.SetIdle jail idle) = idle_text idle
text_of_definition d (request.GetFindtime jail) = decimal d.findtime
text_of_definition d (request.GetBantime jail) = signed_decimal d.rule.base
text_of_definition d (request.GetMaxretry jail) = decimal d.maxretry
text_of_definition d (request.GetIgnoreip jail) = masks_text d.ignore
text_of_definition d (request.GetLogpath jail) = paths_text (codes "\n") d.watches
text_of_definition d (request.GetFailregex jail) = texts_text (codes "\n") d.fail
text_of_definition d (request.GetIgnoreregex jail) = texts_text (codes "\n") d.ignore_lines
text_of_definition d (request.GetDatepattern jail) = date_text d.date
text_of_definition d (request.GetMaxmatches jail) = decimal d.maxmatches
text_of_definition d (request.GetIncrement jail) = flag_text d.rule.increment
text_of_definition d (request.GetActions jail) = actions_text_of d.actions
text_of_definition d _ = []

-- what is replied of the jail that a request names
abbrev pub text_in : (moment : ℕ) → JailNow → Request → List ℕ
text_in moment j (request.StatusOf jail) = status_of moment j
text_in moment j (request.SetBanip jail addrs) = decimal (length (new_addrs j.bans addrs))
text_in moment j (request.SetUnbanip jail addrs) = decimal (ended_in (Some addrs) j)
text_in moment j (request.SetAttempt jail addr) = counted_text (is_banned addr j.bans)
text_in moment j (request.GetBanip jail) = bans_text (codes "\n") j.bans
text_in moment j (request.GetBantimes jail) = timed_bans_text j.bans
text_in moment j asked = text_of_definition j.definition asked

-- the status of the jail of a name
abbrev pub status_named : (moment : ℕ) → Now → (name : List ℕ) → List ℕ
status_named moment now name = option_map_or (status_of moment) (jail_in now name) []

-- that of each jail, with an empty line between each two
abbrev pub each_status : (moment : ℕ) → Now → List ℕ
each_status moment now = join_by (λ (j : JailNow). status_named moment now (name_of j)) (codes "\n\n") now.jails.jails

-- what is replied where the status of all is asked for by a word that may be a jail's name: that jail's comes first
abbrev pub status_of_all : (moment : ℕ) → Now → List ℕ
status_of_all moment now = option_map_or (status_of moment) (jail_in now (codes "--all")) (each_status moment now)

-- what is replied to a request that is not refused
abbrev pub text_of : (moment : ℕ) → Now → Request → List ℕ
text_of moment now request.Ping = codes "pong"
text_of moment now request.Version = version_text
text_of moment now request.Status = jails_text now.jails.jails
text_of moment now request.StatusAll = status_of_all moment now
text_of moment now request.Banned = banned_text now.jails.jails
text_of moment now (request.Holders addrs) = holders_text now.jails.jails addrs
text_of moment now request.UnbanAll = decimal (ended None now)
text_of moment now (request.Unban addrs) = decimal (ended (Some addrs) now)
text_of moment now request.Reload = codes "OK"
text_of moment now request.Stop = codes "Shutdown begun"
text_of moment now asked = option_map_or (λ (j : JailNow). text_in moment j asked) (option_and_then (jail_in now) (named asked)) []

-- ---- replies

abbrev pub refused : (why : List ℕ) → Answer
refused why = record { accepted = false; text = why }

-- why a request is refused, or the text of one that is not
abbrev pub answer : (why : Option (List ℕ)) → (text : List ℕ) → Answer
answer (Some why) text = refused why
answer None text = record { accepted = true; text = text }

-- an answer that can be sent, or that it cannot
abbrev pub sendable : Answer → Answer
sendable given = if nat_le (length given.text) most_text then given else refused (codes "Reply too long")

-- The reply at a moment, which is at least the state's own. To a reload it is what is replied where the configuration that is read is taken.
unfoldable pub reply : (moment : ℕ) → Now → Request → Answer
reply moment now asked = sendable (answer (refusal now asked) (text_of (max now.jails.at moment) now asked))
