-- What happens by a client's request ends no try.
use Rattle.std.proofs.Common.{ℕ, ◌==◌, Bool, true, false, cond, not, length, List, Option, Some, None, Result, Ok, Err}
use Rattle.std.specs.Prelude.{is_some, option_and_then}
use Rattle.std.specs.Ordering.{int_eq}
use Rattle.client_frames.specs.Comes.{Heard, Part, Words, TooLong, Empty, BadWord}
use Rattle.client_replies.specs.Banned.{ended, ended_in, new_addrs}
use Rattle.client_replies.specs.Changes.{change_in, change_of, change_of_definition, effect, has_mask, is_same}
use Rattle.client_replies.specs.Refusals.{jail_in, named, refusal}
use Rattle.client_table.specs.Clients.{heard_at}
use Rattle.client_words.specs.Commands.{command_of}
use Rattle.client_words.specs.declared.error.CommandError.{CommandError}
use Rattle.client_words.specs.declared.request.Request.{Request}
use Rattle.client_words.specs.declared.request.Request.TheVariants as request
use Rattle.f2b_base.specs.declared.input.What.{What}
use Rattle.f2b_base.specs.declared.input.What.TheVariants as what
use Rattle.f2b_base.specs.declared.jail.JailDef.{JailDef}
use Rattle.f2b_model.specs.Moves.{is_banned}
use Rattle.f2b_model.specs.Whole.{Now, State, now_of}
use Rattle.f2b_model.specs.declared.jail_now.JailNow.{JailNow}
use Rattle.f2b_world.specs.declared.answer.Accept.{Accept}
use Rattle.f2b_world.specs.declared.answer.Accept.TheVariants.{Conn, Quiet, Failed}
use Rattle.f2b_world.specs.declared.answer.GateRead.{GateRead}
use Rattle.run_law.specs.Requests.{rereading, to_command, to_heard, to_request}
use Rattle.run_law.specs.Server.{Server}
use Rattle.run_law.specs.Serving.{lets_in, news_in, reads}
use Rattle.run_jobs.proofs.ServerLemmas.{BringsStarted}
use Rattle.run_jobs.proofs.StepLemmas.{IsStarted}

module _ (started running : List ℕ) where
  abbrev IsFine : Option What → Type 0
  IsFine o = BringsStarted started running o

  unless_fine : (already : Bool) (happens : What) → IsStarted started running happens → IsFine (cond already None (Some happens))
  unless_fine true happens is = tt
  unless_fine false happens is = is

  definition_fine : (d : JailDef) (asked : Request) → IsFine (change_of_definition d asked)
  definition_fine d (request.AddIgnore jail cidr) = unless_fine (has_mask cidr d.ignore) (what.Ignore jail cidr true) tt
  definition_fine d (request.DelIgnore jail cidr) = unless_fine (not (has_mask cidr d.ignore)) (what.Ignore jail cidr false) tt
  definition_fine d (request.SetFindtime jail secs) = unless_fine (secs == d.findtime) (what.Findtime jail secs) tt
  definition_fine d (request.SetBantime jail secs) = unless_fine (int_eq secs d.rule.base) (what.Bantime jail secs) tt
  definition_fine d (request.SetMaxretry jail number) = unless_fine (number == d.maxretry) (what.Maxretry jail number) tt
  definition_fine d _ = tt

  jail_fine : (j : JailNow) (asked : Request) → IsFine (change_in j asked)
  jail_fine j (request.SetBanip jail addrs) = unless_fine (length (new_addrs j.bans addrs) == 0) (what.Ban jail (new_addrs j.bans addrs)) tt
  jail_fine j (request.SetUnbanip jail addrs) = unless_fine (ended_in (Some addrs) j == 0) (what.Unban (Some jail) (Some addrs)) tt
  jail_fine j (request.SetAttempt jail addr) = unless_fine (is_banned addr j.bans) (what.Attempt jail addr) tt
  jail_fine j (request.SetIdle jail idle) = unless_fine (is_same idle j.idle) (what.Idle jail idle) tt
  jail_fine j asked = definition_fine j.definition asked

  named_fine : (o : Option JailNow) (asked : Request) → IsFine (option_and_then (λ (j : JailNow). change_in j asked) o)
  named_fine None asked = tt
  named_fine (Some j) asked = jail_fine j asked

  change_fine : (n : Now) (asked : Request) → IsFine (change_of n asked)
  change_fine n request.UnbanAll = unless_fine (ended None n == 0) (what.Unban None None) tt
  change_fine n (request.Unban addrs) = unless_fine (ended (Some addrs) n == 0) (what.Unban None (Some addrs)) tt
  change_fine n request.Stop = unless_fine n.lanes.stopping what.Stop tt
  change_fine n asked = named_fine (option_and_then (jail_in n) (named asked)) asked

  refused_fine : (refused : Bool) (o : Option What) → IsFine o → IsFine (cond refused None o)
  refused_fine true o is = tt
  refused_fine false o is = is

  effect_fine : (n : Now) (asked : Request) → IsFine (effect n asked)
  unfolding effect
  effect_fine n asked = refused_fine (is_some (refusal n asked)) (change_of n asked) (change_fine n asked)

  reread_fine : (o : Option (List ℕ)) → IsFine (news_in (Some (rereading o))).what
  reread_fine (Some why) = tt
  reread_fine None = tt

  request_fine : (now : ℕ) (s : State) (asked : Request) → IsFine (news_in (Some (to_request now s asked))).what
  request_fine now s request.Reload = reread_fine (refusal (now_of s) request.Reload)
  request_fine now s asked = effect_fine (now_of s) asked

  command_fine : (now : ℕ) (s : State) (o : Result Request CommandError) → IsFine (news_in (Some (to_command now s o))).what
  command_fine now s (Ok asked) = request_fine now s asked
  command_fine now s (Err error) = tt

  heard_fine : (now : ℕ) (s : State) (h : Heard) → IsFine (news_in (to_heard now s h)).what
  unfolding to_heard
  heard_fine now s Part = tt
  heard_fine now s (Words words) = command_fine now s (command_of words)
  heard_fine now s (TooLong n) = tt
  heard_fine now s Empty = tt
  heard_fine now s (BadWord at) = tt

  pub reads_fine : (answer : GateRead) (i : ℕ) (s : Server) → BringsStarted started running (reads answer i s).news.what
  reads_fine answer i s = heard_fine s.now s.state (heard_at answer i s.clients)

  pub lets_in_fine : (answer : Accept) (s : Server) → BringsStarted started running (lets_in answer s).news.what
  lets_in_fine (Conn conn) s = tt
  lets_in_fine Quiet s = tt
  lets_in_fine Failed s = tt
