-- The walk over the paths with wildcards.
use Rattle.std.proofs.Common.{ℕ, ◌≡◌, ◌++◌, List, [], ◌∷◌, Option, None, refl, sym, ap, ◌∙◌, subst}
use Rattle.f2b_world.specs.Told.{Asked, Called, Standing, names_event}
use Rattle.f2b_world.specs.declared.answer.NamesAnswer.{NamesAnswer}
use Rattle.f2b_world.specs.declared.answer.NamesAnswer.TheVariants.{Names as NamesGiven, Absent as NamesAbsent, Failed as NamesFailed, NoMemory as NamesNoMemory}
use Rattle.f2b_world.specs.declared.event.Event.TheVariants.{Names}
use Rattle.jail_conf.specs.declared.settings.Settings.{Settings}
use Rattle.run_law.specs.Calls.{Call, IsNext}
use Rattle.run_law.specs.Law.{Goes, Halts}
use Rattle.run_law.specs.News.{brings}
use Rattle.run_law.specs.Paths.{Path, directory, expanded_path, named, settled}
use Rattle.run_law.specs.Points.{Run}
use Rattle.run_law.specs.Readers.{Namer}
use Rattle.run_law.specs.Reading.{names_call, names_from, names_in, names_next, reads_names, unread_by}
use Rattle.run_law.specs.Server.{Server}
use Rattle.run_law.specs.Stages.{Brings, BringFails, IsAt, IsStill}
use Rattle.run_law.specs.declared.status.Status.{Status}
use Rattle.run_law.specs.declared.status.Status.TheVariants.{NoMemory}
use Rattle.run_law.proofs.PointLemmas.{goes_refl, goes_trans, halts_after, halts_here, point_goes}
use Rattle.run_start.specs.Listings.{AsksNames, Lists}
use Rattle.run_start.specs.Walks.{WalkFails, WalksTo, naming_of, walking}
use Rattle.run_start.specs.declared.listing.Listing.{Listing}
use Rattle.run_start.specs.declared.walk.PathWalk.{PathWalk}
use Rattle.run_steps.specs.Keeping.{KeepsClocked, news_of}
use Rattle.run_steps.proofs.BringLemmas.{unbrought_cause}
use Rattle.run_steps.specs.declared.clocked.Clocked.{Clocked}

-- ---- several listings

pub walks_none : (a : Standing) (settings : Settings) (walk : PathWalk) → WalksTo a a settings walk walk
walks_none a settings walk = record {
  runs = λ k here s still keeps. record { here = here; still = still; goes = goes_refl a.told (walking k settings walk s here); keeps = keeps };
}

pub walks_trans : (a b c : Standing) (settings : Settings) (from mid to : PathWalk) → WalksTo a b settings from mid → WalksTo b c settings mid to → WalksTo a c settings from to
walks_trans a b c settings from mid to p q = record {
  runs = λ k here s still keeps.
      let one = p.runs k here s still keeps in
      let two = q.runs k one.here s one.still one.keeps in
      record { here = two.here; still = two.still; goes = goes_trans a.told b.told c.told _ _ _ one.goes two.goes; keeps = two.keeps };
}

pub walk_fails_on : (a b c : Standing) (settings : Settings) (from mid : PathWalk) (status : Status) → WalksTo a b settings from mid → WalkFails b c settings mid status → WalkFails a c settings from status
walk_fails_on a b c settings from mid status p q = record {
  runs = λ k here s still keeps.
      let one = p.runs k here s still keeps in
      halts_after a.told b.told c.told _ _ status one.goes (q.runs k one.here s one.still one.keeps);
}

pub ruleset walking_on = (walks_none, walks_trans, walk_fails_on)

-- ---- one listing

-- the line of a path is that of the first alone
same_unread : (answer : NamesAnswer) (now : ℕ) (p : Path) (ps : List Path) → unread_by answer now (p ∷ ps) ≡ unread_by answer now (p ∷ [])
same_unread (NamesGiven names) now p ps = refl
same_unread NamesAbsent now p ps = refl
same_unread NamesFailed now p ps = refl
same_unread NamesNoMemory now p ps = refl

-- where a path is left the run goes on to its directory
goes_on : (k : Namer) (settings : Settings) (walk : PathWalk) (p : Path) (ps : List Path) (s : Server) (here : Run) → walk.left.now ≡ p ∷ ps
    → walking k settings walk s here ≡ brings (record { before = walk.before; what = None; behind = [] }) (k.at_names settings (naming_of walk)) s here
goes_on k settings walk p ps s here is = ap (λ (left : List Path). names_next k.at_names k.found walk.before settings (naming_of walk) left s here) is

module _ (a b : Standing) (settings : Settings) (walk : PathWalk) (after : Clocked) (p : Path) (ps : List Path) (left : walk.left.now ≡ p ∷ ps)
    (brought : Brings KeepsClocked a b (news_of walk.before None []) walk.clocked after) where
  -- the lines of the last listing were said
  pub record Comes (k : Namer) (r : Run) (s : Server) : Type 0 where
    pub to : Run
    pub goes : Goes a.told b.told r to
    pub at : IsAt to (k.at_names settings (naming_of walk) s)
    pub keeps : KeepsClocked s after

  comes : (k : Namer) (here : Run) (s : Server) → IsStill here → KeepsClocked s walk.clocked → Comes k (walking k settings walk s here) s
  comes k here s still keeps =
      let P : Run → Type 0 = λ r. Comes k r s in
      let one = brought.runs here (λ t. here.point) (k.at_names settings (naming_of walk)) s (k.saying settings (naming_of walk)) (record { point = refl; still = still }) keeps in
      subst P (sym (goes_on k settings walk p ps s here left)) (record { to = one.to; goes = one.goes; at = one.at; keeps = one.keeps })

  listed : (k : Namer) (c : Standing) (answer : NamesAnswer) (to : Run) (s : Server) → Called b (Names (directory p.watch.path) answer) c → IsAt to (k.at_names settings (naming_of walk) s)
      → Goes b.told c.told to (reads_names k.at_names k.found answer settings (naming_of walk) s to)
  listed k c answer to s call at =
      let P : List Path → Type 0 = λ l. IsNext (names_call l) (Names (directory p.watch.path) answer) in
      let Q : Option Call → Type 0 = λ o. IsNext o (Names (directory p.watch.path) answer) in
      let R : Run → Type 0 = λ r. Goes b.told c.told to r in
      let next = subst Q (sym (k.asks to.plan settings (naming_of walk) s)) (subst P (sym left) refl) in
      subst R (k.names settings (naming_of walk) s (directory p.watch.path) answer to)
      (point_goes b c (Names (directory p.watch.path) answer) to (k.at_names settings (naming_of walk) s) call at next refl)

  asked_halts : (k : Namer) (c : Standing) (answer : NamesAnswer) (to : Run) (s : Server) → Asked b (names_event (directory p.watch.path) answer) c → IsAt to (k.at_names settings (naming_of walk) s)
      → Halts b.told c.told to NoMemory
  asked_halts k c (NamesGiven names) to s asked at = halts_after b.told c.told c.told to _ NoMemory (listed k c (NamesGiven names) to s asked at) (halts_here c.told _)
  asked_halts k c NamesAbsent to s asked at = halts_after b.told c.told c.told to _ NoMemory (listed k c NamesAbsent to s asked at) (halts_here c.told _)
  asked_halts k c NamesFailed to s asked at = halts_after b.told c.told c.told to _ NoMemory (listed k c NamesFailed to s asked at) (halts_here c.told _)
  asked_halts k c NamesNoMemory to s asked at = let P : Standing → Type 0 = λ x. Halts b.told x.told to NoMemory in subst P (sym asked) (halts_here b.told to)

  -- its directory was listed, and the paths behind it were settled
  pub walk_next : (c : Standing) (now : ℕ) (listing : Listing) (next : PathWalk) (found : List Path) → now ≡ after.now → Lists b c now p listing
      → found ≡ walk.found ++ expanded_path p listing.names → settled found ps ≡ naming_of next → next.clocked ≡ after → next.before ≡ listing.unread
      → WalksTo a c settings walk next
  walk_next c now listing next found timely lists more rest same before = record {
    runs = λ k here s still keeps.
        let one = comes k here s still keeps in
        let answer = lists.answer in
        let naming : named (names_in answer) (naming_of walk) ≡ naming_of next =
        ap (λ (l : List Path). named (names_in answer) (record { found = walk.found; left = l })) left
        ∙ ap (λ (ns : List (List ℕ)). settled (walk.found ++ expanded_path p ns) ps) (sym lists.names)
        ∙ ap (λ (f : List Path). settled f ps) (sym more) ∙ rest in
        let lines : unread_by answer s.now walk.left.now ≡ next.before =
        ap (unread_by answer s.now) left ∙ same_unread answer s.now p ps ∙ ap (λ (n : ℕ). unread_by answer n (p ∷ [])) (sym one.keeps.now ∙ sym timely)
        ∙ sym lists.unread ∙ sym before in
        let there : reads_names k.at_names k.found answer settings (naming_of walk) s one.to ≡ walking k settings next s one.to =
        λ i. names_from k.at_names k.found (lines i) settings (naming i) s one.to in
        let Q : Run → Type 0 = λ r. Goes b.told c.told one.to r in
        let R : Clocked → Type 0 = λ k. KeepsClocked s k in
        record {
          here = one.to;
          still = one.at.still;
          goes = goes_trans a.told b.told c.told _ one.to _ one.goes (subst Q there (listed k c answer one.to s lists.called one.at));
          keeps = subst R (sym same) one.keeps;
        };
  }

  -- memory ran out behind that
  pub listed_memory : (c : Standing) → AsksNames b c p → WalkFails a c settings walk NoMemory
  listed_memory c asks = record {
    runs = λ k here s still keeps.
        let one = comes k here s still keeps in
        halts_after a.told b.told c.told _ one.to NoMemory one.goes (asked_halts k c asks.answer one.to s asks.asked one.at);
  }

-- what was brought of a slice was brought of the walk's lines
pub slice_brought : (a b : Standing) (slice : List (List ℕ)) (walk : PathWalk) (after : Clocked) → slice ≡ walk.before → Brings KeepsClocked a b (news_of slice None []) walk.clocked after
    → Brings KeepsClocked a b (news_of walk.before None []) walk.clocked after
slice_brought a b slice walk after same brought =
    let P : List (List ℕ) → Type 0 = λ ls. Brings KeepsClocked a b (news_of ls None []) walk.clocked after in
    subst P same brought

-- the lines of the last listing could not be said
pub lines_unsaid : (a b : Standing) (settings : Settings) (walk : PathWalk) (p : Path) (ps : List Path) (status : Status) → walk.left.now ≡ p ∷ ps
    → BringFails KeepsClocked a b (news_of walk.before None []) walk.clocked status → WalkFails a b settings walk status
lines_unsaid a b settings walk p ps status left fails = record {
  runs = λ k here s still keeps.
      let P : Run → Type 0 = λ r. Halts a.told b.told r status in
      subst P (sym (goes_on k settings walk p ps s here left))
      (fails.runs here (λ t. here.point) (k.at_names settings (naming_of walk)) s (k.saying settings (naming_of walk)) (record { point = refl; still = still }) keeps);
}

-- memory ran out at once
pub walk_memory : (a : Standing) (settings : Settings) (walk : PathWalk) → WalkFails a a settings walk NoMemory
walk_memory a settings walk = record { runs = λ k here s still keeps. halts_here a.told (walking k settings walk s here) }

pub ruleset naming = (walk_next, listed_memory, lines_unsaid, walk_memory, unbrought_cause)
