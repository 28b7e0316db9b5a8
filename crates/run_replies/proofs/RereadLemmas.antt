-- What each event comes to while a configuration is read again for a client: the reading goes on, or the client is answered.
use Rattle.std.proofs.Common.{ℕ, ◌≡◌, ◌⊎◌, inl, inr, List, [], ◌∷◌, ◌++◌, Option, Some, None, Result, Ok, Err, refl, sym, subst}
use Rattle.client_frames.specs.declared.answer.Answer.{Answer}
use Rattle.client_table.specs.Clients.{answered, changed_at}
use Rattle.f2b_base.specs.declared.outside.TreeAnswer.{TreeAnswer}
use Rattle.f2b_base.specs.declared.outside.TreeAnswer.TheVariants.{Tree, Failed as TreeFailed, TooLarge as TreeTooLarge, NoMemory as TreeNoMemory}
use Rattle.f2b_world.specs.declared.answer.MakeAnswer.{MakeAnswer}
use Rattle.f2b_world.specs.declared.answer.MakeAnswer.TheVariants.{Built, Syntax as WasSyntax, TooBig as WasTooBig}
use Rattle.f2b_world.specs.declared.answer.Said.TheVariants.{Done as SayDone, Failed as SayFailed}
use Rattle.f2b_world.specs.declared.answer.Wrote.TheVariants.{Done as WroteDone, Failed as WroteFailed, NoMemory as WroteNoMemory}
use Rattle.f2b_world.specs.declared.event.Event.{Event}
use Rattle.f2b_world.specs.declared.event.Event.TheVariants.{Say, DiskLen, DiskRead, DiskWrite, DiskSync, Make, Config, Names}
use Rattle.filter_regex.specs.declared.error.BuildKind.TheVariants.{Syntax, TooBig}
use Rattle.jail_conf.specs.Conf.{conf}
use Rattle.jail_conf.specs.declared.conf_error.ConfError.{ConfError}
use Rattle.jail_conf.specs.declared.settings.Settings.{Settings}
use Rattle.run_law.specs.Calls.{Call, AskSay, AskTree, IsNext, Makes}
use Rattle.run_law.specs.Disk.{IsLoading}
use Rattle.run_law.specs.Law.{MayCome, call_of, feed, moved, next_call, point_call}
use Rattle.run_law.specs.News.{brings}
use Rattle.run_law.specs.Paths.{Naming, Path, first_naming, named, with_paths}
use Rattle.run_law.specs.Patterns.{Pattern, patterns_of}
use Rattle.run_law.specs.Points.{Rereading, OfTree, OfMakes, OfNames, AtReload, Point, AtTurn, Run}
use Rattle.run_law.specs.Reading.{make_call, makes_one, names_call, names_in, names_next, read_as, reads_tree, unread_by}
use Rattle.run_law.specs.Reload.{left_for, names_for, taken_for, untaken_for}
use Rattle.run_law.specs.Requests.{Answers, ReadsAgain, Response}
use Rattle.run_law.specs.Said.{joined}
use Rattle.run_law.specs.Server.{Server}
use Rattle.run_law.specs.Stages.{IsStill}
use Rattle.run_law.specs.declared.plan.Plan.{Plan}
use Rattle.run_law.specs.declared.status.Status.{Status}
use Rattle.run_law.specs.declared.status.Status.TheVariants.{ConfFault, ConfRefused, ConfTooLarge, PatternRefused}
use Rattle.run_law.proofs.DiskLemmas.{written_call}
use Rattle.run_replies.specs.Replied.{IsAnswer, by_definition, by_makes, by_reading, taken, untaken}
use Rattle.run_replies.proofs.PlaceLemmas.{HasClients, has_taken, has_untaken}

-- what is replied by the events that come next, where a reading stands there
abbrev pub by_rest : Rereading → List Event → Option Answer
by_rest OfTree es = by_reading es
by_rest (OfMakes settings left) es = by_makes left es
by_rest (OfNames settings naming) es = Some taken

-- ---- what is replied by some events is replied by these and others

none_given : (given : Answer) → None ≡ Some given → ⊥
none_given given e = absurd (let both : None ≡ Some given = e in cc)

makes_more : (ps : List Pattern) (es others : List Event) (given : Answer) → by_makes ps es ≡ Some given → by_makes ps (es ++ others) ≡ Some given
makes_more [] es others given is = is
makes_more (p ∷ ps) [] others given is = absurd (none_given given is)
makes_more (p ∷ ps) (Make text Built ∷ es) others given is = makes_more ps es others given is
makes_more (p ∷ ps) (Make text WasSyntax ∷ es) others given is = is
makes_more (p ∷ ps) (Make text WasTooBig ∷ es) others given is = is
makes_more (p ∷ ps) (_ ∷ es) others given is = absurd (none_given given is)

defined_more : (o : Result Settings ConfError) (es others : List Event) (given : Answer) → by_definition o es ≡ Some given → by_definition o (es ++ others) ≡ Some given
defined_more (Ok settings) es others given is = makes_more (patterns_of settings.defs) es others given is
defined_more (Err error) es others given is = is

reading_more : (es others : List Event) (given : Answer) → by_reading es ≡ Some given → by_reading (es ++ others) ≡ Some given
reading_more [] others given is = absurd (none_given given is)
reading_more (Config root (Tree tree) ∷ es) others given is = defined_more (conf tree) es others given is
reading_more (Config root TreeFailed ∷ es) others given is = is
reading_more (Config root TreeTooLarge ∷ es) others given is = is
reading_more (Config root TreeNoMemory ∷ es) others given is = reading_more es others given is
reading_more (_ ∷ es) others given is = absurd (none_given given is)

pub answer_stays : (response : Response) (es others : List Event) (given : Answer) → IsAnswer response es given → IsAnswer response (es ++ others) given
answer_stays (Answers replied news) es others given is = is
answer_stays ReadsAgain es others given is = reading_more es others given is

-- ---- where a run stands

-- nothing is left to write there, and nothing to say until names are asked for
abbrev pub IsQuiet : Rereading → Run → Type 0
IsQuiet (OfNames settings naming) r = r.writes ≡ []
IsQuiet _ r = IsStill r

-- ---- what an event comes to

-- These are what is replied by the events behind it, the client's place, the server before, and the run after.
module _ (rest : List Event → Option Answer) (i : ℕ) (s : Server) (after : Run) where
  -- the reading goes on
  pub record ReadsOn : Type 0 where
    pub reading : Rereading
    pub at : after.point ≡ AtTurn (AtReload reading i) s
    pub quiet : IsQuiet reading after
    pub same : (later : List Event) → rest later ≡ by_rest reading later

  -- the client is answered, and no other is read for
  pub record IsAnswered : Type 0 where
    pub given : Answer
    pub same : (later : List Event) → rest later ≡ Some given
    pub clients : HasClients (λ cs. cs ≡ changed_at i (answered given) s.clients) (λ j cs. ⊥) after.point

  abbrev pub Leads : Type 0
  Leads = ReadsOn ⊎ IsAnswered

module _ (i : ℕ) (s : Server) (r : Run) where
  untaken_leads : (status : Status) → Leads (λ later. Some (untaken status)) i s (untaken_for i s status r)
  untaken_leads status = inr (record {
    given = untaken status;
    same = λ later. refl;
    clients = has_untaken (λ cs. cs ≡ changed_at i (answered (untaken status)) s.clients) (λ j cs. ⊥) status i s r refl;
  })

  module _ (written : r.writes ≡ []) where
    names_on : (before : List (List ℕ)) (settings : Settings) (naming : Naming)
        → Leads (λ later. Some taken) i s (brings (record { before = before; what = None; behind = [] }) (names_for i settings naming) s r)
    unfolding brings
    names_on before settings naming = inl (record { reading = OfNames settings naming; at = refl; quiet = written; same = λ later. refl })

    names_lead : (before : List (List ℕ)) (settings : Settings) (naming : Naming) (left : List Path)
        → Leads (λ later. Some taken) i s (names_next (names_for i) (taken_for i) before settings naming left s r)
    names_lead before settings naming [] = inr (record {
      given = taken;
      same = λ later. refl;
      clients = has_taken (λ cs. cs ≡ changed_at i (answered taken) s.clients) (λ j cs. ⊥) before (with_paths settings.defs naming.found) i s r refl;
    })
    names_lead before settings naming (p ∷ ps) = names_on before settings naming

  module _ (still : IsStill r) where
    left_leads : (settings : Settings) (ps : List Pattern) → Leads (by_makes ps) i s (left_for i s settings ps r)
    left_leads settings [] = names_lead still.written [] settings (first_naming settings.defs) (first_naming settings.defs).left
    left_leads settings (p ∷ ps) =
        inl (record { reading = OfMakes settings (p ∷ ps); at = refl; quiet = record { written = still.written; paid = still.paid }; same = λ later. refl })

    defined_leads : (o : Result Settings ConfError) → Leads (by_definition o) i s (read_as (left_for i s) (untaken_for i s) o r)
    defined_leads (Ok settings) = left_leads settings (patterns_of settings.defs)
    defined_leads (Err error) = untaken_leads (ConfRefused error)

    tree_leads : r.point ≡ AtTurn (AtReload OfTree i) s → (root : List ℕ) (answer : TreeAnswer)
        → Leads (λ later. by_reading (Config root answer ∷ later)) i s (reads_tree (left_for i s) (untaken_for i s) answer r)
    tree_leads at root (Tree tree) = defined_leads (conf tree)
    tree_leads at root TreeFailed = untaken_leads ConfFault
    tree_leads at root TreeTooLarge = untaken_leads ConfTooLarge
    tree_leads at root TreeNoMemory = inl (record { reading = OfTree; at = at; quiet = still; same = λ later. refl })

    made_leads : (text : List ℕ) (answer : MakeAnswer) (settings : Settings) (p : Pattern) (ps : List Pattern)
        → Leads (λ later. by_makes (p ∷ ps) (Make text answer ∷ later)) i s (makes_one (left_for i s) (untaken_for i s) answer settings p ps r)
    made_leads text Built settings p ps = left_leads settings ps
    made_leads text WasSyntax settings p ps = untaken_leads (PatternRefused p.jail p.place Syntax)
    made_leads text WasTooBig settings p ps = untaken_leads (PatternRefused p.jail p.place TooBig)

-- ---- the event that comes

-- while no slots are read it is the call that comes next
may_next : (r : Run) (event : Event) → (IsLoading r.point r.owed → ⊥) → MayCome r event → IsNext (next_call r) event
may_next r (DiskLen slot answer) none may = absurd (none may.0)
may_next r (DiskRead slot at len answer) none may = absurd (none may.0)
may_next r (DiskWrite slot at bytes WroteDone) none may = may.0
may_next r (DiskWrite slot at bytes WroteFailed) none may = may.0
may_next r (DiskWrite slot at bytes WroteNoMemory) none may = absurd may
may_next r (DiskSync slot answer) none may = may.0
may_next r event none may = may

module _ (i : ℕ) (s : Server) (r : Run) where
  -- the run behind an event from that point, by what is replied from there on
  abbrev LeadsFrom : Rereading → Event → Type 0
  LeadsFrom reading event = Leads (λ later. by_rest reading (event ∷ later)) i s (feed r event)

  module _ (reading : Rereading) (at : r.point ≡ AtTurn (AtReload reading i) s) where
    -- it is the call of that point, or says what is owed
    next_there : (event : Event) → r.writes ≡ [] → MayCome r event → IsNext (call_of r.plan (AtTurn (AtReload reading i) s) r.owed) event
    next_there event written may =
        let none : IsLoading r.point r.owed → ⊥ = subst (λ (p : Point). IsLoading p r.owed → ⊥) (sym at) (λ loading. loading) in
        let call : next_call r ≡ call_of r.plan r.point r.owed = written_call r.writes (call_of r.plan r.point r.owed) written in
        subst (λ (p : Point). IsNext (call_of r.plan p r.owed) event) at (subst (λ (o : Option Call). IsNext o event) call (may_next r event none may))

    -- where nothing is owed it is the call of that point
    call_there : (event : Event) → IsStill r → MayCome r event → IsNext (point_call r.plan (AtTurn (AtReload reading i) s)) event
    call_there event still may = subst (λ (owed : List (List ℕ)). IsNext (call_of r.plan (AtTurn (AtReload reading i) s) owed) event) still.paid (next_there event still.written may)

  of_tree : r.point ≡ AtTurn (AtReload OfTree i) s → IsStill r → (root : List ℕ) (event : Event) → Makes (AskTree root) event → LeadsFrom OfTree event
  of_tree at still root (Config there answer) makes =
      subst (λ (p : Point). Leads (λ later. by_reading (Config there answer ∷ later)) i s (moved p (Config there answer) r)) (sym at) (tree_leads i s r still at there answer)
  of_tree at still root event makes = absurd makes

  of_makes : (settings : Settings) (left : List Pattern) → r.point ≡ AtTurn (AtReload (OfMakes settings left) i) s → IsStill r → (event : Event) → IsNext (make_call left) event
      → LeadsFrom (OfMakes settings left) event
  of_makes settings [] at still event next = absurd next
  of_makes settings (p ∷ ps) at still (Make text answer) next =
      subst (λ (q : Point). Leads (λ later. by_makes (p ∷ ps) (Make text answer ∷ later)) i s (moved q (Make text answer) r)) (sym at) (made_leads i s r still text answer settings p ps)
  of_makes settings (p ∷ ps) at still event next = absurd next

  module _ (settings : Settings) (naming : Naming) (at : r.point ≡ AtTurn (AtReload (OfNames settings naming) i) s) (written : r.writes ≡ []) where
    of_names : (left : List Path) (event : Event) → IsNext (names_call left) event → LeadsFrom (OfNames settings naming) event
    of_names [] event next = absurd next
    of_names (p ∷ ps) (Names dir answer) next =
        let named_now : Naming = named (names_in answer) naming in
        subst (λ (q : Point). Leads (λ later. Some taken) i s (moved q (Names dir answer) r)) (sym at)
        (names_lead i s r written (unread_by answer s.now naming.left) settings named_now named_now.left)
    of_names (p ∷ ps) event next = absurd next

    -- what could not be said ends the run; the configuration was taken
    of_says : (text : List ℕ) (event : Event) → Makes (AskSay text) event → LeadsFrom (OfNames settings naming) event
    of_says text (Say bytes SayDone) makes = inl (record { reading = OfNames settings naming; at = at; quiet = written; same = λ later. refl })
    of_says text (Say bytes SayFailed) makes = inr (record { given = taken; same = λ later. refl; clients = tt })
    of_says text event makes = absurd makes

    of_next : (plan : Plan) (owed : List (List ℕ)) (event : Event) → IsNext (call_of plan (AtTurn (AtReload (OfNames settings naming) i) s) owed) event → LeadsFrom (OfNames settings naming) event
    of_next plan [] event next = of_names naming.left event next
    of_next plan (line ∷ lines) event next = of_says (joined (line ∷ lines)) event next

  pub leads_by : (reading : Rereading) (event : Event) → r.point ≡ AtTurn (AtReload reading i) s → IsQuiet reading r → MayCome r event → LeadsFrom reading event
  leads_by OfTree event at quiet may = of_tree at quiet r.plan.root event (call_there OfTree at event quiet may)
  leads_by (OfMakes settings left) event at quiet may = of_makes settings left at quiet event (call_there (OfMakes settings left) at event quiet may)
  leads_by (OfNames settings naming) event at quiet may = of_next settings naming at quiet r.plan r.owed event (next_there (OfNames settings naming) at event quiet may)
