-- What an event brings, and how the parts of a run follow each other.
use Rattle.std.proofs.Common.{ℕ, ◌≡◌, Option, Some, None, List, [], ◌++◌, refl, sym, ap, ◌∙◌, subst}
use Rattle.f2b_base.specs.declared.input.What.{What}
use Rattle.f2b_world.specs.Told.{Standing}
use Rattle.f2b_model.specs.Storable.{IsStorableInput}
use Rattle.run_law.specs.Disk.{broken}
use Rattle.run_law.specs.Law.{Goes, Halts}
use Rattle.run_law.specs.News.{News, after_news, brings, brings_by, closing, entered, entering, goes_to, lines_in, owing, refused, said_number, server_after, taking, writing}
use Rattle.run_law.specs.Points.{Point, Run}
use Rattle.run_law.specs.Server.{Server, entry_in, input_at, taken}
use Rattle.run_law.specs.Stages.{IsAt, IsSaying, IsStill, Reaches, Moves, MoveFails, Brought, Brings, BringFails, Owes, Says, SayFails, Refuses}
use Rattle.run_law.specs.declared.status.Status.{Status}
use Rattle.run_law.specs.declared.status.Status.TheVariants.{DiskFault, JournalFull, NumbersSpent, NoMemory}
use Rattle.run_law.proofs.PointLemmas.{goes_refl, goes_trans, halts_after, halts_here}
use Rattle.run_law.proofs.WriteLemmas.{breaks_goes, performs_goes, stops_short}
use Rattle.slot_writes.specs.Entries.{Entry, Written, Full, Spent}
use Rattle.slot_writes.specs.Writes.{Write, Performs, Breaks, StopsShort}
use Rattle.slot_writes.specs.declared.position.Position.{Position}

-- ---- what `brings` is, by what the news are

-- lines alone
is_told : (news : News) (next : Server → Point) (s : Server) (r : Run) → news.what ≡ None → brings news next s r ≡ owing (news.before ++ news.behind) (goes_to (next s) r)
unfolding brings
is_told news next s r is = ap (λ (o : Option What). brings_by o news next s r) is

-- an input that is written
is_written : (news : News) (what : What) (next : Server → Point) (s : Server) (r : Run) (after : Position) (ws : List Write) → news.what ≡ Some what → entry_in s what ≡ Written after ws
    → brings news next s r ≡ writing ws (taking news what next s r)
unfolding brings
is_written news what next s r after ws is entry = ap (λ (o : Option What). brings_by o news next s r) is ∙ ap (λ (e : Entry). entered e news what next s r) entry

-- an input that no number is left for
is_spent : (news : News) (what : What) (next : Server → Point) (s : Server) (r : Run) → news.what ≡ Some what → entry_in s what ≡ Spent
    → brings news next s r ≡ refused s.now NumbersSpent (entering (input_at s what) r)
unfolding brings
is_spent news what next s r is entry = ap (λ (o : Option What). brings_by o news next s r) is ∙ ap (λ (e : Entry). entered e news what next s r) entry

-- an input that there is no room for
is_full : (news : News) (what : What) (next : Server → Point) (s : Server) (r : Run) (need : ℕ) → news.what ≡ Some what → entry_in s what ≡ Full need
    → brings news next s r ≡ refused s.now (JournalFull (said_number need) s.position.limit) (entering (input_at s what) r)
unfolding brings
is_full news what next s r need is entry = ap (λ (o : Option What). brings_by o news next s r) is ∙ ap (λ (e : Entry). entered e news what next s r) entry

-- a run whose lines were all said owes just the new ones
owes_new : (r : Run) (there : Point) (lines : List (List ℕ)) → IsStill r → IsSaying there → Owes (owing lines (goes_to there r)) lines
owes_new r there lines still saying = record { written = still.written; owed = ap (λ (ls : List (List ℕ)). ls ++ lines) still.paid; saying = saying }

-- a run whose last input was closed owes just its lines
owes_closed : (news : News) (what : What) (next : Server → Point) (s : Server) (r : Run) → r.owed ≡ [] → IsSaying (next (taken what s)) → Owes (closing (taking news what next s r)) (lines_in news what s)
owes_closed news what next s r paid saying = record { written = refl; owed = ap (λ (ls : List (List ℕ)). ls ++ lines_in news what s) paid; saying = saying }

module _ {C : Type 0} (Keeps : Server → C → Type 0) where
  -- ---- behind an event that brings something

  -- the input was written, and its lines were said
  pub brings_taken : (a m b : Standing) (news : News) (what : What) (r : Run) (at next : Server → Point) (s : Server) (at_end : Position) (ws : List Write) (after : C)
      → ((t : Server) → IsSaying (next t)) → IsAt r (at s) → news.what ≡ Some what → entry_in s what ≡ Written at_end ws → IsStorableInput (input_at s what)
      → Performs ws a.told m.told → Says m b (lines_in news what s) → Keeps (taken what s) after
      → Brought Keeps a b (brings news next s r) (next (after_news news s)) (after_news news s) after
  brings_taken a m b news what r at next s at_end ws after saying is_at is entry stored performs says keeps =
      let there : taken what s ≡ after_news news s = ap (λ (o : Option What). server_after o s) (sym is) in
      let P : Run → Type 0 = λ x. Brought Keeps a b x (next (taken what s)) (taken what s) after in
      let Q : Server → Type 0 = λ t. Brought Keeps a b (brings news next s r) (next t) t after in
      let mid = taking news what next s r in
      let done = closing mid in
      subst Q there (subst P (sym (is_written news what next s r at_end ws is entry)) (record {
        to = record done { said = r.said ++ lines_in news what s; owed = [] };
        goes = goes_trans a.told m.told b.told _ done _ (performs_goes mid stored ws a.told m.told performs) (says.runs done (owes_closed news what next s r is_at.still.paid (saying (taken what s))));
        at = record { point = refl; still = record { written = refl; paid = refl } };
        keeps = keeps;
      }))

  -- lines alone were said
  pub brings_told : (a b : Standing) (news : News) (r : Run) (at next : Server → Point) (s : Server) (after : C) → ((t : Server) → IsSaying (next t)) → IsAt r (at s)
      → news.what ≡ None → Says a b (news.before ++ news.behind) → Keeps s after → Brought Keeps a b (brings news next s r) (next (after_news news s)) (after_news news s) after
  brings_told a b news r at next s after saying is_at is says keeps =
      let there : s ≡ after_news news s = ap (λ (o : Option What). server_after o s) (sym is) in
      let P : Run → Type 0 = λ x. Brought Keeps a b x (next s) s after in
      let Q : Server → Type 0 = λ t. Brought Keeps a b (brings news next s r) (next t) t after in
      let mid = owing (news.before ++ news.behind) (goes_to (next s) r) in
      subst Q there (subst P (sym (is_told news next s r is)) (record {
        to = record mid { said = r.said ++ (news.before ++ news.behind); owed = [] };
        goes = says.runs mid (owes_new r (next s) (news.before ++ news.behind) is_at.still (saying s));
        at = record { point = refl; still = record { written = is_at.still.written; paid = refl } };
        keeps = keeps;
      }))

  -- the input was written, and its lines could not be said
  pub fails_taken : (a m b : Standing) (news : News) (what : What) (r : Run) (at next : Server → Point) (s : Server) (at_end : Position) (ws : List Write) (status : Status)
      → ((t : Server) → IsSaying (next t)) → IsAt r (at s) → news.what ≡ Some what → entry_in s what ≡ Written at_end ws → IsStorableInput (input_at s what)
      → Performs ws a.told m.told → SayFails m b (lines_in news what s) status → Halts a.told b.told (brings news next s r) status
  fails_taken a m b news what r at next s at_end ws status saying is_at is entry stored performs fails =
      let P : Run → Type 0 = λ x. Halts a.told b.told x status in
      let mid = taking news what next s r in
      subst P (sym (is_written news what next s r at_end ws is entry)) (halts_after a.told m.told b.told _ (closing mid) status (performs_goes mid stored ws a.told m.told performs)
      (fails.runs (closing mid) (owes_closed news what next s r is_at.still.paid (saying (taken what s)))))

  -- The disk failed while the input was written. The run ends with that once it is said, or since that could not be said.
  pub fails_broken : (a m b : Standing) (news : News) (what : What) (r : Run) (at next : Server → Point) (s : Server) (at_end : Position) (ws : List Write) (status : Status)
      → IsAt r (at s) → news.what ≡ Some what → entry_in s what ≡ Written at_end ws → IsStorableInput (input_at s what)
      → Breaks ws a.told m.told → Refuses m b s.now DiskFault status → Halts a.told b.told (brings news next s r) status
  fails_broken a m b news what r at next s at_end ws status is_at is entry stored breaks refuses =
      let P : Run → Type 0 = λ x. Halts a.told b.told x status in
      let mid = taking news what next s r in
      let calm : Run = record mid { owed = []; writes = []; held = [] } in
      subst P (sym (is_written news what next s r at_end ws is entry)) (halts_after a.told m.told b.told _ (broken mid) status (breaks_goes mid stored ws a.told m.told breaks)
      (refuses.runs calm (record { written = refl; paid = refl })))

  -- memory ran out while it was written
  pub fails_short : (a b : Standing) (news : News) (what : What) (r : Run) (next : Server → Point) (s : Server) (at_end : Position) (ws : List Write)
      → news.what ≡ Some what → entry_in s what ≡ Written at_end ws → IsStorableInput (input_at s what) → StopsShort ws a.told b.told → Halts a.told b.told (brings news next s r) NoMemory
  fails_short a b news what r next s at_end ws is entry stored stops =
      let P : Run → Type 0 = λ x. Halts a.told b.told x NoMemory in
      subst P (sym (is_written news what next s r at_end ws is entry)) (stops_short (taking news what next s r) stored ws a.told b.told stops)

  -- lines alone could not be said
  pub fails_told : (a b : Standing) (news : News) (r : Run) (at next : Server → Point) (s : Server) (status : Status) → ((t : Server) → IsSaying (next t)) → IsAt r (at s)
      → news.what ≡ None → SayFails a b (news.before ++ news.behind) status → Halts a.told b.told (brings news next s r) status
  fails_told a b news r at next s status saying is_at is fails =
      let P : Run → Type 0 = λ x. Halts a.told b.told x status in
      subst P (sym (is_told news next s r is)) (fails.runs _ (owes_new r (next s) (news.before ++ news.behind) is_at.still (saying s)))

  still_entering : (r : Run) (what : What) (s : Server) → IsStill r → IsStill (entering (input_at s what) r)
  still_entering r what s still = record { written = still.written; paid = still.paid }

  -- no number was left for an input
  pub fails_spent : (a b : Standing) (news : News) (what : What) (r : Run) (at next : Server → Point) (s : Server) (status : Status) → IsAt r (at s)
      → news.what ≡ Some what → entry_in s what ≡ Spent → Refuses a b s.now NumbersSpent status → Halts a.told b.told (brings news next s r) status
  fails_spent a b news what r at next s status is_at is entry refuses =
      let P : Run → Type 0 = λ x. Halts a.told b.told x status in
      subst P (sym (is_spent news what next s r is entry)) (refuses.runs (entering (input_at s what) r) (still_entering r what s is_at.still))

  -- no room was left for it
  pub fails_full : (a b : Standing) (news : News) (what : What) (r : Run) (at next : Server → Point) (s : Server) (need : ℕ) (status : Status) → IsAt r (at s)
      → news.what ≡ Some what → entry_in s what ≡ Full need → Refuses a b s.now (JournalFull (said_number need) s.position.limit) status → Halts a.told b.told (brings news next s r) status
  fails_full a b news what r at next s need status is_at is entry refuses =
      let P : Run → Type 0 = λ x. Halts a.told b.told x status in
      subst P (sym (is_full news what next s r need is entry)) (refuses.runs (entering (input_at s what) r) (still_entering r what s is_at.still))

  -- memory ran out behind the event
  pub fails_early : (a : Standing) (news : Server → News) (before : C) → BringFails Keeps a a news before NoMemory
  fails_early a news before = record { runs = λ r at next s saying is_at keeps. halts_here a.told (brings (news s) next s r) }

  -- the same news, in other words
  pub brings_same : (a b : Standing) (news other : Server → News) (before after : C) → ((s : Server) → Keeps s before → news s ≡ other s) → Brings Keeps a b other before after
      → Brings Keeps a b news before after
  brings_same a b news other before after same brought = record {
    runs = λ r at next s saying is_at keeps.
        let P : News → Type 0 = λ n. Brought Keeps a b (brings n next s r) (next (after_news n s)) (after_news n s) after in
        subst P (sym (same s keeps)) (brought.runs r at next s saying is_at keeps);
  }

  pub fails_same : (a b : Standing) (news other : Server → News) (before : C) (status : Status) → ((s : Server) → Keeps s before → news s ≡ other s) → BringFails Keeps a b other before status
      → BringFails Keeps a b news before status
  fails_same a b news other before status same fails = record {
    runs = λ r at next s saying is_at keeps.
        let P : News → Type 0 = λ n. Halts a.told b.told (brings n next s r) status in
        subst P (sym (same s keeps)) (fails.runs r at next s saying is_at keeps);
  }

  -- ---- one part of a run behind another

  -- a part that does nothing
  pub moves_none : (a : Standing) (from : Server → Point) (kept : C) → Moves Keeps a a from from kept kept
  moves_none a from kept = record { runs = λ r s at keeps. record { to = r; server = s; goes = goes_refl a.told r; at = at; keeps = keeps } }

  -- two parts are one
  pub moves_trans : (a b c : Standing) (from mid to : Server → Point) (before between after : C) → Moves Keeps a b from mid before between → Moves Keeps b c mid to between after
      → Moves Keeps a c from to before after
  moves_trans a b c from mid to before between after p q = record {
    runs = λ r s at keeps.
        let one = p.runs r s at keeps in
        let two = q.runs one.to one.server one.at one.keeps in
        record { to = two.to; server = two.server; goes = goes_trans a.told b.told c.told r one.to two.to one.goes two.goes; at = two.at; keeps = two.keeps };
  }

  -- the run ends in the second part
  pub move_fails_on : (a b c : Standing) (from mid : Server → Point) (before between : C) (status : Status) → Moves Keeps a b from mid before between → MoveFails Keeps b c mid between status
      → MoveFails Keeps a c from before status
  move_fails_on a b c from mid before between status p q = record {
    runs = λ r s at keeps.
        let one = p.runs r s at keeps in
        halts_after a.told b.told c.told r one.to status one.goes (q.runs one.to one.server one.at one.keeps);
  }

  -- memory ran out before anything happened
  pub move_fails_here : (a : Standing) (from : Server → Point) (kept : C) → MoveFails Keeps a a from kept NoMemory
  move_fails_here a from kept = record { runs = λ r s at keeps. halts_here a.told r }

  -- where one point is another for what the code keeps
  pub moves_as : (a b : Standing) (from first to last : Server → Point) (before after : C) → ((s : Server) → Keeps s before → from s ≡ first s) → ((s : Server) → Keeps s after → last s ≡ to s)
      → Moves Keeps a b first last before after → Moves Keeps a b from to before after
  moves_as a b from first to last before after begins ends moves = record {
    runs = λ r s at keeps.
        let one = moves.runs r s (record { point = at.point ∙ begins s keeps; still = at.still }) keeps in
        record { to = one.to; server = one.server; goes = one.goes; at = record { point = one.at.point ∙ ends one.server one.keeps; still = one.at.still }; keeps = one.keeps };
  }

  pub fails_as : (a b : Standing) (from first : Server → Point) (before : C) (status : Status) → ((s : Server) → Keeps s before → from s ≡ first s) → MoveFails Keeps a b first before status
      → MoveFails Keeps a b from before status
  fails_as a b from first before status begins fails = record {
    runs = λ r s at keeps. fails.runs r s (record { point = at.point ∙ begins s keeps; still = at.still }) keeps;
  }

  -- ---- behind an event

  -- the run only goes to a point
  pub reaches_plain : (a b : Standing) (r : Run) (from there : Point) (next : Server → Point) (s : Server) (after : C) → IsAt r from → Goes a.told b.told r (goes_to there r) → there ≡ next s → Keeps s after
      → Reaches Keeps a b r next after
  reaches_plain a b r from there next s after at goes is keeps = record { to = goes_to there r; server = s; goes = goes; at = record { point = is; still = record { written = at.still.written; paid = at.still.paid } }; keeps = keeps }

  -- the event brought something
  pub reaches_brought : (a b c : Standing) (r : Run) (at next : Server → Point) (news : Server → News) (s : Server) (mid after : C) → ((t : Server) → IsSaying (next t)) → IsAt r (at s)
      → Goes a.told b.told r (brings (news s) next s r) → Keeps s mid → Brings Keeps b c news mid after → Reaches Keeps a c r next after
  reaches_brought a b c r at next news s mid after saying is_at goes keeps brought =
      let one = brought.runs r at next s saying is_at keeps in
      record { to = one.to; server = after_news (news s) s; goes = goes_trans a.told b.told c.told r _ one.to goes one.goes; at = one.at; keeps = one.keeps }

  -- what the event brought could not be taken
  pub halts_bringing : (a b c : Standing) (r : Run) (at next : Server → Point) (news : Server → News) (s : Server) (mid : C) (status : Status) → ((t : Server) → IsSaying (next t)) → IsAt r (at s)
      → Goes a.told b.told r (brings (news s) next s r) → Keeps s mid → BringFails Keeps b c news mid status → Halts a.told c.told r status
  halts_bringing a b c r at next news s mid status saying is_at goes keeps fails =
      halts_after a.told b.told c.told r (brings (news s) next s r) status goes (fails.runs r at next s saying is_at keeps)

-- What was brought for a part of what the code keeps was brought for all of it, where the rest is not touched by an input.
module _ {C D : Type 0} (Keeps : Server → C → Type 0) (KeepsAll : Server → D → Type 0) where
  pub brings_beside : (a b : Standing) (news : Server → News) (before after : C) (whole changed : D) → ((s : Server) → KeepsAll s whole → Keeps s before)
      → ((s : Server) → KeepsAll s whole → Keeps (after_news (news s) s) after → KeepsAll (after_news (news s) s) changed) → Brings Keeps a b news before after
      → Brings KeepsAll a b news whole changed
  brings_beside a b news before after whole changed part rest brought = record {
    runs = λ r at next s saying is_at keeps.
        let one = brought.runs r at next s saying is_at (part s keeps) in
        record { to = one.to; goes = one.goes; at = one.at; keeps = rest s keeps one.keeps };
  }

  pub fails_beside : (a b : Standing) (news : Server → News) (before : C) (whole : D) (status : Status) → ((s : Server) → KeepsAll s whole → Keeps s before) → BringFails Keeps a b news before status
      → BringFails KeepsAll a b news whole status
  fails_beside a b news before whole status part fails = record { runs = λ r at next s saying is_at keeps. fails.runs r at next s saying is_at (part s keeps) }
