-- The numbers of a run's clients stay those that are in use.
use Rattle.std.proofs.Common.{ℕ, ◌≡◌, false, List, [], ◌∷◌, ◌++◌, Option, Some, refl, sym, ◌∙◌, subst}
use Rattle.std.specs.List.{remove}
use Rattle.client_table.specs.Clients.{Client, accepted, after_read, after_write, answered, changed_at, heard_at}
use Rattle.client_table.proofs.PlaceLemmas.{map_at}
use Rattle.f2b_world.specs.Told.{History, IsHonest, connected_after, grown, is_in, left_out}
use Rattle.f2b_world.specs.Walks.{Comes}
use Rattle.f2b_world.specs.declared.answer.Accept.{Accept}
use Rattle.f2b_world.specs.declared.answer.Accept.TheVariants.{Conn}
use Rattle.f2b_world.specs.declared.answer.GateRead.{GateRead}
use Rattle.f2b_world.specs.declared.answer.GateRead.TheVariants as read
use Rattle.f2b_world.specs.declared.answer.GateWrite.{GateWrite}
use Rattle.f2b_world.specs.declared.answer.GateWrite.TheVariants as write
use Rattle.f2b_world.specs.declared.event.Event.{Event}
use Rattle.f2b_world.specs.declared.event.Event.TheVariants.{GateAccept, GateRead as ReadFrom, GateWrite as WriteTo, GateClose}
use Rattle.run_law.specs.Law.{Free, MayCome, feed, moved}
use Rattle.run_law.specs.Points.{AtReload, AtTurn, Point, Run}
use Rattle.run_law.specs.Requests.{Answers, ReadsAgain, Response, to_heard}
use Rattle.run_law.specs.Server.{Server}
use Rattle.run_law.specs.Serving.{closes, lets_in, onward_of, reads, responded, serves, writes}
use Rattle.run_replies.proofs.CallLemmas.{accepts_at, closes_at, reads_at, writes_at}
use Rattle.run_replies.proofs.NumberLemmas.{AreNumbered, numbered_added, numbered_changed, numbered_removed}
use Rattle.run_replies.proofs.PlaceLemmas.{HasClients, IsStable, IsThere, Stands, has_fed, has_served}

-- ---- what a call leaves of a client's number

pub keeps_read : (now : ℕ) (answer : GateRead) (c : Client) → (after_read now answer c).conn ≡ c.conn
keeps_read now (read.Bytes bytes) c = refl
keeps_read now read.Quiet c = refl
keeps_read now read.End c = refl
keeps_read now read.Failed c = refl
keeps_read now read.NoMemory c = refl

pub keeps_write : (now : ℕ) (answer : GateWrite) (c : Client) → (after_write now answer c).conn ≡ c.conn
keeps_write now (write.Took count) c = refl
keeps_write now write.Quiet c = refl
keeps_write now write.Failed c = refl

-- ---- numbers in use

connected_on : (used : List ℕ) (xs ys : List Event) → connected_after used (xs ++ ys) ≡ connected_after (connected_after used xs) ys
connected_on used [] ys = refl
connected_on used (GateAccept (Conn conn) ∷ xs) ys = connected_on (conn ∷ used) xs ys
connected_on used (GateClose conn ∷ xs) ys = connected_on (left_out conn used) xs ys
connected_on used (_ ∷ xs) ys = connected_on used xs ys

-- a client that is accepted has a number that is not in use
abbrev pub IsNew : List ℕ → Event → Type 0
IsNew used (GateAccept (Conn conn)) = is_in conn used ≡ false
IsNew used _ = Unit {0}

pub is_new : (g : History) (event : Event) → IsHonest g event → IsNew (connected_after [] g.events) event
is_new g (GateAccept (Conn conn)) honest = honest
is_new g _ honest = tt

-- where a configuration is to be read again, it is for the client that was read
pub there_by : (R : ℕ → List Client → Type 0) (o : Option Response) (place : ℕ) (cs : List Client) → R place cs → IsThere R (onward_of o place) (responded o place cs)
there_by R (Some ReadsAgain) place cs there = there
there_by R _ place cs there = tt

-- the numbers of a run's clients, wherever a configuration is read again
abbrev pub HasNumbers : List ℕ → Point → Type 0
HasNumbers used point = HasClients (AreNumbered used) (λ i cs. Unit {0}) point

module _ (used : List ℕ) where
  numbered_in : (answer : Accept) (s : Server) (r : Run) → IsNew used (GateAccept answer) → AreNumbered used s.clients
      → HasNumbers (connected_after used (GateAccept answer ∷ [])) (serves (lets_in answer s) s r).point
  numbered_in (Conn conn) s r new are =
      has_served (AreNumbered (conn ∷ used)) (λ i cs. Unit {0}) (lets_in (Conn conn) s) s r (numbered_added (accepted conn s.now) used s.clients are new) tt
  numbered_in answer s r new are = has_served (AreNumbered used) (λ i cs. Unit {0}) (lets_in answer s) s r are tt

  numbered_responded : (o : Option Response) (place : ℕ) (cs : List Client) → AreNumbered used cs → AreNumbered used (responded o place cs)
  numbered_responded (Some (Answers given news)) place cs are = numbered_changed (answered given) (λ c. refl) used place cs are
  numbered_responded _ place cs are = are

  numbers_stable : (point : Point) → HasNumbers used point → IsStable (AreNumbered used) point
  numbers_stable (AtTurn (AtReload reading i) s) has = λ given. numbered_changed (answered given) (λ c. refl) used i s.clients has.0
  numbers_stable point has = tt

  numbered_by : (r : Run) (event : Event) → MayCome r event → IsNew used event → HasNumbers used r.point → HasNumbers (connected_after used (event ∷ [])) (feed r event).point
  numbered_by r (GateAccept answer) may new has =
      let there = accepts_at r answer may in
      let here : AreNumbered used there.server.clients = subst (λ (p : Point). HasNumbers used p) there.at has in
      subst (λ (p : Point). HasNumbers (connected_after used (GateAccept answer ∷ [])) (moved p (GateAccept answer) r).point) (sym there.at) (numbered_in answer there.server r new here)
  numbered_by r (ReadFrom conn max answer) may new has =
      let there = reads_at r conn max answer may in
      let s : Server = there.server in
      let o : Option Response = to_heard s.now s.state (heard_at answer there.place s.clients) in
      let cs : List Client = changed_at there.place (after_read s.now answer) s.clients in
      let here : AreNumbered used s.clients = subst (λ (p : Point). HasNumbers used p) there.at has in
      subst (λ (p : Point). HasNumbers used (moved p (ReadFrom conn max answer) r).point) (sym there.at)
      (has_served (AreNumbered used) (λ i cs. Unit {0}) (reads answer there.place s) s r
      (numbered_responded o there.place cs (numbered_changed (after_read s.now answer) (keeps_read s.now answer) used there.place s.clients here))
      (there_by (λ i cs. Unit {0}) o there.place cs tt))
  numbered_by r (WriteTo conn bytes answer) may new has =
      let there = writes_at r conn bytes answer may in
      let s : Server = there.server in
      let here : AreNumbered used s.clients = subst (λ (p : Point). HasNumbers used p) there.at has in
      subst (λ (p : Point). HasNumbers used (moved p (WriteTo conn bytes answer) r).point) (sym there.at)
      (has_served (AreNumbered used) (λ i cs. Unit {0}) (writes answer there.place s) s r
      (numbered_changed (after_write s.now answer) (keeps_write s.now answer) used there.place s.clients here) tt)
  numbered_by r (GateClose conn) may new has =
      let there = closes_at r conn may in
      let s : Server = there.server in
      let here : AreNumbered used s.clients × Stands there.place s.clients = subst (λ (p : Point). HasNumbers used p) there.at has in
      let number : conn ≡ here.1.0.conn = there.number ∙ map_at (λ (c : Client). c.conn) 0 s.clients there.place here.1.0 here.1.1 in
      subst (λ (p : Point). HasNumbers (left_out conn used) (moved p (GateClose conn) r).point) (sym there.at)
      (has_served (AreNumbered (left_out conn used)) (λ i cs. Unit {0}) (closes there.place s) s r
      (subst (λ (n : ℕ). AreNumbered (left_out n used) (remove s.clients there.place)) (sym number) (numbered_removed used there.place s.clients here.1.0 here.0 here.1.1)) tt)
  numbered_by r event may new has = has_fed (AreNumbered used) (λ i cs. Unit {0}) r event tt (numbers_stable r.point has) has

-- the clients of a run have the numbers that are in use
abbrev pub Numbered : History → Run → Type 0
Numbered g r = HasNumbers (connected_after [] g.events) r.point

pub numbered_on : (g : History) (r : Run) (event : Event) → Comes feed MayCome Free r g event → Numbered g r → Numbered (grown g (event ∷ [])) (feed r event)
numbered_on g r event comes has =
    subst (λ (used : List ℕ). HasNumbers used (feed r event).point) (sym (connected_on [] g.events (event ∷ [])))
    (numbered_by (connected_after [] g.events) r event comes.allowed (is_new g event comes.honest) has)
