-- What is brought leads to the same, from whatever point it comes.
use Rattle.std.proofs.Common.{ℕ, ◌≡◌, Option, Some, None, refl}
use Rattle.f2b_base.specs.declared.input.What.{What}
use Rattle.run_law.specs.News.{News, brings, brings_by, entered, goes_to}
use Rattle.run_law.specs.Points.{Point, Run}
use Rattle.run_law.specs.Server.{Server, entry_in}
use Rattle.slot_writes.specs.Entries.{Entry, Written, Full, Spent}

entered_any : (e : Entry) (news : News) (what : What) (next : Server → Point) (s : Server) (point : Point) (r : Run) → entered e news what next s (goes_to point r) ≡ entered e news what next s r
entered_any (Written position writes) news what next s point r = refl
entered_any (Full need) news what next s point r = refl
entered_any Spent news what next s point r = refl

by_any : (o : Option What) (news : News) (next : Server → Point) (s : Server) (point : Point) (r : Run) → brings_by o news next s (goes_to point r) ≡ brings_by o news next s r
by_any None news next s point r = refl
by_any (Some what) news next s point r = entered_any (entry_in s what) news what next s point r

pub brings_any : (news : News) (next : Server → Point) (s : Server) (point : Point) (r : Run) → brings news next s (goes_to point r) ≡ brings news next s r
unfolding brings
brings_any news next s point r = by_any news.what news next s point r
