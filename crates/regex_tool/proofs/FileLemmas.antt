-- Files that are read, and a log that is read piece by piece.
use Rattle.std.proofs.Common.{◌≡◌, ◌≢◌, ℕ, zero, suc, ◌+◌, ◌-◌, ◌<◌, ◌≤◌, Bool, true, false, List, [], ◌∷◌, ◌++◌, length, length-append, take, drop, Option, Some, None, IfSome, inl, inr, refl, sym, ap, subst, ◌∙◌, arith}
use Rattle.f2b_world.specs.Faults.{Fault, OfFiles, Counted, Rose}
use Rattle.f2b_base.specs.declared.outside.TreeAnswer.{TreeAnswer}
use Rattle.f2b_base.specs.declared.outside.TreeAnswer.TheVariants.{Tree as IsATree, Failed as TreeFailed, TooLarge as TreeTooLarge, NoMemory as TreeNoMemory}
use Rattle.f2b_world.specs.Shelves.{Shelf, IsPieceAt, piece_fault, tree_fault}
use Rattle.f2b_world.specs.declared.answer.FilePiece.{FilePiece}
use Rattle.f2b_world.specs.Told.{Standing, Leaves, Opened}
use Rattle.f2b_world.specs.declared.answer.FilePiece.TheVariants.{Bytes as PieceBytes, Absent as PieceAbsent, Failed as PieceFailed, NoMemory as PieceNoMemory}
use Rattle.f2b_base.specs.declared.jail.JailDef.{JailDef}
use Rattle.log_follow.specs.Lines.{line_of}
use Rattle.regex_tool.specs.Asks.{Asks}
use Rattle.regex_tool.specs.Logs.{log_lines}
use Rattle.regex_tool.specs.Readings.{IsOpened, IsWholeLog, IsNoLog, IsLogRead, IsOfLog}
use Rattle.regex_tool.specs.Results.{AreResults, HasRead}
use Rattle.regex_tool.specs.declared.results.Results.{Results}
use Rattle.regex_tool.specs.declared.shows.Shows.{Shows}
use Rattle.regex_tool.specs.declared.log_test.LogTest.{LogTest}

-- a count that rose since later rose since before
pub rose_since : (old mid new : ℕ) → old ≤ mid → Rose mid new → Rose old new
rose_since old mid new before (inl less) = inl (omega arith)
rose_since old mid new before (inr full) = inr full

-- ---- standings

pub opened_none : (at : Standing) → IsOpened at at
opened_none at = record { told = refl; leaves = record { talk = refl; shelf = refl }; steady = omega arith; still = λ kind other. refl }

pub opened_then : (a b c : Standing) → IsOpened a b → IsOpened b c → IsOpened a c
opened_then a b c one other = record {
  told = other.told ∙ one.told;
  leaves = record { talk = other.leaves.talk ∙ one.leaves.talk; shelf = other.leaves.shelf ∙ one.leaves.shelf };
  steady = omega (arith, one.steady, other.steady);
  still = λ kind apart. other.still kind apart ∙ one.still kind apart;
}

-- a call whose one fault is that of files
pub opened_by : (old new : Standing) (failed : Option Fault) (P : Shelf → Type 0) → ((kind : Fault) → kind ≢ OfFiles → failed ≢ Some kind) → Opened old failed P new → IsOpened old new
opened_by old new failed P only call = record {
  told = call.told;
  leaves = call.leaves;
  steady = call.counts.steady OfFiles;
  still = λ kind apart. call.counts.still kind (only kind apart);
}

is_some_fault : Option Fault → Type 0
is_some_fault None = ⊥
is_some_fault (Some kind) = Unit {0}

fault_or_files : Option Fault → Fault
fault_or_files None = OfFiles
fault_or_files (Some kind) = kind

none_other : (kind : Fault) → None ≡ Some kind → ⊥
unfolding is_some_fault
none_other kind is = subst is_some_fault (sym is) tt

files_other : (kind : Fault) → kind ≢ OfFiles → Some OfFiles ≡ Some kind → ⊥
unfolding fault_or_files
files_other kind other is = other (sym (ap fault_or_files is))

piece_other : (answer : FilePiece) (kind : Fault) → kind ≢ OfFiles → piece_fault answer ≢ Some kind
piece_other (PieceBytes bytes) kind other is = none_other kind is
piece_other PieceAbsent kind other is = none_other kind is
piece_other PieceFailed kind other is = files_other kind other is
piece_other PieceNoMemory kind other is = none_other kind is

tree_other : (answer : TreeAnswer) (kind : Fault) → kind ≢ OfFiles → tree_fault answer ≢ Some kind
tree_other (IsATree tree) kind other is = none_other kind is
tree_other TreeFailed kind other is = files_other kind other is
tree_other TreeTooLarge kind other is = none_other kind is
tree_other TreeNoMemory kind other is = none_other kind is

pub opened_by_piece : (old new : Standing) (answer : FilePiece) (P : Shelf → Type 0) → Opened old (piece_fault answer) P new → IsOpened old new
opened_by_piece old new answer P call = opened_by old new (piece_fault answer) P (piece_other answer) call

pub opened_by_tree : (old new : Standing) (answer : TreeAnswer) (P : Shelf → Type 0) → Opened old (tree_fault answer) P new → IsOpened old new
opened_by_tree old new answer P call = opened_by old new (tree_fault answer) P (tree_other answer) call

-- what a piece tells, of the file as it was at first
pub answered : (old mid new : Standing) (answer one : FilePiece) (path : List ℕ) (at max : ℕ) → answer ≡ one → IsOpened old mid
    → Opened mid (piece_fault answer) (λ shelf. IsPieceAt (shelf path) at max answer) new → IfSome old.shelf (λ shelf. IsPieceAt (shelf path) at max one)
answered old mid new answer one path at max is opened call =
    subst (λ (a : FilePiece). IfSome old.shelf (λ shelf. IsPieceAt (shelf path) at max a)) is
    (subst (λ (s : Option Shelf). IfSome s (λ shelf. IsPieceAt (shelf path) at max answer)) opened.leaves.shelf call.answer)

-- a piece that is not read raised the count of files
pub piece_failed : (old mid new : Standing) (answer : FilePiece) (P : Shelf → Type 0) → answer ≡ PieceFailed → IsOpened old mid → Opened mid (piece_fault answer) P new
    → Rose (old.faults OfFiles) (new.faults OfFiles)
piece_failed old mid new answer P is opened call =
    let cause : IfSome (piece_fault answer) (λ kind. Rose (mid.faults kind) (new.faults kind)) = call.counts.cause in
    rose_since _ _ _ opened.steady (subst (λ (a : FilePiece). IfSome (piece_fault a) (λ kind. Rose (mid.faults kind) (new.faults kind))) is cause)

-- ---- pieces

-- what was read so far, up to a place, is the front of the file
pub record Reads (shelf : Option Shelf) (path : List ℕ) (old : LogTest) (at : ℕ) (test : LogTest) : Type 0 where
  pub seen : List ℕ
  pub at_is : length seen ≡ at
  pub content : IfSome shelf (λ files. (whole : List ℕ) → files path ≡ Some whole → seen ≡ take at whole)
  pub there : IfSome shelf (λ files. 0 < at → (whole : List ℕ) × (files path ≡ Some whole))
  pub reads : (jail : JailDef) (shows : Shows) (now : ℕ) → HasRead jail shows now old [] → HasRead jail shows now test seen

some_or : List ℕ → Option (List ℕ) → List ℕ
some_or other None = other
some_or other (Some a) = a

some_same : (a b : List ℕ) → Some a ≡ Some b → a ≡ b
unfolding some_or
some_same a b is = ap (λ (o : Option (List ℕ)). some_or a o) is

is_there : Option (List ℕ) → Type 0
is_there None = ⊥
is_there (Some a) = Unit {0}

some_none : {A : Type 0} (a : List ℕ) → Some a ≡ None → A
unfolding is_there
some_none a is = absurd (subst is_there is tt)

take_own : (n : ℕ) (bytes : List ℕ) → take (length (take n bytes)) bytes ≡ take n bytes
take_own zero bytes = refl
take_own (suc n) [] = refl
take_own (suc n) (byte ∷ bytes) = ap (λ front. byte ∷ front) (take_own n bytes)

take_of_none : (n : ℕ) → take {A = ℕ} n [] ≡ []
take_of_none zero = refl
take_of_none (suc n) = refl

take_more : (at n : ℕ) (bytes : List ℕ) → take at bytes ++ take n (drop at bytes) ≡ take (at + n) bytes
take_more zero n bytes = let none : n ≡ 0 + n = omega arith in ap (λ k. take k bytes) none
take_more (suc at) n [] = take_of_none n ∙ sym (take_of_none (suc at + n))
take_more (suc at) n (byte ∷ bytes) = ap (λ front. byte ∷ front) (take_more at n bytes) ∙ let next : suc (at + n) ≡ suc at + n = omega arith in ap (λ k. take k (byte ∷ bytes)) next

drop_all : (at max : ℕ) (bytes : List ℕ) → 0 < max → [] ≡ take max (drop at bytes) → take at bytes ≡ bytes
drop_all zero zero bytes some end = absurd (omega arith)
drop_all zero (suc max) [] some end = refl
drop_all zero (suc max) (byte ∷ bytes) some end = let bad : 0 ≡ suc (length (take max bytes)) = ap length end in absurd (omega arith)
drop_all (suc at) max [] some end = refl
drop_all (suc at) max (byte ∷ bytes) some end = ap (λ front. byte ∷ front) (drop_all at max bytes some end)

-- a piece more of the same file
joined : (at max : ℕ) (seen bytes whole : List ℕ) → seen ≡ take at whole → bytes ≡ take max (drop at whole) → seen ++ bytes ≡ take (at + length bytes) whole
joined at max seen bytes whole before piece =
    ap (λ front. front ++ bytes) before
    ∙ (ap (λ more. take at whole ++ more) (piece ∙ sym (take_own max (drop at whole)) ∙ ap (λ more. take (length more) (drop at whole)) (sym piece))
    ∙ take_more at (length bytes) whole)

content_more : (shelf : Option Shelf) (path seen bytes : List ℕ) (at max : ℕ) → IfSome shelf (λ files. (whole : List ℕ) → files path ≡ Some whole → seen ≡ take at whole)
    → IfSome shelf (λ files. IsPieceAt (files path) at max (PieceBytes bytes)) → IfSome shelf (λ files. (whole : List ℕ) → files path ≡ Some whole → seen ++ bytes ≡ take (at + length bytes) whole)
content_more None path seen bytes at max before piece = tt
content_more (Some files) path seen bytes at max before piece = λ whole is.
    joined at max seen bytes whole (before whole is) (piece.2 ∙ ap (λ (all : List ℕ). take max (drop at all)) (some_same piece.0 whole (sym piece.1 ∙ is)))

there_more : (shelf : Option Shelf) (path bytes : List ℕ) (at max next : ℕ) → IfSome shelf (λ files. IsPieceAt (files path) at max (PieceBytes bytes))
    → IfSome shelf (λ files. 0 < next → (whole : List ℕ) × (files path ≡ Some whole))
there_more None path bytes at max next piece = tt
there_more (Some files) path bytes at max next piece = λ some. (piece.0, piece.1)

pub reads_none : (shelf : Option Shelf) (path : List ℕ) (test : LogTest) → Reads shelf path test 0 test
reads_none None path test = record { seen = []; at_is = refl; content = tt; there = tt; reads = λ jail shows now read. read }
reads_none (Some files) path test = record { seen = []; at_is = refl; content = (λ whole is. refl); there = (λ some. absurd (omega arith)); reads = λ jail shows now read. read }

pub reads_more : (shelf : Option Shelf) (path : List ℕ) (old mid new : LogTest) (at max next : ℕ) (bytes fed : List ℕ) → Reads shelf path old at mid
    → IfSome shelf (λ files. IsPieceAt (files path) at max (PieceBytes bytes))
    → ((jail : JailDef) (shows : Shows) (now : ℕ) (seen : List ℕ) → HasRead jail shows now mid seen → HasRead jail shows now new (seen ++ fed))
    → fed ≡ bytes → next ≡ at + length bytes → Reads shelf path old next new
reads_more shelf path old mid new at max next bytes fed before piece feeds same is = subst (λ n. Reads shelf path old n new) (sym is) (record {
  seen = before.seen ++ bytes;
  at_is = length-append before.seen bytes ∙ ap (λ n. n + length bytes) before.at_is;
  content = content_more shelf path before.seen bytes at max before.content piece;
  there = there_more shelf path bytes at max (at + length bytes) piece;
  reads = λ jail shows now read. subst (λ bs. HasRead jail shows now new (before.seen ++ bs)) same (feeds jail shows now before.seen (before.reads jail shows now read));
})

-- ---- the end

whole_content : (shelf : Option Shelf) (path seen : List ℕ) (at max : ℕ) → 0 < max → IfSome shelf (λ files. (whole : List ℕ) → files path ≡ Some whole → seen ≡ take at whole)
    → IfSome shelf (λ files. IsPieceAt (files path) at max (PieceBytes [])) → IfSome shelf (λ files. files path ≡ Some seen)
whole_content None path seen at max some before piece = tt
whole_content (Some files) path seen at max some before piece =
    piece.1 ∙ ap Some (sym (drop_all at max piece.0 some piece.2) ∙ sym (before piece.0 piece.1))

-- an empty piece is the end
pub reads_end : (shelf : Option Shelf) (path bytes : List ℕ) (old test : LogTest) (at max : ℕ) → 0 < max → length bytes ≡ 0 → Reads shelf path old at test
    → IfSome shelf (λ files. IsPieceAt (files path) at max (PieceBytes bytes)) → (all : List ℕ) × IsWholeLog shelf path all old test
reads_end shelf path [] old test at max some none before piece =
    (before.seen, record { content = whole_content shelf path before.seen at max some before.content piece; reads = before.reads })
reads_end shelf path (byte ∷ bytes) old test at max some none before piece = absurd (omega arith)

gone_content : (shelf : Option Shelf) (path seen : List ℕ) (at max : ℕ) → 0 < at → IfSome shelf (λ files. 0 < at → (whole : List ℕ) × (files path ≡ Some whole))
    → IfSome shelf (λ files. IsPieceAt (files path) at max PieceAbsent) → IfSome shelf (λ files. files path ≡ Some seen)
gone_content None path seen at max some there piece = tt
gone_content (Some files) path seen at max some there piece = let whole = there some in some_none whole.0 (sym whole.1 ∙ piece)

-- where files tell what they hold, none goes while it is read
pub reads_gone : (shelf : Option Shelf) (path : List ℕ) (old test : LogTest) (at max : ℕ) → 0 < at → Reads shelf path old at test
    → IfSome shelf (λ files. IsPieceAt (files path) at max PieceAbsent) → (all : List ℕ) × IsWholeLog shelf path all old test
reads_gone shelf path old test at max some before piece =
    (before.seen, record { content = gone_content shelf path before.seen at max some before.there piece; reads = before.reads })

absent_content : (shelf : Option Shelf) (path : List ℕ) (at max : ℕ) → IfSome shelf (λ files. IsPieceAt (files path) at max PieceAbsent) → IfSome shelf (λ files. files path ≡ None)
absent_content None path at max piece = tt
absent_content (Some files) path at max piece = piece

empty_list : (bytes : List ℕ) → length bytes ≡ 0 → bytes ≡ []
empty_list [] none = refl
empty_list (byte ∷ bytes) none = absurd (omega arith)

-- nothing was read of a file that is not there
pub reads_absent : (shelf : Option Shelf) (path : List ℕ) (old test : LogTest) (at max : ℕ) → at ≤ 0 → Reads shelf path old at test
    → IfSome shelf (λ files. IsPieceAt (files path) at max PieceAbsent) → IsNoLog shelf path old test
reads_absent shelf path old test at max none before piece = record {
  absent = absent_content shelf path at max piece;
  reads = λ jail shows now read. subst (HasRead jail shows now test) (empty_list before.seen (omega (arith, before.at_is))) (before.reads jail shows now read);
}

-- ---- what comes of them

-- of a whole log
pub of_file : (shelf : Option Shelf) (jail : JailDef) (asks : Asks) (now : ℕ) (old new : LogTest) (there : Bool) (results : Results) → there ≡ true → IsLogRead shelf asks.log old new there
    → HasRead jail asks.shows now old [] → ((jail : JailDef) (shows : Shows) (now : ℕ) (seen : List ℕ) → HasRead jail shows now new seen → AreResults jail shows now (log_lines seen) results)
    → IsOfLog shelf jail asks now results
of_file shelf jail asks now old new there results is read start finish =
    let whole : (bytes : List ℕ) × IsWholeLog shelf asks.log bytes old new = subst (IsLogRead shelf asks.log old new) is read in
    record { lines = log_lines whole.0; log_is = inl (whole.0, whole.1.content, refl); are = finish jail asks.shows now whole.0 (whole.1.reads jail asks.shows now start) }

-- of a path that is the one line
pub of_word : (shelf : Option Shelf) (jail : JailDef) (asks : Asks) (now : ℕ) (old new : LogTest) (there : Bool) (results : Results) → there ≡ false → IsLogRead shelf asks.log old new there
    → HasRead jail asks.shows now old [] → ((jail : JailDef) (shows : Shows) (now : ℕ) → HasRead jail shows now new [] → AreResults jail shows now (line_of asks.log ∷ []) results)
    → IsOfLog shelf jail asks now results
of_word shelf jail asks now old new there results is read start one =
    let none : IsNoLog shelf asks.log old new = subst (IsLogRead shelf asks.log old new) is read in
    record { lines = line_of asks.log ∷ []; log_is = inr (none.absent, refl); are = one jail asks.shows now (none.reads jail asks.shows now start) }
