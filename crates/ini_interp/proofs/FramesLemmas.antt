-- Frames that are pushed and popped.
use Rattle.std.proofs.Common.{◌≡◌, ◌≢◌, ℕ, zero, suc, ◌+◌, ◌*◌, ◌-◌, ◌<◌, ◌≤◌, ◌||◌, Bool, true, false, cond, List, [], ◌∷◌, ◌++◌, length, map, fold, drop, Option, None, Some, Result, Ok, Err, refl, sym, ap, subst, ◌∙◌, arith, codes, suc-mul, mul-le-mul_left}
use Rattle.std.specs.List.{list_any}
use Rattle.std.specs.Str.{bytes_eq}
use Rattle.std.proofs.lemmas.Option.{none-some}
use Rattle.ini_interp.specs.declared.frames.Frame.{Frame}
use Rattle.ini_interp.specs.declared.frames.Step.{Step}
use Rattle.ini_interp.specs.declared.frames.Step.TheVariants.{Include, Join}
use Rattle.ini_interp.specs.declared.error.IniError.{IniError}
use Rattle.ini_interp.specs.declared.merge_error.MergeError.{MergeError}
use Rattle.ini_interp.specs.declared.merge_error.MergeError.TheVariants.{Ini, MissingInclude, IncludeLoop}
use Rattle.ini_interp.specs.Files.{file_of}
use Rattle.ini_interp.specs.Frames.{steps_of, read_at, step_adds, pending, way_of, IsWay, IsKept, IsOpened, IsFaulty, IsEntered, steps_in, most_steps, cost, weight}
use Rattle.ini_interp.specs.InTurn.{followed, in_turn}
use Rattle.ini_interp.specs.Joins.{joined}
use Rattle.ini_interp.specs.Merges.{Files, FilesRead, includes, included, read_with, with_includes, if_well_formed, is_among, is_outside, directory, if_there, missing}
use Rattle.ini_interp.specs.Sections.{Sections, value_of}
use Rattle.ini_interp.proofs.ValuesLemmas.{followed_assoc, followed-nothing, followed-end, in_turn-append}
use Rattle.ini_interp.proofs.WayLemmas.{way_within}

pub way_of-push : (way : List (List ℕ)) (frames : List Frame) (frame : Frame) → way_of way (frames ++ frame ∷ []) ≡ frame.path ∷ way_of way frames
way_of-push way [] frame = refl
way_of-push way (f ∷ frames) frame = way_of-push (f.path ∷ way) frames frame

swapped : (a b c : Bool) → ((a || b) || c) ≡ (b || (a || c))
swapped true true c = refl
swapped true false c = refl
swapped false true c = refl
swapped false false c = refl

among-way_of : (path : List ℕ) (way : List (List ℕ)) (frames : List Frame) →
    list_any (bytes_eq path) (way_of way frames) ≡ (list_any (bytes_eq path) way || list_any (λ (frame : Frame). bytes_eq path frame.path) frames)
among-way_of path way [] = or-end (list_any (bytes_eq path) way)
  where
    or-end : (b : Bool) → b ≡ (b || false)
    or-end true = refl
    or-end false = refl
among-way_of path way (f ∷ frames) =
    among-way_of path (f.path ∷ way) frames
    ∙ swapped (bytes_eq path f.path) (list_any (bytes_eq path) way) (list_any (λ (frame : Frame). bytes_eq path frame.path) frames)

pub among_frames : (path : List ℕ) (frames : List Frame) → list_any (λ (frame : Frame). bytes_eq path frame.path) frames ≡ is_among (way_of [] frames) path
among_frames path frames = sym (among-way_of path [] frames)

module _ (files : Files) where
  -- what the last frame adds comes first
  pub pending-push : (way : List (List ℕ)) (frames : List Frame) (frame : Frame) →
      pending files way (frames ++ frame ∷ [])
      ≡ followed (in_turn (step_adds files (frame.path ∷ way_of way frames) frame.path) frame.steps.items) (pending files way frames)
  pending-push way [] frame =
      followed-nothing (in_turn (step_adds files (frame.path ∷ way) frame.path) frame.steps.items)
      ∙ sym (followed-end (in_turn (step_adds files (frame.path ∷ way) frame.path) frame.steps.items))
  pending-push way (f ∷ frames) frame =
      ap (λ (r : FilesRead). followed r (in_turn (step_adds files (f.path ∷ way) f.path) f.steps.items)) (pending-push (f.path ∷ way) frames frame)
      ∙ followed_assoc (in_turn (step_adds files (frame.path ∷ way_of (f.path ∷ way) frames) frame.path) frame.steps.items)
      (pending files (f.path ∷ way) frames) (in_turn (step_adds files (f.path ∷ way) f.path) f.steps.items)

  pub weight-push : (way : List (List ℕ)) (frames : List Frame) (frame : Frame) →
      weight files way (frames ++ frame ∷ [])
      ≡ weight files way frames + (1 + length frame.steps.items * cost files (length files - length (frame.path ∷ way_of way frames)))
  weight-push way [] frame = omega arith
  weight-push way (f ∷ frames) frame = omega (arith, weight-push (f.path ∷ way) frames frame)

  -- includes as steps
  included_names : (way : List (List ℕ)) (file : List ℕ) (names : List (List ℕ)) →
      in_turn (included files (read_at files way) way file) names ≡ in_turn (step_adds files way file) (map Include names)
  included_names way file [] = refl
  included_names way file (name ∷ names) = ap (followed (included files (read_at files way) way file name)) (included_names way file names)

  steps_add : (way : List (List ℕ)) (path : List ℕ) (file : Sections) →
      with_includes (included files (read_at files way) way path) file ≡ in_turn (step_adds files way path) (steps_of file)
  steps_add way path file =
      ap (λ (r : FilesRead). followed r (followed (Ok (file ∷ [])) (in_turn (included files (read_at files way) way path) (includes file (codes "after")))))
      (included_names way path (includes file (codes "before")))
      ∙ ap (λ (r : FilesRead). followed (in_turn (step_adds files way path) (map Include (includes file (codes "before")))) (followed (Ok (file ∷ [])) r))
      (included_names way path (includes file (codes "after")))
      ∙ sym (in_turn-append (step_adds files way path) (map Include (includes file (codes "before"))) (Join file ∷ map Include (includes file (codes "after"))))

  -- a file that is there and not on the way may be read
  read_at-next : (way : List (List ℕ)) (path content : List ℕ) → length way < length files →
      read_at files way path content ≡ if_well_formed path (with_includes (included files (read_at files (path ∷ way)) (path ∷ way) path)) (file_of content)
  unfolding read_with
  read_at-next way path content within =
      ap (λ (left : ℕ). read_with files left way path content) (one_less (length files) (length way) within)
    where
      one_less : (m n : ℕ) → n < m → m - n ≡ suc (m - suc n)
      one_less m n h = omega arith

  pub within_files : (way : List (List ℕ)) (path content : List ℕ) → IsWay files way → is_among way path ≡ false → value_of path files ≡ Some content →
      length way < length files
  within_files way path content stands apart there =
      omega (arith, way_within files (path ∷ way) (apart, (λ none. none-some _ (sym none ∙ there)), stands))

  pub reads_file : (way : List (List ℕ)) (path content : List ℕ) (file : Sections) → length way < length files → file_of content ≡ Ok file →
      read_at files way path content ≡ in_turn (step_adds files (path ∷ way) path) (steps_of file)
  reads_file way path content file within meaning =
      read_at-next way path content within
      ∙ ap (if_well_formed path (with_includes (included files (read_at files (path ∷ way)) (path ∷ way) path))) meaning ∙ steps_add (path ∷ way) path file

  pub reads_fault : (way : List (List ℕ)) (path content : List ℕ) (fault : MergeError) → length way < length files → IsFaulty path content fault →
      read_at files way path content ≡ Err fault
  reads_fault way path content fault within faulty =
      read_at-next way path content within
      ∙ ap (if_well_formed path (with_includes (included files (read_at files (path ∷ way)) (path ∷ way) path))) faulty.meaning
      ∙ ap (λ (e : MergeError). Err e) (sym faulty.fault_is)

  -- a file's frame holds what reading the file adds
  pub opened_adds : (way : List (List ℕ)) (path content : List ℕ) (frame : Frame) → length way < length files → IsOpened path content frame →
      read_at files way path content ≡ in_turn (step_adds files (frame.path ∷ way) frame.path) frame.steps.items
  opened_adds way path content frame within opened =
      reads_file way path content opened.file within opened.meaning
      ∙ ap (λ (p : List ℕ). in_turn (step_adds files (p ∷ way) p) (steps_of opened.file)) (sym opened.path_is)
      ∙ ap (in_turn (step_adds files (frame.path ∷ way) frame.path)) (sym opened.steps)

  -- no file has more steps than all have
  one_of : (list : Files) (path content : List ℕ) → value_of path list ≡ Some content → steps_in (file_of content) ≤ most_steps list
  one_of [] path content there = absurd (none-some _ there)
  one_of (e ∷ list) path content there = by (bytes_eq path e.0) there (one_of list path content)
    where
      same : (xs ys : List ℕ) → Some xs ≡ Some ys → steps_in (file_of xs) ≡ steps_in (file_of ys)
      same xs ys eq = let e : xs ≡ ys = cc in ap (λ (x : List ℕ). steps_in (file_of x)) e

      by : (b : Bool) → cond b (Some e.1) (value_of path list) ≡ Some content →
          (value_of path list ≡ Some content → steps_in (file_of content) ≤ most_steps list) → steps_in (file_of content) ≤ steps_in (file_of e.1) + most_steps list
      by true found rest = omega (arith, same e.1 content found)
      by false found rest = omega (arith, rest found)

  pub steps_within : (path content : List ℕ) (frame : Frame) → value_of path files ≡ Some content → IsOpened path content frame →
      length frame.steps.items ≤ most_steps files
  steps_within path content frame there opened = omega (arith, one_of files path content there, ap steps_in opened.meaning, ap length opened.steps)

  cost_is : (left : ℕ) → 1 ≤ cost files left
  unfolding cost
  cost_is zero = omega arith
  cost_is (suc left) = omega arith

  cost-next : (left : ℕ) → cost files (suc left) ≡ 2 + most_steps files * cost files left
  unfolding cost
  cost-next left = refl

-- One step. `frame` stands above `below`, and `rest` is that frame with its first step taken away.
module _ (files : Files) (below : List Frame) (frame rest : Frame) (same : rest.path ≡ frame.path) where
  step_first : (step : Step) → frame.steps.items ≡ step ∷ rest.steps.items →
      pending files [] (below ++ frame ∷ [])
      ≡ followed (step_adds files (frame.path ∷ way_of [] below) frame.path step) (pending files [] (below ++ rest ∷ []))
  step_first step first =
      let adds : Step → FilesRead = step_adds files (frame.path ∷ way_of [] below) frame.path in
      pending-push files [] below frame
      ∙ ap (λ (l : List Step). followed (in_turn adds l) (pending files [] below)) first
      ∙ followed_assoc (adds step) (in_turn adds rest.steps.items) (pending files [] below)
      ∙ ap (followed (adds step))
      (ap (λ (p : List ℕ). followed (in_turn (step_adds files (p ∷ way_of [] below) p) rest.steps.items) (pending files [] below)) (sym same)
      ∙ sym (pending-push files [] below rest))

  pub way_kept : (above : List Frame) → above ≡ below ++ rest ∷ [] → way_of [] above ≡ way_of [] (below ++ frame ∷ [])
  way_kept above is =
      ap (way_of []) is ∙ way_of-push [] below rest ∙ ap (λ (p : List ℕ). p ∷ way_of [] below) same ∙ sym (way_of-push [] below frame)

  pub stands_kept : (above : List Frame) → above ≡ below ++ rest ∷ [] → IsWay files (way_of [] (below ++ frame ∷ [])) → IsWay files (way_of [] above)
  stands_kept above is stands = subst (IsWay files) (sym (way_kept above is)) stands

  pub kept_joined : (above : List Frame) (file old new : Sections) → above ≡ below ++ rest ∷ [] → frame.steps.items ≡ Join file ∷ rest.steps.items → new ≡ joined old file →
      IsKept (pending files [] (below ++ frame ∷ [])) (pending files [] above) old new
  kept_joined above file old new is first merged = record {
    done = file ∷ [];
    pending = step_first (Join file) first ∙ ap (λ (l : List Frame). followed (Ok (file ∷ [])) (pending files [] l)) (sym is);
    merged = merged;
  }

  -- what the file includes is what `included` answers
  include_is : (above : List Frame) (file name : List ℕ) → above ≡ below ++ rest ∷ [] → file ≡ frame.path →
      included files (read_at files (way_of [] above)) (way_of [] above) file name ≡ step_adds files (frame.path ∷ way_of [] below) frame.path (Include name)
  include_is above file name is file_is =
      ap (λ (w : List (List ℕ)). included files (read_at files w) w file name) (way_kept above is ∙ way_of-push [] below frame)
      ∙ ap (λ (f : List ℕ). included files (read_at files (frame.path ∷ way_of [] below)) (frame.path ∷ way_of [] below) f name) file_is

  pub kept_skipped : (above : List Frame) (file name : List ℕ) (old : Sections) → above ≡ below ++ rest ∷ [] → file ≡ frame.path →
      frame.steps.items ≡ Include name ∷ rest.steps.items →
      included files (read_at files (way_of [] above)) (way_of [] above) file name ≡ Ok [] → IsKept (pending files [] (below ++ frame ∷ [])) (pending files [] above) old old
  kept_skipped above file name old is file_is first skipped = record {
    done = [];
    pending =
        step_first (Include name) first
        ∙ ap (λ (r : FilesRead). followed r (pending files [] (below ++ rest ∷ []))) (sym (include_is above file name is file_is) ∙ skipped)
        ∙ ap (λ (l : List Frame). followed (Ok []) (pending files [] l)) (sym is);
    merged = refl;
  }

  pub faults_included : (above : List Frame) (file name : List ℕ) (fault : MergeError) → above ≡ below ++ rest ∷ [] → file ≡ frame.path →
      frame.steps.items ≡ Include name ∷ rest.steps.items →
      included files (read_at files (way_of [] above)) (way_of [] above) file name ≡ Err fault → pending files [] (below ++ frame ∷ []) ≡ Err fault
  faults_included above file name fault is file_is first faulty =
      step_first (Include name) first
      ∙ ap (λ (r : FilesRead). followed r (pending files [] (below ++ rest ∷ []))) (sym (include_is above file name is file_is) ∙ faulty)

  pub less_step : (above : List Frame) (step : Step) → above ≡ below ++ rest ∷ [] → frame.steps.items ≡ step ∷ rest.steps.items →
      weight files [] above < weight files [] (below ++ frame ∷ [])
  less_step above step is first =
      let left : ℕ = length files - length (frame.path ∷ way_of [] below) in
      let now : weight files [] above ≡ weight files [] below + (1 + length rest.steps.items * cost files left) =
      ap (weight files []) is ∙ weight-push files [] below rest in
      let was : weight files [] (below ++ frame ∷ []) ≡ weight files [] below + (1 + suc (length rest.steps.items) * cost files left) =
      weight-push files [] below frame ∙ ap (λ (l : List Step). weight files [] below + (1 + length l * cost files left)) first in
      omega (arith, now, was, cost_is files left, suc-mul (length rest.steps.items) (cost files left))

module _ (files : Files) (above : List Frame) (next : Frame) (file name : List ℕ) where
  pub stands_entered : (all : List Frame) → all ≡ above ++ next ∷ [] → IsEntered files (way_of [] above) file name next → IsWay files (way_of [] above) →
      IsWay files (way_of [] all)
  stands_entered all is entered stands =
      subst (IsWay files) (sym (ap (way_of []) is ∙ way_of-push [] above next))
      (entered.apart, (λ none. none-some _ (sym none ∙ entered.there)), stands)

  pub entered_adds : IsEntered files (way_of [] above) file name next → IsWay files (way_of [] above) →
      included files (read_at files (way_of [] above)) (way_of [] above) file name
      ≡ in_turn (step_adds files (next.path ∷ way_of [] above) next.path) next.steps.items
  entered_adds entered stands =
      entered.reads
      ∙ opened_adds files (way_of [] above) next.path entered.content next (within_files files (way_of [] above) next.path entered.content stands entered.apart entered.there) entered.opened

-- A file is entered: its frame stands above the others.
module _ (files : Files) (below : List Frame) (frame rest : Frame) (same : rest.path ≡ frame.path) (above all : List Frame) (is : above ≡ below ++ rest ∷ [])
    (next : Frame) (put : all ≡ above ++ next ∷ []) (file name : List ℕ) (file_is : file ≡ frame.path) (first : frame.steps.items ≡ Include name ∷ rest.steps.items)
    (entered : IsEntered files (way_of [] above) file name next) (stands : IsWay files (way_of [] above)) where
  pub kept_entered : (old : Sections) → IsKept (pending files [] (below ++ frame ∷ [])) (pending files [] all) old old
  kept_entered old = record {
    done = [];
    pending =
        step_first files below frame rest same (Include name) first
        ∙ ap (λ (r : FilesRead). followed r (pending files [] (below ++ rest ∷ [])))
        (sym (include_is files below frame rest same above file name is file_is) ∙ entered_adds files above next file name entered stands)
        ∙ ap (λ (l : List Frame). followed (in_turn (step_adds files (next.path ∷ way_of [] above) next.path) next.steps.items) (pending files [] l)) (sym is)
        ∙ sym (pending-push files [] above next) ∙ ap (pending files []) (sym put) ∙ sym (followed-nothing (pending files [] all));
    merged = refl;
  }

  pub less_entered : weight files [] all < weight files [] (below ++ frame ∷ [])
  less_entered =
      let left : ℕ = length files - suc (length (way_of [] above)) in
      let within : length (way_of [] above) < length files = within_files files (way_of [] above) next.path entered.content stands entered.apart entered.there in
      let way : length (way_of [] above) ≡ suc (length (way_of [] below)) = ap length (way_kept files below frame rest same above is ∙ way_of-push [] below frame) in
      let price : cost files (length files - length (frame.path ∷ way_of [] below)) ≡ 2 + most_steps files * cost files left =
      ap (cost files) (omega (arith, way, within)) ∙ cost-next files left in
      let now : weight files [] all ≡ weight files [] above + (1 + length next.steps.items * cost files left) = ap (weight files []) put ∙ weight-push files [] above next in
      let mid : weight files [] above ≡ weight files [] below + (1 + length rest.steps.items * cost files (length files - length (frame.path ∷ way_of [] below))) =
      ap (weight files []) is ∙ weight-push files [] below rest
      ∙ ap (λ (p : List ℕ). weight files [] below + (1 + length rest.steps.items * cost files (length files - length (p ∷ way_of [] below)))) same in
      let was : weight files [] (below ++ frame ∷ [])
      ≡ weight files [] below + (1 + suc (length rest.steps.items) * cost files (length files - length (frame.path ∷ way_of [] below))) =
      weight-push files [] below frame
      ∙ ap (λ (l : List Step). weight files [] below + (1 + length l * cost files (length files - length (frame.path ∷ way_of [] below)))) first in
      let bound : length next.steps.items * cost files left ≤ most_steps files * cost files left =
      omega (arith, mul-le-mul_left (cost files left) (steps_within files next.path entered.content next entered.there entered.opened)) in
      omega (
        arith,
        now,
        mid,
        was,
        price,
        bound,
        suc-mul (length rest.steps.items) (cost files (length files - length (frame.path ∷ way_of [] below))),
      )

fold-append : {X Y : Type 0} (f : Y → X → Y) (y : Y) (xs zs : List X) → fold f y (xs ++ zs) ≡ fold f (fold f y xs) zs
fold-append f y [] zs = refl
fold-append f y (x ∷ xs) zs = fold-append f (f y x) xs zs

-- What was kept twice.
pub kept_on : (was mid now : FilesRead) (old between new : Sections) → IsKept was mid old between → IsKept mid now between new → IsKept was now old new
kept_on was mid now old between new first second = record {
  done = first.done ++ second.done;
  pending = first.pending ∙ ap (followed (Ok first.done)) second.pending ∙ sym (followed_assoc (Ok first.done) (Ok second.done) now);
  merged = second.merged ∙ ap (λ (s : Sections). fold joined s second.done) first.merged ∙ sym (fold-append joined old first.done second.done);
}

pub kept_fault : (was mid : FilesRead) (old between : Sections) (fault : MergeError) → IsKept was mid old between → mid ≡ Err fault → was ≡ Err fault
kept_fault was mid old between fault kept faulty = kept.pending ∙ ap (followed (Ok kept.done)) faulty

-- a file that is read from the start
pub started : (files : Files) (path content : List ℕ) (frame : Frame) (old : Sections) → value_of path files ≡ Some content → IsOpened path content frame →
    IsKept (read_at files [] path content) (pending files [] (frame ∷ [])) old old
started files path content frame old there opened = record {
  done = [];
  pending =
      opened_adds files [] path content frame (within_files files [] path content tt refl there) opened
      ∙ sym (followed-nothing (in_turn (step_adds files (frame.path ∷ []) frame.path) frame.steps.items))
      ∙ sym (followed-nothing (followed (Ok []) (in_turn (step_adds files (frame.path ∷ []) frame.path) frame.steps.items)));
  merged = refl;
}

pub started-way : (files : Files) (path content : List ℕ) (frame : Frame) → value_of path files ≡ Some content → IsOpened path content frame → IsWay files (frame.path ∷ [])
started-way files path content frame there opened =
    (refl, (λ none. none-some _ (sym none ∙ ap (λ (p : List ℕ). value_of p files) opened.path_is ∙ there)), tt)

pub started-fault : (files : Files) (path content : List ℕ) (fault : MergeError) → value_of path files ≡ Some content → IsFaulty path content fault →
    read_at files [] path content ≡ Err fault
started-fault files path content fault there faulty = reads_fault files [] path content fault (within_files files [] path content tt refl there) faulty

-- a name that may be read, and names a file that is not on the way
pub included_reads : (files : Files) (read : List ℕ → List ℕ → FilesRead) (way : List (List ℕ)) (file name path content : List ℕ) →
    path ≡ directory file ++ name → is_outside name ≡ false → is_among way path ≡ false → Some content ≡ value_of path files →
    included files read way file name ≡ read path content
included_reads files read way file name path content is inside apart there =
    let meant : List ℕ = directory file ++ name in
    let found : FilesRead = if_there (read meant) (missing file name) (value_of meant files) in
    ap (λ (b : Bool). cond b (Err (MissingInclude file name)) (cond (is_among way meant) (Err (IncludeLoop meant)) found)) inside
    ∙ ap (λ (b : Bool). cond b (Err (IncludeLoop meant)) found) (ap (is_among way) (sym is) ∙ apart)
    ∙ ap (if_there (read meant) (missing file name)) (ap (λ (p : List ℕ). value_of p files) (sym is) ∙ sym there)
    ∙ ap (λ (p : List ℕ). read p content) (sym is)

-- A frame that is done.
module _ (files : Files) (below : List Frame) (frame : Frame) (none : length frame.steps.items ≡ 0) where
  empty : (steps : List Step) → length steps ≡ 0 → steps ≡ []
  empty [] none = refl
  empty (step ∷ steps) none = absurd (omega (arith, none))

  pub kept_done : (old : Sections) → IsKept (pending files [] (below ++ frame ∷ [])) (pending files [] below) old old
  kept_done old = record {
    done = [];
    pending =
        pending-push files [] below frame
        ∙ ap (λ (l : List Step). followed (in_turn (step_adds files (frame.path ∷ way_of [] below) frame.path) l) (pending files [] below)) (empty frame.steps.items none);
    merged = refl;
  }

  pub stands_done : IsWay files (way_of [] (below ++ frame ∷ [])) → IsWay files (way_of [] below)
  stands_done stands = (subst (IsWay files) (way_of-push [] below frame) stands).2

  pub less_done : weight files [] below < weight files [] (below ++ frame ∷ [])
  less_done = omega (arith, weight-push files [] below frame)

-- nothing was taken away, so nothing was there
pub no_steps : (steps after : List Step) → steps ≡ after → after ≡ drop 1 steps → length steps ≡ 0
no_steps [] after same rest = refl
no_steps (step ∷ steps) after same rest = absurd (omega (arith, ap length same, ap length rest))
