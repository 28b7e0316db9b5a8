use Rattle.std.proofs.Common.{◌≡◌, ◌++◌, [], List, map, ℕ, length, drop, Bor}
use Rattle.std.specs.Iterator.{AlwaysYields}
use Rattle.std.specs.Str.Iter.{lines_steps}
use Rattle.std.specs.Str.Lines.{lines}
use Rattle.ini_interp.specs.Files.{first_fault}
use Rattle.ini_interp.specs.Lines.{Form, form_of}
use Rattle.ini_interp.proofs.ReadLemmas.{read_of}
use Rattle.ini_interp.proofs.file.read_text.Given as goal

-- what lines say
abbrev pub said : List (Bor (List ℕ)) → List Form
said lines = map (λ line. form_of line.now) lines

abbrev pub invariant-loop-line : goal.invariant-loop-line
invariant-loop-line l =
    let rest = drop (length l.yielded) (lines l.text) in
    record {
      can : (goal.iterator-loop-line).can_next l.line-iterator × (goal.iterator-loop-line).is_finite l.line-iterator;
      read : l.reader ≡ read_of (said l.yielded);
      count : l.number ≡ length l.yielded;
      ahead : AlwaysYields lines_steps (λ line. line.now) l.line-iterator rest;
      whole : map form_of (lines l.text) ≡ said l.yielded ++ map form_of rest;
      sound : first_fault [] (map form_of (lines l.text)) ≡ first_fault (said l.yielded) (map form_of rest);
    }
