-- Worked rows of static tags, which compute from the definitions alone.
use Rattle.std.proofs.Common.{◌≡◌, [], ◌∷◌, Ok, Err, refl, codes}
use Rattle.ini_interp.specs.declared.value_error.InterpError.TheVariants as interp
use Rattle.ini_interp.specs.References.{referred, percent_piece, piece_at, pieces_from}
use Rattle.ini_interp.specs.Sections.{Sections, raw}
use Rattle.ini_interp.specs.Values.{Scope, replaced}
use Rattle.tag_subst.specs.declared.tag_error.TagError.TheVariants.{TooDeep, Interp}
use Rattle.tag_subst.specs.Tags.{read, substituted}

abbrev items : Sections
items =
    (codes "]options", (codes "port", codes "2222") ∷ [])
    ∷ (codes "Init", (codes "port", codes "ssh") ∷ [])
    ∷ (
      codes "Definition",
      (codes "a", codes "1")
          ∷ (codes "b", codes "<a>")
          ∷ (codes "c", codes "a")
          ∷ (codes "q", codes "%(a)s")
          ∷ (codes "less", codes "<")
          ∷ (codes "group", codes "(?")
          ∷ (codes "ip", codes "item")
          ∷ (codes "gone", codes "%(nowhere)s")
          ∷ (codes "loop", codes "<loop>")
          ∷ [],
    )
    ∷ (codes "other", (codes "y", codes "%(a)s") ∷ [])
    ∷ []

abbrev scope : Scope
scope = codes "]options" ∷ codes "Init" ∷ codes "Definition" ∷ []

pub plain : substituted items scope (codes "x <a><A>") ≡ Ok (codes "x 11")
unfolding read raw replaced referred percent_piece piece_at pieces_from
plain = refl

pub again : substituted items scope (codes "<b><q>") ≡ Ok (codes "11")
unfolding read raw replaced referred percent_piece piece_at pieces_from
again = refl

pub nested : substituted items scope (codes "<<c>>") ≡ Ok (codes "1")
unfolding read raw replaced referred percent_piece piece_at pieces_from
nested = refl

pub formed_by_a_value : substituted items scope (codes "<less><c>>") ≡ Ok (codes "1")
unfolding read raw replaced referred percent_piece piece_at pieces_from
formed_by_a_value = refl

pub without_value : substituted items scope (codes "<no<c>> <<no><a>>") ≡ Ok (codes "<noa> <<no>1>")
unfolding read raw replaced referred percent_piece piece_at pieces_from
without_value = refl

pub group : substituted items scope (codes "(?<a> (?P<a> [(]?<a>") ≡ Ok (codes "(?<a> (?P<a> [(]?1")
unfolding read raw replaced referred percent_piece piece_at pieces_from
group = refl

pub group_by_a_value : substituted items scope (codes "<group><a>") ≡ Ok (codes "(?<a>")
unfolding read raw replaced referred percent_piece piece_at pieces_from
group_by_a_value = refl

pub reserved : substituted items scope (codes "<ip><F-a><known/ip>") ≡ Ok (codes "<ip><F-a>item")
unfolding read raw replaced referred percent_piece piece_at pieces_from
reserved = refl

pub no_name : substituted items scope (codes "<1>< a><-a><>") ≡ Ok (codes "<1>< a><-a><>")
unfolding read raw replaced referred percent_piece piece_at pieces_from
no_name = refl

pub options : substituted items scope (codes "<port> <known/port> <Init/port>") ≡ Ok (codes "2222 ssh ssh")
unfolding read raw replaced referred percent_piece piece_at pieces_from
options = refl

pub section : substituted items scope (codes "<other/y><other/a>") ≡ Ok (codes "1<other/a>")
unfolding read raw replaced referred percent_piece piece_at pieces_from
section = refl

pub first_fault : substituted items scope (codes "<a><gone><loop>") ≡ Err (Interp (interp.Missing (codes "nowhere")))
unfolding read raw replaced referred percent_piece piece_at pieces_from
first_fault = refl

pub endless : substituted items scope (codes "<loop><gone>") ≡ Err (TooDeep (codes "loop"))
unfolding read raw replaced referred percent_piece piece_at pieces_from
endless = refl

abbrev chain : Sections
chain = (
  codes "s",
  (codes "d0", codes "<d1>")
      ∷ (codes "d1", codes "<d2>")
      ∷ (codes "d2", codes "<d3>")
      ∷ (codes "d3", codes "<d4>")
      ∷ (codes "d4", codes "<d5>")
      ∷ (codes "d5", codes "<d6>")
      ∷ (codes "d6", codes "<d7>")
      ∷ (codes "d7", codes "<d8>")
      ∷ (codes "d8", codes "<d9>")
      ∷ (codes "d9", codes "<d10>")
      ∷ (codes "d10", codes "end")
      ∷ (codes "e", codes "d1")
      ∷ [],
)
    ∷ []

pub ten_deep : substituted chain (codes "s" ∷ []) (codes "<d1>") ≡ Ok (codes "end")
unfolding read raw replaced referred percent_piece piece_at pieces_from
ten_deep = refl

pub eleven_deep : substituted chain (codes "s" ∷ []) (codes "<d0>") ≡ Err (TooDeep (codes "d10"))
unfolding read raw replaced referred percent_piece piece_at pieces_from
eleven_deep = refl

pub eleven_deep_by_forming : substituted chain (codes "s" ∷ []) (codes "<<e>>") ≡ Err (TooDeep (codes "d10"))
unfolding read raw replaced referred percent_piece piece_at pieces_from
eleven_deep_by_forming = refl
