-- The entries of a map from paths to contents, as a list.
use Rattle.std.specs.Prelude.{ℕ, List, [], ◌∷◌, string_bytes, String}
use denote.Ref.{Bor}

-- each path and each content as bytes
abbrev pub contents_of : {A : Type 0} → List (String A × Bor (List ℕ)) → List (List ℕ × List ℕ)
contents_of [] = []
contents_of (e ∷ es) = (string_bytes e.0, e.1.now) ∷ contents_of es
