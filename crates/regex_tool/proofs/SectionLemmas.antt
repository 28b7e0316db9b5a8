-- What is shown of lines, behind what was shown of others.
use Rattle.std.proofs.Common.{◌≡◌, ℕ, List, [], ◌∷◌, ◌++◌, refl, sym, ap, ◌∙◌, append_assoc}
use Rattle.std.proofs.lemmas.List.{append-nil}
use Rattle.log_follow.specs.declared.line.Line.{Line}
use Rattle.regex_tool.specs.Logs.{Looks, seen_of}
use Rattle.regex_tool.specs.Sections.{piece, pieces, section_after, section_with, sections_after, sections_with}
use Rattle.regex_tool.specs.declared.section.Kind.{Kind}
use Rattle.regex_tool.specs.declared.section.Section.{Section}
use Rattle.regex_tool.specs.declared.sections.Sections.{Sections}

module _ (looks : Looks) (now : ℕ) where
  pieces-append : (kind : Kind) (some more : List Line) → pieces kind looks now (some ++ more) ≡ pieces kind looks now some ++ pieces kind looks now more
  pieces-append kind [] more = refl
  pieces-append kind (line ∷ some) more =
      ap (λ text. piece kind line (seen_of looks now line) ++ text) (pieces-append kind some more)
      ∙ sym (append_assoc (piece kind line (seen_of looks now line)) (pieces kind looks now some) (pieces kind looks now more))

  section-none : (section : Section) → section_with section looks now [] ≡ section
  section-none section = λ i. record section { text = append-nil section.text i }

  section-one : (section : Section) (line : Line) → section_after section line (seen_of looks now line) ≡ section_with section looks now (line ∷ [])
  section-one section line = λ i. record section { text = ap (λ text. section.text ++ text) (sym (append-nil (piece section.kind line (seen_of looks now line)))) i }

  section-both : (section : Section) (some more : List Line) → section_with (section_with section looks now some) looks now more ≡ section_with section looks now (some ++ more)
  section-both section some more = λ i. record section {
    text = (append_assoc section.text (pieces section.kind looks now some) (pieces section.kind looks now more)
        ∙ ap (λ text. section.text ++ text) (sym (pieces-append section.kind some more))) i;
  }

  -- no line
  pub sections-none : (sections : Sections) → sections_with sections looks now [] ≡ sections
  unfolding sections_with
  sections-none sections = λ i. record {
    first = section-none sections.first i;
    matched = section-none sections.matched i;
    ignored = section-none sections.ignored i;
    missed = section-none sections.missed i;
  }

  -- one line
  pub sections-one : (sections : Sections) (line : Line) → sections_after sections line (seen_of looks now line) ≡ sections_with sections looks now (line ∷ [])
  unfolding sections_with sections_after
  sections-one sections line = λ i. record {
    first = section-one sections.first line i;
    matched = section-one sections.matched line i;
    ignored = section-one sections.ignored line i;
    missed = section-one sections.missed line i;
  }

  -- some lines, and then others
  pub sections-both : (sections : Sections) (some more : List Line) → sections_with (sections_with sections looks now some) looks now more ≡ sections_with sections looks now (some ++ more)
  unfolding sections_with
  sections-both sections some more = λ i. record {
    first = section-both sections.first some more i;
    matched = section-both sections.matched some more i;
    ignored = section-both sections.ignored some more i;
    missed = section-both sections.missed some more i;
  }
