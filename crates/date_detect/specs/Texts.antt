-- The texts that a value of the code borrows from a line, and the parts that it is made of.
use Rattle.std.specs.Prelude.{ℕ, List, [], ◌∷◌, Option, None, slice_index_or}
use Rattle.std.specs.Option.{option_copied}
use Rattle.date_detect.specs.Fields as fields
use Rattle.f2b_world.specs.declared.pattern.spans.Cut.{Cut}
use Rattle.date_detect.specs.Dates.{text_of}
use Rattle.date_detect.specs.declared.fields.Said.{Said}
use Rattle.date_detect.specs.declared.form.Groups.{Groups}

abbrev pub said_texts : Said → fields.Said
said_texts said = record {
  year = option_copied said.year;
  short_year = option_copied said.short_year;
  month = option_copied said.month;
  month_name = option_copied said.month_name;
  day = option_copied said.day;
  hour = option_copied said.hour;
  minute = option_copied said.minute;
  second = option_copied said.second;
  zone = option_copied said.zone;
  moment = option_copied said.moment;
}

-- the numbers of groups in the order of what they cover
abbrev pub numbers_of : Groups → List (Option ℕ)
numbers_of groups =
    groups.year
    ∷ groups.short_year
    ∷ groups.month
    ∷ groups.month_name
    ∷ groups.day
    ∷ groups.hour
    ∷ groups.minute
    ∷ groups.second
    ∷ groups.zone
    ∷ groups.moment
    ∷ []

-- what parts of a line say, in the same order
abbrev pub said_at : List ℕ → List (Option Cut) → fields.Said
said_at line cuts = record {
  year = text_of line (slice_index_or cuts 0 None);
  short_year = text_of line (slice_index_or cuts 1 None);
  month = text_of line (slice_index_or cuts 2 None);
  month_name = text_of line (slice_index_or cuts 3 None);
  day = text_of line (slice_index_or cuts 4 None);
  hour = text_of line (slice_index_or cuts 5 None);
  minute = text_of line (slice_index_or cuts 6 None);
  second = text_of line (slice_index_or cuts 7 None);
  zone = text_of line (slice_index_or cuts 8 None);
  moment = text_of line (slice_index_or cuts 9 None);
}
