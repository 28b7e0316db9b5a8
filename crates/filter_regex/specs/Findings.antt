-- What a line says of a host, by the rules of a filter.
use Rattle.std.specs.Prelude.{ℕ, ◌+◌, ℤ, pos, negsuc, Bool, List, [], ◌∷◌, ◌++◌, Option, Some, None, option_map, option_and_then, nat_le, min, take, drop, slice_range, if◌then◌else◌}
use Rattle.std.specs.Option.{option_or}
use Rattle.std.specs.List.{list_any}
use Rattle.f2b_base.specs.declared.addr.Addr.{Addr}
use Rattle.f2b_base.specs.declared.addr.Cidr.{Cidr}
use Rattle.f2b_base.specs.Masks.{holds}
use Rattle.f2b_world.specs.Matches.{hosts_in}
use Rattle.f2b_world.specs.declared.pattern.spans.Cut.{Cut}
use Rattle.f2b_world.specs.declared.pattern.spans.HostSpans.{HostSpans}
use Rattle.host_ident.specs.Hosts.{host_of}
use Rattle.date_detect.specs.Dates.{date_in}
use Rattle.date_detect.specs.declared.search.Found.{Found}
use Rattle.filter_regex.specs.Rules.{Rules}
use Rattle.filter_regex.specs.declared.finding.Finding.{Finding}
use Rattle.filter_regex.specs.declared.part.Hit.{Hit}
use Rattle.filter_regex.specs.declared.finding.Finding.TheVariants.{Failure, Ignored, NoDate, Missed, NameOnly, IgnoredAddr, TooOld}

-- ---- parts of a line

-- the line without its date, and the whole line where there is none
abbrev pub without : List ℕ → Option Found → List ℕ
without line None = line
without line (Some date) = take date.start line ++ drop date.end line

-- the text of a part, if there is one
abbrev pub part : List ℕ → Option Cut → Option (List ℕ)
part line = option_map (λ (c : Cut). slice_range line c.start c.end)

-- What of a line is looked at further: all of it, or what the content group of the prefix pattern covers, where that pattern
-- matches and the group took part.
unfoldable pub content : Option (List ℕ) → List ℕ → Option (List ℕ)
content None line = Some line
content (Some pref) line = option_and_then (λ (spans : HostSpans). part line spans.content) (hosts_in pref line)

abbrev pub hit : ℕ → HostSpans → Hit
hit n spans = record { number = n; spans = spans }

-- the first pattern that matches, where the first of them has the number n
abbrev pub first_match : ℕ → List (List ℕ) → List ℕ → Option Hit
first_match n [] line = None
first_match n (text ∷ texts) line = option_or (option_map (hit n) (hosts_in text line)) (first_match (n + 1) texts line)

-- ---- the time

-- the moment of a line's date, or now where lines have no date
abbrev pub moment_of : Bool → ℕ → Option Found → Option ℤ
moment_of undated now date = if undated then Some (pos now) else option_map (λ (d : Found). d.secs) date

-- the earlier of a moment and now, and none before 1970
abbrev pub time_at : ℕ → ℤ → Option ℕ
time_at now (pos moment) = Some (min moment now)
time_at now (negsuc _) = None

-- ---- findings

-- A failure of an address at a time. One that is `findtime` old or older is too old.
abbrev pub timed : ℕ → ℕ → ℕ → Addr → Option ℕ → Finding
timed now findtime index addr None = TooOld index
timed now findtime index addr (Some time) = if nat_le (time + findtime) now then TooOld index else Failure addr time index

-- some mask holds the address
abbrev pub is_ignored : List Cidr → Addr → Bool
is_ignored masks addr = list_any (λ mask. holds mask addr) masks

-- a failure at a moment, by the number of its pattern and its host's address
abbrev pub failure : List Cidr → ℕ → ℕ → ℤ → ℕ → Option Addr → Finding
failure masks now findtime moment index None = NameOnly index
failure masks now findtime moment index (Some addr) =
    if is_ignored masks addr then IgnoredAddr index else timed now findtime index addr (time_at now moment)

-- what a text says, by the pattern of failures that matched it
abbrev pub matched : List Cidr → ℕ → ℕ → ℤ → List ℕ → Option Hit → Finding
matched masks now findtime moment text None = Missed
matched masks now findtime moment text (Some h) =
    failure masks now findtime moment h.number (host_of (part text h.spans.ip4) (part text h.spans.ip6))

-- the patterns of failures are tried on what is looked at further
abbrev pub looked_at : Rules → List Cidr → ℕ → ℕ → ℤ → Option (List ℕ) → Finding
looked_at rules masks now findtime moment None = Missed
looked_at rules masks now findtime moment (Some text) = matched masks now findtime moment text (first_match 1 rules.fail text)

-- what a line without its date says, by its date's moment
abbrev pub dated : Rules → List Cidr → ℕ → ℕ → List ℕ → Option ℤ → Finding
dated rules masks now findtime rest None = NoDate
dated rules masks now findtime rest (Some moment) = looked_at rules masks now findtime moment (content rules.pref rest)

-- a pattern of ignored lines that matches comes before all else
abbrev pub unless_ignored : Option Hit → Finding → Finding
unless_ignored (Some h) otherwise = Ignored h.number
unless_ignored None otherwise = otherwise

-- what a line says, now, where the addresses in these masks are never banned
unfoldable pub finding : Rules → List Cidr → ℕ → ℕ → List ℕ → Finding
finding rules masks now findtime line =
    let date = date_in rules.dates now rules.zone line in
    let rest = without line date in
    unless_ignored (first_match 1 rules.ignore_lines rest) (dated rules masks now findtime rest (moment_of rules.undated now date))
