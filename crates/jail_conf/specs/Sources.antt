-- Where values are read: the items of a base in a scope.
use Rattle.std.specs.Prelude.{ℕ, ◌==◌, Bool, true, false, List, [], ◌∷◌, map, fold, Option, None, Some, is_some, unwrap_or, Result, Ok, Err, codes, if◌then◌else◌}
use Rattle.std.specs.List.{flat_map}
use Rattle.ini_interp.specs.declared.merge_error.MergeError.{MergeError}
use Rattle.ini_interp.specs.declared.merge_error.MergeError.TheVariants as merge
use Rattle.ini_interp.specs.declared.value_error.InterpError.{InterpError}
use Rattle.ini_interp.specs.declared.value_error.InterpError.TheVariants as interp
use Rattle.ini_interp.specs.Merges.{Files, merged_in}
use Rattle.ini_interp.specs.Sections.{Items, Sections, value_of, with_raw}
use Rattle.ini_interp.specs.Values.{value_in}
use Rattle.tag_subst.specs.declared.tag_error.TagError.{TagError}
use Rattle.tag_subst.specs.declared.tag_error.TagError.TheVariants as tag
use Rattle.tag_subst.specs.Tags.{substituted}
use Rattle.jail_conf.specs.declared.conf_error.ConfError.{ConfError}
use Rattle.jail_conf.specs.declared.conf_error.ConfKind.{ConfKind}
use Rattle.jail_conf.specs.declared.conf_error.ConfKind.TheVariants.{Ini, MissingInclude, IncludeLoop, MissingFile, Missing, TooDeep, BadPercent}
use Rattle.jail_conf.specs.declared.source.Source.{Source}
use Rattle.jail_conf.specs.Items.{Item}
use Rattle.jail_conf.specs.Readers.{Reader}
use Rattle.jail_conf.specs.Then.{◌>>=◌}

-- ---- bases

-- what the files of each base come to, and which files there are
pub record Bases : Type 0 where
  pub merged : List ℕ → Result Sections MergeError
  pub has_file : List ℕ → Bool

abbrev pub bases_of : Files → Bases
bases_of files = record { merged = merged_in files; has_file = (λ path. is_some (value_of path files)) }

abbrev pub in_file : List ℕ → ConfKind → ConfError
in_file file kind = record { file = file; section = []; name = []; kind = kind }

-- a fault of files is told with the file, and no section or item. Want of memory is never among them.
abbrev pub merge_refusal : MergeError → ConfError
merge_refusal (merge.Ini file error) = in_file file (Ini error)
merge_refusal (merge.MissingInclude file path) = in_file file (MissingInclude path)
merge_refusal (merge.IncludeLoop file) = in_file file IncludeLoop
merge_refusal merge.NoMemory = in_file [] IncludeLoop

abbrev pub or_merge_refusal : Result Sections MergeError → Result Sections ConfError
or_merge_refusal (Ok sections) = Ok sections
or_merge_refusal (Err fault) = Err (merge_refusal fault)

abbrev pub sections_of : Bases → List ℕ → Result Sections ConfError
sections_of bases base = or_merge_refusal (bases.merged base)

abbrev pub section_names : Sections → List (List ℕ)
section_names sections = map (λ section. section.0) sections

-- the sections with these items put into one of them
abbrev pub with_items : List ℕ → Items → Sections → Sections
with_items section items sections = fold (λ all one. with_raw all section one.0 one.1) sections items

-- ---- sources

abbrev pub version : Items
version = (codes "fail2ban_version", codes "1.0") ∷ []

-- the items of `]name` for a jail
abbrev pub names_for : List ℕ → Items
names_for jail = (codes "name", jail) ∷ (codes "__name__", jail) ∷ version

abbrev pub of_server : Sections → Source
of_server sections = record {
  file = codes "fail2ban.conf";
  section = codes "Definition";
  sections = with_items (codes "]name") version sections;
  scope = codes "Definition" ∷ codes "DEFAULT" ∷ codes "]name" ∷ [];
  tags = false;
}

abbrev pub of_jail : Sections → (jail : List ℕ) → Source
of_jail sections jail = record {
  file = codes "jail.conf";
  section = jail;
  sections = with_items (codes "]name") (names_for jail) sections;
  scope = jail ∷ codes "DEFAULT" ∷ codes "]name" ∷ [];
  tags = false;
}

-- with the items that a jail's filter sets, as they are written
abbrev pub with_known : Items → Source → Source
with_known known source = record source { sections = with_items (codes "]known") known source.sections }

-- an option is a text, in which `%` means itself
abbrev pub percents_doubled : List ℕ → List ℕ
percents_doubled text = flat_map (λ byte. if byte == 37 then 37 ∷ 37 ∷ [] else byte ∷ []) text

abbrev pub with_options : Items → Sections → Sections
with_options options sections = fold (λ all option. with_raw all (codes "]options") option.0 (percents_doubled option.1)) sections options

abbrev pub in_definition : List (List ℕ)
in_definition = codes "Init" ∷ codes "Definition" ∷ codes "DEFAULT" ∷ codes "]name" ∷ []

-- of a filter, or of an action
abbrev pub of_definition : (file jail : List ℕ) → Items → Sections → Source
of_definition file jail options sections = record {
  file = file;
  section = jail;
  sections = with_options options (with_items (codes "]name") (names_for jail) sections);
  scope = codes "]options" ∷ in_definition;
  tags = true;
}

abbrev pub inet6_section : List ℕ
inet6_section = codes "Init?family=inet6"

-- with the section that IPv6 alone reads
abbrev pub for_inet6 : Source → Source
for_inet6 source = record source { scope = codes "]options" ∷ inet6_section ∷ in_definition }

-- ---- values

abbrev pub interp_kind : InterpError → ConfKind
interp_kind (interp.Missing name) = Missing name
interp_kind (interp.TooDeep name) = TooDeep name
interp_kind (interp.BadPercent at) = BadPercent at
interp_kind interp.NoMemory = Missing []

abbrev pub tag_kind : TagError → ConfKind
tag_kind (tag.TooDeep name) = TooDeep name
tag_kind (tag.Interp fault) = interp_kind fault
tag_kind tag.NoMemory = Missing []

abbrev pub or_tag_kind : Result (List ℕ) TagError → Result (Option (List ℕ)) ConfKind
or_tag_kind (Ok text) = Ok (Some text)
or_tag_kind (Err fault) = Err (tag_kind fault)

-- static tags stand for items of this source, if it has them replaced
abbrev pub with_tags : Source → Result (Option (List ℕ)) InterpError → Result (Option (List ℕ)) ConfKind
with_tags tags (Err fault) = Err (interp_kind fault)
with_tags tags (Ok None) = Ok None
with_tags tags (Ok (Some text)) = if tags.tags then or_tag_kind (substituted tags.sections tags.scope text) else Ok (Some text)

-- the text that an item has in a source, if it is there, with tags of another
unfoldable pub text_in : (tags source : Source) → List ℕ → Result (Option (List ℕ)) ConfKind
text_in tags source name = with_tags tags (value_in source.sections source.scope name)

-- ---- items

abbrev pub read_if : {A : Type 0} → Reader A → Option (List ℕ) → Result (Option A) ConfKind
read_if reading None = Ok None
read_if reading (Some text) = do
  value ← reading text
  Ok (Some value)

-- what the text of an item is read as, if it is there
abbrev pub found : {A : Type 0} → (tags source : Source) → List ℕ → Reader A → Result (Option A) ConfKind
found tags source name reading = do
  text ← text_in tags source name
  read_if reading text

abbrev pub told : Source → List ℕ → ConfKind → ConfError
told source name kind = record { file = source.file; section = source.section; name = name; kind = kind }

-- an item whose file is not there
abbrev pub without_file : Source → (name file : List ℕ) → ConfError
without_file source name file = record (told source name MissingFile) { file = file }

abbrev pub or_told : {A : Type 0} → Source → List ℕ → Result A ConfKind → Result A ConfError
or_told source name (Ok x) = Ok x
or_told source name (Err kind) = Err (told source name kind)

-- what an item comes to in a source, or its default where it is not there
unfoldable pub own : {A : Type 0} → Source → Item A → Result A ConfError
own source item = do
  value ← or_told source item.name (found source source item.name item.reading)
  Ok (unwrap_or value item.default)

abbrev pub or_else : {A : Type 0} → Result A ConfError → Option A → Result A ConfError
or_else other None = other
or_else other (Some value) = Ok value

-- the item of a jail where it is there, and else that of its filter, whose items tags of both stand for
unfoldable pub own_or : {A : Type 0} → (jail filter : Source) → Item A → Result A ConfError
own_or jail filter item = do
  value ← or_told jail item.name (found filter jail item.name item.reading)
  or_else (own filter item) value
