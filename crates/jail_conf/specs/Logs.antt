-- The logs of a jail, one a line: a path, and then perhaps `head` or `tail`.
use Rattle.std.specs.Prelude.{ℕ, ◌==◌, ◌&&◌, ◌||◌, not, nat_lt, Bool, true, false, List, [], ◌∷◌, ◌++◌, length, fold, Result, Ok, codes, if◌then◌else◌}
use Rattle.std.specs.List.{list_any}
use Rattle.std.specs.Str.{bytes_eq}
use Rattle.f2b_base.specs.declared.jail.WatchDef.{WatchDef}
use Rattle.ini_interp.specs.Values.{is_slash}
use Rattle.jail_conf.specs.declared.conf_error.ConfKind.{ConfKind}
use Rattle.jail_conf.specs.declared.conf_error.ConfKind.TheVariants.{BadGlob, TooMany}
use Rattle.jail_conf.specs.Readers.{Reader}
use Rattle.jail_conf.specs.Then.{◌>>=◌, ◌>>◌, refuse_if, each}
use Rattle.jail_conf.specs.Words.{full_lines, last_word, before_last_word}

abbrev pub is_wild : ℕ → Bool
is_wild byte = byte == 42 || byte == 63

-- a slash stands behind a wildcard
abbrev pub has_wild_directory : List ℕ → Bool
has_wild_directory [] = false
has_wild_directory (byte ∷ path) = if is_wild byte then list_any is_slash path else has_wild_directory path

-- it begins with a slash, and no slash stands behind a wildcard
abbrev pub is_log_path : List ℕ → Bool
is_log_path [] = false
is_log_path (byte ∷ path) = is_slash byte && not (has_wild_directory (byte ∷ path))

abbrev pub watch : (path : List ℕ) → Bool → Result WatchDef ConfKind
watch path tail = do
  refuse_if (not (is_log_path path)) BadGlob
  Ok (record { path = path; tail = tail })

-- of a line
abbrev pub watch_of : List ℕ → Result WatchDef ConfKind
watch_of line =
    if bytes_eq (last_word line) (codes "tail") then watch (before_last_word line) true
    else if bytes_eq (last_word line) (codes "head") then watch (before_last_word line) false
    else watch line false

abbrev pub has_path : List WatchDef → List ℕ → Bool
has_path watches path = list_any (λ watch. bytes_eq watch.path path) watches

abbrev pub with_watch : List WatchDef → WatchDef → List WatchDef
with_watch watches watch = if has_path watches watch.path then watches else watches ++ watch ∷ []

-- a path that is listed again is one watch, at its first place
abbrev pub distinct : List WatchDef → List WatchDef
distinct watches = fold with_watch [] watches

abbrev pub most_watches : ℕ
most_watches = 64

-- a path that may not stand is told before that there are too many
abbrev pub watches : Reader (List WatchDef)
watches text = do
  all ← each watch_of (full_lines text)
  refuse_if (nat_lt most_watches (length (distinct all))) TooMany
  Ok (distinct all)
