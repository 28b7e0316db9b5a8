-- Items that choose one of a few words.
use Rattle.std.specs.Prelude.{ℕ, not, Bool, true, false, List, Option, None, Some, codes, if◌then◌else◌}
use Rattle.ini_interp.specs.Lines.{trimmed}
use Rattle.jail_conf.specs.declared.conf_error.ConfKind.TheVariants.{BadBool, Unsupported}
use Rattle.jail_conf.specs.Readers.{Reader}
use Rattle.jail_conf.specs.Then.{◌>>=◌, Fine, refuse_if, or_refuse}
use Rattle.jail_conf.specs.Words.{is_empty, is_one_of}

abbrev pub truth : List ℕ → Option Bool
truth word =
    if is_one_of (codes "true yes on 1") word then Some true
    else if is_one_of (codes "false no off 0") word then Some false
    else None

abbrev pub boolean : Reader Bool
boolean text = or_refuse BadBool (truth (trimmed text))

-- one of these words, and nothing comes of it
abbrev pub one_of : List ℕ → Reader Fine
one_of offered text = refuse_if (not (is_one_of offered (trimmed text))) Unsupported

abbrev pub nothing : Reader Fine
nothing text = refuse_if (not (is_empty (trimmed text))) Unsupported

abbrev pub only_false : Reader Fine
only_false text = do
  holds ← boolean text
  refuse_if holds Unsupported
