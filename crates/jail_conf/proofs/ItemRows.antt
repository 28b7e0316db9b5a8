-- Worked rows of items: what a text comes to, by the definitions alone.
use Rattle.std.proofs.Common.{◌≡◌, refl}
use Rattle.std.specs.Prelude.{[], ◌∷◌, None, Some, Ok, Err, pos, negsuc, true, false, codes}
use Rattle.std.specs.Str.{chars}
use Rattle.f2b_base.specs.declared.jail.DateSpec.TheVariants.{Pattern, AnchoredPattern}
use Rattle.date_words.specs.Directives.{is_date_pattern, times}
use Rattle.host_ident.specs.Expanded.{hosts_in}
use Rattle.ini_interp.specs.Lines.{trimmed_start, trimmed_end}
use Rattle.jail_conf.specs.declared.conf_error.ConfKind.TheVariants.{BadBool, BadGlob, BadZone, BadDate, BadTag, NoHost, TwoHosts, BadTime, BadNumber, Unsupported, TooMany}
use Rattle.jail_conf.specs.Choices.{boolean, one_of}
use Rattle.jail_conf.specs.Dates.{date}
use Rattle.jail_conf.specs.Logs.{watches}
use Rattle.jail_conf.specs.Numbers.{number_between, factor, multipliers}
use Rattle.jail_conf.specs.Options.{named}
use Rattle.jail_conf.specs.Patterns.{fail_patterns, ignore_patterns, prefix}
use Rattle.jail_conf.specs.Times.{time_word, seconds_from, span, jitter}
use Rattle.jail_conf.specs.Zones.{zone}

pub plain : time_word (codes "600") ≡ Some (pos 600)
unfolding trimmed_start trimmed_end time_word
plain = refl

pub minutes : time_word (codes "10m") ≡ Some (pos 600)
unfolding trimmed_start trimmed_end time_word
minutes = refl

pub mixed : time_word (codes "1d12h30m") ≡ Some (pos 131400)
unfolding trimmed_start trimmed_end time_word
mixed = refl

pub month : time_word (codes "1mo") ≡ Some (pos 2629800)
unfolding trimmed_start trimmed_end time_word
month = refl

pub for_ever : time_word (codes "-1") ≡ Some (negsuc 0)
unfolding trimmed_start trimmed_end time_word
for_ever = refl

pub no_unit : time_word (codes "5q") ≡ None
unfolding trimmed_start trimmed_end time_word
no_unit = refl

pub empty_time : time_word (codes "") ≡ None
unfolding trimmed_start trimmed_end time_word
empty_time = refl

pub rest : time_word (codes "1h 30") ≡ None
unfolding trimmed_start trimmed_end time_word
rest = refl

pub spaced : time_word (codes "1d 12h 30m") ≡ Some (pos 131400)
unfolding trimmed_start trimmed_end time_word
spaced = refl

pub upper : time_word (codes "2 Weeks") ≡ Some (pos 1209600)
unfolding trimmed_start trimmed_end time_word
upper = refl

pub spaced_minus : time_word (codes "- 5") ≡ None
unfolding trimmed_start trimmed_end time_word
spaced_minus = refl

pub digits_apart : time_word (codes "1 2h") ≡ None
unfolding trimmed_start trimmed_end time_word
digits_apart = refl

pub most : time_word (codes "100years") ≡ None
unfolding trimmed_start trimmed_end time_word
most = refl

pub options_of_a_filter : named (codes "sshd[mode=\"x y\", n='1']") ≡ Some (record { name = codes "sshd"; options = (codes "mode", codes "x y") ∷ (codes "n", codes "1") ∷ [] })
unfolding trimmed_start trimmed_end named
options_of_a_filter = refl

pub brackets_in_quotes : named (codes "f[what=\"a,b\", how='c]d'][x= y ]") ≡ Some (record { name = codes "f"; options = (codes "what", codes "a,b") ∷ (codes "how", codes "c]d") ∷ (codes "x", codes "y") ∷ [] })
unfolding trimmed_start trimmed_end named
brackets_in_quotes = refl

pub empty_group : named (codes "f[]") ≡ None
unfolding trimmed_start trimmed_end named
empty_group = refl

pub no_name : named (codes "[a=1]") ≡ None
unfolding trimmed_start trimmed_end named
no_name = refl

pub factor_of_one_and_a_half : factor (codes "1.5") ≡ Ok 1500
unfolding trimmed_start trimmed_end
factor_of_one_and_a_half = refl

pub too_fine : factor (codes "1.5000") ≡ Err BadNumber
unfolding trimmed_start trimmed_end
too_fine = refl

pub west : zone (codes "UTC-0130") ≡ Ok (negsuc 5399)
unfolding trimmed_start trimmed_end
west = refl

pub far_east : zone (codes "GMT+2400") ≡ Err BadZone
unfolding trimmed_start trimmed_end
far_east = refl

pub hidden_directory : watches (codes "/var/log/*/x.log") ≡ Err BadGlob
unfolding trimmed_start trimmed_end
hidden_directory = refl

pub logs : watches (codes "/a b/*.log tail\n\n/c\n/c tail") ≡ Ok (record { path = codes "/a b/*.log"; tail = true } ∷ record { path = codes "/c"; tail = false } ∷ [])
unfolding trimmed_start trimmed_end
logs = refl

pub day_and_month : date (codes "^%d/%b %H:%M:%S") ≡ Ok (Pattern (codes "^%d/%b %H:%M:%S"))
unfolding is_date_pattern times chars
day_and_month = refl

pub twice : date (codes "%d%d%m") ≡ Err BadDate
unfolding is_date_pattern times chars
twice = refl

pub seconds_below_one : seconds_from 1 (codes "0") ≡ Err BadTime
unfolding trimmed_start trimmed_end time_word
seconds_below_one = refl

pub never : span (codes "-1") ≡ Ok (negsuc 0)
unfolding trimmed_start trimmed_end time_word
never = refl

pub no_span : span (codes "0s") ≡ Err BadTime
unfolding trimmed_start trimmed_end time_word
no_span = refl

pub far_jitter : jitter (codes "12d") ≡ Err BadNumber
unfolding trimmed_start trimmed_end time_word
far_jitter = refl

pub yes : boolean (codes " Yes ") ≡ Ok true
unfolding trimmed_start trimmed_end
yes = refl

pub maybe : boolean (codes "maybe") ≡ Err BadBool
unfolding trimmed_start trimmed_end
maybe = refl

pub in_any_case : one_of (codes "auto polling") (codes "AUTO") ≡ Ok tt
unfolding trimmed_start trimmed_end
in_any_case = refl

pub raw : one_of (codes "yes warn no") (codes "raw") ≡ Err Unsupported
unfolding trimmed_start trimmed_end
raw = refl

pub one_too_many : number_between 0 1_000 (codes "1001") ≡ Err BadNumber
unfolding trimmed_start trimmed_end
one_too_many = refl

pub leading_zeros : number_between 1 100_000 (codes "007") ≡ Ok 7
unfolding trimmed_start trimmed_end
leading_zeros = refl

pub growth : multipliers (codes "1 5  30") ≡ Ok (1 ∷ 5 ∷ 30 ∷ [])
unfolding trimmed_start trimmed_end
growth = refl

pub no_factor : multipliers (codes "1 0") ≡ Err BadNumber
unfolding trimmed_start trimmed_end
no_factor = refl

pub last_item_then_comma : named (codes "f[a=1,]") ≡ None
unfolding trimmed_start trimmed_end named
last_item_then_comma = refl

pub two_of_one_key : named (codes "f[A=1, a=2]") ≡ Some (record { name = codes "f"; options = (codes "a", codes "1") ∷ (codes "a", codes "2") ∷ [] })
unfolding trimmed_start trimmed_end named
two_of_one_key = refl

pub no_host : fail_patterns 0 (codes "^x$") ≡ Err NoHost
unfolding trimmed_start trimmed_end hosts_in
no_host = refl

pub two_hosts : fail_patterns 0 (codes "<HOST> <IP4>") ≡ Err TwoHosts
unfolding trimmed_start trimmed_end hosts_in
two_hosts = refl

pub mark_of_many_lines : fail_patterns 0 (codes "<HOST>\n<F-MLFID>x</F-MLFID> <HOST>") ≡ Err BadTag
unfolding trimmed_start trimmed_end hosts_in
mark_of_many_lines = refl

pub last_of_all : fail_patterns 511 (codes "<HOST>") ≡ Ok (codes "<HOST>" ∷ [])
unfolding trimmed_start trimmed_end hosts_in
last_of_all = refl

pub one_more : fail_patterns 512 (codes "<HOST>") ≡ Err TooMany
unfolding trimmed_start trimmed_end hosts_in
one_more = refl

pub ignored_without_host : ignore_patterns 0 (codes "\nuser=test") ≡ Ok (codes "user=test" ∷ [])
unfolding trimmed_start trimmed_end hosts_in
ignored_without_host = refl

pub content : prefix (codes "^a <F-CONTENT>.+</F-CONTENT>$") ≡ Ok (Some (codes "^a <F-CONTENT>.+</F-CONTENT>$"))
unfolding hosts_in
content = refl

pub no_content : prefix (codes "^a$") ≡ Err BadTag
unfolding hosts_in
no_content = refl

pub end_before_content : prefix (codes "</F-CONTENT><F-CONTENT>") ≡ Err BadTag
unfolding hosts_in
end_before_content = refl

pub anchored : date (codes "{^LN-BEG}%d/%m") ≡ Ok (AnchoredPattern (codes "%d/%m"))
unfolding is_date_pattern times chars
anchored = refl

pub no_pattern : date [] ≡ Err BadDate
unfolding is_date_pattern times chars
no_pattern = refl
