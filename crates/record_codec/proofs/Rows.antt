-- Worked rows of the spelling, computed both ways.
use Rattle.std.proofs.Common.{◌≡◌, ℕ, true, false, List, [], ◌∷◌, ◌++◌, Option, Some, None, Result, Ok, Err, ℤ, pos, refl, codes, zero, suc, arith, lit<, lit≤}
use Rattle.std.proofs.lemmas.Str.{IsUtf8-from_ascii}
use Rattle.std.specs.Str.{IsAscii}
use Rattle.f2b_base.specs.declared.addr.Addr.TheVariants.{V4}
use Rattle.f2b_base.specs.declared.ban.Ban.{Ban}
use Rattle.f2b_base.specs.declared.ban.Failure.{Failure}
use Rattle.f2b_base.specs.declared.ban.Until.TheVariants.{At}
use Rattle.f2b_base.specs.declared.input.Input.{Input}
use Rattle.f2b_base.specs.declared.input.What.TheVariants.{Tick, Unban, CheckFailed}
use Rattle.f2b_base.specs.declared.job.Outcome.TheVariants.{Status}
use Rattle.f2b_model.specs.Views.{empty_view}
use Rattle.record_codec.specs.declared.version.Version.TheVariants.{One, Two}
use Rattle.record_fields.specs.Addresses.{addr_at, fixed_at}
use Rattle.record_fields.specs.Lists.{items_at, list_at, list_of, each_list_at, each_at}
use Rattle.record_fields.specs.Numbers.{digits, digits_at, number_at, unzigzag}
use Rattle.record_fields.specs.Texts.{string_at, string_spelling}
use Rattle.record_codec.specs.Definitions.{defs}
use Rattle.record_codec.specs.Inputs.{input, what, check_failed_at, unban_at}
use Rattle.record_codec.specs.Lanes.{outcome}
use Rattle.record_codec.specs.Versions.{failure_v1, failure_v2}
use Rattle.record_codec.specs.Views.{ban, until, view, jails_at}
use Rattle.record_codec.proofs.InputLemmas.{failure_codec}

-- the empty view is 00 80 a3 05 00 00 00 00 00 00 00, whatever the version
empty_view_is : (view Two).spell empty_view ≡ 0 ∷ 0x80 ∷ 0xa3 ∷ 0x05 ∷ 0 ∷ 0 ∷ 0 ∷ 0 ∷ 0 ∷ 0 ∷ 0 ∷ []
unfolding view defs digits list_of
empty_view_is = refl

empty_view_is_v1 : (view One).spell empty_view ≡ 0 ∷ 0x80 ∷ 0xa3 ∷ 0x05 ∷ 0 ∷ 0 ∷ 0 ∷ 0 ∷ 0 ∷ 0 ∷ 0 ∷ []
unfolding view defs digits list_of
empty_view_is_v1 = refl

empty_view_reads : (view Two).read (0 ∷ 0x80 ∷ 0xa3 ∷ 0x05 ∷ 0 ∷ 0 ∷ 0 ∷ 0 ∷ 0 ∷ 0 ∷ 0 ∷ 7 ∷ []) ≡ Ok (empty_view, 7 ∷ [])
unfolding view defs number_at digits_at list_at items_at jails_at each_list_at each_at
empty_view_reads = refl

-- eleven bytes ff spell no view: the first field is at fault
no_view : (view Two).read (0xff ∷ 0xff ∷ 0xff ∷ 0xff ∷ 0xff ∷ 0xff ∷ 0xff ∷ 0xff ∷ 0xff ∷ 0xff ∷ 0xff ∷ []) ≡ Err 11
unfolding view number_at digits_at
no_view = refl

-- where the bytes end, the field that they end in is at fault
cut_view : (view Two).read (0 ∷ 0x80 ∷ 0xa3 ∷ []) ≡ Err 2
unfolding view defs number_at digits_at
cut_view = refl

-- time that passed, at 100 with the word 0, is 64 00 00
tick_is : (input Two).spell (record { secs = 100; word = 0; what = Tick }) ≡ 0x64 ∷ 0 ∷ 0 ∷ []
unfolding input what digits
tick_is = refl

tick_reads : (input One).read (0x64 ∷ 0 ∷ 0 ∷ []) ≡ Ok (record { secs = 100; word = 0; what = Tick }, [])
unfolding input what number_at digits_at
tick_reads = refl

-- at 200 it has a byte more: c8 01 00 00
later_tick_is : (input Two).spell (record { secs = 200; word = 0; what = Tick }) ≡ 0xc8 ∷ 1 ∷ 0 ∷ 0 ∷ []
unfolding input what digits
later_tick_is = refl

-- the check of job 2 failed with status 1, at 1000 with the word 0: e8 07 00 0d 02 00 02
check_failed_is : (input Two).spell (record { secs = 1000; word = 0; what = CheckFailed 2 (Status (pos 1)) }) ≡ 0xe8 ∷ 0x07 ∷ 0 ∷ 0x0d ∷ 2 ∷ 0 ∷ 2 ∷ []
unfolding input what outcome digits
check_failed_is = refl

check_failed_reads : (input Two).read (0xe8 ∷ 0x07 ∷ 0 ∷ 0x0d ∷ 2 ∷ 0 ∷ 2 ∷ []) ≡ Ok (record { secs = 1000; word = 0; what = CheckFailed 2 (Status (pos 1)) }, [])
unfolding input what check_failed_at outcome number_at digits_at unzigzag
check_failed_reads = refl

-- all bans end: 64 00 06 00 00
unban_is : (input Two).spell (record { secs = 100; word = 0; what = Unban None None }) ≡ 0x64 ∷ 0 ∷ 6 ∷ 0 ∷ 0 ∷ []
unfolding input what digits
unban_is = refl

unban_reads : (input Two).read (0x64 ∷ 0 ∷ 6 ∷ 0 ∷ 0 ∷ []) ≡ Ok (record { secs = 100; word = 0; what = Unban None None }, [])
unfolding input what unban_at number_at digits_at
unban_reads = refl

-- there is no fifteenth kind of input
no_kind : (input Two).read (0x64 ∷ 0 ∷ 14 ∷ 0 ∷ []) ≡ Err 2
unfolding input what number_at digits_at
no_kind = refl

-- the failure of 192.0.2.7 at 1700000100 with the line x: 04 c0 00 02 07 e4 e2 cf aa 06 01 78
abbrev x_failure : Failure
x_failure = record { addr = V4 0xc0000207; time = 1700000100; line = codes "x" }

failure_is : failure_v2.spell x_failure ≡ 4 ∷ 0xc0 ∷ 0 ∷ 2 ∷ 7 ∷ 0xe4 ∷ 0xe2 ∷ 0xcf ∷ 0xaa ∷ 6 ∷ 1 ∷ 0x78 ∷ []
unfolding failure_v2 digits string_spelling
failure_is = refl

x_ascii : IsAscii (120 ∷ [])
x_ascii zero = lit< tt
x_ascii (suc i) = omega arith

failure_reads : failure_v2.read (4 ∷ 0xc0 ∷ 0 ∷ 2 ∷ 7 ∷ 0xe4 ∷ 0xe2 ∷ 0xcf ∷ 0xaa ∷ 6 ∷ 1 ∷ 0x78 ∷ []) ≡ Ok (x_failure, [])
unfolding failure_v2 digits string_spelling
failure_reads = (failure_codec Two).again x_failure [] ((record { addr = lit< tt; time = lit≤ tt; line = (IsUtf8-from_ascii (120 ∷ []) x_ascii, lit≤ tt) }), tt) (lit< tt)

-- in version 1 its line is not spelt, and read as empty
failure_is_v1 : failure_v1.spell x_failure ≡ 4 ∷ 0xc0 ∷ 0 ∷ 2 ∷ 7 ∷ 0xe4 ∷ 0xe2 ∷ 0xcf ∷ 0xaa ∷ 6 ∷ []
unfolding failure_v1 digits
failure_is_v1 = refl

failure_reads_v1 : failure_v1.read (4 ∷ 0xc0 ∷ 0 ∷ 2 ∷ 7 ∷ 0xe4 ∷ 0xe2 ∷ 0xcf ∷ 0xaa ∷ 6 ∷ 1 ∷ 0x78 ∷ []) ≡ Ok (record x_failure { line = [] }, 1 ∷ 0x78 ∷ [])
unfolding failure_v1 addr_at fixed_at number_at digits_at
failure_reads_v1 = refl

-- a ban of 192.0.2.7 with the serial 1 from 1000 to 1600, the first, after 3 failures
ban_is : ban.spell (record { serial = 1; addr = V4 0xc0000207; begin = 1000; until = At 1600; count = 0; failures = 3 })
    ≡ 1 ∷ 4 ∷ 192 ∷ 0 ∷ 2 ∷ 7 ∷ 0xe8 ∷ 7 ∷ 1 ∷ 0xc0 ∷ 12 ∷ 0 ∷ 3 ∷ []
unfolding ban until digits
ban_is = refl

ban_reads : ban.read (1 ∷ 4 ∷ 192 ∷ 0 ∷ 2 ∷ 7 ∷ 0xe8 ∷ 7 ∷ 1 ∷ 0xc0 ∷ 12 ∷ 0 ∷ 3 ∷ [])
    ≡ Ok (record { serial = 1; addr = V4 0xc0000207; begin = 1000; until = At 1600; count = 0; failures = 3 }, [])
unfolding ban until addr_at fixed_at number_at digits_at
ban_reads = refl
