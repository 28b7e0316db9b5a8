use Rattle.std.proofs.Common.{rules, ◌≡◌, pos, sym, subst}
use Rattle.std.specs.Str.{IsUtf8}
use Rattle.iso_moment.specs.Moments.{moment_text}
use Rattle.client_replies.proofs.MomentLemmas.{moment_utf8}
use Rattle.client_replies.proofs.times.push_clock.Goals as goal

pub text_of-requires : goal.text_of-requires
text_of-requires c =
    let shown : c.as_slice.result.now ≡ moment_text (pos 0) c.args.time = search rules in
    subst IsUtf8 (sym shown) (moment_utf8 c.args.time)
