use Rattle.std.proofs.Common.{◌≡◌, List, nat_le, filter, sym, ◌∙◌, ap, ap₂, subst}
use Rattle.std.proofs.lemmas.List.Elements.{filter_agree}
use Rattle.ban_table.specs.declared.lists.BanLists.{BanLists}
use Rattle.f2b_base.specs.declared.ban.Ban.{Ban}
use Rattle.f2b_base.specs.declared.ban.Past.{Past}
use Rattle.f2b_model.specs.StorableViews.{is_over}
use Rattle.jail_moves.proofs.WindowCounts.{ok_then}
use Rattle.jail_moves.proofs.stored.table_of.Goals as goal

pub returns : goal.returns
returns c =
    let Ends : List Ban → Type 0 = λ bans. (p : Past) → is_over c.args.at bans p ≡ nat_le p.end c.last_end-last.result in
    let ends : Ends c.args.active.now = subst Ends (c.as_slice.ensures ∙ c.in_ok-active.ensures) c.last_end-last.ensures in
    let past : c.keep_until.new.past ≡ filter (is_over c.args.at c.args.active.now) c.args.past.now =
    c.keep_until.ensures ∙ ap (filter (λ (p : Past). nat_le p.end c.last_end-last.result)) c.in_ok-past.ensures
    ∙ filter_agree (λ (p : Past). nat_le p.end c.last_end-last.result) (is_over c.args.at c.args.active.now) (λ p. sym (ends p)) c.args.past.now in
    record {
      table = ok_then _ _ c.of.result (λ table is. is ∙ ap₂ (λ bans ps. let t : BanLists = record { active = bans; past = ps } in t) c.in_ok-active.ensures past) c.of.ensures;
    }
