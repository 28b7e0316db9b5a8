use Rattle.std.proofs.Common.{◌≡◌, ◌<◌, ◌∙◌, List, length, Some, refl, ap, rules}
use Rattle.std.specs.Prelude.{slice_get, slice_set, find, option_map}
use Rattle.std.specs.Vec.{with_items}
use Rattle.std.proofs.lemmas.List.{get_or-set_same, with_items_is}
use Rattle.std.proofs.lemmas.Option.{slice_get_read}
use Rattle.log_set.proofs.SetLemmas.{moved_at, reads, taken_at}
use Rattle.log_set.specs.Logs.{Logs, read_of}
use Rattle.log_set.specs.Searches.{failures_by, is_named}
use Rattle.log_set.specs.declared.jail_search.JailSearch.{JailSearch}
use Rattle.log_set.specs.declared.log.Log.{Log}
use Rattle.log_set.specs.declared.taken.Taken.{Taken}
use Rattle.log_set.proofs.set.LogSet.take.Goals as goal

pub take-requires : goal.take-requires
take-requires c =
    let less : c.args.place < length c.self.inside.logs.items = search rules in
    let at : slice_get c.self.inside.logs.items c.args.place ≡ Some c.index_mut.result.now = slice_get_read _ _ _ _ refl less c.index_mut.ensures.value in
    (rw (← c.self.view_is) at c.requires.look) _ at

pub returns-clause-taken : goal.returns-clause-taken
returns-clause-taken c =
    let old : Logs = record { jails = c.self.inside.jails.items; logs = c.self.inside.logs.items } in
    let less : c.args.place < length c.self.inside.logs.items = search rules in
    let at : slice_get c.self.inside.logs.items c.args.place ≡ Some c.index_mut.result.now = slice_get_read _ _ _ _ refl less c.index_mut.ensures.value in
    let log = c.index.result.now in
    let same : log ≡ c.take.new.self = c.index.ensures ∙ get_or-set_same c.self.inside.logs.items c.args.place c.take.new.self log less in
    let taken : Taken = record { read = c.in_ok-read.read; rotated = c.is_rotated-rotated.result } in
    let read : taken.read ≡ read_of (option_map (λ (j : JailSearch). failures_by j c.args.now) (find (is_named log.jail) old.jails)) log.jail log.path c.in_ok-looked.looked =
    c.in_ok-read.ensures.read
    ∙ ap (λ (js : List JailSearch). read_of (option_map (λ (j : JailSearch). failures_by j c.args.now) (find (is_named log.jail) js)) log.jail log.path c.in_ok-looked.looked)
    c.deref_mut.ensures.value in
    rw (← c.self.view_is)
    (taken_at old c.args.place c.args.now c.args.look.now c.index_mut.result.now log c.in_ok-looked.looked taken at c.in_ok-looked.ensures.looked
    (ap (λ (l : Log). l.jail) same ∙ c.in_ok-looked.ensures.jail) (ap (λ (l : Log). l.path) same ∙ c.in_ok-looked.ensures.path) read c.is_rotated-rotated.ensures)

pub returns-clause-moves : goal.returns-clause-moves
returns-clause-moves c =
    let old : Logs = record { jails = c.self.inside.jails.items; logs = c.self.inside.logs.items } in
    let new : Logs = record { jails = (with_items c.self.inside.jails c.read.new.jails).items; logs = slice_set c.self.inside.logs.items c.args.place c.take.new.self } in
    let less : c.args.place < length c.self.inside.logs.items = search rules in
    let at : slice_get c.self.inside.logs.items c.args.place ≡ Some c.index_mut.result.now = slice_get_read _ _ _ _ refl less c.index_mut.ensures.value in
    let kept = with_items_is c.self.inside.jails c.read.new.jails (ap length c.in_ok-read.ensures.same ∙ c.deref_mut.ensures.len) in
    rw (← c.self.view_is)
    (moved_at old new c.args.place c.args.look.now c.index_mut.result.now c.take.new.self (kept ∙ c.in_ok-read.ensures.same ∙ c.deref_mut.ensures.value) refl at
    c.in_ok-looked.ensures.jail c.in_ok-looked.ensures.path c.in_ok-looked.ensures.stands)

pub returns-clause-storable : goal.returns-clause-storable
returns-clause-storable c = c.in_ok-read.ensures.storable c.in_ok-looked.ensures.place

pub returns-clause-input : goal.returns-clause-input
returns-clause-input c = reads _ _ _ c.in_ok-looked.looked c.in_ok-read.read c.in_ok-read.ensures.read
