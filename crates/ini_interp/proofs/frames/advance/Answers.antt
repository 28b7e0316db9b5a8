use Rattle.std.proofs.Common.{◌≡◌, ◌∙◌, ◌∷◌, ◌++◌, List, [], refl, sym, ap}
use Rattle.ini_interp.specs.declared.frames.Frame.{Frame}
use Rattle.ini_interp.specs.declared.frames.Step.{Step}
use Rattle.ini_interp.proofs.FramesLemmas.{stands_kept, kept_joined, kept_skipped, faults_included, less_step, stands_entered, kept_entered, less_entered, kept_done, stands_done, less_done, no_steps}
use Rattle.ini_interp.proofs.frames.advance.Goals as goal

pub returns-in-None-clause-ok : goal.returns-in-None-clause-ok
returns-in-None-clause-ok c = kept_done c.args.files.now c.args.frames.now.items c.args.frame (no_steps c.args.frame.steps.items c.pop_front.new.self.items c.in-None.ensures.items c.in-None.ensures.rest) c.args.sections.now

pub returns-in-None-clause-way : goal.returns-in-None-clause-way
returns-in-None-clause-way c = stands_done c.args.files.now c.args.frames.now.items c.args.frame (no_steps c.args.frame.steps.items c.pop_front.new.self.items c.in-None.ensures.items c.in-None.ensures.rest) c.requires

pub returns-in-None-clause-less : goal.returns-in-None-clause-less
returns-in-None-clause-less c = less_done c.args.files.now c.args.frames.now.items c.args.frame (no_steps c.args.frame.steps.items c.pop_front.new.self.items c.in-None.ensures.items c.in-None.ensures.rest)

pub returns-in-Some-Join-clause-ok : goal.returns-in-Some-Join-clause-ok
returns-in-Some-Join-clause-ok c =
    let rest : Frame = record { path = c.args.frame.path; steps = c.pop_front.new.self } in
    kept_joined c.args.files.now c.args.frames.now.items c.args.frame rest refl c.push.new.self.items c.in-Some-Join.file c.args.sections.now c.join.new.sections
    c.in_ok-push-in-Some-Join.ensures.items (c.in-Some-Join.ensures.items ∙ ap (λ (step : Step). step ∷ c.pop_front.new.self.items) c.in-Some-Join.field-0-is) c.in_ok-join-in-Some-Join.ensures

pub returns-in-Some-Join-clause-way : goal.returns-in-Some-Join-clause-way
returns-in-Some-Join-clause-way c =
    let rest : Frame = record { path = c.args.frame.path; steps = c.pop_front.new.self } in
    stands_kept c.args.files.now c.args.frames.now.items c.args.frame rest refl c.push.new.self.items c.in_ok-push-in-Some-Join.ensures.items c.requires

pub returns-in-Some-Join-clause-less : goal.returns-in-Some-Join-clause-less
returns-in-Some-Join-clause-less c =
    let rest : Frame = record { path = c.args.frame.path; steps = c.pop_front.new.self } in
    less_step c.args.files.now c.args.frames.now.items c.args.frame rest refl c.push.new.self.items c.in-Some-Join.field-0 c.in_ok-push-in-Some-Join.ensures.items c.in-Some-Join.ensures.items

pub included-requires : goal.included-requires
included-requires c =
    let rest : Frame = record { path = c.args.frame.path; steps = c.pop_front.new.self } in
    stands_kept c.args.files.now c.args.frames.now.items c.args.frame rest refl c.as_slice.result.now
    (c.as_slice.ensures.value ∙ c.in_ok-push-in-Some-Include.ensures.items) c.requires

pub returns-in-Ok-Some-clause-ok : goal.returns-in-Ok-Some-clause-ok
returns-in-Ok-Some-clause-ok c =
    let rest : Frame = record { path = c.args.frame.path; steps = c.pop_front.new.self } in
    let is = c.as_slice.ensures.value ∙ c.in_ok-push-in-Some-Include.ensures.items in
    kept_entered c.args.files.now c.args.frames.now.items c.args.frame rest refl c.as_slice.result.now c.push-in-Ok-Some.new.self.items is c.in-Ok-Some.next
    (c.in_ok-push-in-Ok-Some.ensures.items ∙ ap (λ (l : List Frame). l ++ c.in-Ok-Some.next ∷ []) (sym c.as_slice.ensures.value)) c.as_str.result.now
    c.in-Some-Include.name (c.as_str.ensures.value ∙ c.in_ok-file-in-Some-Include.ensures)
    (c.in-Some-Include.ensures.items ∙ ap (λ (step : Step). step ∷ c.pop_front.new.self.items) c.in-Some-Include.field-0-is)
    (rw c.in-Ok-Some.field-0-is at c.in-Ok-Some.ensures.some)
    (stands_kept c.args.files.now c.args.frames.now.items c.args.frame rest refl c.as_slice.result.now is c.requires) c.args.sections.now

pub returns-in-Ok-Some-clause-way : goal.returns-in-Ok-Some-clause-way
returns-in-Ok-Some-clause-way c =
    let rest : Frame = record { path = c.args.frame.path; steps = c.pop_front.new.self } in
    let is = c.as_slice.ensures.value ∙ c.in_ok-push-in-Some-Include.ensures.items in
    stands_entered c.args.files.now c.as_slice.result.now c.in-Ok-Some.next c.as_str.result.now c.in-Some-Include.name c.push-in-Ok-Some.new.self.items
    (c.in_ok-push-in-Ok-Some.ensures.items ∙ ap (λ (l : List Frame). l ++ c.in-Ok-Some.next ∷ []) (sym c.as_slice.ensures.value))
    (rw c.in-Ok-Some.field-0-is at c.in-Ok-Some.ensures.some)
    (stands_kept c.args.files.now c.args.frames.now.items c.args.frame rest refl c.as_slice.result.now is c.requires)

pub returns-in-Ok-Some-clause-less : goal.returns-in-Ok-Some-clause-less
returns-in-Ok-Some-clause-less c =
    let rest : Frame = record { path = c.args.frame.path; steps = c.pop_front.new.self } in
    let is = c.as_slice.ensures.value ∙ c.in_ok-push-in-Some-Include.ensures.items in
    less_entered c.args.files.now c.args.frames.now.items c.args.frame rest refl c.as_slice.result.now c.push-in-Ok-Some.new.self.items is c.in-Ok-Some.next
    (c.in_ok-push-in-Ok-Some.ensures.items ∙ ap (λ (l : List Frame). l ++ c.in-Ok-Some.next ∷ []) (sym c.as_slice.ensures.value)) c.as_str.result.now
    c.in-Some-Include.name (c.as_str.ensures.value ∙ c.in_ok-file-in-Some-Include.ensures)
    (c.in-Some-Include.ensures.items ∙ ap (λ (step : Step). step ∷ c.pop_front.new.self.items) c.in-Some-Include.field-0-is)
    (rw c.in-Ok-Some.field-0-is at c.in-Ok-Some.ensures.some)
    (stands_kept c.args.files.now c.args.frames.now.items c.args.frame rest refl c.as_slice.result.now is c.requires)

pub returns-in-Ok-None-clause-ok : goal.returns-in-Ok-None-clause-ok
returns-in-Ok-None-clause-ok c =
    let rest : Frame = record { path = c.args.frame.path; steps = c.pop_front.new.self } in
    kept_skipped c.args.files.now c.args.frames.now.items c.args.frame rest refl c.push-in-Some-Include.new.self.items c.as_str.result.now c.in-Some-Include.name
    c.args.sections.now c.in_ok-push-in-Some-Include.ensures.items (c.as_str.ensures.value ∙ c.in_ok-file-in-Some-Include.ensures)
    (c.in-Some-Include.ensures.items ∙ ap (λ (step : Step). step ∷ c.pop_front.new.self.items) c.in-Some-Include.field-0-is)
    (rw c.as_slice.ensures.value at (rw c.in-Ok-None.field-0-is at c.in-Ok-None.ensures.none))

pub returns-in-Ok-None-clause-way : goal.returns-in-Ok-None-clause-way
returns-in-Ok-None-clause-way c =
    let rest : Frame = record { path = c.args.frame.path; steps = c.pop_front.new.self } in
    stands_kept c.args.files.now c.args.frames.now.items c.args.frame rest refl c.push-in-Some-Include.new.self.items c.in_ok-push-in-Some-Include.ensures.items c.requires

pub returns-in-Ok-None-clause-less : goal.returns-in-Ok-None-clause-less
returns-in-Ok-None-clause-less c =
    let rest : Frame = record { path = c.args.frame.path; steps = c.pop_front.new.self } in
    less_step c.args.files.now c.args.frames.now.items c.args.frame rest refl c.push-in-Some-Include.new.self.items c.in-Some-Include.field-0
    c.in_ok-push-in-Some-Include.ensures.items c.in-Some-Include.ensures.items

pub returns-clause-fault : goal.returns-clause-fault
returns-clause-fault c = λ memory.
    let rest : Frame = record { path = c.args.frame.path; steps = c.pop_front.new.self } in
    faults_included c.args.files.now c.args.frames.now.items c.args.frame rest refl c.as_slice.result.now c.as_str.result.now c.in-Some-Include.name c.in-Err.fault
    (c.as_slice.ensures.value ∙ c.in_ok-push-in-Some-Include.ensures.items) (c.as_str.ensures.value ∙ c.in_ok-file-in-Some-Include.ensures)
    (c.in-Some-Include.ensures.items ∙ ap (λ (step : Step). step ∷ c.pop_front.new.self.items) c.in-Some-Include.field-0-is) (c.in-Err.ensures.fault memory)
