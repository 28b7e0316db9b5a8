use Rattle.client_frames.proofs.WordLemmas.{came_more, came_none, word_shortens}
use Rattle.client_frames.proofs.words.words_of.Goals as goal

pub loop-rest-init : goal.loop-rest-init
loop-rest-init c = rw c.new-words.ensures (came_none c.args.body.now)

pub loop-rest-smaller : goal.loop-rest-smaller
loop-rest-smaller c = word_shortens _ _ _ c.in-Some.ensures.is

pub loop-rest-preserved : goal.loop-rest-preserved
loop-rest-preserved c =
    came_more c.args.body.now c.loop-rest.words c.loop-rest.rest.now c.in-Some.word.now c.in-Some.others.now c.in_ok-from_str.field-0 c.push.new.self c.loop-rest.invariant
    c.in-Some.ensures.fits c.in-Some.ensures.is c.in_ok-from_str.ensures c.in_ok-push.ensures.ok
