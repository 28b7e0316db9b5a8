use Rattle.std.proofs.Common.{◌≤◌, ◌<◌, ◌^◌, arith, rules}
use Rattle.journal_slots.specs.Starts.{last_generation}
use Rattle.ban_journal.proofs.JournalLemmas.{room_left, turn_waits, written_answer, turn_keeps, turn_rests_if}
use Rattle.ban_journal.proofs.journal.Journal.turn_over.Goals as goal

pub returns-then-from-bytes-clause-means : goal.returns-then-from-bytes-clause-means
returns-then-from-bytes-clause-means g c = turn_waits c.args.self c.args.view.now c.args.input.now (g.D.Outside.stands c.args.disk.now)

pub returns-then-self-ge-LAST_GENERATION-clause-means : goal.returns-then-self-ge-LAST_GENERATION-clause-means
returns-then-self-ge-LAST_GENERATION-clause-means g c = turn_waits c.args.self c.args.view.now c.args.input.now (g.D.Outside.stands c.args.disk.now)

pub turned-requires-clause-room : goal.turned-requires-clause-room
turned-requires-clause-room g c =
    let small : c.args.self.limit < 2 ^ 64 = first_of (omega arith, search rules) in
    let within : c.needed-bytes.result ≤ c.args.self.limit = first_of (omega arith, search rules) in
    room_left c.args.self c.args.view.now c.args.input.now c.view_len.result c.input_len.result c.needed-bytes.result small c.view_len.ensures c.input_len.ensures c.needed-bytes.ensures within

pub returns-clause-answer : goal.returns-clause-answer
returns-clause-answer g c =
    let small : c.args.self.limit < 2 ^ 64 = first_of (omega arith, search rules) in
    let within : c.needed-bytes.result ≤ c.args.self.limit = first_of (omega arith, search rules) in
    let room = room_left c.args.self c.args.view.now c.args.input.now c.view_len.result c.input_len.result c.needed-bytes.result small c.view_len.ensures c.input_len.ensures c.needed-bytes.ensures within in
    let below : c.args.self.generation < last_generation = first_of (omega arith, search rules) in
    written_answer c.args.self c.args.view.now c.args.input.now (g.D.Outside.stands c.args.disk.now) (g.D.Outside.stands c.turned.new.disk) c.turned.result room below c.turned.ensures.answer

pub returns-clause-means : goal.returns-clause-means
returns-clause-means g c =
    let small : c.args.self.limit < 2 ^ 64 = first_of (omega arith, search rules) in
    let within : c.needed-bytes.result ≤ c.args.self.limit = first_of (omega arith, search rules) in
    let room = room_left c.args.self c.args.view.now c.args.input.now c.view_len.result c.input_len.result c.needed-bytes.result small c.view_len.ensures c.input_len.ensures c.needed-bytes.ensures within in
    let below : c.args.self.generation < last_generation = first_of (omega arith, search rules) in
    turn_keeps c.args.self c.args.view.now c.args.input.now (g.D.Outside.stands c.args.disk.now) (g.D.Outside.stands c.turned.new.disk) c.turned.result small room below c.turned.ensures.answer

pub returns-clause-rests : goal.returns-clause-rests
returns-clause-rests g c =
    let small : c.args.self.limit < 2 ^ 64 = first_of (omega arith, search rules) in
    let within : c.needed-bytes.result ≤ c.args.self.limit = first_of (omega arith, search rules) in
    let room = room_left c.args.self c.args.view.now c.args.input.now c.view_len.result c.input_len.result c.needed-bytes.result small c.view_len.ensures c.input_len.ensures c.needed-bytes.ensures within in
    let below : c.args.self.generation < last_generation = first_of (omega arith, search rules) in
    turn_rests_if c.args.self c.args.view.now c.args.input.now (g.D.Outside.stands c.args.disk.now) (g.D.Outside.stands c.turned.new.disk) c.turned.result small room below c.turned.ensures.answer
