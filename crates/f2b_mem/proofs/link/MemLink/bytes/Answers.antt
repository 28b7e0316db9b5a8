use Rattle.f2b_mem.proofs.LinkLemmas.{is_front, is_whole}
use Rattle.f2b_mem.proofs.link.MemLink.bytes.Goals as goal

pub returns-clause-front : goal.returns-clause-front
returns-clause-front c = is_front c.args.self.now.told c.args.self.now.server c.args.self.now.sent c.args.self.now.bytes c.args.self.now.given c.args.self.now.ended

pub returns-clause-rest : goal.returns-clause-rest
returns-clause-rest c = is_whole c.args.self.now.told c.args.self.now.server c.args.self.now.sent c.args.self.now.bytes c.args.self.now.given c.args.self.now.ended
