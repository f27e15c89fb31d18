use Rattle.mj_serve_tests.proofs.Keeping.{takes-none}
use Rattle.mj_serve_tests.proofs.recorder.RecorderPorts.next.Goals as goal

pub returns-else-fits-clause-gives : goal.returns-else-fits-clause-gives
returns-else-fits-clause-gives c = λ origin taken given keeps.
    takes-none origin.coming.items c.args.self.now.coming.items c.clear.new.self.items taken origin.given.items c.args.self.now.given.items c.args.self.now.lost given c.clear.ensures.items keeps
