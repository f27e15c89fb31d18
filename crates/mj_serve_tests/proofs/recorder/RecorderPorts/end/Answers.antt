use Rattle.mj_serve_tests.proofs.Keeping.{keeps-more}
use Rattle.mj_serve_tests.proofs.recorder.RecorderPorts.end.Goals as goal

pub returns-clause-takes : goal.returns-clause-takes
returns-clause-takes c = λ origin taken given keeps.
    keeps-more origin.coming.items c.args.self.now.coming.items c.keep.new.self.coming.items taken origin.given.items c.args.self.now.given.items c.keep.new.self.given.items c.args.self.now.lost c.keep.new.self.lost given _ c.keep.ensures.coming c.keep.ensures.kept keeps
