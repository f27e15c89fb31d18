use Rattle.std.proofs.Common.{ℕ, [], ◌∷◌, ◌++◌, Some, subst}
use Rattle.mj_base.specs.declared.event.Out.TheVariants as outs
use Rattle.mj_serve_tests.specs.Recording.{Keeps}
use Rattle.mj_serve_tests.proofs.Keeping.{keeps-more}
use Rattle.mj_serve_tests.proofs.recorder.RecorderPorts.put.Goals as goal

pub returns-clause-takes : goal.returns-clause-takes
returns-clause-takes g c = λ origin taken given keeps.
    subst (λ (moment : ℕ). Keeps origin.coming.items c.keep.new.self.coming.items taken origin.given.items c.keep.new.self.given.items c.keep.new.self.lost (given ++ record { out = outs.Piece c.args.lane c.args.piece; moment = Some moment } ∷ [])) c.moment-moment.ensures
    (keeps-more origin.coming.items c.args.self.now.coming.items c.keep.new.self.coming.items taken origin.given.items c.args.self.now.given.items c.keep.new.self.given.items c.args.self.now.lost c.keep.new.self.lost given _ c.keep.ensures.coming c.keep.ensures.kept keeps)
