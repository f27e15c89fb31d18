use Rattle.mj_copying.proofs.FollowLemmas.{cut_in, stopped_in, turned}
use Rattle.mj_copying.proofs.following.turn.Goals as goal

pub returns-in-Err-clause-cut : goal.returns-in-Err-clause-cut
returns-in-Err-clause-cut g c = λ start since now r. stopped_in g.D.Disk start since now (g.L.Link.told c.args.link.now) (g.L.Link.told c.advance.new.link) c.in-Err.stop c.advance.new.disk (c.in-Err.ensures.stopped start since now r)

pub returns-in-Ok-perform_all-clause-turned : goal.returns-in-Ok-perform_all-clause-turned
returns-in-Ok-perform_all-clause-turned g c = λ start since now r.
    let b = c.in-Ok.ensures.began start since now r in
    turned g.D.Disk start since now b.0 c.in-Ok.acts.items c.as_slice.result.now c.advance.new.end c.advance.new.log c.advance.new.disk (g.L.Link.told c.args.link.now) (g.L.Link.told c.advance.new.link) (g.L.Link.told c.perform_all.new.link) c.as_slice.ensures.value b.1 b.2 c.in-Ok-perform_all.ensures.done

pub returns-clause-cut : goal.returns-clause-cut
returns-clause-cut g c = λ start since now r.
    let b = c.in-Ok.ensures.began start since now r in
    cut_in g.D.Disk start since now b.0 c.in-Ok.acts.items c.as_slice.result.now c.advance.new.end c.advance.new.log c.advance.new.disk (g.L.Link.told c.args.link.now) (g.L.Link.told c.advance.new.link) (g.L.Link.told c.perform_all.new.link) c.in-Err-perform_all.stop c.as_slice.ensures.value b.1 b.2 c.in-Err-perform_all.ensures.broken
