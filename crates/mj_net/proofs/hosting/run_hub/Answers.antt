use Rattle.mj_net.proofs.hosting.run_hub.Goals as goal

pub returns : goal.returns
returns g c = (_, _, c.run_over.ensures, c.new-ports.ensures.new, c.new-ports.ensures.stands)
