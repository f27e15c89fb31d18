use Rattle.std.proofs.Common.{List, Result, length, ap, sym, subst, arith}
use Rattle.mj_base.specs.declared.event.Event.{Event}
use Rattle.mj_serve.specs.Given.{Entry}
use Rattle.mj_serve.specs.declared.fault.ServeFault.{ServeFault}
use Rattle.mj_gen.specs.Generating.{HasRun}
use Rattle.mj_gen.specs.Standing.{Stands}
use Rattle.mj_gen.specs.ToCome.{to_come}
use Rattle.mj_gen.specs.declared.counts.Counts.{Counts}
use Rattle.mj_gen.specs.declared.ports.GenPorts.{GenPorts}
use Rattle.mj_gen.proofs.Loads.{has-run}
use Rattle.mj_gen.proofs.Places.{load_few}
use Rattle.mj_gen.proofs.top_call.run.Goals as goal

abbrev from : GenPorts → List Event
from ports = to_come ports.place.n ports.place.stored ports.place.turn ports.place.number

pub serve-served-requires-clause-few : goal.serve-served-requires-clause-few
serve-served-requires-clause-few g c = let e = ap length c.new-ports.ensures.begins in omega (arith, e, load_few c.args.n c.args.stored c.requires.few)

pub returns : goal.returns
returns g c =
    let e = c.serve-served.ensures in
    let ports = c.serve-served.new.ports in
    subst (λ (a : Result Counts ServeFault). HasRun g.D.Disk c.args.n c.args.stored c.args.disk.now c.serve-served.new.disk a) (sym c.answer_of.ensures)
    (has-run (λ (origin : GenPorts) (now : GenPorts) (taken : List Event) (given : List Entry). Stands (from origin) (from now) now.counts now.shut now.stopped taken given) g.D.Disk c.new-ports.result ports c.args.disk.now c.serve-served.new.disk c.args.n c.args.stored
    (from ports) ports.counts ports.shut ports.stopped
    (λ taken given stands. subst (λ (first : List Event). Stands first (from ports) ports.counts ports.shut ports.stopped taken given) c.new-ports.ensures.begins stands)
    c.standard.result c.standard.ensures c.new-ports.ensures.stand e.plain c.serve-served.result (e.stood c.new-ports.ensures.stand) e.served e.served_without e.ended e.ended_without e.stopped e.cause e.unopened e.refused e.lawful e.unlawful)
