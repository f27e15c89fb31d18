use Rattle.std.proofs.Common.{Option, subst}
use Rattle.std.specs.Option.{option_map}
use Rattle.mj_hall.specs.declared.kept.Worker.{Worker}
use Rattle.mj_hall.specs.Desks.{PeopledBut}
use Rattle.mj_hall.proofs.crew.shut_after.Goals as goal

pub returns-in-Some-clause-peopled : goal.returns-in-Some-clause-peopled
returns-in-Some-clause-peopled g c =
    λ es ws are people. c.shut.ensures.peopled es ws are (subst (λ (o : Option Worker). PeopledBut (option_map (λ (w : Worker). w.desk) o) c.args.names.now es ws) c.in-Some.is people)

pub returns-in_default-clause-peopled : goal.returns-in_default-clause-peopled
returns-in_default-clause-peopled g c = λ es ws are people. subst (λ (o : Option Worker). PeopledBut (option_map (λ (w : Worker). w.desk) o) c.args.names.now es ws) c.in_default.is people
