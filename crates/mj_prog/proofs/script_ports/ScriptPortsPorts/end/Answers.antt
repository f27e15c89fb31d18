use Rattle.mj_prog.proofs.Standing.{stands-given}
use Rattle.mj_prog.proofs.script_ports.ScriptPortsPorts.end.Goals as goal

pub returns-clause-takes : goal.returns-clause-takes
returns-clause-takes g c = λ origin taken given stood.
    stands-given _ _ _ _ _ _ _ _ _ _ _ _ _ _ _ c.print_end-self.ensures.prints c.print_end-self.ensures.later c.print_end-self.ensures.cause stood
