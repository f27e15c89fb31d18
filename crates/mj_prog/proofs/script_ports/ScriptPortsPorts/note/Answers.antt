use Rattle.mj_prog.proofs.Standing.{stands-given}
use Rattle.mj_prog.proofs.script_ports.ScriptPortsPorts.note.Goals as goal

pub returns-clause-takes : goal.returns-clause-takes
returns-clause-takes g c = λ origin taken given stood.
    stands-given _ _ _ _ _ _ _ _ _ _ _ _ _ _ _ c.print_note-self.ensures.prints c.print_note-self.ensures.later c.print_note-self.ensures.cause stood
