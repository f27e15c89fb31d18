use Rattle.mj_prog.proofs.Standing.{stands-act, stands-line, stands-over, stands-still, stands-unread}
use Rattle.mj_prog.proofs.script_ports.ScriptPortsPorts.next.Goals as goal

pub returns-in-Act-clause-gives : goal.returns-in-Act-clause-gives
returns-in-Act-clause-gives g c = λ origin taken given stood.
    let e = c.in-Act.ensures in
    stands-act _ _ _ _ _ _ _ _ _ _ _ _ _ _ c.args.self.now.progress.now.lanes c.in-Act.event e.taken c.requires
    (record { stands = e.stands; lanes = e.lanes; later = e.later; no_further = e.no_further; misses = e.misses; cause = e.cause; fewer = e.fewer }) stood

pub returns-in-Over-clause-gives : goal.returns-in-Over-clause-gives
returns-in-Over-clause-gives g c = λ origin taken given stood.
    let e = c.in-Over.ensures in
    stands-over _ _ _ _ _ _ _ _ _ _ _ _ _ _ c.requires
    (record { stands = e.stands; lanes = e.lanes; later = e.later; no_further = e.no_further; misses = e.misses; cause = e.cause; fewer = e.fewer }) stood

pub returns-in-Line-clause-gives : goal.returns-in-Line-clause-gives
returns-in-Line-clause-gives g c = λ origin taken given stood.
    let e = c.in-Line.ensures in
    stands-line _ _ _ _ _ _ _ _ _ _ _ _ _ _ c.in-Line.number c.requires
    (record { stands = e.stands; lanes = e.lanes; later = e.later; no_further = e.no_further; misses = e.misses; cause = e.cause; fewer = e.fewer }) stood

pub returns-in-Failed-read_next-clause-gives : goal.returns-in-Failed-read_next-clause-gives
returns-in-Failed-read_next-clause-gives g c = λ origin taken given stood.
    let e = c.in-Failed-read_next.ensures in
    stands-unread _ _ _ _ _ _ _ _ _ _ _ _ _ _ c.requires
    (record { stands = e.stands; lanes = e.lanes; later = e.later; no_further = e.no_further; misses = e.misses; cause = e.cause; fewer = e.fewer }) stood

pub returns-in-NoMemory-read_next-clause-keeps : goal.returns-in-NoMemory-read_next-clause-keeps
returns-in-NoMemory-read_next-clause-keeps g c = λ origin taken given stood.
    let e = c.in-NoMemory-read_next.ensures in
    stands-still _ _ _ _ _ _ _ _ _ _ _ _ _ _ c.requires
    (record { stands = e.stands; lanes = e.lanes; later = e.later; no_further = e.no_further; misses = e.misses; cause = e.cause; fewer = e.fewer }) stood
