-- The lines of a desk.
use Rattle.mj_chain.specs.declared.desk.Desk.{Desk}
use Rattle.mj_chain.specs.declared.desk.Line.{Line}
use Rattle.mj_chain.specs.declared.desk.Line.TheVariants.{Requests, Waiting, Busy}
use Rattle.mj_chain.specs.declared.node.Ends.{Ends}

abbrev pub line_of : Line → Desk → Ends
line_of Requests desk = desk.requests
line_of Waiting desk = desk.waiting
line_of Busy desk = desk.busy

abbrev pub with_line : Line → Ends → Desk → Desk
with_line Requests ends desk = record desk { requests = ends }
with_line Waiting ends desk = record desk { waiting = ends }
with_line Busy ends desk = record desk { busy = ends }
