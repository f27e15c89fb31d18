-- What was read and what is left to read are the frames.
use Rattle.std.proofs.Common.{◌≡◌, ◌-◌}
use Rattle.mj_tickets.specs.PayloadReading.{frames_in}
use Rattle.mj_tickets.proofs.FrameLemmas.{behind}
use Rattle.mj_tickets.proofs.reading.frames_of.Given as goal

abbrev pub invariant-loop-i : goal.invariant-loop-i
invariant-loop-i l = behind l.frames (frames_in (l.count - l._i) l.rest) ≡ frames_in l.count l.fn.octets
