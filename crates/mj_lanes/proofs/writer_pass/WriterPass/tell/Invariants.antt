use Rattle.std.proofs.Common.{◌≡◌, ◌++◌, replicate}
use Rattle.mj_base.specs.declared.event.Event.TheVariants.{Sent}
use Rattle.mj_lanes.proofs.writer_pass.WriterPass.tell.Given as goal

abbrev pub invariant-loop-told : goal.invariant-loop-told
invariant-loop-told g l = l.self ≡ record l.fn.self { sent = l.fn.self.sent ++ replicate l._told (Sent l.fn.self.lane) }
