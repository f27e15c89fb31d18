use Rattle.std.proofs.Common.{◌≡◌, ◌+◌, vec_len}
use Rattle.mj_net.proofs.hosting.slots.Given as goal

abbrev pub invariant-loop-writer : goal.invariant-loop-writer
invariant-loop-writer g l = vec_len l.slots + vec_len l.writers ≡ vec_len l.fn.writers

abbrev pub decreases-loop-writer : goal.decreases-loop-writer
decreases-loop-writer g l = vec_len l.writers
