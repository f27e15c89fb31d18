-- Laws of the statuses.
use Rattle.std.proofs.Common.{◌≡◌, ℕ, refl, arith}
use Rattle.mj_words.specs.SinkCounts.{SinkCounts, AreLater}
use Rattle.mj_host.specs.Statuses.{code_of}
use Rattle.mj_host.specs.declared.status.Status.{Status}
use Rattle.mj_host.specs.declared.status.Status.TheVariants as statuses

pub words-is : (status : Status) (number : ℕ) → number ≡ code_of status → number ≡ 1 → status ≡ statuses.Words
words-is statuses.Done number e one = absurd (omega (arith, e, one))
words-is statuses.Words number e one = refl
words-is statuses.Store number e one = absurd (omega (arith, e, one))
words-is statuses.NoMemory number e one = absurd (omega (arith, e, one))
words-is statuses.Disk number e one = absurd (omega (arith, e, one))
words-is statuses.Write number e one = absurd (omega (arith, e, one))

pub later-same : (counts : SinkCounts) → AreLater counts counts
later-same counts = record { faults = omega arith; wants = omega arith }
