-- The two counts of a sink: of its failures, and of its wants of memory.
use Rattle.std.specs.Prelude.{ℕ, ◌≤◌}

pub record SinkCounts : Type 0 where
  pub faults : ℕ
  pub wants : ℕ

abbrev pub counted : ℕ → ℕ → SinkCounts
counted faults wants = record { faults = faults; wants = wants }

-- neither has fallen
pub record AreLater (before now : SinkCounts) : Type 0 where
  pub faults : before.faults ≤ now.faults
  pub wants : before.wants ≤ now.wants
