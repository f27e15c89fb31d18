-- How many events were taken, and how many pieces were given.
use Rattle.std.specs.Prelude.{ℕ, ◌≡◌, ◌+◌, ◌-◌, ◌^◌, min, List, [], ◌∷◌, length}
use Rattle.mj_base.specs.declared.event.Out.{Out}
use Rattle.mj_base.specs.declared.event.Out.TheVariants as outs
use Rattle.mj_machine.specs.EventStep.{Noted}
use Rattle.mj_serve.specs.declared.summary.Summary.{Summary}

abbrev pub pieces_in : List Out → ℕ
pieces_in [] = 0
pieces_in (outs.Piece lane octets ∷ rest) = pieces_in rest + 1
pieces_in (outs.End lane reason at ∷ rest) = pieces_in rest
pieces_in (outs.Note note ∷ rest) = pieces_in rest

-- both counts stop at 2^64 - 1
pub record Counts (summary : Summary) (happened : List Noted) (added : List Out) : Type 0 where
  pub events : summary.events ≡ min (length happened) (2 ^ 64 - 1)
  pub pieces : summary.pieces ≡ min (pieces_in added) (2 ^ 64 - 1)

abbrev pub no_counts : Summary
no_counts = record { events = 0; pieces = 0 }
