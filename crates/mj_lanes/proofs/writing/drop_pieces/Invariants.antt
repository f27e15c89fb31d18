use Rattle.std.proofs.Common.{◌≡◌, ℕ, List, ◌++◌, map}
use Rattle.mj_lanes.specs.declared.outlet.Item.TheVariants.{Piece}
use Rattle.mj_lanes.proofs.writing.drop_pieces.Given as goal

abbrev pub invariant-loop : goal.invariant-loop
invariant-loop g l =
    (goal.iterator-loop g).can_next l.iterator' × (goal.iterator-loop g).is_finite l.iterator' × (l.pass.inbox ≡ l.fn.pass.inbox) × (l.pass.lane ≡ l.fn.pass.lane) × (l.pass.outlet ≡ l.fn.pass.outlet)
    × (l.pass.sent ≡ l.fn.pass.sent) × ((pieces : List (List ℕ)) × (l.pass.taken ≡ l.fn.pass.taken ++ map Piece pieces))
