-- What the loop of a lane's reader sends.
use Rattle.std.specs.Prelude.{◌≡◌, ℕ, List, [], ◌∷◌, ◌++◌, map, Option}
use Rattle.std.specs.List.{concat}
use Rattle.std.specs.Io.KnownBytes.{Consumes}
use Rattle.mj_base.specs.declared.event.Event.{Event}
use Rattle.mj_base.specs.declared.event.Event.TheVariants.{Bytes, Close}

-- these pieces, one after another, are what was read of the source, and each was sent, in order
pub record Reads (lane : ℕ) (sent_before sent : List Event) (left_before left : Option (List ℕ)) : Type 0 where
  pub pieces : List (List ℕ)
  pub sends : sent ≡ sent_before ++ map (Bytes lane) pieces
  pub takes : Consumes left_before left (concat pieces)

-- the same, and then one `Close`
pub record ReadsAll (lane : ℕ) (sent_before sent : List Event) (left_before left : Option (List ℕ)) : Type 0 where
  pub pieces : List (List ℕ)
  pub sends : sent ≡ (sent_before ++ map (Bytes lane) pieces) ++ Close lane ∷ []
  pub takes : Consumes left_before left (concat pieces)
