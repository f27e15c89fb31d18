-- What a put makes of the outlets.
use Rattle.std.proofs.Common.{◌≡◌, ◌<◌, ℕ, List, [], ◌∷◌, length, get_or, Option, Some, slice_get, sym, ap, ◌∙◌, arith}
use Rattle.std.proofs.lemmas.Option.{slice_get-get_or}
use Rattle.mj_lanes.specs.declared.outlet.Item.{Item}
use Rattle.mj_lanes.specs.Passes.{HubState, OutletState, Puts}
use Rattle.mj_net.specs.Passing.{placed, put_at}

found-at : (xs : List OutletState) (i : ℕ) → i < length xs → (o : OutletState) × (slice_get xs i ≡ Some o)
found-at [] i inside = absurd (omega arith)
found-at (x ∷ xs) i inside = (get_or (x ∷ xs) i x, slice_get-get_or (x ∷ xs) i x inside)

pub placed-by : (old new : HubState) (lane : ℕ) (item : Item) → lane < length old.outlets → Puts old lane item new → new ≡ record old { outlets = put_at old.outlets lane item }
placed-by old new lane item inside puts =
    let f = found-at old.outlets lane inside in
    puts f.0 f.1 ∙ ap (λ (found : Option OutletState). record old { outlets = placed old.outlets lane item found }) (sym f.1)
