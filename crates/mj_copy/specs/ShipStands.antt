-- What the code of ship stands for.
use Rattle.std.specs.Prelude.{ℕ, ◌≡◌, Bool, List, ◌++◌, suc, if◌then◌else◌}
use Rattle.mj_copy.specs.ShipRules.{Shipping, ShipTurn, ship_all, ship_gains, ship_then}
use Rattle.mj_copy.specs.declared.ship.Ship.{Ship}
use Rattle.mj_copy.specs.declared.ship_act.ShipAct.{ShipAct}

abbrev pub shipping_of : Ship → Shipping
shipping_of e = record {
  base = e.base;
  total = e.total;
  tries = e.tries;
  kept = e.kept.items;
  quiet = e.quiet;
  used = e.used;
  have = e.have;
  begun = e.begun;
  phase = e.phase;
}

-- the state, and the acts behind those before, are the rules'
abbrev pub Follows : Ship → Ship → List ShipAct → List ShipAct → (Shipping → ShipTurn) → Type 0
Follows old now before after turn =
    (shipping_of now ≡ (turn (shipping_of old)).0) × (after ≡ before ++ (turn (shipping_of old)).1)

abbrev pub IsTurn : Ship → List ShipAct → ShipTurn → Type 0
IsTurn now acts turn = (shipping_of now ≡ turn.0) × (acts ≡ turn.1)

-- one message was looked for: what `ship_all` comes to from here, whether it goes on or stops
pub record TakesOne (old now : Ship) (before after : List ShipAct) (more : Bool) : Type 0 where
  pub added : List ShipAct
  pub acts : after ≡ before ++ added
  pub rest : (most : ℕ) → ship_all (suc most) (shipping_of old) ≡ (if more then ship_then (ship_all most) (shipping_of now, added) else (shipping_of now, added))

abbrev pub behind : List ShipAct → ShipTurn → ShipTurn
behind so_far turn = (turn.0, so_far ++ turn.1)

-- messages were taken, and at most so many are left to be looked for
pub record Swept (start now : Ship) (before after : List ShipAct) (left : ℕ) : Type 0 where
  pub so_far : List ShipAct
  pub acts : after ≡ before ++ so_far
  pub rest : ship_gains (shipping_of start) ≡ behind so_far (ship_all left (shipping_of now))
