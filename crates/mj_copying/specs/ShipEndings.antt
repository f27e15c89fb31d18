-- What a run of ship came to.
use Rattle.std.specs.Prelude.{ℕ, ◌≡◌, List, length, Option}
use Rattle.mj_base.specs.declared.link.LinkEntry.{LinkEntry}
use Rattle.mj_copy.specs.ShipRules.{Shipping, new_ship}
use Rattle.mj_copy.specs.declared.phase.Phase.TheVariants.{Finished, GivenUp}
use Rattle.mj_copying.specs.ShipRun.{Ran}
use Rattle.mj_copying.specs.declared.shipping.ShipEnding.{ShipEnding}
use Rattle.mj_copying.specs.declared.shipping.ShipEnding.TheVariants as endings

abbrev pub Ended : ShipEnding → ℕ → Shipping → Type 0
Ended (endings.Done n) total last = (last.phase ≡ Finished) × (n ≡ total)
Ended (endings.NoAnswer n) total last = (last.phase ≡ GivenUp) × (n ≡ last.have)

-- from a file with this base and these payloads, up to the end's last step
pub record Ships (tries base : ℕ) (payloads : List (List ℕ)) (old now : Option (List LinkEntry)) (ending : ShipEnding) : Type 0 where
  pub last : Shipping
  pub ran : Ran payloads (new_ship base (length payloads) tries) old now last
  pub ended : Ended ending (length payloads) last
