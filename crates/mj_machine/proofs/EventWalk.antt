-- What holds of each act from where it begins to where it ends, and of acts behind each other, holds of a whole event.
use Rattle.std.proofs.Common.{◌≡◌, ℕ, zero, suc, List, [], ◌∷◌, length, Option, None, Some, refl}
use Rattle.mj_base.specs.declared.event.Out.{Out}
use Rattle.mj_wire.specs.declared.item.WireItem.{WireItem}
use Rattle.mj_wire.specs.declared.item.WireItem.TheVariants as items
use Rattle.mj_queue.specs.Settling.{Pair, pair}
use Rattle.mj_machine.specs.MachineState.{Whole}
use Rattle.mj_machine.specs.Connections.{number_on}
use Rattle.mj_machine.specs.Acts.{Doing, behind, each, quiet, ◌then◌}
use Rattle.mj_machine.specs.DiskActs.{routes}
use Rattle.mj_machine.specs.Pairing.{dispatches, settles, turns}
use Rattle.mj_machine.specs.TickStep.{all_beat, all_expire, beats, due_numbers, leases_end, silent_numbers}
use Rattle.mj_machine.specs.EventStep.{Closes, Gains, Happening, Opens, Reports, Stops, Ticks, effect, gains, happens, item_step}
use Rattle.mj_machine.specs.Steps.{Beat, Cause, Closing, Expiry, IsAllowed, Item, Opening, Paired, Report, Time, acts}

module _ (T : Whole → Doing Whole Out → Type 0) (idle : (w : Whole) → T w (quiet w))
    (joins : (w : Whole) (d e : Doing Whole Out) → T w d → T d.0 e → T w (behind d.1 e)) (one : (cause : Cause) (w : Whole) → IsAllowed cause w.routing → T w (acts cause w)) where
  all-then : (w : Whole) (d : Doing Whole Out) (f : Whole → Doing Whole Out) → T w d → ((v : Whole) → T v (f v)) → T w (d then f)
  all-then w d f first second = joins w d (f d.0) first (second d.0)

  all-each : {X : Type 0} (f : X → Whole → Doing Whole Out) → ((x : X) (w : Whole) → T w (f x w)) → (xs : List X) (w : Whole) → T w (each f xs w)
  all-each f each_one [] w = idle w
  all-each f each_one (x ∷ xs) w = all-then w (f x w) (each f xs) (each_one x w) (λ v. all-each f each_one xs v)

  all-pair : (o : Option Pair) (w : Whole) → pair w.routing.waiting w.routing.queue ≡ o → T w (dispatches o w)
  all-pair None w is = idle w
  all-pair (Some p) w is = one (Paired p) w is

  all-turns : (n : ℕ) (w : Whole) → T w (turns n w)
  all-turns zero w = idle w
  all-turns (suc n) w =
      let o = pair w.routing.waiting w.routing.queue in all-then w (dispatches o w) (turns n) (all-pair o w refl) (λ v. all-turns n v)

  pub all-settles : (w : Whole) → T w (settles w)
  unfolding settles
  all-settles w = all-turns (suc (length w.routing.waiting)) w

  all-item : (n : ℕ) (item : WireItem) (w : Whole) → T w (item_step n item w)
  all-item n items.Accepted w = one (Item n items.Accepted) w tt
  all-item n (items.Ready kind) w = one (Item n (items.Ready kind)) w tt
  all-item n (items.Message message) w = all-then w (acts (Item n (items.Message message)) w) settles (one (Item n (items.Message message)) w tt) (λ v. all-settles v)
  all-item n (items.Ended reason at) w = one (Item n (items.Ended reason at)) w tt

  all-gains : (o : Option ℕ) (gain : List WireItem) (w : Whole) → T w (gains o gain w)
  all-gains None gain w = idle w
  all-gains (Some n) gain w = all-each (item_step n) (λ item v. all-item n item v) gain w

  all-expiries : (ns : List ℕ) (w : Whole) → T w (routes (λ told s. quiet (all_expire ns told s)) w)
  all-expiries [] w = idle w
  all-expiries (n ∷ ns) w = all-then w (acts (Expiry n) w) (routes (λ told s. quiet (all_expire ns told s))) (one (Expiry n) w tt) (λ v. all-expiries ns v)

  all-beats : (ns : List ℕ) (w : Whole) → T w (routes (λ told s. each (λ n t. beats n told t) ns s) w)
  all-beats [] w = idle w
  all-beats (n ∷ ns) w = all-then w (acts (Beat n) w) (routes (λ told s. each (λ q t. beats q told t) ns s)) (one (Beat n) w tt) (λ v. all-beats ns v)

  all-effect : (h : Happening) (w : Whole) → T w (effect h w)
  all-effect (Opens lane) w = all-then w (acts (Closing lane) w) (acts (Opening lane)) (one (Closing lane) w tt) (λ v. one (Opening lane) v tt)
  all-effect (Gains lane gain) w = all-gains (number_on lane w.routing.connections) gain w
  all-effect (Reports lane) w = one (Report lane) w tt
  all-effect (Closes lane) w = one (Closing lane) w tt
  all-effect (Ticks ms) w =
      all-then w (acts (Time ms) w then routes (λ told s. quiet (leases_end told s))) (routes all_beat)
      (all-then w (acts (Time ms) w) (routes (λ told s. quiet (leases_end told s))) (one (Time ms) w tt) (λ v. all-expiries (due_numbers v.routing) v))
      (λ v. all-beats (silent_numbers v.routing) v)
  all-effect Stops w = idle w

  pub all-happens : (h : Happening) (w : Whole) → T w (happens h w)
  all-happens h w = all-then w (effect h w) settles (all-effect h w) (λ v. all-settles v)
