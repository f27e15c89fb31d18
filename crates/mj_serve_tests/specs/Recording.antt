-- What ports that keep everything stand for.
use Rattle.std.specs.Prelude.{◌≡◌, Bool, false, List, [], ◌∷◌, ◌++◌, map, reverse}
use Rattle.mj_base.specs.declared.event.Event.{Event}
use Rattle.mj_serve.specs.Given.{Entry}
use Rattle.mj_serve_tests.specs.declared.recorder.Kept.{Kept}

abbrev pub entry_of : Kept → Entry
entry_of kept = record { out = kept.out; moment = kept.moment }

-- of the first events, the next one last, those that were taken were the next, and then come those that still come; where
-- nothing was lost, what was given has been kept
pub record Keeps (first coming : List Event) (taken : List Event) (before kept : List Kept) (lost : Bool) (given : List Entry) : Type 0 where
  pub passed_over : List Event
  pub came : first ≡ passed_over ++ (coming ++ reverse taken)
  pub gave : lost ≡ false → map entry_of kept ≡ map entry_of before ++ given

-- one more is kept, or it is lost
abbrev pub AddsOne : Bool → Bool → List Kept → List Kept → Kept → Type 0
AddsOne lost now before kept one = now ≡ false → (lost ≡ false) × (kept ≡ before ++ one ∷ [])
