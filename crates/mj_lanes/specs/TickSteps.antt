-- What the ticker's loop sends.
use Rattle.std.specs.Prelude.{◌≡◌, ℕ, ◌<◌, ◌≤◌, ◌⊎◌, List, [], ◌∷◌, ◌++◌, map, All, Option}
use Rattle.std.specs.Io.KnownBytes.{Appends}
use Rattle.mj_base.specs.declared.event.Event.{Event}
use Rattle.mj_base.specs.declared.event.Event.TheVariants.{Tick, Stop}

-- a moment at which a ticker goes on: there is no end, or it has not come
abbrev pub IsEarly : ℕ → ℕ → Type 0
IsEarly until moment = (until ≡ 0) ⊎ (moment < until)

-- these moments were given by the clock, were sent, and are all early
pub record Ticks (until : ℕ) (sent_before sent : List Event) (gave_before gave : Option (List ℕ)) : Type 0 where
  pub moments : List ℕ
  pub sends : sent ≡ sent_before ++ map Tick moments
  pub gives : Appends gave_before gave moments
  pub early : All (IsEarly until) moments

-- then one more, the first that isn't early, and one `Stop`
pub record TicksAll (until : ℕ) (sent_before sent : List Event) (gave_before gave : Option (List ℕ)) : Type 0 where
  pub moments : List ℕ
  pub last : ℕ
  pub sends : sent ≡ (sent_before ++ map Tick (moments ++ last ∷ [])) ++ Stop ∷ []
  pub gives : Appends gave_before gave (moments ++ last ∷ [])
  pub early : All (IsEarly until) moments
  pub has_end : 0 < until
  pub reached : until ≤ last
