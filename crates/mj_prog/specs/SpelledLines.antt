-- How lines spell their events.
use Rattle.std.specs.Prelude.{ℕ, ◌≡◌, ◌<◌, ◌≤◌, ◌↔◌, List, ◌++◌, length, Some, codes}
use Rattle.std.specs.Fmt.{decimal}
use Rattle.mj_base.specs.declared.event.Event.{Event}
use Rattle.mj_base.specs.declared.event.Event.TheVariants as events
use Rattle.mj_prog.specs.declared.meaning.Meaning.TheVariants.{Act}
use Rattle.mj_prog.specs.Script.{meaning_of, piece_of}

-- the event's word, and then its numbers and its piece, each behind one space
abbrev pub IsSpelled : ℕ → Event → List ℕ → Type 0
IsSpelled lanes (events.Open lane) line = (lane < lanes) × (line ≡ codes "open " ++ decimal lane)
IsSpelled lanes (events.Bytes lane piece) line =
    (lane < lanes) × ((digits : List ℕ) × (piece_of digits ≡ Some piece) × (line ≡ codes "bytes " ++ (decimal lane ++ (codes " " ++ digits))))
IsSpelled lanes (events.Sent lane) line = (lane < lanes) × (line ≡ codes "sent " ++ decimal lane)
IsSpelled lanes (events.Close lane) line = (lane < lanes) × (line ≡ codes "close " ++ decimal lane)
IsSpelled lanes (events.Tick ms) line = (ms ≤ 1000000000000000) × (line ≡ codes "tick " ++ decimal ms)
IsSpelled lanes events.Stop line = ⊥

-- a line is an event exactly where it spells it, in at most 131,081 bytes
abbrev pub EventsAreSpelled : ℕ → List ℕ → Type 0
EventsAreSpelled lanes line = (event : Event) → (meaning_of lanes line ≡ Act event) ↔ ((length line ≤ 131081) × IsSpelled lanes event line)
