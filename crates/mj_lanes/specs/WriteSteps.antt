-- What the loop of a lane's writer takes, writes and sends.
use Rattle.std.specs.Prelude.{◌≡◌, ℕ, ◌<◌, ◌≤◌, Bool, true, false, List, [], ◌∷◌, ◌++◌, length, map, take, Option}
use Rattle.std.specs.List.{concat}
use Rattle.std.specs.Io.KnownBytes.{Appends}
use Rattle.mj_base.specs.declared.event.Event.{Event}
use Rattle.mj_base.specs.declared.event.Event.TheVariants.{Sent}
use Rattle.mj_base.specs.declared.sink.WriteAnswer.{WriteAnswer}
use Rattle.mj_base.specs.declared.sink.WriteAnswer.TheVariants.{Done, NoMemory, Failed}
use Rattle.mj_lanes.specs.Writing.{WritesNow}
use Rattle.mj_lanes.specs.Passes.{WriterState}
use Rattle.mj_lanes.specs.declared.outlet.Item.{Item}
use Rattle.mj_lanes.specs.declared.outlet.Item.TheVariants.{Piece, Mark}
use Rattle.mj_lanes.specs.declared.writer_pass.Took.{Took}
use Rattle.mj_lanes.specs.declared.writer_pass.Took.TheVariants as tooks

-- one `Sent` for each of these pieces
abbrev pub sent_for : ℕ → List (List ℕ) → List Event
sent_for lane pieces = map (λ _. Sent lane) pieces

-- what is told of one write
abbrev pub told : WriteAnswer → ℕ → List Event
told Done lane = Sent lane ∷ []
told NoMemory lane = []
told Failed lane = []

-- these pieces were taken and written, and told one by one
pub record Wrote (lane : ℕ) (taken_before taken : List Item) (sent_before sent : List Event) (out_before out : Option (List ℕ)) : Type 0 where
  pub pieces : List (List ℕ)
  pub takes : taken ≡ taken_before ++ map Piece pieces
  pub sends : sent ≡ sent_before ++ sent_for lane pieces
  pub writes : Appends out_before out (concat pieces)

-- the same, up to and with the end mark
pub record WroteAll (lane : ℕ) (taken_before taken : List Item) (sent_before sent : List Event) (out_before out : Option (List ℕ)) : Type 0 where
  pub pieces : List (List ℕ)
  pub takes : taken ≡ taken_before ++ (map Piece pieces ++ Mark ∷ [])
  pub sends : sent ≡ sent_before ++ sent_for lane pieces
  pub writes : Appends out_before out (concat pieces)

-- the same, up to a piece of which a front alone was written, which may be nothing or all
pub record WroteFront (lane : ℕ) (taken_before taken : List Item) (sent_before sent : List Event) (out_before out : Option (List ℕ)) : Type 0 where
  pub pieces : List (List ℕ)
  pub cut : List ℕ
  pub n : ℕ
  pub takes : taken ≡ taken_before ++ (map Piece pieces ++ Piece cut ∷ [])
  pub sends : sent ≡ sent_before ++ sent_for lane pieces
  pub writes : Appends out_before out (concat pieces ++ take n cut)

-- up to the end mark, or up to a write that wasn't done
abbrev pub WroteUntil : WriteAnswer → ℕ → List Item → List Item → List Event → List Event → Option (List ℕ) → Option (List ℕ) → Type 0
WroteUntil Done = WroteAll
WroteUntil NoMemory = WroteFront
WroteUntil Failed = WroteFront

-- pieces were taken, up to and with the end mark
pub record Drops (taken_before taken : List Item) : Type 0 where
  pub pieces : List (List ℕ)
  pub takes : taken ≡ taken_before ++ (map Piece pieces ++ Mark ∷ [])

-- all that was taken is pieces and then the first end mark. The first of these pieces were written whole and told
-- one by one; of the next one, where there is one, a front was written, and of the others nothing
pub record Writes (lane : ℕ) (taken_before taken : List Item) (sent_before sent : List Event) (out_before out : Option (List ℕ)) : Type 0 where
  pub pieces : List (List ℕ)
  pub rest : List (List ℕ)
  pub n : ℕ
  pub takes : taken ≡ taken_before ++ (map Piece (pieces ++ rest) ++ Mark ∷ [])
  pub sends : sent ≡ sent_before ++ sent_for lane pieces
  pub writes : Appends out_before out (concat pieces ++ take n (concat (take 1 rest)))

-- ---- by two threads: what one wrote without waiting, and what was left to the other

abbrev pub mark_if : Bool → List Item
mark_if true = Mark ∷ []
mark_if false = []

-- pieces that were taken together, and the end mark behind them, if it was taken too
abbrev pub as_items : List (List ℕ) → Bool → List Item
as_items pieces marked = map Piece pieces ++ mark_if marked

-- what is at the front of the outlet was taken, and is held where it is a piece
abbrev pub TookOne : Took → WriterState → WriterState → Type 0
TookOne (tooks.Piece count) old new = (piece : List ℕ) × (new ≡ record old { taken = old.taken ++ Piece piece ∷ []; held = old.held ++ piece ∷ [] })
TookOne tooks.Mark old new = new ≡ record old { taken = old.taken ++ Mark ∷ [] }
TookOne tooks.Nothing old new = new ≡ old

-- these pieces were taken; so many of them were written whole, and of the next one so many bytes; and the first of them told
pub record Handed (lane : ℕ) (marked : Bool) (held : List (List ℕ)) (whole at told : ℕ) (taken_before taken : List Item) (sent_before sent : List Event) (out_before out : Option (List ℕ)) : Type 0 where
  pub takes : taken ≡ taken_before ++ as_items held marked
  pub sends : sent ≡ sent_before ++ sent_for lane (take told held)
  pub writes : WritesNow out_before out whole at held
  pub behind : told ≤ whole

-- all of these pieces were written and told
pub record FinishedAll (lane : ℕ) (marked : Bool) (held : List (List ℕ)) (taken_before taken : List Item) (sent_before sent : List Event) (out_before out : Option (List ℕ)) : Type 0 where
  pub takes : taken ≡ taken_before ++ as_items held marked
  pub sends : sent ≡ sent_before ++ sent_for lane held
  pub writes : Appends out_before out (concat held)

-- up to one of which a front alone was written
pub record FinishedFront (lane : ℕ) (marked : Bool) (held : List (List ℕ)) (taken_before taken : List Item) (sent_before sent : List Event) (out_before out : Option (List ℕ)) : Type 0 where
  pub whole : ℕ
  pub at : ℕ
  pub some : whole < length held
  pub handed : Handed lane marked held whole at whole taken_before taken sent_before sent out_before out

abbrev pub FinishedUntil : WriteAnswer → ℕ → Bool → List (List ℕ) → List Item → List Item → List Event → List Event → Option (List ℕ) → Option (List ℕ) → Type 0
FinishedUntil Done = FinishedAll
FinishedUntil NoMemory = FinishedFront
FinishedUntil Failed = FinishedFront

-- what is dropped up to the end mark, unless that was taken already
abbrev pub DropsIf : Bool → List Item → List Item → Type 0
DropsIf true taken_before taken = taken ≡ taken_before
DropsIf false taken_before taken = Drops taken_before taken
