-- What a stream's items are, in words of the whole stream.
use Rattle.std.specs.Prelude.{ℕ, ◌≡◌, ◌≢◌, ◌-◌, ◌<◌, ◌⊎◌, ◌↔◌, List, [], ◌∷◌, ◌++◌, length, take, None}
use Rattle.mj_base.specs.declared.limits.Limits.{Limits}
use Rattle.mj_base.specs.declared.reason.Reason.{Reason}
use Rattle.mj_frame.specs.FrameSpelling.{Frame, IsBytes}
use Rattle.mj_greeting.specs.GreetingGrammar.{fault_of}
use Rattle.mj_wire.specs.declared.item.WireItem.{WireItem}
use Rattle.mj_wire.specs.declared.item.WireItem.TheVariants as items
use Rattle.mj_wire.specs.StreamItems.{count, stream_items}
use Rattle.mj_wire.specs.StreamCuts.{IsCut, IsLongest, cut_items}
use Rattle.mj_wire.specs.StreamFault.{fault, ended_at, greeting_end}

-- the items are those of the longest cut, and then the fault of the rest at the cut's end
abbrev pub LongestCutIsRead : Type 0
LongestCutIsRead =
    (limits : Limits) (stream rest : List ℕ) (frames : List Frame) → IsBytes stream → IsLongest limits stream frames rest
    → stream_items limits stream ≡ cut_items frames ++ ended_at (count (length stream - length rest)) (fault limits frames rest)

-- where there is a cut there is a longest one
abbrev pub LongestCutExists : Type 0
LongestCutExists =
    (limits : Limits) (stream rest : List ℕ) (frames : List Frame) → IsBytes stream → IsCut limits stream frames rest
    → (others : List Frame) × (left : List ℕ) × IsLongest limits stream others left

-- and one only
abbrev pub LongestCutIsOne : Type 0
LongestCutIsOne =
    (limits : Limits) (stream rest left : List ℕ) (frames others : List Frame) → IsLongest limits stream frames rest → IsLongest limits stream others left
    → (frames ≡ others) × (rest ≡ left)

abbrev pub HasNoCut : Limits → List ℕ → Type 0
HasNoCut limits stream = (frames : List Frame) (rest : List ℕ) → IsCut limits stream frames rest → ⊥

-- there is none where the greeting isn't whole or has a wrong byte
abbrev pub NoCutExactly : Type 0
NoCutExactly = (limits : Limits) (stream : List ℕ) → HasNoCut limits stream ↔ ((length stream < 64) ⊎ (fault_of (take 64 stream) ≢ None))

-- then the one item is the greeting's fault, if it has one already
abbrev pub NoCutIsRead : Type 0
NoCutIsRead = (limits : Limits) (stream : List ℕ) → HasNoCut limits stream → stream_items limits stream ≡ greeting_end (fault_of (take 64 stream))

-- a longer stream has the items of the shorter one first
abbrev pub PiecesAdd : Type 0
PiecesAdd = (limits : Limits) (stream piece : List ℕ) → (left : List WireItem) × (stream_items limits (stream ++ piece) ≡ stream_items limits stream ++ left)

abbrev pub HasEnded : List WireItem → Type 0
HasEnded found = (before : List WireItem) × (reason : Reason) × (at : ℕ) × (found ≡ before ++ items.Ended reason at ∷ [])

-- once a stream has a fault, every longer one has the same items and the same fault
abbrev pub FaultIsLast : Type 0
FaultIsLast = (limits : Limits) (stream more : List ℕ) → HasEnded (stream_items limits stream) → stream_items limits (stream ++ more) ≡ stream_items limits stream
