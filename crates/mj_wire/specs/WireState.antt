-- What a wire's value says of the stream that it was fed.
use Rattle.std.specs.Prelude.{ℕ, ◌≡◌, Bool, List, [], ◌++◌, length}
use Rattle.mj_base.specs.declared.limits.Limits.{Limits}
use Rattle.mj_wire.specs.declared.item.WireItem.{WireItem}
use Rattle.mj_wire.specs.declared.place.Place.{Place}
use Rattle.mj_wire.specs.StreamItems.{count, items_from, start}

-- the place behind what was read, the bytes there, the number of bytes fed, and whether memory ran out
pub record State : Type 0 where
  pub limits : Limits
  pub place : Place
  pub rest : List ℕ
  pub taken : ℕ
  pub spent : Bool

-- behind these bytes the stream goes on from that place and that rest, whatever comes
abbrev pub GoesOn : Limits → Place → List ℕ → Place → List ℕ → Type 0
GoesOn limits p octets q rest =
    (more : List ℕ) → items_from limits p (octets ++ more) ≡ items_from limits p octets ++ items_from limits q (rest ++ more)

-- the wire was fed this stream under these limits
pub record StandsFor (limits : Limits) (w : State) (stream : List ℕ) : Type 0 where
  pub limited : w.limits ≡ limits
  pub counted : w.taken ≡ count (length stream)
  pub goes_on : GoesOn limits start stream w.place w.rest

-- some of the first of these items were appended
abbrev pub AppendsFront : List WireItem → List WireItem → List WireItem → Type 0
AppendsFront before due now = (added left : List WireItem) × (now ≡ before ++ added) × (due ≡ added ++ left)

-- from a place and its bytes to a later place and what is left of them
pub record IsReadTo (limits : Limits) (p : Place) (octets : List ℕ) (before : List WireItem) (q : Place) (rest : List ℕ) (now : List WireItem) : Type 0 where
  pub added : List WireItem
  pub grown : now ≡ before ++ added
  pub goes : (more : List ℕ) → items_from limits p (octets ++ more) ≡ added ++ items_from limits q (rest ++ more)

-- all that was whole is read
abbrev pub IsReadOut : Limits → Place → List ℕ → List WireItem → Place → List ℕ → List WireItem → Type 0
IsReadOut limits p octets before q rest now = IsReadTo limits p octets before q rest now × (items_from limits q rest ≡ [])
