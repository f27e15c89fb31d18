-- What a wire keeps, and how much that may be.
use Rattle.std.specs.Prelude.{ℕ, ◌+◌, ◌*◌, ◌≡◌, ◌≤◌, true, List, [], length, sum_by}
use Rattle.mj_base.specs.KeptWeight.{weight_of, weight_of_octets}
use Rattle.mj_base.specs.declared.limits.Limits.{Limits}
use Rattle.mj_wire.specs.declared.item.WireItem.{WireItem}
use Rattle.mj_wire.specs.declared.item.WireItem.TheVariants as items
use Rattle.mj_wire.specs.declared.place.Place.{Place}
use Rattle.mj_wire.specs.NextReading.{has_ended}
use Rattle.mj_wire.specs.StreamCuts.{IsSmallMessage}
use Rattle.mj_wire.specs.WireState.{State}

-- the frames of the message that isn't whole yet, and the bytes that aren't read yet
abbrev pub kept_by : State → ℕ
kept_by w = weight_of w.place.group + weight_of_octets w.rest

-- a message that isn't whole, a command that isn't, a greeting and a frame's head
abbrev pub most_kept : Limits → ℕ
most_kept limits = limits.message + limits.command + 32 * limits.frames + 73

abbrev pub weight_of_item : WireItem → ℕ
weight_of_item items.Accepted = 0
weight_of_item (items.Ready kind) = 0
weight_of_item (items.Message message) = weight_of message
weight_of_item (items.Ended reason at) = 0

-- what the messages among these items weigh
abbrev pub weight_of_items : List WireItem → ℕ
weight_of_items found = sum_by weight_of_item found

-- what is kept, with 17 for each byte that isn't read yet: the shortest frame has two bytes, and counts 32
abbrev pub reserved : Place → List ℕ → ℕ
reserved p rest = weight_of p.group + 17 * length rest

abbrev pub reserved_by : State → ℕ
reserved_by w = reserved w.place w.rest

-- the message that isn't whole is within the limits, and there is none after a fault
abbrev pub IsTidy : Limits → Place → Type 0
IsTidy limits p = IsSmallMessage limits p.group × (has_ended p.stage ≡ true → p.group ≡ [])

-- so is all that is kept
pub record IsLight (limits : Limits) (p : Place) (rest : List ℕ) : Type 0 where
  pub tidy : IsTidy limits p
  pub few : weight_of p.group + weight_of_octets rest ≤ most_kept limits
  pub none : has_ended p.stage ≡ true → rest ≡ []

-- reading so many bytes left a tidy place tidy, and made no more than these bytes may make
pub record Weighs (limits : Limits) (p : Place) (before : List WireItem) (q : Place) (now : List WireItem) (used : ℕ) : Type 0 where
  pub tidy : IsTidy limits p → IsTidy limits q
  pub weight : weight_of_items now + weight_of q.group ≤ weight_of_items before + weight_of p.group + 17 * used
