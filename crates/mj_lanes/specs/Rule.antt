-- The rule of a channel with one taker and numbered senders: of each sender, what was taken and then what the
-- channel holds is what it sent, in order, each once.
use Rattle.std.specs.Prelude.{◌≡◌, ◌==◌, ℕ, ◌<◌, ◌≤◌, true, false, List, [], ◌∷◌, ◌++◌, filter}
use mathlib.Core.Option.{some}
use lib.ListN.{get_elem?}
use Rattle.mj_lanes.specs.declared.view.View.{View}

-- the items of sender s
abbrev pub of : {T : Type 0} → (T → ℕ) → ℕ → List T → List T
of from s xs = filter (λ x. from x == s) xs

-- the pass of sender s
abbrev pub sender : {T : Type 0} → ℕ → List T → View T
sender s sent = record { sends = true; from = s; sent = sent; takes = false; taken = []; made = 0 }

-- the taker's pass
abbrev pub hub : {T : Type 0} → List T → ℕ → View T
hub taken made = record { sends = false; from = 0; sent = []; takes = true; taken = taken; made = made }

-- the taker's pass after it took the pass of sender s back
abbrev pub hub_with : {T : Type 0} → ℕ → List T → List T → ℕ → View T
hub_with s sent taken made = record { sends = true; from = s; sent = sent; takes = true; taken = taken; made = made }

-- a pass that was taken back
abbrev pub spent : {T : Type 0} → View T
spent = record { sends = false; from = 0; sent = []; takes = false; taken = []; made = 0 }

-- what the channel holds, oldest first, and what each pass knows
pub record InOrder {T : Type 0} (from : T → ℕ) (items : List T) (views : List (View T)) : Type 0 where
  pub taken : List T
  pub made : ℕ
  -- where the taker's pass stands, and the pass of each sender
  pub hub_at : ℕ
  pub pass_at : ℕ → ℕ
  -- a sender that wasn't made has no item
  pub unmade : (s : ℕ) → made ≤ s → of from s (taken ++ items) ≡ []
  -- a pass that sends was made, is the only one of its sender, and knows that sender's items
  pub senders : (i : ℕ) (v : View T) → get_elem? views i ≡ some v → v.sends ≡ true → (v.from < made) × (v.sent ≡ of from v.from (taken ++ items)) × (pass_at v.from ≡ i)
  -- one pass takes, and knows what was taken and how many senders were made
  pub hubs : (i : ℕ) (v : View T) → get_elem? views i ≡ some v → v.takes ≡ true → (v.taken ≡ taken) × (v.made ≡ made) × (hub_at ≡ i)

-- sending x adds it to what the pass sent
abbrev pub Sends : {T : Type 0} → View T → T → View T → Type 0
Sends v x w = w ≡ record v { sent = v.sent ++ x ∷ [] }

-- taking x adds it to what was taken, and x is of a sender that was made
abbrev pub Takes : {T : Type 0} → (T → ℕ) → View T → T → View T → Type 0
Takes from v x w = (w ≡ record v { taken = v.taken ++ x ∷ [] }) × (from x < v.made)

-- part is a front of whole
pub record Begins {T : Type 0} (part whole : List T) : Type 0 where
  pub rest : List T
  pub is : whole ≡ part ++ rest
