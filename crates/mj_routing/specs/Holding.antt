-- The requests that workers hold, in the order in which they were given.
use Rattle.std.specs.Prelude.{ℕ, ◌≡◌, ◌+◌, ◌≤◌, ◌==◌, nat_eq, if◌then◌else◌, List, [], ◌∷◌, map}
use Rattle.std.specs.HashMap.{HashMap}
use Rattle.std.specs.HashSet.{HashSet, contains}
use Rattle.mj_queue.specs.declared.request.Request.{Request}
use Rattle.mj_queue.specs.declared.worker.Waiter.{Waiter}
use Rattle.mj_machine.specs.declared.held.Held.{Held}
use Rattle.mj_machine.specs.StoreState.{holds_ticket}

abbrev pub held_of : ℕ × Request → Held
held_of entry = record { worker = entry.0; request = entry.1 }

-- what the table has
abbrev pub held_in : {S : Type 0} → HashMap ℕ Request S → List Held
held_in table = map held_of table.entries

-- the set has the tickets whose requests are held
abbrev pub AreTicketsOf : {S : Type 0} → List Held → HashSet ℕ S → Type 0
AreTicketsOf held tickets = (number : ℕ) → contains nat_eq tickets number ≡ holds_ticket held number

-- how many elements have this number
abbrev pub times : {X : Type 0} → (X → ℕ) → ℕ → List X → ℕ
times key n [] = 0
times key n (x ∷ xs) = (if key x == n then 1 else 0) + times key n xs

-- a worker waits or holds one request, and neither twice
abbrev pub IsOnceEach : List Waiter → List Held → Type 0
IsOnceEach waiting held = (n : ℕ) → times (λ w. w.worker) n waiting + times (λ h. h.worker) n held ≤ 1
