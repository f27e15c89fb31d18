-- What comes back from a worker that leaves.
use Rattle.std.specs.Prelude.{ℕ, ◌≡◌, List, [], ◌∷◌, ◌++◌, Option, None, Some, if◌then◌else◌}
use Rattle.mj_queue.specs.declared.request.Request.{Request}
use Rattle.mj_machine.specs.declared.held.Held.{Held}
use Rattle.mj_machine.specs.StoreState.{Told, holds_ticket, ticket_request}
use Rattle.mj_machine.specs.MachineState.{State}
use Rattle.mj_machine.specs.Leaving.{comes_back, held_by}

-- a ticket's request that still pends, and of all others none
abbrev pub coming_back : Told → Option Request → Option Request
coming_back told None = None
coming_back told (Some request) = if comes_back told request.origin then Some request else None

-- it goes to the queue's end
abbrev pub put_last : Option Request → List Request → List Request
put_last None queue = queue
put_last (Some request) queue = queue ++ request ∷ []

-- a worker that holds no ticket's request which still pends
abbrev pub BringsNothing : Told → ℕ → State → Type 0
BringsNothing told n s = coming_back told (held_by n s.held) ≡ None

-- the request of this ticket, unless a worker holds it
abbrev pub free_request : List Held → ℕ → List ℕ → Option Request
free_request held n service = if holds_ticket held n then None else Some (ticket_request n service)
