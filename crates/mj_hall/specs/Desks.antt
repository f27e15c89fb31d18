-- The desks of a hall: one for each service that somebody asks for or serves, found by its name.
use Rattle.std.specs.Prelude.{◌≡◌, ℕ, Bool, true, false, ◌||◌, is_some, List, Option, Some}
use Rattle.mj_counted.specs.declared.index.Index.{Index}
use Rattle.mj_counted.specs.declared.rows.Rows.{Rows}
use Rattle.mj_counted.specs.Names.{key_of}
use Rattle.mj_counted.specs.Rows.{entry}
use Rattle.mj_chain.specs.declared.desk.Desk.{Desk}
use Rattle.mj_chain.specs.declared.desk.Line.{Line}
use Rattle.mj_chain.specs.declared.desk.Line.TheVariants.{Waiting, Busy}
use Rattle.mj_chain.specs.Links.{ends_of}
use Rattle.mj_chain.specs.Seats.{Seat, found, is_key, seat_key}
use Rattle.mj_hall.specs.declared.kept.Queued.{Queued}
use Rattle.mj_hall.specs.declared.kept.Worker.{Worker}
use Rattle.mj_hall.specs.Asking.{of_desk}
use Rattle.mj_hall.specs.Serving.{workers_at}

-- the ends of the three lines at a desk
abbrev pub desk_of : ℕ → List (Seat Queued) → List (Seat Worker) → Desk
desk_of d es ws = record { requests = ends_of seat_key (of_desk d es); waiting = ends_of seat_key (workers_at false d ws); busy = ends_of seat_key (workers_at true d ws) }

abbrev pub worker_line : Bool → Line
worker_line true = Busy
worker_line false = Waiting

-- each name's desk has the ends of its lines, two names have two desks, and whoever asks or serves has the desk of the service
pub record Desks (desks : Rows Desk) (names : Index) (es : List (Seat Queued)) (ws : List (Seat Worker)) : Type 0 where
  pub each : (q : List ℕ) (d : ℕ) → key_of names q ≡ Some d → entry desks d ≡ Some (desk_of d es ws)
  pub one : (p q : List ℕ) (d : ℕ) → key_of names p ≡ Some d → key_of names q ≡ Some d → p ≡ q
  pub asked : (k : ℕ) (e : Queued) → found k es ≡ Some e → key_of names e.request.service ≡ Some e.desk
  pub served : (k : ℕ) (w : Worker) → found k ws ≡ Some w → key_of names w.waiter.service ≡ Some w.desk

-- somebody asks at this desk, waits there, or is busy there
abbrev pub is_peopled : Desk → Bool
is_peopled desk = is_some desk.requests.first || (is_some desk.waiting.first || is_some desk.busy.first)

-- at each desk but the hidden one there is somebody
abbrev pub PeopledBut : Option ℕ → Index → List (Seat Queued) → List (Seat Worker) → Type 0
PeopledBut hidden names es ws = (q : List ℕ) (d : ℕ) → key_of names q ≡ Some d → is_key d hidden ≡ false → is_peopled (desk_of d es ws) ≡ true
