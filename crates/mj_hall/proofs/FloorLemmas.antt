-- A request or a worker leaves, or comes: its rows, its desk and the ends of the list of all together.
use Rattle.std.proofs.Common.{◌≡◌, ℕ, ◌+◌, ◌<◌, ◌==◌, Bool, true, false, not, cond, List, [], ◌∷◌, ◌++◌, Option, Some, refl, sym, ◌∙◌, ap, subst, unwrap_or}
use Rattle.mj_counted.specs.declared.index.Index.{Index}
use Rattle.mj_counted.specs.declared.rows.Rows.{Rows}
use Rattle.mj_counted.specs.Rows.{entry}
use Rattle.mj_chain.specs.declared.desk.Desk.{Desk}
use Rattle.mj_chain.specs.declared.desk.Line.TheVariants.{Requests}
use Rattle.mj_chain.specs.declared.node.Node.{Node}
use Rattle.mj_chain.specs.Links.{link_in}
use Rattle.mj_chain.specs.Nodes.{node_at}
use Rattle.mj_chain.specs.Seats.{Seat, found, is_no_key, seat_key, take_out}
use Rattle.mj_chain.proofs.ListLemmas.{distinct-filter}
use Rattle.mj_chain.proofs.RowLemmas.{found-key}
use Rattle.mj_hall.specs.declared.kept.Queued.{Queued}
use Rattle.mj_hall.specs.declared.kept.Worker.{Worker}
use Rattle.mj_hall.specs.Asking.{Asking, queued_classes}
use Rattle.mj_hall.specs.Desks.{Desks, worker_line}
use Rattle.mj_hall.specs.Ends.{EndsAre}
use Rattle.mj_hall.specs.Serving.{Serving, same_bool, worker_classes, workers_of}
use Rattle.mj_hall.proofs.AskingLemmas.{all_pass, in_chain}
use Rattle.mj_hall.proofs.AskingLemmas as asking
use Rattle.mj_hall.proofs.ServingLemmas as serving
use Rattle.mj_hall.proofs.DeskLemmas.{LineLeft, desks-request_out, desks-worker_out, part-same, part-stays}
use Rattle.mj_hall.proofs.EndLemmas.{count_some, ends_in, ends_out}

same_some : {A : Type 0} (o : Option A) (x y : A) → o ≡ Some x → o ≡ Some y → x ≡ y
same_some o x y e f = cc

pub request_desks : (rows : Rows (Node Queued)) (cs ts : List (ℕ × ℕ)) (old new : Rows Desk) (names : Index) (es : List (Seat Queued)) (ws : List (Seat Worker)) (k : ℕ) (x : Queued) (node : Node Queued) → Asking rows cs ts es → found k es ≡ Some x → entry rows k ≡ Some node
    → Desks old names es ws → LineLeft Requests node.value.desk node.service old new → Desks new names (take_out seat_key k es) ws
request_desks rows cs ts old new names es ws k x node a at_k value are left =
    let same : node ≡ node_at queued_classes es k x = same_some (entry rows k) node (node_at queued_classes es k x) value (asking.node_is rows cs ts es k x a at_k) in
    desks-request_out old new names es ws k x are a.distinct at_k (subst (λ (n : Node Queued). LineLeft Requests n.value.desk n.service old new) same left)

pub request_ends : (rows : Rows (Node Queued)) (cs ts : List (ℕ × ℕ)) (first last count first_new last_new count_new : ℕ) (es : List (Seat Queued)) (k : ℕ) (x : Queued) (node : Node Queued) → Asking rows cs ts es → found k es ≡ Some x → entry rows k ≡ Some node
    → EndsAre first last count es → first_new ≡ cond (is_no_key node.all.prev) (unwrap_or node.all.next 0) first → last_new ≡ cond (is_no_key node.all.next) (unwrap_or node.all.prev 0) last → count_new + 1 ≡ count
    → EndsAre first_new last_new count_new (take_out seat_key k es)
request_ends rows cs ts first last count first_new last_new count_new es k x node a at_k value are first_is last_is count_is =
    let same : node ≡ node_at queued_classes es k x = same_some (entry rows k) node (node_at queued_classes es k x) value (asking.node_is rows cs ts es k x a at_k) in
    let link : node.all ≡ link_in seat_key k es = ap (λ (n : Node Queued). n.all) same ∙ ap (link_in seat_key k) (all_pass es) in
    ends_out first last count first_new last_new count_new k es node.all are a.distinct (found-key k es x at_k) link first_is last_is count_is

pub worker_desks : (rows : Rows (Node Worker)) (cs : List (ℕ × ℕ)) (old new : Rows Desk) (names : Index) (es : List (Seat Queued)) (ws : List (Seat Worker)) (k : ℕ) (x : Worker) (node : Node Worker) → Serving rows cs ws → found k ws ≡ Some x → entry rows k ≡ Some node
    → Desks old names es ws → LineLeft (worker_line node.value.busy) node.value.desk node.service old new → Desks new names es (take_out seat_key k ws)
worker_desks rows cs old new names es ws k x node a at_k value are left =
    let same : node ≡ node_at worker_classes ws k x = same_some (entry rows k) node (node_at worker_classes ws k x) value (serving.node_is rows cs ws k x a at_k) in
    desks-worker_out old new names es ws k x are a.distinct at_k (subst (λ (n : Node Worker). LineLeft (worker_line n.value.busy) n.value.desk n.service old new) same left)

own_bool : (b : Bool) → same_bool b b ≡ true
own_bool true = refl
own_bool false = refl

other_bool : (b : Bool) → same_bool (not b) b ≡ false
other_bool true = refl
other_bool false = refl

abbrev of_kind : Bool → Worker → Bool
of_kind busy w = same_bool busy w.busy

-- the chain of those of its kind
pub worker_ends : (rows : Rows (Node Worker)) (cs : List (ℕ × ℕ)) (first last count first_new last_new count_new : ℕ) (ws : List (Seat Worker)) (k : ℕ) (x : Worker) (node : Node Worker) → Serving rows cs ws → found k ws ≡ Some x → entry rows k ≡ Some node
    → EndsAre first last count (workers_of x.busy ws) → first_new ≡ cond (is_no_key node.all.prev) (unwrap_or node.all.next 0) first → last_new ≡ cond (is_no_key node.all.next) (unwrap_or node.all.prev 0) last → count_new + 1 ≡ count
    → EndsAre first_new last_new count_new (workers_of x.busy (take_out seat_key k ws))
worker_ends rows cs first last count first_new last_new count_new ws k x node a at_k value are first_is last_is count_is =
    let same : node ≡ node_at worker_classes ws k x = same_some (entry rows k) node (node_at worker_classes ws k x) value (serving.node_is rows cs ws k x a at_k) in
    let link : node.all ≡ link_in seat_key k (workers_of x.busy ws) = ap (λ (n : Node Worker). n.all) same in
    subst (λ (ys : List (Seat Worker)). EndsAre first_new last_new count_new ys) (sym (serving.kind_out x.busy x k ws))
    (ends_out first last count first_new last_new count_new k (workers_of x.busy ws) node.all are (distinct-filter seat_key (λ s. same_bool x.busy s.value.busy) ws a.distinct) (in_chain (of_kind x.busy) x k ws at_k (own_bool x.busy)) link first_is last_is count_is)

-- the other kind stays as it is
pub other_kind : (ws : List (Seat Worker)) (rows : Rows (Node Worker)) (cs : List (ℕ × ℕ)) (k : ℕ) (x : Worker) → Serving rows cs ws → found k ws ≡ Some x → workers_of (not x.busy) (take_out seat_key k ws) ≡ workers_of (not x.busy) ws
other_kind ws rows cs k x a at_k = part-stays (of_kind (not x.busy)) k x ws a.distinct at_k (other_bool x.busy)

pub worker_ends_in : (first last count first_new last_new count_new : ℕ) (ws : List (Seat Worker)) (k : ℕ) (x : Worker) → EndsAre first last count (workers_of x.busy ws)
    → first_new ≡ cond (count == 0) k first → last_new ≡ k → count_new ≡ count + 1 → EndsAre first_new last_new count_new (workers_of x.busy (ws ++ record { key = k; value = x } ∷ []))
worker_ends_in first last count first_new last_new count_new ws k x are first_is last_is count_is =
    subst (λ (ys : List (Seat Worker)). EndsAre first_new last_new count_new ys) (sym (serving.kind_append x k ws))
    (ends_in first last count first_new last_new count_new k x (workers_of x.busy ws) are first_is last_is count_is)

pub other_kind_in : (ws : List (Seat Worker)) (k : ℕ) (x : Worker) → workers_of (not x.busy) (ws ++ record { key = k; value = x } ∷ []) ≡ workers_of (not x.busy) ws
other_kind_in ws k x = part-same (of_kind (not x.busy)) k x ws (other_bool x.busy)

pub some_worker : (rows : Rows (Node Worker)) (cs : List (ℕ × ℕ)) (first last count : ℕ) (ws : List (Seat Worker)) (k : ℕ) (x : Worker) → found k ws ≡ Some x → EndsAre first last count (workers_of x.busy ws) → 0 < count
some_worker rows cs first last count ws k x at_k are = count_some first last count k (workers_of x.busy ws) are (in_chain (of_kind x.busy) x k ws at_k (own_bool x.busy))
