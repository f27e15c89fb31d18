use Rattle.std.proofs.Common.{◌≡◌, ◌∙◌, ℕ, List, Option, Some, sym, ap}
use Rattle.mj_chain.specs.declared.node.Node.{Node}
use Rattle.mj_chain.specs.Nodes.{node_at}
use Rattle.mj_chain.specs.Seats.{Seat, next_in, seat_key}
use Rattle.mj_hall.specs.declared.kept.Queued.{Queued}
use Rattle.mj_hall.specs.Asking.{queued_classes}
use Rattle.std.specs.Option.{option_map}
use Rattle.mj_hall.proofs.AskingLemmas.{all_pass}
use Rattle.mj_hall.proofs.TakenLemmas.{same_some}
use Rattle.mj_hall.proofs.labels.stop_at.Goals as goal

abbrev stop : ℕ → Option ℕ → Option (ℕ × Option ℕ)
stop d o = Some (d, o)

pub returns-in-Some : goal.returns-in-Some
returns-in-Some g c = record {
  value =
      λ es x rows at.
      let row : c.in-Some.node.now ≡ node_at queued_classes es c.args.key x = same_some _ c.in-Some.node.now (node_at queued_classes es c.args.key x) (sym c.in-Some.ensures.value) (rows c.args.key ∙ ap (option_map (node_at queued_classes es c.args.key)) at) in
      ap (λ (n : Node Queued). stop n.value.desk n.all.next) row ∙ ap (λ (xs : List (Seat Queued)). stop x.desk (next_in seat_key c.args.key xs)) (all_pass es);
}
