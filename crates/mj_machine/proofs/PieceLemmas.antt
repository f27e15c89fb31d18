-- What a connection gains by two pieces behind each other.
use Rattle.std.proofs.Common.{◌≡◌, ℕ, List, ◌++◌, length, drop, Option, None, Some, refl, sym, ap, ◌∙◌, append_assoc}
use Rattle.std.proofs.Math.Seq.{drop-append_seam}
use Rattle.mj_base.specs.declared.limits.Limits.{Limits}
use Rattle.mj_wire.specs.declared.item.WireItem.{WireItem}
use Rattle.mj_wire.specs.StreamItems.{gained, stream_items}
use Rattle.mj_wire.proofs.PieceLemmas.{stream_items-append}
use Rattle.mj_machine.specs.MachineState.{Whole}
use Rattle.mj_machine.specs.Acts.{◌then◌}
use Rattle.mj_machine.specs.EventStep.{gains, item_step}
use Rattle.mj_machine.proofs.RunLemmas.{each-append}

pub pieces-gain : (limits : Limits) (stream first second : List ℕ)
    → gained limits stream (first ++ second) ≡ gained limits stream first ++ gained limits (stream ++ first) second
pieces-gain limits stream first second =
    let one = gained limits stream first in
    let two = gained limits (stream ++ first) second in
    let whole : stream_items limits (stream ++ (first ++ second)) ≡ stream_items limits stream ++ (one ++ two) =
    ap (λ (xs : List ℕ). stream_items limits xs) (sym (append_assoc stream first second))
    ∙ stream_items-append limits (stream ++ first) second
    ∙ ap (λ (xs : List WireItem). xs ++ two) (stream_items-append limits stream first)
    ∙ append_assoc (stream_items limits stream) one two in
    ap (λ (xs : List WireItem). drop (length (stream_items limits stream)) xs) whole ∙ drop-append_seam (stream_items limits stream) (one ++ two)

pub gains-in-turn : (number : Option ℕ) (first second : List WireItem) (w : Whole)
    → gains number (first ++ second) w ≡ (gains number first w then gains number second)
gains-in-turn None first second w = refl
gains-in-turn (Some n) first second w = each-append (item_step n) first second w
