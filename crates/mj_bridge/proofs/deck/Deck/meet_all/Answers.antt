use Rattle.std.proofs.Common.{ap, sym, subst, ◌∙◌, ◌+◌, ◌∷◌, drop, List, Bool}
use Rattle.std.proofs.lemmas.List.{drop_all, drop_more}
use Rattle.mj_bridge.specs.BridgeRules.{ends, meets, meets_all}
use Rattle.mj_bridge.specs.BridgeStands.{FollowsTo}
use Rattle.mj_wire.specs.declared.item.WireItem.{WireItem}
use Rattle.mj_bridge.proofs.DeckLemmas.{SoFar, sweep-goes, sweep-is_done, sweep-stops}
use Rattle.mj_bridge.proofs.deck.Deck.meet_all.Goals as goal

pub returns-then-branch-clause-turn : goal.returns-then-branch-clause-turn
returns-then-branch-clause-turn c = λ b s.
    let i = c.loop-item.item-index in
    let x = c.item-item.result in
    let next = drop_more c.args.items.now i x c.loop-item-test.true ∙ ap (λ (y : WireItem). y ∷ drop (i + 1) c.args.items.now) (sym c.item-item.is) in
    let whole = meets_all c.args.items.now b in
    sweep-stops whole x (drop (i + 1) c.args.items.now) c.loop-item.self c.meet.new.self c.args.out.now c.loop-item.out c.meet.new.out
    (subst (λ (l : List WireItem). SoFar whole l c.loop-item.self c.args.out.now c.loop-item.out) next (c.loop-item.invariant.1 b s))
    (subst (λ (e : Bool). FollowsTo e c.loop-item.self c.meet.new.self c.loop-item.out c.meet.new.out (meets x) (ends x)) c.if-branch.true c.in_ok-meet.ensures.turn)

pub loop-item-preserved : goal.loop-item-preserved
loop-item-preserved c = (
  c.in_ok-meet.ensures.live,
  λ b s.
      let i = c.loop-item.item-index in
      let x = c.item-item.result in
      let next = drop_more c.args.items.now i x c.loop-item-test.true ∙ ap (λ (y : WireItem). y ∷ drop (i + 1) c.args.items.now) (sym c.item-item.is) in
      let whole = meets_all c.args.items.now b in
      sweep-goes whole x (drop (i + 1) c.args.items.now) c.loop-item.self c.meet.new.self c.args.out.now c.loop-item.out c.meet.new.out
      (subst (λ (l : List WireItem). SoFar whole l c.loop-item.self c.args.out.now c.loop-item.out) next (c.loop-item.invariant.1 b s))
      (subst (λ (e : Bool). FollowsTo e c.loop-item.self c.meet.new.self c.loop-item.out c.meet.new.out (meets x) (ends x)) c.if-branch.false c.in_ok-meet.ensures.turn),
)

pub returns-clause-turn : goal.returns-clause-turn
returns-clause-turn c = λ b s.
    let whole = meets_all c.args.items.now b in
    sweep-is_done whole c.loop-item.self c.args.out.now c.loop-item.out
    (subst (λ (l : List WireItem). SoFar whole l c.loop-item.self c.args.out.now c.loop-item.out) (drop_all c.loop-item.item-index c.args.items.now c.loop-item-test.false) (c.loop-item.invariant.1 b s))
