-- Messages are taken one after the other, as the rules take all of them.
use Rattle.std.proofs.Common.{◌≡◌, ℕ, zero, suc, true, false, List, [], ◌++◌, length, refl, sym, ◌∙◌, ap, append_assoc, append-nil}
use Rattle.mj_copy.specs.ShipRules.{ShipTurn, ship_all, ship_gains}
use Rattle.mj_copy.specs.ShipStands.{Follows, Swept, TakesOne, behind, shipping_of}
use Rattle.mj_copy.specs.declared.ship.Ship.{Ship}
use Rattle.mj_copy.specs.declared.ship_act.ShipAct.{ShipAct}

pub swept_start : (s : Ship) (acts : List ShipAct) → Swept s s acts acts (length s.kept.items)
swept_start s acts = record { so_far = []; acts = sym (append-nil acts); rest = refl }

pub swept_more : (start old now : Ship) (before mid after : List ShipAct) (left : ℕ) → Swept start old before mid (suc left) → TakesOne old now mid after true → Swept start now before after left
swept_more start old now before mid after left swept one = record {
  so_far = swept.so_far ++ one.added;
  acts = one.acts ∙ ap (λ (xs : List ShipAct). xs ++ one.added) swept.acts ∙ append_assoc before swept.so_far one.added;
  rest = swept.rest ∙ ap (behind swept.so_far) (one.rest left) ∙ ap (λ (xs : List ShipAct). ((ship_all left (shipping_of now)).0, xs)) (sym (append_assoc swept.so_far one.added (ship_all left (shipping_of now)).1));
}

pub swept_stop : (start old now : Ship) (before mid after : List ShipAct) (left : ℕ) → Swept start old before mid (suc left) → TakesOne old now mid after false → Follows start now before after ship_gains
swept_stop start old now before mid after left swept one =
    let whole = swept.rest ∙ ap (behind swept.so_far) (one.rest left) in (
      sym (ap (λ (turn : ShipTurn). turn.0) whole),
      one.acts ∙ ap (λ (xs : List ShipAct). xs ++ one.added) swept.acts ∙ append_assoc before swept.so_far one.added
          ∙ ap (λ (xs : List ShipAct). before ++ xs) (sym (ap (λ (turn : ShipTurn). turn.1) whole)),
    )

pub swept_end : (start now : Ship) (before after : List ShipAct) → Swept start now before after zero → Follows start now before after ship_gains
swept_end start now before after swept =
    let state : shipping_of now ≡ (ship_gains (shipping_of start)).0 = sym (ap (λ (turn : ShipTurn). turn.0) swept.rest) in
    let acts : (ship_gains (shipping_of start)).1 ≡ swept.so_far = ap (λ (turn : ShipTurn). turn.1) swept.rest ∙ append-nil swept.so_far in
    (state, swept.acts ∙ ap (λ (xs : List ShipAct). before ++ xs) (sym acts))
