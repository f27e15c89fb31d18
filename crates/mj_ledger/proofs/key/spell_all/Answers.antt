use Rattle.std.proofs.Common.{◌++◌, ◌+◌, drop, length, List, ℕ, ap, append_assoc, arith, length-drop, sym, ◌∙◌, Vec, Global}
use Rattle.mj_ledger.specs.Keys.{spelled, spelled_frame}
use Rattle.mj_ledger.proofs.key.spell_all.Goals as goal
use Rattle.mj_ledger.proofs.key.spell_all.Goals.{in-Some+in_ok-spell, in_default}

pub loop-i-preserved : goal.loop-i-preserved
loop-i-preserved c =
    let rest = drop (c.loop-i.i + 1) c.args.frames.now in
    elim c.match-get.branch [
      | in-Some+in_ok-spell w ↦
          ap (λ (k : Vec ℕ Global). k.items ++ spelled rest) w.key-is
          ∙ ap (λ (l : List ℕ). l ++ spelled rest) w.in_ok-spell.ensures
          ∙ append_assoc c.loop-i.key.items (spelled_frame w.in-Some.frame.now) (spelled rest)
          ∙ ap (λ (l : List (List ℕ)). c.loop-i.key.items ++ spelled l) (sym w.in-Some.ensures.rest.1)
          ∙ c.loop-i.invariant
      | in_default w ↦
          let none = ap length w.in_default.ensures.rest in
          let left = length-drop c.loop-i.i c.args.frames.now in
          absurd (omega (arith, none, left))
    ]
