use Rattle.std.proofs.Common.{Bool, cond, ap, inl, inr, ⊎_elim, ◌∙◌}
use Rattle.std.proofs.Math.Nat.{le_trans}
use Rattle.std.specs.Io.KnownBytes.{IsAtEnd}
use Rattle.mj_base.specs.Rising.{Rose, risen}
use Rattle.mj_lanes.proofs.Loops.{reads_turn, rose_since}
use Rattle.mj_lanes.proofs.reading.read_pieces.Goals as goal

pub returns-in_err-read_piece-clause-sent : goal.returns-in_err-read_piece-clause-sent
returns-in_err-read_piece-clause-sent g c = let i = c.loop.invariant in reads_turn _ _ _ _ _ _ _ _ i.3 i.4 c.read_piece.ensures.sent

pub returns-then-not-branch-clause-sent : goal.returns-then-not-branch-clause-sent
returns-then-not-branch-clause-sent g c = let i = c.loop.invariant in reads_turn _ _ _ _ _ _ _ _ i.3 i.4 c.read_piece.ensures.sent

pub returns-then-not-branch-clause-all : goal.returns-then-not-branch-clause-all
returns-then-not-branch-clause-all g c =
    let i = c.loop.invariant in
    ⊎_elim (λ (e : IsAtEnd (g.S.Source.left c.read_piece.new.source)). inl e)
    (λ (r : Rose (g.S.Source.faults c.loop.source) (g.S.Source.faults c.read_piece.new.source)). inr (rose_since _ _ _ i.5 r)) (c.in_ok-read_piece.ensures.all c.if-not-branch.true)

pub loop-preserved : goal.loop-preserved
loop-preserved g c =
    let i = c.loop.invariant in
    let r = c.read_piece.ensures in (
      tt,
      tt,
      r.pass.0 ∙ i.2,
      r.pass.1 ∙ i.3,
      reads_turn _ _ _ _ _ _ _ _ i.3 i.4 r.sent,
      le_trans i.5 r.later,
      c.in_ok-read_piece.ensures.room ∙ i.6,
      c.in_ok-read_piece.ensures.misses ∙ ap (λ (more : Bool). cond more (g.S.Source.misses c.loop.source) (risen (g.S.Source.misses c.loop.source))) c.if-not-branch.false ∙ i.7,
    )
