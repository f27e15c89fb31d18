use Rattle.std.proofs.Common.{◌≡◌, false, true, ◌∙◌}
use Rattle.mj_wire.specs.NextReading.{has_ended}
use Rattle.mj_wire.proofs.WireLemmas.{ended_piece, ended_rest, read_of}
use Rattle.mj_wire.proofs.KeptLemmas.{light_here, light_ended, kept_here, kept_ended, kept_same}
use Rattle.mj_wire.proofs.read.take_piece.Goals as goal

pub returns-then-has_ended-clause-read : goal.returns-then-has_ended-clause-read
returns-then-has_ended-clause-read c =
    let e : has_ended c.args.place.now.stage ≡ true = cc in
    ended_piece _ _ _ _ _ e

pub returns-then-has_ended-2-clause-read : goal.returns-then-has_ended-2-clause-read
returns-then-has_ended-2-clause-read c =
    let e : has_ended c.read_all.new.place.stage ≡ true = cc in
    ended_rest _ _ _ _ _ _ _ _ (read_of _ _ _ _ _ _ _ _ (c.as_slice.ensures ∙ c.in_ok-extend_from_slice.ensures.ok) c.in_ok-used.ensures.read) e

pub returns-then-has_ended-2-clause-light : goal.returns-then-has_ended-2-clause-light
returns-then-has_ended-2-clause-light c =
    let e : has_ended c.read_all.new.place.stage ≡ true = cc in
    λ light. light_ended _ _ _ _ _ _ _ c.new.ensures.items e c.in_ok-used.ensures.weighs light.tidy

pub returns-then-has_ended-2-clause-kept : goal.returns-then-has_ended-2-clause-kept
returns-then-has_ended-2-clause-kept c =
    kept_ended _ _ _ _ _ _ _ _ _ _ (c.as_slice.ensures ∙ c.in_ok-extend_from_slice.ensures.ok) c.in_ok-used.ensures.within c.new.ensures.items c.in_ok-used.ensures.weighs

pub returns-else-has_ended-2-clause-light : goal.returns-else-has_ended-2-clause-light
returns-else-has_ended-2-clause-light c =
    let e : has_ended c.read_all.new.place.stage ≡ false = cc in
    λ light. light_here _ _ _ _ _ _ _ _ _ c.as_slice.ensures c.advance.ensures.items e c.in_ok-used.ensures.weighs c.in_ok-used.ensures.waits light.tidy

pub returns-else-has_ended-2-clause-kept : goal.returns-else-has_ended-2-clause-kept
returns-else-has_ended-2-clause-kept c =
    kept_here _ _ _ _ _ _ _ _ _ _ _ c.as_slice.ensures c.in_ok-extend_from_slice.ensures.ok c.in_ok-used.ensures.within c.advance.ensures.items c.in_ok-used.ensures.weighs

pub returns-then-has_ended-clause-kept : goal.returns-then-has_ended-clause-kept
returns-then-has_ended-clause-kept c = kept_same c.args.place.now c.args.rest.now.items c.args.piece.now c.args.items.now.items
