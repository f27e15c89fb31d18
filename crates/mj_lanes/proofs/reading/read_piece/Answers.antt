use Rattle.std.proofs.Common.{◌≡◌, List, ℕ, ◌++◌, length, take, drop, sym, ap, ◌∙◌}
use Rattle.std.proofs.Math.Seq.{take-append_seam}
use Rattle.mj_lanes.specs.Passes.{ReaderState}
use Rattle.mj_lanes.proofs.Loops.{reads_one}
use Rattle.mj_lanes.proofs.reading.read_piece.Goals as goal

-- a slice of a vector's whole length, written through
held : (len : ℕ) (buffer old : List ℕ) → len ≡ length buffer → take len (buffer ++ drop (length buffer) old) ≡ buffer
held len buffer old same = ap (λ (n : ℕ). take n (buffer ++ drop (length buffer) old)) same ∙ take-append_seam buffer (drop (length buffer) old)

pub returns-in-Ok-clause-sent : goal.returns-in-Ok-clause-sent
returns-in-Ok-clause-sent g c =
    let whole : c.deref.result.now ≡ c.read.new.into = c.deref.ensures.value ∙ held c.args.into.now.len c.read.new.into c.args.into.now.items (sym (c.read.auto.into ∙ c.as_mut_slice.ensures.len)) in
    let piece : c.in-Ok.piece ≡ take c.in-Got.count c.read.new.into = c.in-Ok.ensures ∙ ap (λ (xs : List ℕ). take c.in-Got.count xs) whole in
    reads_one _ c.lane.result _ _ c.in-Ok.piece _ _ _ c.lane.ensures piece (ap (λ (p : ReaderState). p.sent) c.send.ensures) c.in-Got.ensures.octets.2

pub returns-in-Err-clause-sent : goal.returns-in-Err-clause-sent
returns-in-Err-clause-sent g c =
    let whole : c.replace-room.result.items ≡ c.read.new.into =
    rw c.replace-room.ensures.value (held c.args.into.now.len c.read.new.into c.args.into.now.items (sym (c.read.auto.into ∙ c.as_mut_slice.ensures.len))) in
    let piece : c.from_vec.result ≡ take c.in-Got.count c.read.new.into = c.from_vec.ensures ∙ c.truncate.ensures.items ∙ ap (λ (xs : List ℕ). take c.in-Got.count xs) whole in
    reads_one _ c.lane-in-Err.result _ _ c.from_vec.result _ _ _ c.lane-in-Err.ensures piece (ap (λ (p : ReaderState). p.sent) c.send-in-Err.ensures) c.in-Got.ensures.octets.2
