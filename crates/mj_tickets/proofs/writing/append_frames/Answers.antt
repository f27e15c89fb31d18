use Rattle.std.proofs.Common.{◌<◌, ◌+◌, drop, length, List, ℕ, ◌∙◌, ap, arith, length-drop}
use Rattle.mj_tickets.proofs.FrameLemmas.{grows_more, frames_more, short_more}
use Rattle.mj_tickets.proofs.writing.append_frames.Goals as goal
use Rattle.mj_tickets.proofs.writing.append_frames.Goals.{in-Some+in_ok-append_frame, in_default}

pub loop-i-preserved : goal.loop-i-preserved
loop-i-preserved c =
    elim c.match-get.branch [
      | in-Some+in_ok-append_frame w ↦
          let more = w.in-Some.ensures.rest.1 in
          let written = w.out-is ∙ w.in_ok-append_frame.ensures.ok in
          record {
            grown = grows_more c.args.out.now c.loop-i.out c.match-get.out _ c.loop-i.invariant.grown written;
            text = frames_more c.loop-i.out c.match-get.out w.in-Some.frame.now _ (drop c.loop-i.i c.args.body.now) (drop (c.loop-i.i + 1) c.args.body.now) more written c.loop-i.invariant.text;
            short = short_more w.in-Some.frame.now (drop c.loop-i.i c.args.body.now) (drop (c.loop-i.i + 1) c.args.body.now) more c.loop-i.invariant.short;
          }
      | in_default w ↦
          let inside : c.loop-i.i < length c.args.body.now = omega (arith, c.len-i-end.ensures) in
          absurd (omega (arith, length-drop c.loop-i.i c.args.body.now, ap (λ (x : List (List ℕ)). length x) w.in_default.ensures.rest))
    ]
