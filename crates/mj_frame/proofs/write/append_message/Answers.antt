use Rattle.std.proofs.Common.{◌≡◌, ◌<◌, Some, None, slice_get, option_copied, [], sym, ap, ◌∙◌, length, arith}
use Rattle.std.proofs.lemmas.Option.{slice_get-get_or}
use Rattle.mj_frame.proofs.MessageLemmas.{message_more, grows_more}
use Rattle.mj_frame.proofs.write.append_message.Goals as goal
use Rattle.mj_frame.proofs.write.append_message.Goals.{in-Some+in_ok-append_frame, in_default}

pub loop-i-preserved : goal.loop-i-preserved
loop-i-preserved c =
    elim c.match-get.branch [
      | in-Some+in_ok-append_frame w ↦
          let got : slice_get c.args.message.now c.loop-i.i ≡ Some w.in-Some.frame.now = sym c.get.ensures.value ∙ ap option_copied w.in-Some.is in
          let written = w.out-is ∙ w.in_ok-append_frame.ensures.ok in
          (grows_more _ _ _ _ c.loop-i.invariant.0 written, message_more _ _ _ _ _ _ _ got c.len-last.ensures c.loop-i.invariant.1 written)
      | in_default w ↦
          let inside : c.loop-i.i < length c.args.message.now = omega (arith, c.len-i-end.ensures) in
          let none : slice_get c.args.message.now c.loop-i.i ≡ None = sym c.get.ensures.value ∙ ap option_copied w.in_default.is in
          let some = slice_get-get_or c.args.message.now c.loop-i.i [] inside in
          cc
    ]
