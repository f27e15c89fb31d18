use Rattle.std.proofs.Common.{◌≡◌, ◌++◌, drop}
use Rattle.mj_frame.specs.FrameSpelling.{message_octets, Grows}
use Rattle.mj_frame.proofs.write.append_message.Given as goal

-- what is written and what is left to write make the message
abbrev pub invariant-loop-i : goal.invariant-loop-i
invariant-loop-i l =
    Grows l.initial.out l.out × (l.out ++ message_octets (drop l.i l.message) ≡ l.initial.out ++ message_octets l.message)
