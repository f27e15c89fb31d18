use Rattle.std.proofs.Common.{◌≡◌, ◌≤◌, ◌++◌, length, take, drop}
use Rattle.mj_base.proofs.frames.Frames.append_some.Given as goal

-- what is appended and what is left to append; what stood there stands in front
abbrev pub invariant-loop-i : goal.invariant-loop-i
invariant-loop-i l =
    (l.self ++ drop l.i l.other ≡ l.initial.self ++ drop l.from l.other)
    × (length l.initial.self ≤ length l.self)
    × (take (length l.initial.self) l.self ≡ l.initial.self)
