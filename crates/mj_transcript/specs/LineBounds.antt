-- The lanes of a line.
use Rattle.std.specs.Prelude.{◌<◌, ⊤}
use Rattle.mj_transcript.specs.declared.line.Line.{Line}
use Rattle.mj_transcript.specs.declared.line.Line.TheVariants.{Open, In, Out, Close, Lapse, Silent, Unlawful}

-- the lane is one of 64
abbrev pub IsOnLanes : Line → Type 0
IsOnLanes (Open lane address) = lane < 64
IsOnLanes (In lane octets) = lane < 64
IsOnLanes (Out lane octets) = lane < 64
IsOnLanes (Close lane) = lane < 64
IsOnLanes (Lapse lane) = lane < 64
IsOnLanes Silent = ⊤
IsOnLanes Unlawful = ⊤
