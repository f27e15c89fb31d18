-- The law on waiting, line by line.
use Rattle.std.specs.Prelude.{Bool, true, List}
use Rattle.std.specs.List.{list_all}
use Rattle.mj_ledger.specs.Moments.{moments}
use Rattle.mj_ledger.specs.TranscriptLaws.{nobody_is_kept}
use Rattle.mj_transcript.specs.Said.{said}
use Rattle.mj_transcript.specs.declared.line.Line.{Line}
use Rattle.mj_transcript.specs.declared.line.Line.TheVariants.{Open, In, Out, Close, Lapse, Silent, Unlawful}

-- before what comes from outside takes effect, nobody is kept
abbrev pub is_settled : List Line → Line → Bool
is_settled before (Out lane octets) = true
is_settled before Silent = true
is_settled before Unlawful = true
is_settled before _ = nobody_is_kept (said before)

abbrev pub keeps_waiting : List Line → Bool
keeps_waiting lines = list_all (λ m. is_settled m.0 m.1) (moments lines)
