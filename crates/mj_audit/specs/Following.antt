-- What an audit's lanes and tables say of the lines so far.
use Rattle.std.specs.Prelude.{ℕ, ◌≡◌, ◌<◌, Bool, true, false, not, List, [], ◌∷◌, ◌++◌, length, Option, Some, None, if◌then◌else◌}
use Rattle.mj_base.specs.StandardLimits.{peer_limits, standard_limits}
use Rattle.mj_wire.specs.WireState.{StandsFor}
use Rattle.mj_ledger.specs.Standing.{Stands, is_known}
use Rattle.mj_ledger.specs.TranscriptLaws.{keeps_busy, keeps_owner, keeps_wire}
use Rattle.mj_ledger.specs.declared.tables.Tables.{Tables}
use Rattle.mj_transcript.specs.Lines.{connection_on, is_open, received, sent}
use Rattle.mj_transcript.specs.Said.{said}
use Rattle.mj_transcript.specs.Verdicts.{verdict_at}
use Rattle.mj_transcript.specs.Waiting.{keeps_waiting}
use Rattle.mj_transcript.specs.declared.line.Line.{Line}
use Rattle.mj_transcript.specs.declared.verdict.Law.TheVariants as laws
use Rattle.mj_transcript.specs.declared.verdict.Verdict.{Verdict}
use Rattle.mj_transcript.specs.declared.verdict.Verdict.TheVariants.{Held, Unlawful, Broken}
use Rattle.mj_audit.specs.Slots.{slot_of}
use Rattle.mj_audit.specs.declared.lane.Lane.{Lane}

-- a connection on a lane: its address, and how far both of its streams were read
pub record IsOn (l : Lane) (lane : ℕ) (lines : List Line) : Type 0 where
  pub open_lane : is_open lane lines ≡ true
  pub address : l.address ≡ connection_on lane lines
  pub known : is_known l.address (said lines) ≡ true
  pub received : StandsFor standard_limits l.received (received lane lines)
  pub sent : StandsFor peer_limits l.sent (sent lane lines)

abbrev pub Carries : Option Lane → ℕ → List Line → Type 0
Carries None lane lines = is_open lane lines ≡ false
Carries (Some l) lane lines = IsOn l lane lines

-- all lines so far kept the laws, and the lanes and tables stand for them
pub record Follows (slots : List (Option Lane)) (t : Tables) (lines : List Line) : Type 0 where
  pub tables : Stands t (said lines)
  pub wire : keeps_wire (said lines) ≡ true
  pub owner : keeps_owner (said lines) ≡ true
  pub busy : keeps_busy (said lines) ≡ true
  pub waiting : keeps_waiting lines ≡ true
  pub many : length slots ≡ 64
  pub lanes : (lane : ℕ) → lane < 64 → Carries (slot_of slots lane) lane lines

-- a verdict by the laws in their order
abbrev pub verdict_by : Bool → Bool → Bool → Bool → Verdict
verdict_by wire owner busy settled =
    if not wire then Broken laws.Wire else if not owner then Broken laws.Owner else if not busy then Broken laws.Busy else if not settled then Broken laws.Waiting else Held

-- a line more, and its verdict: where it is held, all goes on
abbrev pub IsStep : List (Option Lane) → Tables → List (Option Lane) → Tables → Line → Verdict → Type 0
IsStep lanes tables lanes_now tables_now line verdict =
    (lines : List Line) → Follows lanes tables lines → (verdict ≡ verdict_at lines line) × (verdict ≡ Held → Follows lanes_now tables_now (lines ++ line ∷ []))
