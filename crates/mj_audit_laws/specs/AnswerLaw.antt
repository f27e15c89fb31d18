-- In a held transcript each answer is a worker's own.
use Rattle.std.specs.Prelude.{ℕ, ◌≡◌, ◌+◌, Bool, true, List, ◌∷◌, ◌++◌, length, replicate}
use Rattle.mj_ledger.specs.Events.{Event, Answered, Replied}
use Rattle.mj_ledger.specs.Workers.{holds, serves}
use Rattle.mj_transcript.specs.Said.{said}
use Rattle.mj_transcript.specs.Verdicts.{judged}
use Rattle.mj_transcript.specs.declared.line.Line.{Line}
use Rattle.mj_transcript.specs.declared.verdict.Verdict.TheVariants.{Held}

-- before, a worker replied to this client with this body; it served this service then, and held a request with the client's address
pub record IsGivenBefore (before : List Event) (who service : List ℕ) (last : Bool) (body : List (List ℕ)) : Type 0 where
  pub front : List Event
  pub worker : List ℕ
  pub rest : List Event
  pub replied : before ≡ front ++ Replied worker last who body ∷ rest
  pub served : serves worker service front ≡ true
  pub held : holds worker who front ≡ true

-- what a transcript says has no answers in the names that a broker answers itself
abbrev pub AnswersAreGiven : List Event → Type 0
AnswersAreGiven events = (before after : List Event) (who service : List ℕ) (last : Bool) (body : List (List ℕ))
    → events ≡ before ++ Answered who service last body ∷ after → IsGivenBefore before who service last body

abbrev pub HeldAnswersAreGiven : Type 0
HeldAnswersAreGiven = (lines : List Line) → judged lines ≡ replicate (length lines + 1) Held → AnswersAreGiven (said lines)
