-- What the submitter's code does, beside the rules: the effects among the doings, and when it stands for the rules' submitter.
use Rattle.std.specs.Prelude.{◌≡◌, Bool, true, false, ℕ, List, [], ◌∷◌, ◌++◌, Option, is_some, codes}
use Rattle.std.specs.List.{list_any}
use Rattle.mj_base.specs.declared.link.LinkEvent.{LinkEvent}
use Rattle.mj_base.specs.declared.link.LinkEvent.TheVariants as event
use Rattle.mj_peer.specs.ClientEndRules.{Client}
use Rattle.mj_peer.specs.ClientStands as ends
use Rattle.mj_peer.specs.declared.act.Act.{Act}
use Rattle.mj_peer.specs.declared.act.Act.TheVariants as act
use Rattle.mj_submit.specs.SubmitRules as rules
use Rattle.mj_submit.specs.SubmitRules.{Acts, Asks, Doing, Finishes, Hears, NoAnswer, NoReply, Notes, Prints, Refused, Takes, Turn, is_end}
use Rattle.mj_submit.specs.declared.progress.Stage.{Stage}
use Rattle.mj_submit.specs.declared.progress.Stage.TheVariants.{Fresh, Ticket, Delivered}
use Rattle.mj_submitter.specs.declared.effect.Effect.{Effect}
use Rattle.mj_submitter.specs.declared.effect.Effect.TheVariants as effect
use Rattle.mj_submitter.specs.declared.effect.Ending.TheVariants as ending
use Rattle.mj_submitter.specs.declared.submitter.Submitter.{Submitter}

-- ---- effects

abbrev pub effects_of_act : Act → List Effect
effects_of_act (act.Write text) = effect.Write text ∷ []
effects_of_act act.Reopen = effect.Reopen ∷ []
effects_of_act (act.Part body) = []
effects_of_act (act.Done body) = []
effects_of_act act.Served = []
effects_of_act act.Finished = []
effects_of_act act.NoAnswer = []

abbrev pub effects_of : Doing → List Effect
effects_of (Takes number line) = []
effects_of (Asks question) = []
effects_of (Acts a) = effects_of_act a
effects_of (Hears body) = []
effects_of (Prints line body) = effect.Print line body ∷ []
effects_of (Notes note) = effect.Note note ∷ []
effects_of (Refused line code) = effect.End (ending.Refused line code) ∷ []
effects_of (NoReply line) = effect.End (ending.NoReply line) ∷ []
effects_of (NoAnswer line) = effect.End (ending.NoAnswer line) ∷ []
effects_of (Finishes closed) = effect.End (ending.Finished closed) ∷ []

abbrev pub effects : List Doing → List Effect
effects [] = []
effects (d ∷ ds) = effects_of d ++ effects ds

abbrev pub act_effects : List Act → List Effect
act_effects [] = []
act_effects (a ∷ acts) = effects_of_act a ++ act_effects acts

-- ---- the code and the rules

-- the rules' submitter, with this client
abbrev pub with_client : Submitter → Client → rules.Submitter
with_client c k = record {
  name = c.name;
  tries = c.tries;
  wait = c.wait;
  polls = c.polls;
  progress = c.progress;
  had = c.had;
  lines = c.lines;
  line = c.line;
  client = k;
  first = c.first;
  polled = c.polled;
  paused = c.paused;
  over = c.over;
}

-- the client is that of the present call, where a line is at work
abbrev pub IsClient : Submitter → Client → Type 0
IsClient c k = is_some c.line ≡ true → ends.Stands c.client.session k

-- it stands for this submitter of the rules
pub record Stands (c : Submitter) (s : rules.Submitter) : Type 0 where
  pub client : IsClient c s.client
  pub fields : s ≡ with_client c s.client

-- a turn was done: it stands for what the turn made, and the turn's effects were added
pub record Does (now : Submitter) (before after : List Effect) (turn : Turn) : Type 0 where
  pub stands : Stands now turn.0
  pub effects_are : after ≡ before ++ effects turn.1

-- whatever submitter it stood for, this turn of it was done
abbrev pub Follows : Submitter → Submitter → List Effect → List Effect → (rules.Submitter → Turn) → Type 0
Follows old now before after turn = (k : Client) → IsClient old k → Does now before after (turn (with_client old k))

-- the same, whatever client it had
abbrev pub Restarts : Submitter → Submitter → List Effect → List Effect → (rules.Submitter → Turn) → Type 0
Restarts old now before after turn = (k : Client) → Does now before after (turn (with_client old k))

abbrev pub ends_call : Turn → Bool
ends_call turn = list_any is_end turn.1

-- and it ended the call, or didn't
abbrev pub FollowsTo : Bool → Submitter → Submitter → List Effect → List Effect → (rules.Submitter → Turn) → Type 0
FollowsTo ended old now before after turn = (k : Client) → IsClient old k → Does now before after (turn (with_client old k)) × (ended ≡ ends_call (turn (with_client old k)))

-- what an event counts
abbrev pub quiet_by : LinkEvent → Option ℕ → Option ℕ
quiet_by (event.Given piece) paused = paused
quiet_by event.Idle paused = rules.quieter paused
quiet_by event.End paused = paused

-- the service that is asked for a line that is so far
abbrev pub service_at : Stage → List ℕ
service_at Fresh = codes "titanic.request"
service_at (Ticket id) = codes "titanic.reply"
service_at (Delivered id) = codes "titanic.close"
