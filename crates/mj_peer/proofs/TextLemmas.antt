-- What a worker's end says has a form in its version.
use Rattle.std.proofs.Common.{Bool, true, false, refl, ap}
use Rattle.std.proofs.lemmas.Bool.{false≢true}
use Rattle.mj_base.specs.declared.version.Version.{Version}
use Rattle.mj_base.specs.declared.version.Version.TheVariants.{One, Two}
use Rattle.mj_worker_cmd.specs.WorkerGrammar.{IsSpoken}
use Rattle.mj_worker_cmd.specs.declared.command.WorkerAct.{WorkerAct}
use Rattle.mj_worker_cmd.specs.declared.command.WorkerAct.TheVariants as said
use Rattle.mj_peer.specs.PeerTexts.{MaySay, leads}

abbrev is-two : Version → Bool
is-two One = false
is-two Two = true

pub may_say : (act : WorkerAct) (version : Version) → MaySay act version → IsSpoken version (leads version) act
may_say act Two may = tt
may_say (said.Ready service) One may = refl
may_say (said.Reply true address body) One may = (refl, refl)
may_say (said.Reply false address body) One may = absurd (false≢true (ap is-two may))
may_say said.Heartbeat One may = refl
may_say said.Disconnect One may = refl
