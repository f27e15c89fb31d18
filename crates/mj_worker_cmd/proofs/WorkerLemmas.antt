-- Commands of a worker: what is read is related, what is related is read, and what is written is related.
use Rattle.std.proofs.Common.{◌≡◌, ℕ, Bool, true, false, cond, IsTrue, List, [], ◌∷◌, Option, Some, None, IfSome, option_map, refl, sym, ap, subst, ◌∙◌}
use Rattle.std.proofs.lemmas.Bool.{cond-true}
use Rattle.std.specs.Str.{bytes_eq}
use Rattle.mj_base.specs.ServiceName.{is_service_name}
use Rattle.mj_base.specs.declared.version.Version.{Version}
use Rattle.mj_base.specs.declared.version.Version.TheVariants.{One, Two}
use Rattle.mj_worker_cmd.specs.declared.command.WorkerCmd.{WorkerCmd}
use Rattle.mj_worker_cmd.specs.declared.command.WorkerAct.{WorkerAct}
use Rattle.mj_worker_cmd.specs.declared.command.WorkerAct.TheVariants.{Ready, Reply, Heartbeat, Disconnect}
use Rattle.mj_worker_cmd.specs.declared.kind.WorkerKind.{WorkerKind}
use Rattle.mj_worker_cmd.specs.declared.kind.WorkerKind.TheVariants as kinds
use Rattle.mj_worker_cmd.specs.declared.envelope.Envelope.{Envelope}
use Rattle.mj_worker_cmd.specs.WorkerGrammar.{IsWorkerRow, IsWorkerCommand, IsSpoken, IsActNamed}
use Rattle.mj_opening.specs.declared.party.Party.TheVariants.{Workers}
use Rattle.mj_opening.specs.Opening.{Begun, opening_of}
use Rattle.mj_worker_cmd.specs.Codes.{worker_kind}
use Rattle.mj_worker_cmd.specs.WorkerReading.{ready_of, reply_of, worker_act, worker_in, worker_coded, worker_cmd, worker_begun, worker_of}
use Rattle.mj_worker_cmd.specs.WorkerWriting.{act_kind, act_frames, worker_frames}
use Rattle.mj_worker_cmd.specs.Laws.{OneListOfCommand, OneCommandOfList, CommandIsRead, CommandIsWritten}
use Rattle.mj_opening.specs.Opening.{IsBegun}
use Rattle.mj_opening.proofs.OpeningLemmas.{same, opening_stands}
use Rattle.mj_worker_cmd.proofs.CodeLemmas.{IsCode, worker_kind_stands}

-- the frames behind the code of this kind are those of the command
abbrev IsAct : WorkerKind → List (List ℕ) → WorkerAct → Type 0
IsAct kind rest act = (kind ≡ act_kind act) × (rest ≡ act_frames act) × IsActNamed act

ready_by : (service : List ℕ) (act : WorkerAct) (good : Bool) → is_service_name service ≡ good → cond good (Some (Ready service)) None ≡ Some act
    → IsAct kinds.Ready (service ∷ []) act
ready_by service act true is e =
    let q : Ready service ≡ act = cc in
    subst (λ (a : WorkerAct). IsAct kinds.Ready (service ∷ []) a) q (refl, refl, is)
ready_by service act false is e = cc

ready_stands : (rest : List (List ℕ)) (act : WorkerAct) → ready_of rest ≡ Some act → IsAct kinds.Ready rest act
ready_stands [] act e = cc
ready_stands (service ∷ []) act e = ready_by service act _ refl e
ready_stands (service ∷ next ∷ rest) act e = cc

abbrev reply_with : Bool → Envelope → WorkerAct
reply_with last e = Reply last e.address e.body

reply_by : (last : Bool) (address empty : List ℕ) (body : List (List ℕ)) (act : WorkerAct) (good : Bool) → bytes_eq empty [] ≡ good
    → option_map (reply_with last) (cond good (Some (record { address = address; body = body })) None) ≡ Some act
    → IsAct (kinds.Reply last) (address ∷ empty ∷ body) act
reply_by last address empty body act true is e =
    let q : Reply last address body ≡ act = cc in
    subst (λ (a : WorkerAct). IsAct (kinds.Reply last) (address ∷ empty ∷ body) a) q (refl, ap (λ (x : List ℕ). address ∷ x ∷ body) (same _ _ is), tt)
reply_by last address empty body act false is e = cc

reply_stands : (last : Bool) (rest : List (List ℕ)) (act : WorkerAct) → reply_of last rest ≡ Some act → IsAct (kinds.Reply last) rest act
reply_stands last [] act e = cc
reply_stands last (address ∷ []) act e = cc
reply_stands last (address ∷ empty ∷ body) act e = reply_by last address empty body act _ refl e

act_stands : (kind : WorkerKind) (rest : List (List ℕ)) (act : WorkerAct) → worker_act kind rest ≡ Some act → IsAct kind rest act
act_stands kinds.Ready rest act e = ready_stands rest act e
act_stands (kinds.Reply last) rest act e = reply_stands last rest act e
act_stands kinds.Heartbeat [] act e =
    let q : Heartbeat ≡ act = cc in subst (λ (a : WorkerAct). IsAct kinds.Heartbeat [] a) q (refl, refl, tt)
act_stands kinds.Heartbeat (frame ∷ rest) act e = cc
act_stands kinds.Disconnect [] act e =
    let q : Disconnect ≡ act = cc in subst (λ (a : WorkerAct). IsAct kinds.Disconnect [] a) q (refl, refl, tt)
act_stands kinds.Disconnect (frame ∷ rest) act e = cc

row_stands : (v : Version) (lead : Bool) (act : WorkerAct) (code : List ℕ) (rest m : List (List ℕ))
    → IsBegun Workers v lead (code ∷ rest) m → IsCode v (act_kind act) code → rest ≡ act_frames act → IsActNamed act → IsWorkerRow v lead act m
row_stands One true (Ready service) code rest m b c r n = (n, let d = c.1 in cc)
row_stands One true (Reply false address body) code rest m b c r n = let d = c.0 in cc
row_stands One true (Reply true address body) code rest m b c r n = let d = c.1 in cc
row_stands One true Heartbeat code rest m b c r n = let d = c.1 in cc
row_stands One true Disconnect code rest m b c r n = let d = c.1 in cc
row_stands One false act code rest m b c r n = absurd b
row_stands Two true (Ready service) code rest m b c r n = (n, let d = c.1 in cc)
row_stands Two true (Reply false address body) code rest m b c r n = let d = c.1 in cc
row_stands Two true (Reply true address body) code rest m b c r n = let d = c.1 in cc
row_stands Two true Heartbeat code rest m b c r n = let d = c.1 in cc
row_stands Two true Disconnect code rest m b c r n = let d = c.1 in cc
row_stands Two false (Ready service) code rest m b c r n = (n, let d = c.1 in cc)
row_stands Two false (Reply false address body) code rest m b c r n = let d = c.1 in cc
row_stands Two false (Reply true address body) code rest m b c r n = let d = c.1 in cc
row_stands Two false Heartbeat code rest m b c r n = let d = c.1 in cc
row_stands Two false Disconnect code rest m b c r n = let d = c.1 in cc

kind_acts : (v : Version) (lead : Bool) (code : List ℕ) (rest m : List (List ℕ)) (act : WorkerAct) (o : Option WorkerKind)
    → IsBegun Workers v lead (code ∷ rest) m → worker_kind v code ≡ o → worker_in o rest ≡ Some act → IsWorkerRow v lead act m
kind_acts v lead code rest m act None b is e = cc
kind_acts v lead code rest m act (Some kind) b is e =
    let a = act_stands kind rest act e in
    let c = worker_kind_stands v code kind is in
    row_stands v lead act code rest m b (subst (λ (k : WorkerKind). IsCode v k code) a.0 c) a.1 a.2

coded_acts : (v : Version) (lead : Bool) (rest m : List (List ℕ)) (act : WorkerAct) → IsBegun Workers v lead rest m → worker_coded v rest ≡ Some act → IsWorkerRow v lead act m
coded_acts v lead [] m act b e = cc
coded_acts v lead (code ∷ rest) m act b e = kind_acts v lead code rest m act (worker_kind v code) b refl e

command_by : (v : Version) (lead : Bool) (rest m : List (List ℕ)) (cmd : WorkerCmd) (o : Option WorkerAct)
    → IsBegun Workers v lead rest m → worker_coded v rest ≡ o → option_map (worker_cmd v lead) o ≡ Some cmd → IsWorkerCommand cmd m
command_by v lead rest m cmd None b is e = cc
command_by v lead rest m cmd (Some act) b is e =
    let q : worker_cmd v lead act ≡ cmd = cc in
    subst (λ (c : WorkerCmd). IsWorkerCommand c m) q (record { row = coded_acts v lead rest m act b is })

begun_command : (m : List (List ℕ)) (cmd : WorkerCmd) (o : Option Begun) → opening_of Workers m ≡ o → worker_begun o ≡ Some cmd → IsWorkerCommand cmd m
begun_command m cmd None is e = cc
begun_command m cmd (Some b) is e = command_by b.version b.lead b.rest m cmd (worker_coded b.version b.rest) (opening_stands Workers m b is) refl e

-- what is read is related
pub command_stands : (m : List (List ℕ)) (cmd : WorkerCmd) → worker_of m ≡ Some cmd → IsWorkerCommand cmd m
command_stands m cmd e = begun_command m cmd (opening_of Workers m) refl e

ready_is_read : (service : List ℕ) → IsTrue (is_service_name service) → ready_of (service ∷ []) ≡ Some (Ready service)
ready_is_read service good = cond-true (is_service_name service) (Some (Ready service)) None good

row_is_read : (v : Version) (lead : Bool) (act : WorkerAct) (m : List (List ℕ)) → IsWorkerRow v lead act m → worker_of m ≡ Some (worker_cmd v lead act)
row_is_read One true (Ready service) m row = ap worker_of row.1 ∙ ap (option_map (worker_cmd One true)) (ready_is_read service row.0)
row_is_read One true (Reply false address body) m row = absurd row
row_is_read One true (Reply true address body) m row = ap worker_of row
row_is_read One true Heartbeat m row = ap worker_of row
row_is_read One true Disconnect m row = ap worker_of row
row_is_read One false act m row = absurd row
row_is_read Two true (Ready service) m row = ap worker_of row.1 ∙ ap (option_map (worker_cmd Two true)) (ready_is_read service row.0)
row_is_read Two true (Reply false address body) m row = ap worker_of row
row_is_read Two true (Reply true address body) m row = ap worker_of row
row_is_read Two true Heartbeat m row = ap worker_of row
row_is_read Two true Disconnect m row = ap worker_of row
row_is_read Two false (Ready service) m row = ap worker_of row.1 ∙ ap (option_map (worker_cmd Two false)) (ready_is_read service row.0)
row_is_read Two false (Reply false address body) m row = ap worker_of row
row_is_read Two false (Reply true address body) m row = ap worker_of row
row_is_read Two false Heartbeat m row = ap worker_of row
row_is_read Two false Disconnect m row = ap worker_of row

-- what is related is read
pub command_is_read : (m : List (List ℕ)) (cmd : WorkerCmd) → IsWorkerCommand cmd m → worker_of m ≡ Some cmd
command_is_read m cmd is = row_is_read cmd.version cmd.lead cmd.act m is.row

pub read_law : CommandIsRead
read_law cmd m = (command_stands m cmd, command_is_read m cmd)

-- what the reader finds is related
pub found_command : (r : Option WorkerCmd) (m : List (List ℕ)) → r ≡ worker_of m → IfSome r (λ cmd. IsWorkerCommand cmd m)
found_command None m e = tt
found_command (Some cmd) m e = command_stands m cmd (sym e)

written_row : (v : Version) (lead : Bool) (act : WorkerAct) → IsSpoken v lead act → IsActNamed act → IsWorkerRow v lead act (worker_frames (worker_cmd v lead act))
written_row One true (Ready service) s n = (n, refl)
written_row One true (Reply true address body) s n = refl
written_row One true (Reply false address body) s n = let e = s.1 in cc
written_row One true Heartbeat s n = refl
written_row One true Disconnect s n = refl
written_row One false (Ready service) s n = cc
written_row One false (Reply last address body) s n = let e = s.0 in cc
written_row One false Heartbeat s n = cc
written_row One false Disconnect s n = cc
written_row Two true (Ready service) s n = (n, refl)
written_row Two true (Reply true address body) s n = refl
written_row Two true (Reply false address body) s n = refl
written_row Two true Heartbeat s n = refl
written_row Two true Disconnect s n = refl
written_row Two false (Ready service) s n = (n, refl)
written_row Two false (Reply true address body) s n = refl
written_row Two false (Reply false address body) s n = refl
written_row Two false Heartbeat s n = refl
written_row Two false Disconnect s n = refl

-- what is written is related
pub written_command : CommandIsWritten
written_command cmd s n = record { row = written_row cmd.version cmd.lead cmd.act s n }

-- and read back
pub written_is_read : (cmd : WorkerCmd) (m : List (List ℕ)) → IsSpoken cmd.version cmd.lead cmd.act → m ≡ worker_frames cmd → IsActNamed cmd.act → worker_of m ≡ Some cmd
written_is_read cmd m s e n = ap worker_of e ∙ command_is_read (worker_frames cmd) cmd (written_command cmd s n)

-- ---- one to one

row_has_one_list : (v : Version) (lead : Bool) (act : WorkerAct) (m n : List (List ℕ)) → IsWorkerRow v lead act m → IsWorkerRow v lead act n → m ≡ n
row_has_one_list One true (Ready service) m n a b = a.1 ∙ sym b.1
row_has_one_list One true (Reply false address body) m n a b = absurd a
row_has_one_list One true (Reply true address body) m n a b = a ∙ sym b
row_has_one_list One true Heartbeat m n a b = a ∙ sym b
row_has_one_list One true Disconnect m n a b = a ∙ sym b
row_has_one_list One false act m n a b = absurd a
row_has_one_list Two true (Ready service) m n a b = a.1 ∙ sym b.1
row_has_one_list Two true (Reply false address body) m n a b = a ∙ sym b
row_has_one_list Two true (Reply true address body) m n a b = a ∙ sym b
row_has_one_list Two true Heartbeat m n a b = a ∙ sym b
row_has_one_list Two true Disconnect m n a b = a ∙ sym b
row_has_one_list Two false (Ready service) m n a b = a.1 ∙ sym b.1
row_has_one_list Two false (Reply false address body) m n a b = a ∙ sym b
row_has_one_list Two false (Reply true address body) m n a b = a ∙ sym b
row_has_one_list Two false Heartbeat m n a b = a ∙ sym b
row_has_one_list Two false Disconnect m n a b = a ∙ sym b

pub one_list : OneListOfCommand
one_list cmd m n a b = row_has_one_list cmd.version cmd.lead cmd.act m n a.row b.row

pub one_command : OneCommandOfList
one_command cmd other m a b = let p = command_is_read m cmd a in let q = command_is_read m other b in cc
