-- Commands of the broker: what is read is related, what is related is read, and what is written is related.
use Rattle.std.proofs.Common.{◌≡◌, ℕ, Bool, true, false, cond, List, [], ◌∷◌, Option, Some, None, IfSome, option_map, refl, sym, ap, subst, ◌∙◌}
use Rattle.std.specs.Str.{bytes_eq}
use Rattle.mj_base.specs.declared.version.Version.{Version}
use Rattle.mj_base.specs.declared.version.Version.TheVariants.{One, Two}
use Rattle.mj_worker_cmd.specs.declared.command.Order.{Order}
use Rattle.mj_worker_cmd.specs.declared.command.OrderAct.{OrderAct}
use Rattle.mj_worker_cmd.specs.declared.command.OrderAct.TheVariants.{Request, Heartbeat, Disconnect}
use Rattle.mj_worker_cmd.specs.declared.kind.OrderKind.{OrderKind}
use Rattle.mj_worker_cmd.specs.declared.kind.OrderKind.TheVariants as kinds
use Rattle.mj_worker_cmd.specs.declared.envelope.Envelope.{Envelope}
use Rattle.mj_worker_cmd.specs.WorkerGrammar.{IsOrderRow, IsOrder, IsLed}
use Rattle.mj_opening.specs.declared.party.Party.TheVariants.{Workers}
use Rattle.mj_opening.specs.Opening.{Begun, opening_of}
use Rattle.mj_worker_cmd.specs.Codes.{order_code, order_kind}
use Rattle.mj_worker_cmd.specs.WorkerReading.{order_act, order_in, order_coded, order_cmd, order_begun, order_of}
use Rattle.mj_worker_cmd.specs.WorkerWriting.{order_act_kind, order_act_frames, order_frames}
use Rattle.mj_worker_cmd.specs.Laws.{OneListOfOrder, OneOrderOfList, OrderIsRead, OrderIsWritten}
use Rattle.mj_opening.specs.Opening.{IsBegun}
use Rattle.mj_opening.proofs.OpeningLemmas.{same, opening_stands}
use Rattle.mj_worker_cmd.proofs.CodeLemmas.{order_kind_stands}

-- the frames behind the code of this kind are those of the command
abbrev IsAct : OrderKind → List (List ℕ) → OrderAct → Type 0
IsAct kind rest act = (kind ≡ order_act_kind act) × (rest ≡ order_act_frames act)

abbrev request_with : Envelope → OrderAct
request_with e = Request e.address e.body

request_by : (address empty : List ℕ) (body : List (List ℕ)) (act : OrderAct) (good : Bool) → bytes_eq empty [] ≡ good
    → option_map request_with (cond good (Some (record { address = address; body = body })) None) ≡ Some act
    → IsAct kinds.Request (address ∷ empty ∷ body) act
request_by address empty body act true is e =
    let q : Request address body ≡ act = cc in
    subst (λ (a : OrderAct). IsAct kinds.Request (address ∷ empty ∷ body) a) q (refl, ap (λ (x : List ℕ). address ∷ x ∷ body) (same _ _ is))
request_by address empty body act false is e = cc

act_stands : (kind : OrderKind) (rest : List (List ℕ)) (act : OrderAct) → order_act kind rest ≡ Some act → IsAct kind rest act
act_stands kinds.Request [] act e = cc
act_stands kinds.Request (address ∷ []) act e = cc
act_stands kinds.Request (address ∷ empty ∷ body) act e = request_by address empty body act _ refl e
act_stands kinds.Heartbeat [] act e =
    let q : Heartbeat ≡ act = cc in subst (λ (a : OrderAct). IsAct kinds.Heartbeat [] a) q (refl, refl)
act_stands kinds.Heartbeat (frame ∷ rest) act e = cc
act_stands kinds.Disconnect [] act e =
    let q : Disconnect ≡ act = cc in subst (λ (a : OrderAct). IsAct kinds.Disconnect [] a) q (refl, refl)
act_stands kinds.Disconnect (frame ∷ rest) act e = cc

row_stands : (v : Version) (lead : Bool) (act : OrderAct) (code : List ℕ) (rest m : List (List ℕ))
    → IsBegun Workers v lead (code ∷ rest) m → code ≡ order_code v (order_act_kind act) → rest ≡ order_act_frames act → IsOrderRow v lead act m
row_stands One true (Request address body) code rest m b c r = cc
row_stands One true Heartbeat code rest m b c r = cc
row_stands One true Disconnect code rest m b c r = cc
row_stands One false act code rest m b c r = absurd b
row_stands Two true (Request address body) code rest m b c r = cc
row_stands Two true Heartbeat code rest m b c r = cc
row_stands Two true Disconnect code rest m b c r = cc
row_stands Two false (Request address body) code rest m b c r = cc
row_stands Two false Heartbeat code rest m b c r = cc
row_stands Two false Disconnect code rest m b c r = cc

kind_acts : (v : Version) (lead : Bool) (code : List ℕ) (rest m : List (List ℕ)) (act : OrderAct) (o : Option OrderKind)
    → IsBegun Workers v lead (code ∷ rest) m → order_kind v code ≡ o → order_in o rest ≡ Some act → IsOrderRow v lead act m
kind_acts v lead code rest m act None b is e = cc
kind_acts v lead code rest m act (Some kind) b is e =
    let a = act_stands kind rest act e in
    let c = order_kind_stands v code kind is in
    row_stands v lead act code rest m b (subst (λ (k : OrderKind). code ≡ order_code v k) a.0 c) a.1

coded_acts : (v : Version) (lead : Bool) (rest m : List (List ℕ)) (act : OrderAct) → IsBegun Workers v lead rest m → order_coded v rest ≡ Some act → IsOrderRow v lead act m
coded_acts v lead [] m act b e = cc
coded_acts v lead (code ∷ rest) m act b e = kind_acts v lead code rest m act (order_kind v code) b refl e

order_by : (v : Version) (lead : Bool) (rest m : List (List ℕ)) (cmd : Order) (o : Option OrderAct)
    → IsBegun Workers v lead rest m → order_coded v rest ≡ o → option_map (order_cmd v lead) o ≡ Some cmd → IsOrder cmd m
order_by v lead rest m cmd None b is e = cc
order_by v lead rest m cmd (Some act) b is e =
    let q : order_cmd v lead act ≡ cmd = cc in
    subst (λ (c : Order). IsOrder c m) q (record { row = coded_acts v lead rest m act b is })

begun_order : (m : List (List ℕ)) (cmd : Order) (o : Option Begun) → opening_of Workers m ≡ o → order_begun o ≡ Some cmd → IsOrder cmd m
begun_order m cmd None is e = cc
begun_order m cmd (Some b) is e = order_by b.version b.lead b.rest m cmd (order_coded b.version b.rest) (opening_stands Workers m b is) refl e

-- what is read is related
pub order_stands : (m : List (List ℕ)) (cmd : Order) → order_of m ≡ Some cmd → IsOrder cmd m
order_stands m cmd e = begun_order m cmd (opening_of Workers m) refl e

row_is_read : (v : Version) (lead : Bool) (act : OrderAct) (m : List (List ℕ)) → IsOrderRow v lead act m → order_of m ≡ Some (order_cmd v lead act)
row_is_read One true (Request address body) m row = ap order_of row
row_is_read One true Heartbeat m row = ap order_of row
row_is_read One true Disconnect m row = ap order_of row
row_is_read One false act m row = absurd row
row_is_read Two true (Request address body) m row = ap order_of row
row_is_read Two true Heartbeat m row = ap order_of row
row_is_read Two true Disconnect m row = ap order_of row
row_is_read Two false (Request address body) m row = ap order_of row
row_is_read Two false Heartbeat m row = ap order_of row
row_is_read Two false Disconnect m row = ap order_of row

-- what is related is read
pub order_is_read : (m : List (List ℕ)) (cmd : Order) → IsOrder cmd m → order_of m ≡ Some cmd
order_is_read m cmd is = row_is_read cmd.version cmd.lead cmd.act m is.row

pub read_law : OrderIsRead
read_law cmd m = (order_stands m cmd, order_is_read m cmd)

-- what the reader finds is related
pub found_order : (r : Option Order) (m : List (List ℕ)) → r ≡ order_of m → IfSome r (λ cmd. IsOrder cmd m)
found_order None m e = tt
found_order (Some cmd) m e = order_stands m cmd (sym e)

written_row : (v : Version) (lead : Bool) (act : OrderAct) → IsLed v lead → IsOrderRow v lead act (order_frames (order_cmd v lead act))
written_row One true (Request address body) s = refl
written_row One true Heartbeat s = refl
written_row One true Disconnect s = refl
written_row One false act s = cc
written_row Two true (Request address body) s = refl
written_row Two true Heartbeat s = refl
written_row Two true Disconnect s = refl
written_row Two false (Request address body) s = refl
written_row Two false Heartbeat s = refl
written_row Two false Disconnect s = refl

-- what is written is related
pub written_order : OrderIsWritten
written_order cmd s = record { row = written_row cmd.version cmd.lead cmd.act s }

-- and read back
pub written_is_read : (cmd : Order) (m : List (List ℕ)) → IsLed cmd.version cmd.lead → m ≡ order_frames cmd → order_of m ≡ Some cmd
written_is_read cmd m s e = ap order_of e ∙ order_is_read (order_frames cmd) cmd (written_order cmd s)

-- ---- one to one

row_has_one_list : (v : Version) (lead : Bool) (act : OrderAct) (m n : List (List ℕ)) → IsOrderRow v lead act m → IsOrderRow v lead act n → m ≡ n
row_has_one_list One true (Request address body) m n a b = a ∙ sym b
row_has_one_list One true Heartbeat m n a b = a ∙ sym b
row_has_one_list One true Disconnect m n a b = a ∙ sym b
row_has_one_list One false act m n a b = absurd a
row_has_one_list Two true (Request address body) m n a b = a ∙ sym b
row_has_one_list Two true Heartbeat m n a b = a ∙ sym b
row_has_one_list Two true Disconnect m n a b = a ∙ sym b
row_has_one_list Two false (Request address body) m n a b = a ∙ sym b
row_has_one_list Two false Heartbeat m n a b = a ∙ sym b
row_has_one_list Two false Disconnect m n a b = a ∙ sym b

pub one_list : OneListOfOrder
one_list cmd m n a b = row_has_one_list cmd.version cmd.lead cmd.act m n a.row b.row

pub one_order : OneOrderOfList
one_order cmd other m a b = let p = order_is_read m cmd a in let q = order_is_read m other b in cc
