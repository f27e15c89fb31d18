-- The tickets of a list of commands with one more.
use Rattle.std.proofs.Common.{◌≡◌, ℕ, Bool, true, false, cond, not, List, [], ◌∷◌, ◌++◌, Option, None, Some, is_some, refl, ap, ◌∙◌}
use Rattle.std.specs.Prelude.{option_and_then}
use Rattle.std.specs.Option.{option_map, unwrap_or}
use Rattle.std.specs.List.{find}
use Rattle.mj_tickets.specs.declared.command.TicketCmd.{TicketCmd}
use Rattle.mj_tickets.specs.declared.command.TicketCmd.TheVariants.{Close, Store}
use Rattle.mj_tickets.specs.Payload.{body_of}
use Rattle.mj_tickets.specs.Fold.{Fold, Ticket, applied, changed_first, closed, fold_of, folded, numbered, replied, start, stored, stores_in, ticket_of}
use Rattle.mj_machine.specs.StoreState.{is_pending_one, pends}

abbrev pub Bodies : Type 0
Bodies = List (List ℕ)

-- one command more is applied last
folded-append : (cmds : List TicketCmd) (cmd : TicketCmd) (f : Fold Bodies) → folded (cmds ++ cmd ∷ []) f ≡ option_and_then (applied cmd (body_of cmd)) (folded cmds f)
folded-append [] cmd f = by (applied cmd (body_of cmd) f)
  where
    by : (o : Option (Fold Bodies)) → option_and_then (folded []) o ≡ o
    by None = refl
    by (Some g) = refl
folded-append (first ∷ cmds) cmd f = by (applied first (body_of first) f) (λ g. folded-append cmds cmd g)
  where
    by : (o : Option (Fold Bodies)) → ((g : Fold Bodies) → folded (cmds ++ cmd ∷ []) g ≡ option_and_then (applied cmd (body_of cmd)) (folded cmds g))
        → option_and_then (folded (cmds ++ cmd ∷ [])) o ≡ option_and_then (applied cmd (body_of cmd)) (option_and_then (folded cmds) o)
    by None rest = refl
    by (Some g) rest = rest g

pub fold-append : (base : ℕ) (cmds : List TicketCmd) (cmd : TicketCmd) → fold_of base (cmds ++ cmd ∷ []) ≡ option_and_then (applied cmd (body_of cmd)) (fold_of base cmds)
fold-append base cmds cmd = folded-append cmds cmd (start base)

-- of a lawful list, where the command is lawful behind it
pub fold-more : (base : ℕ) (cmds : List TicketCmd) (cmd : TicketCmd) (f g : Fold Bodies) → fold_of base cmds ≡ Some f → applied cmd (body_of cmd) f ≡ Some g
    → fold_of base (cmds ++ cmd ∷ []) ≡ Some g
fold-more base cmds cmd f g was is =
    fold-append base cmds cmd ∙ ap (λ (o : Option (Fold Bodies)). option_and_then (applied cmd (body_of cmd)) o) was ∙ is

-- ---- a reply

-- a pending ticket is there, and may be given its reply
pub store-applies : (n : ℕ) (body : Bodies) (f : Fold Bodies) → pends n f ≡ true → applied (Store n body) body f ≡ Some (stored n body f)
store-applies n body f pending = by (ticket_of n f) pending
  where
    reply : (t : Ticket Bodies) (b : Bool) → is_some t.reply ≡ b → not b ≡ true → cond {A = Option (Fold Bodies)} b None (Some (stored n body f)) ≡ Some (stored n body f)
    reply t true is pends_on = absurd (cc pends_on)
    reply t false is pends_on = refl

    by : (o : Option (Ticket Bodies)) → is_pending_one o ≡ true → option_and_then (stores_in n body f) o ≡ Some (stored n body f)
    by None pending = absurd (cc pending)
    by (Some t) pending = reply t (is_some t.reply) refl pending

-- the first that passes is changed, and still passes
pub find-changed : (n : ℕ) (change : Ticket Bodies → Ticket Bodies) → ((t : Ticket Bodies) → (change t).number ≡ t.number) → (ts : List (Ticket Bodies))
    → find (numbered n) (changed_first (numbered n) change ts) ≡ option_map change (find (numbered n) ts)
find-changed n change keeps [] = refl
find-changed n change keeps (t ∷ ts) = by (numbered n t) refl (find-changed n change keeps ts)
  where
    by : (b : Bool) → numbered n t ≡ b → find (numbered n) (changed_first (numbered n) change ts) ≡ option_map change (find (numbered n) ts)
        → find (numbered n) (cond {A = List (Ticket Bodies)} b (change t ∷ ts) (t ∷ changed_first (numbered n) change ts))
        ≡ option_map change (cond {A = Option (Ticket Bodies)} b (Some t) (find (numbered n) ts))
    by true is rest = rw (keeps t) (rw is refl)
    by false is rest = rw is rest

-- and pends no more
pub stored-pends : (n : ℕ) (body : Bodies) (f : Fold Bodies) → pends n (stored n body f) ≡ false
stored-pends n body f = ap is_pending_one (find-changed n (replied body) (λ t. refl) f.tickets) ∙ by (ticket_of n f)
  where
    by : (o : Option (Ticket Bodies)) → is_pending_one (option_map (replied body) o) ≡ false
    by None = refl
    by (Some t) = refl

pub pends-stored : (base : ℕ) (cmds : List TicketCmd) (n : ℕ) (body : Bodies) → pends n (unwrap_or (fold_of base cmds) (start base)) ≡ true
    → pends n (unwrap_or (fold_of base (cmds ++ Store n body ∷ [])) (start base)) ≡ false
pends-stored base cmds n body = by (fold_of base cmds) refl
  where
    by : (o : Option (Fold Bodies)) → fold_of base cmds ≡ o → pends n (unwrap_or o (start base)) ≡ true → pends n (unwrap_or (fold_of base (cmds ++ Store n body ∷ [])) (start base)) ≡ false
    by None was pending = absurd (cc pending)
    by (Some f) was pending =
        ap (λ (o : Option (Fold Bodies)). pends n (unwrap_or o (start base))) (fold-more base cmds (Store n body) f (stored n body f) was (store-applies n body f pending))
        ∙ stored-pends n body f

-- ---- a close

pub close-applies : (n : ℕ) (t : Ticket Bodies) (f : Fold Bodies) → ticket_of n f ≡ Some t → applied (Close n) [] f ≡ Some (closed n f)
close-applies n t f is = ap (λ (o : Option (Ticket Bodies)). option_map (λ (x : Ticket Bodies). closed n f) o) is
