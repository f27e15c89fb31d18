-- What stands in a body's place changes nothing else of the tickets.
use Rattle.std.proofs.Common.{◌≡◌, ℕ, ◌+◌, ◌==◌, Bool, true, false, cond, not, List, [], ◌∷◌, ◌++◌, map, filter, find, Option, Some, None, is_some, option_map, refl, sym, ap, ◌∙◌}
use Rattle.std.proofs.lemmas.List.{map-append}
use Rattle.std.specs.Option.{option_and_then}
use Rattle.mj_ids.specs.Ids.{number_of}
use Rattle.mj_tickets.specs.declared.command.TicketCmd.{TicketCmd}
use Rattle.mj_tickets.specs.declared.command.TicketCmd.TheVariants.{Accept, Store, Close}
use Rattle.mj_tickets.specs.Payload.{body_of}
use Rattle.mj_tickets.specs.Fold.{Ticket, Fold, start, takes, accepted, accepts, numbered, changed_first, replied, stored, stores, stores_in, closed, closes, applied, folded_by}
use Rattle.mj_tickets.specs.Index.{Placed, cmd_of}
use Rattle.mj_tickets.specs.Laws.{mapped, map_fold, housed, place_at, body_at, PlacesAndBodies}

module _ {B C : Type 0} (h : B → C) where
  pub find-map : (n : ℕ) (ts : List (Ticket B)) → find (numbered n) (map (mapped h) ts) ≡ option_map (mapped h) (find (numbered n) ts)
  find-map n [] = refl
  find-map n (t ∷ ts) = chosen (t.number == n) (find-map n ts)
    where
      chosen : (b : Bool) → find (numbered n) (map (mapped h) ts) ≡ option_map (mapped h) (find (numbered n) ts)
          → cond b (Some (mapped h t)) (find (numbered n) (map (mapped h) ts)) ≡ option_map (mapped h) (cond b (Some t) (find (numbered n) ts))
      chosen true rest = refl
      chosen false rest = rest

  changed-map : (n : ℕ) (value : B) (ts : List (Ticket B)) → changed_first (numbered n) (replied (h value)) (map (mapped h) ts) ≡ map (mapped h) (changed_first (numbered n) (replied value) ts)
  changed-map n value [] = refl
  changed-map n value (t ∷ ts) = chosen (t.number == n) (changed-map n value ts)
    where
      chosen : (b : Bool) → changed_first (numbered n) (replied (h value)) (map (mapped h) ts) ≡ map (mapped h) (changed_first (numbered n) (replied value) ts)
          → cond b (replied (h value) (mapped h t) ∷ map (mapped h) ts) (mapped h t ∷ changed_first (numbered n) (replied (h value)) (map (mapped h) ts))
          ≡ map (mapped h) (cond b (replied value t ∷ ts) (t ∷ changed_first (numbered n) (replied value) ts))
      chosen true rest = refl
      chosen false rest = ap (λ (us : List (Ticket C)). mapped h t ∷ us) rest

  without-map : (n : ℕ) (ts : List (Ticket B)) → filter (λ t. not (numbered n t)) (map (mapped h) ts) ≡ map (mapped h) (filter (λ t. not (numbered n t)) ts)
  without-map n [] = refl
  without-map n (t ∷ ts) = chosen (not (t.number == n)) (without-map n ts)
    where
      chosen : (b : Bool) → filter (λ u. not (numbered n u)) (map (mapped h) ts) ≡ map (mapped h) (filter (λ u. not (numbered n u)) ts)
          → cond b (mapped h t ∷ filter (λ u. not (numbered n u)) (map (mapped h) ts)) (filter (λ u. not (numbered n u)) (map (mapped h) ts))
          ≡ map (mapped h) (cond b (t ∷ filter (λ u. not (numbered n u)) ts) (filter (λ u. not (numbered n u)) ts))
      chosen true rest = ap (λ (us : List (Ticket C)). mapped h t ∷ us) rest
      chosen false rest = rest

  with_tickets : (f : Fold B) (ts us : List (Ticket C)) (highest next : ℕ) → ts ≡ us → ◌≡◌ {A = Option (Fold C)} (Some (record { tickets = ts; highest = highest; next = next })) (Some (record { tickets = us; highest = highest; next = next }))
  with_tickets f ts us highest next is = ap (λ (xs : List (Ticket C)). Some (record { tickets = xs; highest = highest; next = next })) is

  accepts-map : (id service : List ℕ) (value : B) (f : Fold B) → accepts id service (h value) (map_fold h f) ≡ option_map (map_fold h) (accepts id service value f)
  accepts-map id service value f = chosen (takes (number_of id) f)
    where
      chosen : (b : Bool) → cond b (Some (accepted (record { number = number_of id; id = id; service = service; body = h value; reply = None }) (map_fold h f))) None
          ≡ option_map (map_fold h) (cond b (Some (accepted (record { number = number_of id; id = id; service = service; body = value; reply = None }) f)) None)
      chosen true =
          with_tickets f (map (mapped h) f.tickets ++ record { number = number_of id; id = id; service = service; body = h value; reply = None } ∷ [])
          (map (mapped h) (f.tickets ++ record { number = number_of id; id = id; service = service; body = value; reply = None } ∷ [])) (number_of id) (cond (number_of id == f.next) (f.next + 1) f.next)
          (sym (map-append (mapped h) f.tickets (record { number = number_of id; id = id; service = service; body = value; reply = None } ∷ [])))
      chosen false = refl

  stores-map : (n : ℕ) (value : B) (f : Fold B) → stores n (h value) (map_fold h f) ≡ option_map (map_fold h) (stores n value f)
  stores-map n value f = ap (option_and_then (stores_in n (h value) (map_fold h f))) (find-map n f.tickets) ∙ by_found (find (numbered n) f.tickets)
    where
      by_reply : (o : Option B) → cond (is_some (option_map h o)) None (Some (stored n (h value) (map_fold h f))) ≡ option_map (map_fold h) (cond (is_some o) None (Some (stored n value f)))
      by_reply None = with_tickets f (changed_first (numbered n) (replied (h value)) (map (mapped h) f.tickets)) (map (mapped h) (changed_first (numbered n) (replied value) f.tickets)) f.highest f.next (changed-map n value f.tickets)
      by_reply (Some reply) = refl

      by_found : (o : Option (Ticket B)) → option_and_then (stores_in n (h value) (map_fold h f)) (option_map (mapped h) o) ≡ option_map (map_fold h) (option_and_then (stores_in n value f) o)
      by_found None = refl
      by_found (Some t) = by_reply t.reply

  closes-map : (n : ℕ) (f : Fold B) → closes n (map_fold h f) ≡ option_map (map_fold h) (closes n f)
  closes-map n f = ap (option_map (λ (t : Ticket C). closed n (map_fold h f))) (find-map n f.tickets) ∙ by_found (find (numbered n) f.tickets)
    where
      by_found : (o : Option (Ticket B)) → option_map (λ (t : Ticket C). closed n (map_fold h f)) (option_map (mapped h) o) ≡ option_map (map_fold h) (option_map (λ (t : Ticket B). closed n f) o)
      by_found None = refl
      by_found (Some t) = with_tickets f (filter (λ u. not (numbered n u)) (map (mapped h) f.tickets)) (map (mapped h) (filter (λ u. not (numbered n u)) f.tickets)) f.highest f.next (without-map n f.tickets)

  pub applied-map : (cmd : TicketCmd) (value : B) (f : Fold B) → applied cmd (h value) (map_fold h f) ≡ option_map (map_fold h) (applied cmd value f)
  applied-map (Accept id service body) value f = accepts-map id service value f
  applied-map (Store number body) value f = stores-map number value f
  applied-map (Close number) value f = closes-map number f

pub folded-map : {C B D : Type 0} (cmd : C → TicketCmd) (value : C → B) (h : B → D) (cs : List C) (f : Fold B) → folded_by cmd (λ c. h (value c)) cs (map_fold h f) ≡ option_map (map_fold h) (folded_by cmd value cs f)
folded-map cmd value h [] f = refl
folded-map cmd value h (c ∷ cs) f =
    ap (option_and_then (folded_by cmd (λ x. h (value x)) cs)) (applied-map h (cmd c) (value c) f) ∙ by_applied (applied (cmd c) (value c) f) (λ g. folded-map cmd value h cs g)
  where
    by_applied : (o : Option (Fold _)) → ((g : Fold _) → folded_by cmd (λ x. h (value x)) cs (map_fold h g) ≡ option_map (map_fold h) (folded_by cmd value cs g))
        → option_and_then (folded_by cmd (λ x. h (value x)) cs) (option_map (map_fold h) o) ≡ option_map (map_fold h) (option_and_then (folded_by cmd value cs) o)
    by_applied None rest = refl
    by_applied (Some g) rest = rest g

-- a list of commands with their offsets, and the commands alone
folded_placed : (placed : List Placed) (f : Fold (List (List ℕ))) → folded_by (λ (cmd : TicketCmd). cmd) body_of (map cmd_of placed) f ≡ folded_by cmd_of (λ (p : Placed). body_of p.cmd) placed f
folded_placed [] f = refl
folded_placed (p ∷ placed) f = by_applied (applied p.cmd (body_of p.cmd) f) (λ g. folded_placed placed g)
  where
    by_applied : (o : Option (Fold (List (List ℕ)))) → ((g : Fold (List (List ℕ))) → folded_by (λ (cmd : TicketCmd). cmd) body_of (map cmd_of placed) g ≡ folded_by cmd_of (λ (q : Placed). body_of q.cmd) placed g)
        → option_and_then (folded_by (λ (cmd : TicketCmd). cmd) body_of (map cmd_of placed)) o ≡ option_and_then (folded_by cmd_of (λ (q : Placed). body_of q.cmd) placed) o
    by_applied None rest = refl
    by_applied (Some g) rest = rest g

pub places_and_bodies : PlacesAndBodies
places_and_bodies base placed =
    (sym (folded-map cmd_of housed place_at placed (start base)), sym (folded_placed placed (start base) ∙ folded-map cmd_of housed body_at placed (start base)))
