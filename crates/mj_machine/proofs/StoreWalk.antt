-- The services of Titanic and a ticket's final reply, as small changes.
use Rattle.std.proofs.Common.{◌≡◌, ℕ, Bool, true, false, List, [], ◌∷◌, ◌++◌, Option, None, Some, refl, sym, ap, subst, ◌∙◌, append-nil, append_assoc, codes, inl, inr}
use Rattle.mj_base.specs.ServiceName.{is_reserved}
use Rattle.mj_base.specs.declared.event.Note.{Note as AnyNote}
use Rattle.mj_base.specs.declared.event.Out.{Out}
use Rattle.mj_base.specs.declared.event.Out.TheVariants.{Note}
use Rattle.mj_client_cmd.specs.declared.command.ClientCmd.{ClientCmd}
use Rattle.mj_ids.specs.Ids.{id_of, text_of}
use Rattle.mj_mmi.specs.Asking.{read_submit, read_ticket}
use Rattle.mj_queue.specs.declared.request.Origin.TheVariants as origins
use Rattle.mj_queue.specs.declared.request.Request.{Request}
use Rattle.mj_tickets.specs.declared.command.TicketCmd.{TicketCmd}
use Rattle.mj_tickets.specs.declared.command.TicketCmd.TheVariants as cmds
use Rattle.mj_tickets.specs.Fold.{Ticket, known}
use Rattle.mj_machine.specs.declared.said.Said.TheVariants.{Asks}
use Rattle.mj_machine.specs.StoreState.{Access, IsShut, Open, Shut, Store, pends, pends_while, tickets_of, told_by, usable}
use Rattle.mj_machine.specs.MachineState.{Act, Whole}
use Rattle.mj_machine.specs.Acts.{Doing, behind, quiet}
use Rattle.mj_machine.specs.Leaving.{comes_back, held_by}
use Rattle.mj_machine.specs.Sending.{reply_text}
use Rattle.mj_machine.specs.DiskActs.{appended, attempted, counted, fails, finds, found_in, opening, opening_again, opening_by, reopens, routes, shuts}
use Rattle.mj_machine.specs.TitanicStep.{Fetches, Finishes, Submits, Titanic, accepts, accepted, accepts_by, answers, closed, closes_ticket, fails_to, fetches, finishes, is_full, serves, shows, shows_reply, stores, stores_by, submits, titanic_of}
use Rattle.mj_machine.specs.TitanicAnswers.{FetchAnswer, FinishAnswer, ServiceAnswer, SubmitAnswer, reply_frames, shown_frames}
use Rattle.mj_machine.specs.MessageStep.{request_of, said_in}
use Rattle.mj_machine.specs.Steps.{Cause}
use Rattle.mj_machine.proofs.Changes.{Accepting, Closing, IsCarried, IsDoubt, IsHeldBy, NoDoubt, OnlyNotes, ReadsReply, Remains, Says, Storing, Tells, Tried, accepted_at, accepts_next, closed_at, stored_at}
use Rattle.mj_machine.proofs.FoldLemmas.{pends-stored}
use Rattle.mj_machine.proofs.ListLemmas.{all-append}
use Rattle.mj_machine.proofs.SendWalk.{walk-sends}

-- ---- where the keeping of a reply ends

-- connections and holdings are as they were, and the ticket comes back to no queue
pub record StoresEnd (number : ℕ) (w v : Whole) : Type 0 where
  pub connections : v.routing.connections ≡ w.routing.connections
  pub held : v.routing.held ≡ w.routing.held
  pub drops : comes_back (told_by v.store) (origins.Ticket number) ≡ false

stores_by-end : (b : Bool) (number : ℕ) (body : List (List ℕ)) (w v : Whole) → v.store.access ≡ usable → pends number (tickets_of v.store) ≡ b
    → v.routing.connections ≡ w.routing.connections → v.routing.held ≡ w.routing.held → StoresEnd number w (stores_by b number body v).0
stores_by-end false number body w v ready pending connections held =
    record { connections = connections; held = held; drops = subst (λ (a : Access). pends_while a (tickets_of v.store) number ≡ false) (sym ready) pending }
stores_by-end true number body w v ready pending connections held = by (fails v)
  where
    by : (b : Bool) → StoresEnd number w (attempted b (Some (cmds.Store number body)) quiet (λ u. quiet (appended (cmds.Store number body) u)) v).0
    by true = record { connections = connections; held = held; drops = refl }
    by false = record {
      connections = connections;
      held = held;
      drops = subst (λ (a : Access). pends_while a (tickets_of (appended (cmds.Store number body) v).store) number ≡ false) (sym ready)
          (pends-stored v.store.base v.store.commands number body pending);
    }

pub stores-end : (number : ℕ) (body : List (List ℕ)) (w : Whole) → StoresEnd number w (stores number body w).0
stores-end number body w = by w.store.access refl
  where
    again : (b : Bool) (doubt : Option TicketCmd) → StoresEnd number w (opening_again b doubt quiet (λ v. stores_by (pends number (tickets_of v.store)) number body v) w).0
    again true doubt = record { connections = refl; held = refl; drops = refl }
    again false doubt =
        let v = (reopens (found_in (finds w) doubt) w).0 in stores_by-end (pends number (tickets_of v.store)) number body w v refl refl refl refl

    by : (a : Access) → w.store.access ≡ a → StoresEnd number w (opening_by a quiet (λ v. stores_by (pends number (tickets_of v.store)) number body v) w).0
    by Open ready = stores_by-end (pends number (tickets_of w.store)) number body w w ready refl refl refl
    by (Shut doubt) shut = again (fails w) doubt

-- ---- acts on the disk

only-more : (o : List Out) (note : AnyNote) → OnlyNotes o → OnlyNotes (o ++ Note note ∷ [])
only-more o note only = all-append _ o (Note note ∷ []) only (tt, tt)

module _ (cause : Cause) (w0 : Whole) (P : Doing Whole Out → Type 0) (carried : IsCarried cause w0 P) where
  rejoined : (o added : List Out) (d : Doing Whole Out) → P (behind (o ++ added) d) → P (behind o (behind added d))
  rejoined o added d p = subst (λ (xs : List Out). P (d.0, xs)) (append_assoc o added d.1) p

  walk-quiet : (w : Whole) (o : List Out) → P (w, o) → P (behind o (quiet w))
  walk-quiet w o p = subst (λ (xs : List Out). P (w, xs)) (sym (append-nil o)) p

  -- where the act fails, or doesn't
  walk-attempted : (doubt : Option TicketCmd) (failed done : Act) (w : Whole) (o : List Out) → IsDoubt doubt w → OnlyNotes o → P (w, o)
      → ((v : Whole) (q : List Out) → IsShut v.store.access → OnlyNotes q → P (v, q) → P (behind q (failed v))) → (fails w ≡ false → P (behind o (done (counted w))))
      → P (behind o (attempted (fails w) doubt failed done w))
  walk-attempted doubt failed done w o in_doubt only p fault works = by (fails w) refl
    where
      by : (b : Bool) → fails w ≡ b → P (behind o (attempted b doubt failed done w))
      by true is =
          let v = (shuts doubt w).0 in
          let notes = (shuts doubt w).1 in
          rejoined o notes (failed v) (fault v (o ++ notes) tt (only-more o _ only) (carried.shuts doubt w o in_doubt is only p))
      by false is = works is

  -- the store is opened first where it is shut
  walk-opening : (failed done : Act) (w : Whole) (o : List Out) → OnlyNotes o → P (w, o)
      → ((v : Whole) (q : List Out) → IsShut v.store.access → OnlyNotes q → P (v, q) → P (behind q (failed v)))
      → ((v : Whole) (q : List Out) → v.store.access ≡ usable → v.routing.held ≡ w.routing.held → v.store.stored ≡ w.store.stored → OnlyNotes q → P (v, q) → P (behind q (done v)))
      → P (behind o (opening failed done w))
  walk-opening failed done w o only p fault works = by w.store.access refl
    where
      again : (b : Bool) (doubt : Option TicketCmd) → fails w ≡ b → w.store.access ≡ Shut doubt → P (behind o (opening_again b doubt failed done w))
      again true doubt is shut =
          let v = (shuts doubt w).0 in
          let notes = (shuts doubt w).1 in
          rejoined o notes (failed v) (fault v (o ++ notes) tt (only-more o _ only) (carried.shuts doubt w o (Remains shut) is only p))
      again false doubt is shut =
          let found = found_in (finds w) doubt in
          let v = (reopens found w).0 in
          let notes = (reopens found w).1 in
          rejoined o notes (done v) (works v (o ++ notes) refl refl refl (only-more o _ only) (carried.reopens doubt w o shut is only p))

      by : (a : Access) → w.store.access ≡ a → P (behind o (opening_by a failed done w))
      by Open ready = works w o ready refl refl only p
      by (Shut doubt) shut = again (fails w) doubt refl shut

  -- ---- a ticket's final reply

  walk-stores_by : (b : Bool) (n number : ℕ) (body : List (List ℕ)) (v : Whole) (q : List Out) → pends number (tickets_of v.store) ≡ b → v.store.access ≡ usable
      → IsHeldBy n number v.routing → OnlyNotes q → P (v, q) → P (behind q (stores_by b number body v))
  walk-stores_by false n number body v q pending ready holds only p = walk-quiet v q p
  walk-stores_by true n number body v q pending ready holds only p =
      walk-attempted (Some (cmds.Store number body)) quiet (λ u. quiet (appended (cmds.Store number body) u)) v q
      (Tried (cmds.Store number body) refl ready (Storing number body refl pending)) only p (λ u r shut notes s. walk-quiet u r s)
      (λ works. walk-quiet (stored_at number body v) q (carried.stores n number body v q ready pending holds works only p))

  pub walk-stores : (n number : ℕ) (body : List (List ℕ)) (w : Whole) (o : List Out) → IsHeldBy n number w.routing → OnlyNotes o → P (w, o) → P (behind o (stores number body w))
  walk-stores n number body w o holds only p =
      walk-opening quiet (λ v. stores_by (pends number (tickets_of v.store)) number body v) w o only p (λ v q shut notes r. walk-quiet v q r)
      (λ v q ready same has notes r. walk-stores_by (pends number (tickets_of v.store)) n number body v q refl ready (holds.0, ap (held_by n) same ∙ holds.1, holds.2) notes r)

  -- ---- a client's request to one of the services

  module _ (n : ℕ) (message : List (List ℕ)) (told : Says cause n message) (cmd : ClientCmd) (reads : said_in message ≡ Asks cmd)
      (free : is_reserved false cmd.service ≡ false) (reserved : is_reserved w0.store.stored cmd.service ≡ true) where
    abbrev Asked : Request
    Asked = request_of n cmd

    -- this service was asked for
    abbrev Is : Option Titanic → Type 0
    Is t = titanic_of cmd.service ≡ t

    walk-tells : (t : Option Titanic) → Is t → (frames : List (List ℕ)) (w : Whole) (o : List Out) → ServiceAnswer w.routing.limits t cmd.body w.store frames → P (w, o)
        → P (behind o (routes (answers n Asked frames) w))
    walk-tells t is frames w o says p =
        walk-sends cause w0 P carried n (reply_text true Asked frames) w o
        (Tells (record {
          message = message;
          cause_is = told;
          cmd = cmd;
          said_is = reads;
          free = free;
          reserved = reserved;
          frames = frames;
          says = subst (λ (x : Option Titanic). ServiceAnswer w.routing.limits x cmd.body w.store frames) (sym is) says;
          text = refl;
        }))
        p

    -- so there is a store
    stored : w0.store.stored ≡ true
    stored = by w0.store.stored reserved
      where
        by : (b : Bool) → is_reserved b cmd.service ≡ true → b ≡ true
        by true is = refl
        by false is = absurd (cc (is, free))

    -- ---- titanic.request

    -- what is read of the body, where the first is asked for
    abbrev Reads : Option (List ℕ × List (List ℕ)) → Type 0
    Reads asked = read_submit cmd.body ≡ asked

    says-submit : (asked : List ℕ × List (List ℕ)) → Reads (Some asked) → (w : Whole) (frames : List (List ℕ)) → SubmitAnswer w.routing.limits (Some asked) w.store frames
        → ServiceAnswer w.routing.limits (Some Submits) cmd.body w.store frames
    says-submit asked read w frames says = subst (λ (x : Option (List ℕ × List (List ℕ))). SubmitAnswer w.routing.limits x w.store frames) (sym read) says

    walk-accepts : (asked : List ℕ × List (List ℕ)) → Is (Some Submits) → Reads (Some asked) → (v : Whole) (q : List Out) → v.store.access ≡ usable → v.store.stored ≡ true → OnlyNotes q → P (v, q)
        → P (behind q (accepts n Asked asked v))
    walk-accepts asked is read v q ready has only p = by (is_full v.routing.limits v.store (accepts_next asked.0 asked.1 v)) refl
      where
        next : ℕ
        next = (tickets_of v.store).next

        by : (b : Bool) → is_full v.routing.limits v.store (accepts_next asked.0 asked.1 v) ≡ b
            → P (behind q (accepts_by b (tickets_of v.store).next (id_of v.store.seed (tickets_of v.store).next) asked n Asked v))
        by true full = walk-tells (Some Submits) is _ v q (says-submit asked read v _ (inr (inl (full, refl)))) p
        by false room =
            walk-attempted (Some (accepts_next asked.0 asked.1 v)) (fails_to n Asked)
            (λ u. routes (accepted (tickets_of v.store).next (id_of v.store.seed (tickets_of v.store).next) asked.0 n Asked) (appended (accepts_next asked.0 asked.1 v) u)) v q
            (Tried (accepts_next asked.0 asked.1 v) refl ready (Accepting asked.0 asked.1 refl has room)) only p
            (λ u r shut notes s. walk-tells (Some Submits) is _ u r (says-submit asked read u _ (inl (shut, refl))) s)
            (λ works.
            walk-tells (Some Submits) is (codes "200" ∷ text_of (id_of v.store.seed (tickets_of v.store).next) ∷ []) (accepted_at asked.0 asked.1 v) q
            (says-submit asked read (accepted_at asked.0 asked.1 v) _ (inr (inr (v.store.commands, refl, refl))))
            (carried.accepts asked.0 asked.1 v q ready has room works only p))

    walk-submits : (asked : Option (List ℕ × List (List ℕ))) → Is (Some Submits) → Reads asked → (w : Whole) → w.store ≡ w0.store → P (quiet w) → P (submits n Asked asked w)
    walk-submits None is read w same p =
        walk-tells (Some Submits) is _ w [] (subst (λ (x : Option (List ℕ × List (List ℕ))). SubmitAnswer w.routing.limits x w.store (codes "400" ∷ [])) (sym read) refl) p
    walk-submits (Some asked) is read w same p =
        walk-opening (fails_to n Asked) (accepts n Asked asked) w [] tt p
        (λ v q shut notes r. walk-tells (Some Submits) is _ v q (says-submit asked read v _ (inl (shut, refl))) r)
        (λ v q ready holds has notes r. walk-accepts asked is read v q ready (has ∙ ap (λ (x : Store). x.stored) same ∙ stored) notes r)

    -- ---- titanic.reply

    abbrev Names : Option (List ℕ) → Type 0
    Names id = read_ticket cmd.body ≡ id

    says-fetch : (id : List ℕ) → Names (Some id) → (w : Whole) (frames : List (List ℕ)) → FetchAnswer (Some id) w.store frames
        → ServiceAnswer w.routing.limits (Some Fetches) cmd.body w.store frames
    says-fetch id read w frames says = subst (λ (x : Option (List ℕ)). FetchAnswer x w.store frames) (sym read) says

    walk-shows_reply : (id : List ℕ) (ticket : Ticket (List (List ℕ))) (reply : Option (List (List ℕ))) → Is (Some Fetches) → Names (Some id) → ticket.reply ≡ reply
        → (v : Whole) (q : List Out) → known id (tickets_of v.store) ≡ Some ticket → v.store.access ≡ usable → OnlyNotes q → P (v, q) → P (behind q (shows_reply n Asked reply v))
    walk-shows_reply id ticket None is read has v q found ready only p =
        walk-tells (Some Fetches) is _ v q (says-fetch id read v _ (inr (ready, sym (ap shown_frames found ∙ ap reply_frames has)))) p
    walk-shows_reply id ticket (Some frames) is read has v q found ready only p =
        walk-attempted None (fails_to n Asked) (routes (answers n Asked (codes "200" ∷ frames))) v q (NoDoubt ticket id refl ready found) only p
        (λ u r shut notes s. walk-tells (Some Fetches) is _ u r (says-fetch id read u _ (inl (shut, refl))) s)
        (λ works. walk-tells (Some Fetches) is _ (counted v) q (says-fetch id read (counted v) _ (inr (ready, sym (ap shown_frames found ∙ ap reply_frames has)))) (carried.counts v q (ReadsReply ticket id ready found) works p))

    walk-shows : (id : List ℕ) (found : Option (Ticket (List (List ℕ)))) → Is (Some Fetches) → Names (Some id) → (v : Whole) (q : List Out) → known id (tickets_of v.store) ≡ found
        → v.store.access ≡ usable → OnlyNotes q → P (v, q) → P (behind q (shows n Asked found v))
    walk-shows id None is read v q found ready only p = walk-tells (Some Fetches) is _ v q (says-fetch id read v _ (inr (ready, sym (ap shown_frames found)))) p
    walk-shows id (Some ticket) is read v q found ready only p = walk-shows_reply id ticket ticket.reply is read refl v q found ready only p

    walk-fetches : (id : Option (List ℕ)) → Is (Some Fetches) → Names id → (w : Whole) → P (quiet w) → P (fetches n Asked id w)
    walk-fetches None is read w p =
        walk-tells (Some Fetches) is _ w [] (subst (λ (x : Option (List ℕ)). FetchAnswer x w.store (codes "400" ∷ [])) (sym read) refl) p
    walk-fetches (Some id) is read w p =
        walk-opening (fails_to n Asked) (λ v. shows n Asked (known id (tickets_of v.store)) v) w [] tt p
        (λ v q shut notes r. walk-tells (Some Fetches) is _ v q (says-fetch id read v _ (inl (shut, refl))) r)
        (λ v q ready same has notes r. walk-shows id (known id (tickets_of v.store)) is read v q refl ready notes r)

    -- ---- titanic.close

    says-finish : (id : List ℕ) → Names (Some id) → (w : Whole) (frames : List (List ℕ)) → FinishAnswer (Some id) w.store frames
        → ServiceAnswer w.routing.limits (Some Finishes) cmd.body w.store frames
    says-finish id read w frames says = subst (λ (x : Option (List ℕ)). FinishAnswer x w.store frames) (sym read) says

    walk-closes_ticket : (id : List ℕ) (found : Option (Ticket (List (List ℕ)))) → Is (Some Finishes) → Names (Some id) → (v : Whole) (q : List Out)
        → known id (tickets_of v.store) ≡ found → v.store.access ≡ usable → OnlyNotes q → P (v, q) → P (behind q (closes_ticket n Asked found v))
    walk-closes_ticket id None is read v q found ready only p = walk-tells (Some Finishes) is _ v q (says-finish id read v _ (inr (ready, inl found, refl))) p
    walk-closes_ticket id (Some ticket) is read v q found ready only p =
        walk-attempted (Some (cmds.Close ticket.number)) (fails_to n Asked) (λ u. routes (closed n Asked ticket.number) (appended (cmds.Close ticket.number) u)) v q
        (Tried (cmds.Close ticket.number) refl ready (Closing ticket id refl found)) only p
        (λ u r shut notes s. walk-tells (Some Finishes) is _ u r (says-finish id read u _ (inl (shut, refl))) s)
        (λ works.
        walk-tells (Some Finishes) is _ (closed_at ticket.number v) q
        (says-finish id read (closed_at ticket.number v) _ (inr (ready, inr (v.store.commands, ticket, found, refl), refl)))
        (carried.closes ticket id v q ready found works only p))

    walk-finishes : (id : Option (List ℕ)) → Is (Some Finishes) → Names id → (w : Whole) → P (quiet w) → P (finishes n Asked id w)
    walk-finishes None is read w p =
        walk-tells (Some Finishes) is _ w [] (subst (λ (x : Option (List ℕ)). FinishAnswer x w.store (codes "400" ∷ [])) (sym read) refl) p
    walk-finishes (Some id) is read w p =
        walk-opening (fails_to n Asked) (λ v. closes_ticket n Asked (known id (tickets_of v.store)) v) w [] tt p
        (λ v q shut notes r. walk-tells (Some Finishes) is _ v q (says-finish id read v _ (inl (shut, refl))) r)
        (λ v q ready same has notes r. walk-closes_ticket id (known id (tickets_of v.store)) is read v q refl ready notes r)

    pub walk-serves : (t : Option Titanic) → Is t → (w : Whole) → w.store ≡ w0.store → P (quiet w) → P (serves t n Asked w)
    walk-serves None is w same p = walk-tells None is _ w [] refl p
    walk-serves (Some Submits) is w same p = walk-submits (read_submit cmd.body) is refl w same p
    walk-serves (Some Fetches) is w same p = walk-fetches (read_ticket cmd.body) is refl w p
    walk-serves (Some Finishes) is w same p = walk-finishes (read_ticket cmd.body) is refl w p
