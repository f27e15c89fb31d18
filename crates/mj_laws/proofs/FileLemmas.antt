-- The commands of the file stay lawful, with the one in doubt too.
use Rattle.std.proofs.Common.{◌≡◌, ◌≤◌, ◌<◌, ◌^◌, ◌||◌, nat_le, nat_lt, ℕ, suc, Bool, true, false, cond, map, List, [], ◌∷◌, ◌++◌, length, Option, None, Some, refl, sym, ap, subst, ◌∙◌, inl, inr, arith, append-nil, length-append}
use Rattle.std.specs.Option.{unwrap_or}
use Rattle.std.specs.List.{find}
use Rattle.std.proofs.lemmas.Bool.Decides.{leb_tells}
use Rattle.std.proofs.lemmas.List.{length-map}
use Rattle.mj_base.specs.declared.limits.Limits.{Limits}
use Rattle.mj_ids.specs.Ids.{id_of, number_of}
use Rattle.mj_ids.proofs.NumberLemmas.{number-id_of}
use Rattle.mj_journal.specs.FileText.{sizes}
use Rattle.mj_tickets.specs.declared.command.TicketCmd.{TicketCmd}
use Rattle.mj_tickets.specs.declared.command.TicketCmd.TheVariants as cmds
use Rattle.mj_tickets.specs.Payload.{body_of, payload_of}
use Rattle.mj_tickets.specs.Fold.{Fold, Ticket, accepted, applied, closed, fold_of, known, numbered, start, stored, takes, ticket_of}
use Rattle.mj_tickets.specs.Laws.{AreNumbered}
use Rattle.mj_tickets.proofs.FoldLemmas.{fold_few, fold_numbered, new_ticket, one_of_number}
use Rattle.mj_machine.specs.StoreState.{Access, Open, Shut, Store, doubted, file_length, pends, tickets_of}
use Rattle.mj_machine.specs.MachineState.{Whole}
use Rattle.mj_machine.specs.DiskActs.{found_in, with_found}
use Rattle.mj_machine.specs.TitanicStep.{is_full}
use Rattle.mj_machine.proofs.Changes.{Accepting, Closing, IsDoubt, IsMade, NoDoubt, Remains, Storing, Tried}
use Rattle.mj_machine.proofs.ConnectionLemmas.{agrees}
use Rattle.mj_machine.proofs.FoldLemmas.{Bodies, close-applies, fold-more, store-applies}
use Rattle.mj_laws.specs.Kept.{IsLawfulList}

-- ---- what is in the file

-- its commands are lawful, and so are they with the one in doubt
pub record IsFiled (store : Store) : Type 0 where
  pub fold : Fold Bodies
  pub is : fold_of store.base store.commands ≡ Some fold
  pub doubt : IsLawfulList store.base (store.commands ++ doubted store.access)
  pub from_one : 1 ≤ store.base
  pub based : store.base ≤ 2 ^ 61

pub tickets-are : (store : Store) (f : Fold Bodies) → fold_of store.base store.commands ≡ Some f → tickets_of store ≡ f
tickets-are store f is = ap (λ (o : Option (Fold Bodies)). unwrap_or o (start store.base)) is

pub filed-numbered : (store : Store) (filed : IsFiled store) → AreNumbered filed.fold
filed-numbered store filed = fold_numbered store.base store.commands filed.fold filed.from_one filed.is

-- ---- numbers don't end

sizes-long : (payloads : List (List ℕ)) → length payloads ≤ sizes payloads
sizes-long [] = omega arith
sizes-long (p ∷ payloads) = let rest = sizes-long payloads in omega (arith, rest)

or-false : (a b : Bool) → (a || b) ≡ false → b ≡ false
or-false true b none = absurd (cc none)
or-false false b none = none

-- a store that isn't full has fewer commands than its file may have bytes
few-commands : (limits : Limits) (store : Store) (cmd : TicketCmd) → is_full limits store cmd ≡ false → length store.commands ≤ limits.file
few-commands limits store cmd room =
    let fits = or-false (nat_le limits.tickets (length (tickets_of store).tickets)) (nat_lt limits.file (file_length (store.commands ++ cmd ∷ []))) room in
    let long = sizes-long (map payload_of (store.commands ++ cmd ∷ [])) in
    let mapped = length-map (store.commands ++ cmd ∷ []) payload_of in
    let parts = length-append store.commands (cmd ∷ []) in
    elim (leb_tells (suc limits.file) (file_length (store.commands ++ cmd ∷ []))) [
      | inl much ↦ absurd (cc (much.0, fits))
      | inr little ↦ (let below = little.1 in omega (arith, long, mapped, parts, below))
    ]

pub next-small : (limits : Limits) (store : Store) (filed : IsFiled store) (cmd : TicketCmd) → limits.file < 2 ^ 61 → is_full limits store cmd ≡ false → filed.fold.next < 2 ^ 62
next-small limits store filed cmd sized room =
    let few = (fold_few store.base store.commands filed.fold filed.is).1 in
    let commands = few-commands limits store cmd room in
    let based = filed.based in
    omega (arith, few, commands, sized, based)

-- ---- a command more

-- the next number may be accepted
takes-next : (f : Fold Bodies) (n : ℕ) → AreNumbered f → n ≡ f.next → takes n f ≡ true
takes-next f n numbers same =
    let above = numbers.above in
    let low : nat_lt f.highest n ≡ true = elim (leb_tells (suc f.highest) n) [ inl agree ↦ agree.0 | inr other ↦ (let past = other.1 in absurd (omega (arith, past, above, same))) ] in
    let high : nat_le n f.next ≡ true = elim (leb_tells n f.next) [ inl agree ↦ agree.0 | inr other ↦ (let past = other.1 in absurd (omega (arith, past, same))) ] in
    rw low (rw high refl)

pub accept-applies : (id service : List ℕ) (body : Bodies) (f : Fold Bodies) → AreNumbered f → number_of id ≡ f.next
    → applied (cmds.Accept id service body) body f ≡ Some (accepted (new_ticket id service body) f)
accept-applies id service body f numbers same = rw (takes-next f (number_of id) numbers same) refl

find-passes : (n : ℕ) (ts : List (Ticket Bodies)) (t : Ticket Bodies) → find (numbered n) ts ≡ Some t → t.number ≡ n
find-passes n [] t is = absurd (cc is)
find-passes n (u ∷ ts) t is = by (numbered n u) refl is (find-passes n ts t)
  where
    same-some : (x y : Ticket Bodies) → Some x ≡ Some y → x ≡ y
    same-some x y e = cc e

    by : (b : Bool) → numbered n u ≡ b → cond {A = Option (Ticket Bodies)} b (Some u) (find (numbered n) ts) ≡ Some t → (find (numbered n) ts ≡ Some t → t.number ≡ n) → t.number ≡ n
    by true agree is rest = ap (λ (x : Ticket Bodies). x.number) (sym (same-some u t is)) ∙ agrees u.number n agree
    by false other is rest = rest is

-- a ticket that is known by its id is the one of its number
pub known-numbered : (f : Fold Bodies) (id : List ℕ) (t : Ticket Bodies) → AreNumbered f → known id f ≡ Some t → ticket_of t.number f ≡ Some t
known-numbered f id t numbers is =
    let found = one_of_number f id t numbers is in
    subst (λ (n : ℕ). ticket_of n f ≡ Some t) (sym (find-passes (number_of id) f.tickets t found)) found

-- the tickets behind a command that is appended to an open store
pub record Makes (cmd : TicketCmd) (store : Store) (f : Fold Bodies) : Type 0 where
  pub after : Fold Bodies
  pub applies : applied cmd (body_of cmd) f ≡ Some after

pub made : (limits : Limits) (cmd : TicketCmd) (w : Whole) (filed : IsFiled w.store) → w.routing.limits ≡ limits → limits.file < 2 ^ 61 → IsMade cmd w → Makes cmd w.store filed.fold
made limits cmd w filed limited sized (Accepting service body cmd_is stored room) =
    let tickets = tickets-are w.store filed.fold filed.is in
    let small = next-small w.routing.limits w.store filed cmd (subst (λ (x : Limits). x.file < 2 ^ 61) (sym limited) sized) room in
    let next = (tickets_of w.store).next in
    let same : next ≡ filed.fold.next = ap (λ (f : Fold Bodies). f.next) tickets in
    let id = id_of w.store.seed next in
    let number : number_of id ≡ filed.fold.next = number-id_of w.store.seed next (subst (λ (n : ℕ). n < 2 ^ 62) (sym same) small) ∙ same in
    subst (λ (c : TicketCmd). Makes c w.store filed.fold) (sym cmd_is)
    (record { after = accepted (new_ticket id service body) filed.fold; applies = accept-applies id service body filed.fold (filed-numbered w.store filed) number })
made limits cmd w filed limited sized (Storing number body cmd_is pending) =
    let tickets = tickets-are w.store filed.fold filed.is in
    subst (λ (c : TicketCmd). Makes c w.store filed.fold) (sym cmd_is)
    (record { after = stored number body filed.fold; applies = store-applies number body filed.fold (subst (λ (f : Fold Bodies). pends number f ≡ true) tickets pending) })
made limits cmd w filed limited sized (Closing ticket id cmd_is found) =
    let tickets = tickets-are w.store filed.fold filed.is in
    let there = known-numbered filed.fold id ticket (filed-numbered w.store filed) (subst (λ (f : Fold Bodies). known id f ≡ Some ticket) tickets found) in
    subst (λ (c : TicketCmd). Makes c w.store filed.fold) (sym cmd_is)
    (record { after = closed ticket.number filed.fold; applies = close-applies ticket.number ticket filed.fold there })

pub made-lawful : (limits : Limits) (cmd : TicketCmd) (w : Whole) (filed : IsFiled w.store) → w.routing.limits ≡ limits → limits.file < 2 ^ 61 → IsMade cmd w
    → IsLawfulList w.store.base (w.store.commands ++ cmd ∷ [])
made-lawful limits cmd w filed limited sized is =
    let m = made limits cmd w filed limited sized is in (m.after, fold-more w.store.base w.store.commands cmd filed.fold m.after filed.is m.applies)

-- ---- changes of the store

lawful-nil : (base : ℕ) (commands : List TicketCmd) → IsLawfulList base commands → IsLawfulList base (commands ++ [])
lawful-nil base commands lawful = subst (IsLawfulList base) (sym (append-nil commands)) lawful

pub filed-shut : (limits : Limits) (doubt : Option TicketCmd) (w : Whole) → w.routing.limits ≡ limits → limits.file < 2 ^ 61 → IsDoubt doubt w → IsFiled w.store
    → IsFiled (record w.store { access = Shut doubt })
filed-shut limits doubt w limited sized in_doubt filed =
    record { fold = filed.fold; is = filed.is; doubt = of in_doubt; from_one = filed.from_one; based = filed.based }
  where
    of : IsDoubt doubt w → IsLawfulList w.store.base (w.store.commands ++ doubted (Shut doubt))
    of (NoDoubt ticket id none ready found) =
        subst (λ (d : Option TicketCmd). IsLawfulList w.store.base (w.store.commands ++ doubted (Shut d))) (sym none) (lawful-nil w.store.base w.store.commands (filed.fold, filed.is))
    of (Tried cmd some ready is) =
        subst (λ (d : Option TicketCmd). IsLawfulList w.store.base (w.store.commands ++ doubted (Shut d))) (sym some) (made-lawful limits cmd w filed limited sized is)
    of (Remains shut) = subst (λ (a : Access). IsLawfulList w.store.base (w.store.commands ++ doubted a)) shut filed.doubt

-- without a doubt
pub filed-plain : (store : Store) → IsFiled store → IsFiled (record store { access = Shut None })
filed-plain store filed =
    record { fold = filed.fold; is = filed.is; doubt = lawful-nil store.base store.commands (filed.fold, filed.is); from_one = filed.from_one; based = filed.based }

pub filed-again : (b : Bool) (doubt : Option TicketCmd) (store : Store) → store.access ≡ Shut doubt → IsFiled store
    → IsFiled (record store { commands = with_found (found_in b doubt) store.commands; access = Open })
filed-again b doubt store shut filed = by b doubt (subst (λ (a : Access). IsLawfulList store.base (store.commands ++ doubted a)) shut filed.doubt)
  where
    whole : (commands : List TicketCmd) → IsLawfulList store.base commands → IsFiled (record store { commands = commands; access = Open })
    whole commands lawful = record { fold = lawful.0; is = lawful.1; doubt = lawful-nil store.base commands lawful; from_one = filed.from_one; based = filed.based }

    by : (b : Bool) (doubt : Option TicketCmd) → IsLawfulList store.base (store.commands ++ doubted (Shut doubt))
        → IsFiled (record store { commands = with_found (found_in b doubt) store.commands; access = Open })
    by true None lawful = whole store.commands (filed.fold, filed.is)
    by true (Some cmd) lawful = whole (store.commands ++ cmd ∷ []) lawful
    by false doubt lawful = whole store.commands (filed.fold, filed.is)

pub filed-more : (cmd : TicketCmd) (store : Store) (after : Fold Bodies) (filed : IsFiled store) → store.access ≡ Open → applied cmd (body_of cmd) filed.fold ≡ Some after
    → IsFiled (record store { commands = store.commands ++ cmd ∷ [] })
filed-more cmd store after filed ready applies =
    let is = fold-more store.base store.commands cmd filed.fold after filed.is applies in
    record {
      fold = after;
      is = is;
      doubt = subst (λ (a : Access). IsLawfulList store.base ((store.commands ++ cmd ∷ []) ++ doubted a)) (sym ready) (lawful-nil store.base (store.commands ++ cmd ∷ []) (after, is));
      from_one = filed.from_one;
      based = filed.based;
    }
