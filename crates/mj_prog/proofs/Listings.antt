-- Laws of the tickets that are listed.
use Rattle.std.proofs.Common.{◌≡◌, ℕ, ◌+◌, ◌-◌, ◌^◌, ◌<◌, ◌≤◌, Bool, true, false, leb, leb-false, ltb, find, List, [], ◌∷◌, ◌++◌, length, map, min, filter, Option, Some, None, is_some, option_map, inl, inr, refl, sym, ap, subst, ◌∙◌, append_assoc, append-nil, length-append, arith}
use Rattle.std.proofs.lemmas.Option.{same_Some, none-some}
use Rattle.std.proofs.lemmas.List.{length-map}
use Rattle.std.specs.List.{AllByRecursion}
use Rattle.std.specs.Io.KnownBytes.{Appends, Keeps}
use Rattle.std.proofs.KnownBytes.{Appends-trans, Appends-kept, Appends-nil}
use Rattle.mj_base.specs.Writing.{AppendsFront}
use Rattle.mj_ids.specs.Ids.{number_of}
use Rattle.mj_tickets.specs.Fold.{Fold, IsNamed, RisesTo, Ticket, fold_of, folded_by, number_in, open_above, start}
use Rattle.mj_tickets.specs.Index.{cmd_of, listed_as}
use Rattle.mj_tickets.specs.Laws.{AreNumbered, Housed, body_at, housed, map_fold, mapped, place_at}
use Rattle.mj_tickets.specs.declared.command.TicketCmd.{TicketCmd}
use Rattle.mj_tickets.specs.declared.place.Place.{Place}
use Rattle.mj_tickets.proofs.FoldLemmas.{fold_numbered}
use Rattle.mj_tickets.proofs.MapLemmas.{places_and_bodies}
use Rattle.mj_tickets.proofs.RisingLemmas.{all_above, rises_weaker}
use Rattle.mj_store.specs.Commands.{index_of, placed_from}
use Rattle.mj_store.proofs.Housing.{some_mapped}
use Rattle.mj_compact.proofs.Walking.{next_within, none_upto, placed_cmds, upto_all, upto_next}
use Rattle.mj_disk.specs.DiskModel.{History, Turns}
use Rattle.mj_journal.specs.Opening.{KeepsFile}
use Rattle.mj_journal.specs.declared.fault.OpenFault.{OpenFault}
use Rattle.mj_journal.specs.declared.fault.OpenFault.TheVariants as opening
use Rattle.mj_store.specs.Opening.{IsRefusal, IsUnopened, NoneLawful}
use Rattle.mj_prog.specs.Listing.{ListingRow, Lists, Next, line_with, listed, listing, ticket_line, upto}
use Rattle.mj_prog.specs.Running.{IsFileRefused}
use Rattle.mj_words.specs.SinkCounts.{SinkCounts}
use Rattle.mj_prog.specs.declared.halt.StoreFault.{StoreFault}
use Rattle.mj_prog.specs.declared.halt.StoreFault.TheVariants as stores
use Rattle.mj_words.specs.Lines.{done_line}
use Rattle.mj_prog.specs.StatusRows.{IsFileRow, PrintsDone, Refuses, RefusesOpening}
use Rattle.mj_prog.specs.declared.status.Status.{Status}
use Rattle.mj_prog.specs.declared.status.Status.TheVariants as statuses
use Rattle.mj_prog.proofs.Printing.{front-behind, front-of}

-- ---- what memory has of the tickets

state-mapped : {B C : Type 0} (h : B → C) (reply : Option B) → is_some (option_map h reply) ≡ is_some reply
state-mapped h None = refl
state-mapped h (Some reply) = refl

listing-mapped : {B C : Type 0} (h : B → C) (ts : List (Ticket B)) → listing (map (mapped h) ts) ≡ listing ts
listing-mapped h [] = refl
listing-mapped h (t ∷ ts) =
    ap (λ (stored : Bool). line_with t.number t.id stored t.service ++ listing (map (mapped h) ts)) (state-mapped h t.reply) ∙ ap (λ (rest : List ℕ). ticket_line t ++ rest) (listing-mapped h ts)

listed-mapped : {B C : Type 0} (h : B → C) (ts : List (Ticket B)) → listed (map (mapped h) ts) ≡ listed ts
listed-mapped h ts =
    ap (λ (text : List ℕ). text ++ done_line (min (length (map (mapped h) ts)) (2 ^ 64 - 1))) (listing-mapped h ts) ∙ ap (λ (n : ℕ). listing ts ++ done_line (min n (2 ^ 64 - 1))) (length-map ts (mapped h))

numbers-mapped : {B C : Type 0} (h : B → C) (ts : List (Ticket B)) → map number_in (map (mapped h) ts) ≡ map number_in ts
numbers-mapped h [] = refl
numbers-mapped h (t ∷ ts) = ap (λ (ns : List ℕ). t.number ∷ ns) (numbers-mapped h ts)

named-mapped : {B C : Type 0} (h : B → C) (ts : List (Ticket B)) → AllByRecursion IsNamed (map (mapped h) ts) → AllByRecursion IsNamed ts
named-mapped h [] all = tt
named-mapped h (t ∷ ts) all = (all.0, named-mapped h ts all.1)

mapped-named : {B C : Type 0} (h : B → C) (ts : List (Ticket B)) → AllByRecursion IsNamed ts → AllByRecursion IsNamed (map (mapped h) ts)
mapped-named h [] all = tt
mapped-named h (t ∷ ts) all = (all.0, mapped-named h ts all.1)

numbered-mapped : {B C D : Type 0} (h : B → C) (k : B → D) (f : Fold B) → AreNumbered (map_fold h f) → AreNumbered (map_fold k f)
numbered-mapped h k f numbers = record {
  rise = subst (λ (ns : List ℕ). RisesTo 0 ns f.highest) (numbers-mapped h f.tickets ∙ sym (numbers-mapped k f.tickets)) numbers.rise;
  above = numbers.above;
  named = mapped-named k f.tickets (named-mapped h f.tickets numbers.named);
}

-- what memory has, and what the commands leave, are seen in the tickets with both
both : (base : ℕ) (commands : List TicketCmd) (index : Fold Place) → index_of base commands ≡ Some index
    → (f : Fold Housed) × (map_fold place_at f ≡ index) × (fold_of base commands ≡ Some (map_fold body_at f))
both base commands index is =
    let law = places_and_bodies base (placed_from 16 commands) in
    let found = some_mapped (map_fold place_at) (folded_by cmd_of housed (placed_from 16 commands) (start base)) index (law.0 ∙ is) in
    (found.0, found.2, ap (fold_of base) (sym (placed_cmds 16 commands)) ∙ sym law.1 ∙ ap (option_map (map_fold body_at)) found.1)

pub index_numbered : (base : ℕ) (commands : List TicketCmd) (index : Fold Place) → 1 ≤ base → index_of base commands ≡ Some index → AreNumbered index
index_numbered base commands index from is =
    let b = both base commands index is in
    subst (λ (f : Fold Place). AreNumbered f) b.1 (numbered-mapped body_at place_at b.0 (fold_numbered base commands (map_fold body_at b.0) from b.2))

-- the tickets that the commands leave open are listed as those that memory has
pub listed-alike : (base : ℕ) (commands : List TicketCmd) (index : Fold Place) → index_of base commands ≡ Some index
    → (f : Fold (List (List ℕ))) × (fold_of base commands ≡ Some f) × (listed index.tickets ≡ listed f.tickets)
listed-alike base commands index is =
    let b = both base commands index is in
    (map_fold body_at b.0, b.2, ap (λ (f : Fold Place). listed f.tickets) (sym b.1) ∙ listed-mapped place_at b.0.tickets ∙ sym (listed-mapped body_at b.0.tickets))

-- ---- one after another

named-found : (test : Ticket Place → Bool) (ts : List (Ticket Place)) (t : Ticket Place) → AllByRecursion IsNamed ts → find test ts ≡ Some t → IsNamed t
named-found test [] t all e = absurd (none-some t e)
named-found test (u ∷ ts) t all e = by (λ rest. named-found test ts t all.1 rest) (test u) refl
  where
    by : (find test ts ≡ Some t → IsNamed t) → (b : Bool) → test u ≡ b → IsNamed t
    by more true is = subst (λ (v : Ticket Place). IsNamed v) (same_Some u t (rw is at e)) all.0
    by more false is = more (rw is at e)

next-by : (n : ℕ) (index : Fold Place) (number : ℕ) (id service : List ℕ) (stored : Bool) → AreNumbered index → number ≡ number_of id
    → (o : Option (Ticket Place)) → open_above n index ≡ o → Some (id, service, stored) ≡ option_map listed_as o → Next n index number id service stored
next-by n index number id service stored numbers of None is e = absurd (none-some (id, service, stored) (sym e))
next-by n index number id service stored numbers of (Some t) is e =
    let same = same_Some (id, service, stored) (listed_as t) e in
    let id_is : id ≡ t.id = ap (λ (p : List ℕ × List ℕ × Bool). p.0) same in
    let named : t.number ≡ number = named-found (λ u. ltb n u.number) index.tickets t numbers.named is ∙ ap number_of (sym id_is) ∙ sym of in
    let step = upto_next 0 index.tickets index.highest n t numbers.rise is in
    record {
      ticket = t;
      more = ap (λ (m : ℕ). upto m index) (sym named) ∙ step.0;
      above = omega (arith, step.1, named);
      within = omega (arith, next_within 0 index.tickets index.highest n t numbers.rise is, named);
      line = ap (λ (m : ℕ). line_with m id stored service) (sym named) ∙ ap (λ (p : List ℕ × List ℕ × Bool). line_with t.number p.0 p.2 p.1) same;
    }

pub next-of : (n : ℕ) (index : Fold Place) (number : ℕ) (id service : List ℕ) (stored : Bool) → AreNumbered index → number ≡ number_of id → Some (id, service, stored) ≡ option_map listed_as (open_above n index) → Next n index number id service stored
next-of n index number id service stored numbers of e = next-by n index number id service stored numbers of (open_above n index) refl e

pub triple : (id id_now service service_now : List ℕ) (stored stored_now : Bool) → id ≡ id_now → service ≡ service_now → stored ≡ stored_now
    → ◌≡◌ {A = Option (List ℕ × List ℕ × Bool)} (Some (id, service, stored)) (Some (id_now, service_now, stored_now))
triple id id_now service service_now stored stored_now same_id same_service same_stored =
    let of : List ℕ → List ℕ → Bool → Option (List ℕ × List ℕ × Bool) = λ x y z. Some (x, y, z) in
    ap (λ (x : List ℕ). of x service stored) same_id ∙ ap (λ (x : List ℕ). of id_now x stored) same_service ∙ ap (λ (x : Bool). of id_now service_now x) same_stored

none-by : (o : Option (Ticket Place)) → None ≡ option_map listed_as o → o ≡ None
none-by None e = refl
none-by (Some t) e = absurd (none-some (listed_as t) e)

pub all-of : (n : ℕ) (index : Fold Place) → None ≡ option_map listed_as (open_above n index) → upto n index ≡ index.tickets
all-of n index e = upto_all index.tickets n (none-by (open_above n index) e)

-- no ticket has the number 0
pub none-yet : (index : Fold Place) → AreNumbered index → upto 0 index ≡ []
none-yet index numbers = none_upto 0 index.tickets (all_above 0 (map number_in index.tickets) index.highest numbers.rise)

listing-append : (xs ys : List (Ticket Place)) → listing (xs ++ ys) ≡ listing xs ++ listing ys
listing-append [] ys = refl
listing-append (x ∷ xs) ys = ap (λ (rest : List ℕ). ticket_line x ++ rest) (listing-append xs ys) ∙ sym (append_assoc (ticket_line x) (listing xs) (listing ys))

-- ---- what is printed

module _ (index : Fold Place) (n number : ℕ) (id service : List ℕ) (stored : Bool) (next : Next n index number id service stored) where
  listing-more : listing (upto number index) ≡ listing (upto n index) ++ line_with number id stored service
  listing-more =
      ap listing next.more ∙ listing-append (upto n index) (next.ticket ∷ []) ∙ ap (λ (xs : List ℕ). listing (upto n index) ++ xs) (append-nil (ticket_line next.ticket) ∙ sym next.line)

  pub one-more : (old mid new : Option (List ℕ)) → Appends old mid (listing (upto n index)) → Appends mid new (line_with number id stored service) → Appends old new (listing (upto number index))
  one-more old mid new before added =
      subst (Appends old new) (sym listing-more) (Appends-trans old mid new (listing (upto n index)) (line_with number id stored service) before added)

  pub count-more : (count more : ℕ) → count ≡ min (length (upto n index)) (2 ^ 64 - 1) → more ≡ min (count + 1) (2 ^ 64 - 1) → more ≡ min (length (upto number index)) (2 ^ 64 - 1)
  count-more count more is plus =
      let longer : length (upto number index) ≡ length (upto n index) + 1 = ap length next.more ∙ length-append (upto n index) (next.ticket ∷ []) in
      omega (arith, is, plus, longer)

-- the tickets up to a number are the first ones
split : (low : ℕ) (ts : List (Ticket Place)) (high n : ℕ) → RisesTo low (map number_in ts) high → (rest : List (Ticket Place)) × (ts ≡ filter (λ t. leb t.number n) ts ++ rest)
split low [] high n rise = ([], refl)
split low (t ∷ ts) high n rise = by (split t.number ts high n rise.1) (leb t.number n) refl
  where
    by : (more : (rest : List (Ticket Place)) × (ts ≡ filter (λ u. leb u.number n) ts ++ rest)) → (b : Bool) → leb t.number n ≡ b → (rest : List (Ticket Place)) × (t ∷ ts ≡ filter (λ u. leb u.number n) (t ∷ ts) ++ rest)
    by more true within =
        (more.0, rw within (ap (λ (us : List (Ticket Place)). t ∷ us) more.1))
    by more false above =
        let less : n < t.number = leb-false t.number n above in
        let none = none_upto n ts (all_above n (map number_in ts) high (rises_weaker t.number n (map number_in ts) high (omega (arith, less)) rise.1)) in
        (t ∷ ts, rw (above, none) refl)

module _ (index : Fold Place) (numbers : AreNumbered index) where
  abbrev done_behind : List ℕ
  done_behind = done_line (min (length index.tickets) (2 ^ 64 - 1))

  parted : (n : ℕ) → (rest : List (Ticket Place)) × (listed index.tickets ≡ listing (upto n index) ++ (listing rest ++ done_behind))
  parted n =
      let parts = split 0 index.tickets index.highest n numbers.rise in
      (parts.0, ap (λ (xs : List ℕ). xs ++ done_behind) (ap listing parts.1 ∙ listing-append (upto n index) parts.0) ∙ append_assoc (listing (upto n index)) (listing parts.0) done_behind)

  -- no more was written than the lines so far
  pub cut-off : (n : ℕ) (old mid new : Option (List ℕ)) → Appends old mid (listing (upto n index)) → Keeps mid new → AppendsFront old new (listed index.tickets)
  cut-off n old mid new before kept =
      let rest = parted n in
      front-of old new (listing (upto n index)) (listing rest.0 ++ done_behind) (listed index.tickets) (Appends-kept old mid new (listing (upto n index)) before kept) rest.1

  -- the next line was written in part
  pub cut-in : (n number : ℕ) (id service : List ℕ) (stored : Bool) → Next n index number id service stored → (old mid new : Option (List ℕ)) → Appends old mid (listing (upto n index)) → AppendsFront mid new (line_with number id stored service) → AppendsFront old new (listed index.tickets)
  cut-in n number id service stored next old mid new before front =
      let rest = parted number in
      let line = line_with number id stored service in
      front-behind old mid new (listing (upto n index)) line (listing rest.0 ++ done_behind) (listed index.tickets) before front
      (rest.1 ∙ ap (λ (xs : List ℕ). xs ++ (listing rest.0 ++ done_behind)) (listing-more index n number id service stored next) ∙ append_assoc (listing (upto n index)) line (listing rest.0 ++ done_behind))

-- the last line stands behind all tickets' lines
pub row-of-all : (index : Fold Place) (n count m k : ℕ) (old mid new : Option (List ℕ)) (status : Status) → upto n index ≡ index.tickets → count ≡ min (length (upto n index)) (2 ^ 64 - 1)
    → Appends old mid (listing (upto n index)) → PrintsDone count mid new m k status → ListingRow (listed index.tickets) old new status
row-of-all index n count m k old mid new status all counted before prints =
    let lines = subst (λ (ts : List (Ticket Place)). Appends old mid (listing ts)) all before in
    let number : count ≡ min (length index.tickets) (2 ^ 64 - 1) = counted ∙ ap (λ (ts : List (Ticket Place)). min (length ts) (2 ^ 64 - 1)) all in
    by status (subst (λ (c : ℕ). PrintsDone c mid new m k status) number prints) lines
  where
    by : (s : Status) → PrintsDone (min (length index.tickets) (2 ^ 64 - 1)) mid new m k s → Appends old mid (listing index.tickets) → ListingRow (listed index.tickets) old new s
    by statuses.Done p lines = Appends-trans old mid new (listing index.tickets) (done_line (min (length index.tickets) (2 ^ 64 - 1))) lines p
    by statuses.Words p lines = p
    by statuses.Line p lines = p
    by statuses.Store p lines = p
    by statuses.NoMemory p lines = front-of old new (listing index.tickets) (done_line (min (length index.tickets) (2 ^ 64 - 1))) (listed index.tickets) (Appends-kept old mid new (listing index.tickets) lines p) refl
    by statuses.Disk p lines = tt
    by statuses.Read p lines = p
    by statuses.Write p lines =
        front-behind old mid new (listing index.tickets) (done_line (min (length index.tickets) (2 ^ 64 - 1))) [] (listed index.tickets) lines p.1
        (ap (λ (xs : List ℕ). listing index.tickets ++ xs) (sym (append-nil (done_line (min (length index.tickets) (2 ^ 64 - 1))))))

-- ---- an opening

pub row-alike : (text other : List ℕ) (old new : Option (List ℕ)) (status : Status) → text ≡ other → ListingRow text old new status → ListingRow other old new status
row-alike text other old new status same row = subst (λ (t : List ℕ). ListingRow t old new status) same row

module _ (told told_now : Option History) (old new : Option (List ℕ)) (before now : SinkCounts) (status : Status) where
  as-status : (s : Status) → status ≡ s → ((text : List ℕ) → ListingRow text old new s) → Lists told (λ tickets. ListingRow (listed tickets) old new status)
  as-status s is row = λ base commands opens.
      let alike = listed-alike base commands opens.lawful.index opens.lawful.index_is in
      (alike.0, alike.1, subst (λ (t : Status). ListingRow (listed alike.0.tickets) old new t) (sym is) (row (listed alike.0.tickets)))

  -- a file that opens as a lawful list isn't refused
  pub lists-unopened : (fault : OpenFault) → RefusesOpening fault old new before now status → (IsRefusal fault → NoneLawful told) → Lists told (λ tickets. ListingRow (listed tickets) old new status)
  lists-unopened opening.NotAStore refuses lawful = λ base commands opens. absurd (lawful tt base commands opens)
  lists-unopened (opening.Version version) refuses lawful = λ base commands opens. absurd (lawful tt base commands opens)
  lists-unopened (opening.Damaged at) refuses lawful = λ base commands opens. absurd (lawful tt base commands opens)
  lists-unopened opening.DiskFault refuses lawful = as-status statuses.Disk refuses.0 (λ text. tt)
  lists-unopened opening.NoMemory refuses lawful = as-status statuses.NoMemory refuses.0 (λ text. subst (λ (n : Option (List ℕ)). AppendsFront old n text) (sym refuses.1) (0, Appends-nil old))

  file-row-of : (s : Status) → status ≡ s → IsFileRow told told_now old new before now s → IsFileRow told told_now old new before now status
  file-row-of s is row = subst (λ (t : Status). IsFileRow told told_now old new before now t) (sym is) row

  refused-row : (fault : StoreFault) → Refuses fault old new before now status → IsFileRefused fault told told_now → IsFileRow told told_now old new before now status
  refused-row fault (inl printed) refused = file-row-of statuses.Store printed.0 (λ history tells. (fault, refused, printed.1))
  refused-row fault (inr unmade) refused = file-row-of statuses.NoMemory unmade.0 tt

  -- what an opening that failed prints
  pub unopened-row : (fault : OpenFault) → RefusesOpening fault old new before now status → IsUnopened fault told told_now → (IsRefusal fault → NoneLawful told) → Turns KeepsFile told told_now → IsFileRow told told_now old new before now status
  unopened-row opening.NotAStore refuses why lawful kept = refused-row stores.NotAStore refuses (record { why = why; unlawful = lawful tt; kept = kept })
  unopened-row (opening.Version version) refuses why lawful kept = refused-row (stores.Version version) refuses (record { why = why; unlawful = lawful tt; kept = kept })
  unopened-row (opening.Damaged at) refuses why lawful kept = refused-row (stores.Damaged at) refuses (record { why = why; unlawful = lawful tt; kept = kept })
  unopened-row opening.DiskFault refuses why lawful kept = file-row-of statuses.Disk refuses.0 refuses.1
  unopened-row opening.NoMemory refuses why lawful kept = file-row-of statuses.NoMemory refuses.0 tt
