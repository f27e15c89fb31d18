-- What holds of the tickets behind each lawful list of commands.
use Rattle.std.proofs.Common.{◌≡◌, ℕ, ◌+◌, ◌<◌, ◌≤◌, ◌==◌, ◌⊎◌, ◌↔◌, Bool, true, false, cond, not, ltb, leb, nat_le, List, [], ◌∷◌, ◌++◌, length, map, filter, count_by, Option, Some, None, is_some, option_map, refl, sym, ap, subst, ◌∙◌, inl, inr, arith, append_assoc, append-nil, length-append}
use Rattle.std.proofs.lemmas.Bool.{and_parts, and_from, ltb-true, leb-true, lt-ltb, le-leb, lt-leb, cases_eq, eq-eqb, ne_eqb}
use Rattle.std.proofs.lemmas.List.{map-append, length-map}
use Rattle.std.proofs.lemmas.List.Sums.{sum_by_push}
use Rattle.std.proofs.lemmas.Option.{none-some, cond_some, option_and_then_some}
use Rattle.std.specs.List.{AllByRecursion}
use Rattle.mj_ids.specs.Ids.{number_of}
use Rattle.mj_tickets.specs.declared.command.TicketCmd.{TicketCmd}
use Rattle.mj_tickets.specs.declared.command.TicketCmd.TheVariants.{Accept, Store, Close}
use Rattle.mj_tickets.specs.Payload.{body_of}
use Rattle.mj_tickets.specs.Fold.{Ticket, Fold, start, takes, accepted, numbered, ticket_of, changed_first, replied, stored, stores_in, closed, applied, folded_by, fold_of, RisesTo, number_in, IsNamed}
use Rattle.mj_tickets.specs.Laws.{accepts_of, AreNumbered, AcceptsByTheBase, TicketsAreNumbered, NoTwoShareANumber, NumbersAreFew, OneTicketOfANumber}
use Rattle.mj_tickets.proofs.RisingLemmas.{rises_push, rises_weaker, rises_apart}
use Rattle.mj_tickets.proofs.TicketLemmas.{known_numbered}

-- ---- what a lawful command does

abbrev pub new_ticket : {B : Type 0} → List ℕ → List ℕ → B → Ticket B
new_ticket id service value = record { number = number_of id; id = id; service = service; body = value; reply = None }

abbrev pub Does : {B : Type 0} → TicketCmd → B → Fold B → Fold B → Type 0
Does (Accept id service body) value f g = (f.highest < number_of id) × (number_of id ≤ f.next) × (accepted (new_ticket id service value) f ≡ g)
Does (Store number body) value f g = stored number value f ≡ g
Does (Close number) value f g = closed number f ≡ g

module _ {B : Type 0} where
  does_store : (n : ℕ) (value : B) (f g : Fold B) (t : Ticket B) → stores_in n value f t ≡ Some g → stored n value f ≡ g
  does_store n value f g t e = chosen (is_some t.reply) e
    where
      chosen : (b : Bool) → cond b None (Some (stored n value f)) ≡ Some g → stored n value f ≡ g
      chosen true h = absurd (none-some g h)
      chosen false h = cc

  does_close : (n : ℕ) (f g : Fold B) (o : Option (Ticket B)) → option_map (λ (t : Ticket B). closed n f) o ≡ Some g → closed n f ≡ g
  does_close n f g None e = absurd (none-some g e)
  does_close n f g (Some t) e = cc

  pub does : (cmd : TicketCmd) (value : B) (f g : Fold B) → applied cmd value f ≡ Some g → Does cmd value f g
  does (Accept id service body) value f g e =
      let c = cond_some (takes (number_of id) f) (accepted (new_ticket id service value) f) g e in
      let both = and_parts (ltb f.highest (number_of id)) (leb (number_of id) f.next) c.0 in
      (ltb-true _ _ both.0, leb-true _ _ both.1, c.1)
  does (Store number body) value f g e = option_and_then_some (stores_in number value f) (ticket_of number f) g e (λ t was is. does_store number value f g t is)
  does (Close number) value f g e = does_close number f g (ticket_of number f) e

-- ---- what each command keeps, a list of them keeps

fold_keeps : {C B : Type 0} (cmd : C → TicketCmd) (value : C → B) (P : List C → Fold B → Type 0) → ((past : List C) (c : C) (f g : Fold B) → P past f → Does (cmd c) (value c) f g → P (past ++ c ∷ []) g)
    → (past cs : List C) (f g : Fold B) → P past f → folded_by cmd value cs f ≡ Some g → P (past ++ cs) g
fold_keeps cmd value P step past [] f g p e =
    let same : f ≡ g = cc in
    subst (λ (xs : List _). P xs g) (sym (append-nil past)) (subst (P past) same p)
fold_keeps cmd value P step past (c ∷ cs) f g p e =
    option_and_then_some (folded_by cmd value cs) (applied (cmd c) (value c) f) g e (λ h was is.
    subst (λ (xs : List _). P xs g) (append_assoc past (c ∷ []) cs) (fold_keeps cmd value P step (past ++ c ∷ []) cs h g (step past c f h p (does (cmd c) (value c) f h was)) is))

-- ---- the numbers of open tickets

next_above : (n next : ℕ) → n ≤ next → n < cond (n == next) (next + 1) next
next_above n next le =
    elim (cases_eq n next) [
      | inl is ↦ let t : (n == next) ≡ true = eq-eqb _ _ is in rw t (omega arith)
      | inr other ↦ let t : (n == next) ≡ false = ne_eqb _ _ other in rw t (omega arith)
    ]

module _ {B : Type 0} where
  numbers_changed : (n : ℕ) (value : B) (ts : List (Ticket B)) → map number_in (changed_first (numbered n) (replied value) ts) ≡ map number_in ts
  numbers_changed n value [] = refl
  numbers_changed n value (t ∷ ts) = chosen (t.number == n) (numbers_changed n value ts)
    where
      chosen : (b : Bool) → map number_in (changed_first (numbered n) (replied value) ts) ≡ map number_in ts
          → map number_in (cond b (replied value t ∷ ts) (t ∷ changed_first (numbered n) (replied value) ts)) ≡ t.number ∷ map number_in ts
      chosen true rest = refl
      chosen false rest = ap (λ (ns : List ℕ). t.number ∷ ns) rest

  named_changed : (n : ℕ) (value : B) (ts : List (Ticket B)) → AllByRecursion IsNamed ts → AllByRecursion IsNamed (changed_first (numbered n) (replied value) ts)
  named_changed n value [] all = tt
  named_changed n value (t ∷ ts) all = chosen (t.number == n) (named_changed n value ts all.1)
    where
      chosen : (b : Bool) → AllByRecursion IsNamed (changed_first (numbered n) (replied value) ts) → AllByRecursion IsNamed (cond b (replied value t ∷ ts) (t ∷ changed_first (numbered n) (replied value) ts))
      chosen true rest = all
      chosen false rest = (all.0, rest)

  rises_filter : (test : Ticket B → Bool) (low : ℕ) (ts : List (Ticket B)) (high : ℕ) → RisesTo low (map number_in ts) high → RisesTo low (map number_in (filter test ts)) high
  rises_filter test low [] high r = r
  rises_filter test low (t ∷ ts) high r = chosen (test t) (rises_filter test t.number ts high r.1)
    where
      chosen : (b : Bool) → RisesTo t.number (map number_in (filter test ts)) high → RisesTo low (map number_in (cond b (t ∷ filter test ts) (filter test ts))) high
      chosen true rest = (r.0, rest)
      chosen false rest = rises_weaker t.number low (map number_in (filter test ts)) high (omega (arith, r.0)) rest

  named_filter : (test : Ticket B → Bool) (ts : List (Ticket B)) → AllByRecursion IsNamed ts → AllByRecursion IsNamed (filter test ts)
  named_filter test [] all = tt
  named_filter test (t ∷ ts) all = chosen (test t) (named_filter test ts all.1)
    where
      chosen : (b : Bool) → AllByRecursion IsNamed (filter test ts) → AllByRecursion IsNamed (cond b (t ∷ filter test ts) (filter test ts))
      chosen true rest = (all.0, rest)
      chosen false rest = rest

  named_push : (ts : List (Ticket B)) (t : Ticket B) → AllByRecursion IsNamed ts → IsNamed t → AllByRecursion IsNamed (ts ++ t ∷ [])
  named_push [] t all one = (one, tt)
  named_push (u ∷ ts) t all one = (all.0, named_push ts t all.1 one)

  pub numbered_step : (cmd : TicketCmd) (value : B) (f g : Fold B) → AreNumbered f → Does cmd value f g → AreNumbered g
  numbered_step (Accept id service body) value f g p d =
      let t = new_ticket id service value in
      subst (λ (h : Fold B). AreNumbered h) d.2 (record {
        rise = subst (λ (ns : List ℕ). RisesTo 0 ns (number_of id)) (sym (map-append number_in f.tickets (t ∷ []))) (rises_push 0 (map number_in f.tickets) f.highest (number_of id) d.0 p.rise);
        above = next_above (number_of id) f.next d.1;
        named = named_push f.tickets t p.named refl;
      })
  numbered_step (Store number body) value f g p d =
      subst (λ (h : Fold B). AreNumbered h) d (record {
        rise = subst (λ (ns : List ℕ). RisesTo 0 ns f.highest) (sym (numbers_changed number value f.tickets)) p.rise;
        above = p.above;
        named = named_changed number value f.tickets p.named;
      })
  numbered_step (Close number) value f g p d =
      let test = λ (t : Ticket B). not (numbered number t) in
      subst (λ (h : Fold B). AreNumbered h) d (record { rise = rises_filter test 0 f.tickets f.highest p.rise; above = p.above; named = named_filter test f.tickets p.named })

pub fold_numbered : TicketsAreNumbered
fold_numbered base cmds f from e =
    fold_keeps (λ (cmd : TicketCmd). cmd) body_of (λ past g. AreNumbered g) (λ past c g h p d. numbered_step c (body_of c) g h p d) [] cmds (start base) f (record { rise = omega arith; above = from; named = tt }) e

pub fold_apart : NoTwoShareANumber
fold_apart base cmds f i j from e lt within =
    let p = fold_numbered base cmds f from e in
    rises_apart 0 (map number_in f.tickets) f.highest i j p.rise lt (omega (arith, length-map f.tickets number_in))

pub one_of_number : OneTicketOfANumber
one_of_number f id t p is = known_numbered f.tickets f.highest id t p.named p.rise is

-- ---- the next number

few_step : {B : Type 0} (base n : ℕ) (cmd : TicketCmd) (value : B) (f g : Fold B) → (base ≤ f.next) × (f.next ≤ base + n) → Does cmd value f g → (base ≤ g.next) × (g.next ≤ base + (n + 1))
few_step {B} base n (Accept id service body) value f g p d = subst (λ (h : Fold B). (base ≤ h.next) × (h.next ≤ base + (n + 1))) d.2 (chosen (number_of id == f.next))
  where
    chosen : (b : Bool) → (base ≤ cond b (f.next + 1) f.next) × (cond b (f.next + 1) f.next ≤ base + (n + 1))
    chosen true = (omega (arith, p.0), omega (arith, p.1))
    chosen false = (omega (arith, p.0), omega (arith, p.1))
few_step {B} base n (Store number body) value f g p d = subst (λ (h : Fold B). (base ≤ h.next) × (h.next ≤ base + (n + 1))) d (p.0, omega (arith, p.1))
few_step {B} base n (Close number) value f g p d = subst (λ (h : Fold B). (base ≤ h.next) × (h.next ≤ base + (n + 1))) d (p.0, omega (arith, p.1))

pub fold_few : NumbersAreFew
fold_few base cmds f e =
    fold_keeps (λ (cmd : TicketCmd). cmd) body_of (λ past g. (base ≤ g.next) × (g.next ≤ base + length past))
    (λ past c g h p d. subst (λ (n : ℕ). (base ≤ h.next) × (h.next ≤ base + n)) (sym (length-append past (c ∷ []))) (few_step base (length past) c (body_of c) g h p d)) [] cmds (start base) f
    (omega arith, omega arith) e

-- by the accepts so far: none has reached the base yet, or the next number is one above the highest
record Counts (base : ℕ) (past : List ℕ) (highest next : ℕ) : Type 0 where
  next_is : next ≡ base + count_by (nat_le base) past
  most : AllByRecursion (λ m. m ≤ highest) past
  top : (n : ℕ) → 1 ≤ n → AllByRecursion (λ m. m < n) past → highest < n
  phase : ((next ≡ base) × (highest < base) × AllByRecursion (λ m. m < base) past) ⊎ ((next ≡ highest + 1) × (base ≤ highest) × (AllByRecursion (λ m. m < base) past → ⊥))

all_push : (P : ℕ → Type 0) (ms : List ℕ) (n : ℕ) → AllByRecursion P ms → P n → AllByRecursion P (ms ++ n ∷ [])
all_push P [] n all one = (one, tt)
all_push P (m ∷ ms) n all one = (all.0, all_push P ms n all.1 one)

all_last : (P : ℕ → Type 0) (ms : List ℕ) (n : ℕ) → AllByRecursion P (ms ++ n ∷ []) → P n
all_last P [] n all = all.0
all_last P (m ∷ ms) n all = all_last P ms n all.1

all_weaker : (P Q : ℕ → Type 0) (ms : List ℕ) → ((m : ℕ) → P m → Q m) → AllByRecursion P ms → AllByRecursion Q ms
all_weaker P Q [] w all = tt
all_weaker P Q (m ∷ ms) w all = (w m all.0, all_weaker P Q ms w all.1)

counts_accept : (base : ℕ) (past : List ℕ) (highest next n : ℕ) → Counts base past highest next → highest < n → n ≤ next → Counts base (past ++ n ∷ []) n (cond (n == next) (next + 1) next)
counts_accept base past highest next n c over under =
    elim (cases_eq n next) [
      | inl is ↦ let t : (n == next) ≡ true = eq-eqb _ _ is in rw t (at_next is)
      | inr other ↦ let t : (n == next) ≡ false = ne_eqb _ _ other in rw t (below_base (omega arith) c.phase)
    ]
  where
    count : (b : Bool) → nat_le base n ≡ b → count_by (nat_le base) (past ++ n ∷ []) ≡ count_by (nat_le base) past + cond b 1 0
    count b is = sum_by_push (λ (m : ℕ). cond (nat_le base m) 1 0) past n ∙ ap (λ (x : Bool). count_by (nat_le base) past + cond x 1 0) is

    most : AllByRecursion (λ m. m ≤ n) (past ++ n ∷ [])
    most = all_push (λ m. m ≤ n) past n (all_weaker (λ m. m ≤ highest) (λ m. m ≤ n) past (λ m le. omega (arith, le, over)) c.most) (omega arith)

    reaches : ((next ≡ base) × (highest < base) × AllByRecursion (λ m. m < base) past) ⊎ ((next ≡ highest + 1) × (base ≤ highest) × (AllByRecursion (λ m. m < base) past → ⊥)) → n ≡ next → base ≤ n
    reaches (inl p) is = omega (arith, p.0, is)
    reaches (inr p) is = omega (arith, p.0, p.1, is)

    at_next : n ≡ next → Counts base (past ++ n ∷ []) n (next + 1)
    at_next is =
        let far : base ≤ n = reaches c.phase is in
        record {
          next_is = omega (arith, c.next_is, count true (le-leb _ _ far));
          most = most;
          top = λ b from all. all_last (λ m. m < b) past n all;
          phase = inr (omega (arith, is), far, λ all. let low = all_last (λ m. m < base) past n all in omega (arith, low, far));
        }

    below_base : n < next → ((next ≡ base) × (highest < base) × AllByRecursion (λ m. m < base) past) ⊎ ((next ≡ highest + 1) × (base ≤ highest) × (AllByRecursion (λ m. m < base) past → ⊥))
        → Counts base (past ++ n ∷ []) n next
    below_base lt (inl p) =
        let low : n < base = omega (arith, p.0, lt) in
        record {
          next_is = omega (arith, c.next_is, count false (lt-leb _ _ low));
          most = most;
          top = λ b from all. all_last (λ m. m < b) past n all;
          phase = inl (p.0, low, all_push (λ m. m < base) past n p.2 low);
        }
    below_base lt (inr p) = absurd (omega (arith, p.0, lt, over))

accepts-append : (past : List TicketCmd) (cmd : TicketCmd) → accepts_of (past ++ cmd ∷ []) ≡ accepts_of past ++ accepts_of (cmd ∷ [])
accepts-append [] cmd = refl
accepts-append (Accept id service body ∷ past) cmd = ap (λ (ns : List ℕ). number_of id ∷ ns) (accepts-append past cmd)
accepts-append (Store number body ∷ past) cmd = accepts-append past cmd
accepts-append (Close number ∷ past) cmd = accepts-append past cmd

counts_step : {B : Type 0} (base : ℕ) (past : List ℕ) (cmd : TicketCmd) (value : B) (f g : Fold B) → Counts base past f.highest f.next → Does cmd value f g → Counts base (past ++ accepts_of (cmd ∷ [])) g.highest g.next
counts_step {B} base past (Accept id service body) value f g c d =
    subst (λ (h : Fold B). Counts base (past ++ number_of id ∷ []) h.highest h.next) d.2 (counts_accept base past f.highest f.next (number_of id) c d.0 d.1)
counts_step {B} base past (Store number body) value f g c d =
    subst (λ (h : Fold B). Counts base (past ++ []) h.highest h.next) d (subst (λ (ns : List ℕ). Counts base ns f.highest f.next) (sym (append-nil past)) c)
counts_step {B} base past (Close number) value f g c d =
    subst (λ (h : Fold B). Counts base (past ++ []) h.highest h.next) d (subst (λ (ns : List ℕ). Counts base ns f.highest f.next) (sym (append-nil past)) c)

counts : (base : ℕ) (cmds : List TicketCmd) (f : Fold (List (List ℕ))) → 1 ≤ base → fold_of base cmds ≡ Some f → Counts base (accepts_of cmds) f.highest f.next
counts base cmds f from e =
    fold_keeps (λ (cmd : TicketCmd). cmd) body_of (λ past g. Counts base (accepts_of past) g.highest g.next)
    (λ past c g h p d. subst (λ (ns : List ℕ). Counts base ns h.highest h.next) (sym (accepts-append past c)) (counts_step base (accepts_of past) c (body_of c) g h p d)) [] cmds (start base) f
    (record { next_is = omega arith; most = tt; top = λ n one all. omega arith; phase = inl (refl, from, tt) }) e

-- the two ways to say which number an accept may have
right_taken : (base : ℕ) (past : List ℕ) (highest next n : ℕ) → Counts base past highest next → (n ≡ base + count_by (nat_le base) past) ⊎ ((1 ≤ n) × (n < base) × AllByRecursion (λ m. (m < n) × (m < base)) past) → (highest < n) × (n ≤ next)
right_taken base past highest next n c (inl is) = by_phase c.phase
  where
    by_phase : ((next ≡ base) × (highest < base) × AllByRecursion (λ m. m < base) past) ⊎ ((next ≡ highest + 1) × (base ≤ highest) × (AllByRecursion (λ m. m < base) past → ⊥)) → (highest < n) × (n ≤ next)
    by_phase (inl p) = let e = c.next_is in (omega (arith, p.0, p.1, is, e), omega (arith, is, e))
    by_phase (inr p) = let e = c.next_is in (omega (arith, p.0, is, e), omega (arith, is, e))
right_taken base past highest next n c (inr p) =
    let over = c.top n p.0 (all_weaker (λ m. (m < n) × (m < base)) (λ m. m < n) past (λ m both. both.0) p.2) in
    let e = c.next_is in
    (over, omega (arith, p.1, e))

taken_right : (base : ℕ) (past : List ℕ) (highest next n : ℕ) → Counts base past highest next → highest < n → n ≤ next → (n ≡ base + count_by (nat_le base) past) ⊎ ((1 ≤ n) × (n < base) × AllByRecursion (λ m. (m < n) × (m < base)) past)
taken_right base past highest next n c over under = by_phase (cases_eq n next) c.phase
  where
    by_phase : ((n ≡ next) ⊎ (n ≡ next → ⊥)) → ((next ≡ base) × (highest < base) × AllByRecursion (λ m. m < base) past) ⊎ ((next ≡ highest + 1) × (base ≤ highest) × (AllByRecursion (λ m. m < base) past → ⊥))
        → (n ≡ base + count_by (nat_le base) past) ⊎ ((1 ≤ n) × (n < base) × AllByRecursion (λ m. (m < n) × (m < base)) past)
    by_phase (inl is) phase = inl (is ∙ c.next_is)
    by_phase (inr other) (inl p) = inr (omega arith, omega (arith, p.0), both past (all_weaker (λ m. m ≤ highest) (λ m. m < n) past (λ m le. omega (arith, le, over)) c.most) p.2)
      where
        both : (ms : List ℕ) → AllByRecursion (λ m. m < n) ms → AllByRecursion (λ m. m < base) ms → AllByRecursion (λ m. (m < n) × (m < base)) ms
        both [] a b = tt
        both (m ∷ ms) a b = ((a.0, b.0), both ms a.1 b.1)
    by_phase (inr other) (inr p) = absurd (other (omega (arith, p.0, over, under)))

takes_iff : {B : Type 0} (n : ℕ) (f : Fold B) → (takes n f ≡ true) ↔ ((f.highest < n) × (n ≤ f.next))
takes_iff n f =
    (λ yes. let both = and_parts (ltb f.highest n) (leb n f.next) yes in (ltb-true _ _ both.0, leb-true _ _ both.1), λ both. and_from (ltb f.highest n) (leb n f.next) (lt-ltb _ _ both.0) (le-leb _ _ both.1))

pub accepts_by_base : AcceptsByTheBase
accepts_by_base base cmds f from e =
    let c = counts base cmds f from e in
    let past = accepts_of cmds in (
      c.next_is,
      λ n. (λ yes. let both = (takes_iff n f).0 yes in taken_right base past f.highest f.next n c both.0 both.1, λ right. (takes_iff n f).1 (right_taken base past f.highest f.next n c right)),
    )
