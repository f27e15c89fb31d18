-- The notes of an event are those of its acts.
use Rattle.std.proofs.Common.{◌≡◌, ◌≤◌, ◌<◌, ◌+◌, ◌==◌, ◌||◌, ◌&&◌, ◌⊎◌, nat_lt, ℕ, suc, Bool, true, false, List, [], ◌∷◌, ◌++◌, Option, is_some, refl, sym, ap, subst, ◌∙◌, inl, inr, arith, append-nil}
use Rattle.std.specs.List.{list_any}
use Rattle.std.proofs.lemmas.Bool.Decides.{leb_tells}
use Rattle.mj_base.specs.declared.event.Note.{Note as AnyNote}
use Rattle.mj_base.specs.declared.event.Note.TheVariants.{Again, Shut}
use Rattle.mj_base.specs.declared.event.Out.{Out}
use Rattle.mj_base.specs.declared.event.Out.TheVariants.{Note}
use Rattle.mj_base.specs.declared.limits.Limits.{Limits}
use Rattle.mj_tickets.specs.declared.command.TicketCmd.{TicketCmd}
use Rattle.mj_machine.specs.MachineState.{Machine, Whole, entered}
use Rattle.mj_machine.specs.Acts.{Doing, behind}
use Rattle.mj_machine.specs.DiskActs.{finds, found_in, notes_in, says_found, says_shut}
use Rattle.mj_machine.specs.EventStep.{Noted, happening}
use Rattle.mj_machine.specs.Steps.{Cause, IsAllowed, acts}
use Rattle.mj_machine.proofs.Changes.{IsCarried}
use Rattle.mj_machine.proofs.ConnectionLemmas.{agrees, equal}
use Rattle.mj_machine.proofs.EventWalk.{all-happens}
use Rattle.mj_machine.proofs.Walk.{walk-acts}
use Rattle.mj_laws.specs.Notes.{InTurn, NotesAreTold, act_of}
use Rattle.mj_laws.proofs.NoteLemmas.{notes-append}

-- ---- notes in turn

turn-bound : (first : ℕ) (notes : List AnyNote) (end : ℕ) → InTurn first notes end → first ≤ end
turn-bound first [] end turn = turn
turn-bound first (note ∷ notes) end turn = let rest = turn-bound (act_of note + 1) notes end turn.1 in let now = turn.0 in omega (arith, rest, now)

turn-longer : (first : ℕ) (notes : List AnyNote) (end later : ℕ) → end ≤ later → InTurn first notes end → InTurn first notes later
turn-longer first [] end later more turn = omega (arith, more, turn)
turn-longer first (note ∷ notes) end later more turn = (turn.0, turn-longer (act_of note + 1) notes end later more turn.1)

turn-append : (first : ℕ) (xs ys : List AnyNote) (middle end : ℕ) → InTurn first xs middle → InTurn middle ys end → InTurn first (xs ++ ys) end
turn-append first [] ys middle end one two = earlier first ys middle end one two
  where
    earlier : (first : ℕ) (zs : List AnyNote) (middle end : ℕ) → first ≤ middle → InTurn middle zs end → InTurn first zs end
    earlier first [] middle end before turn = omega (arith, before, turn)
    earlier first (z ∷ zs) middle end before turn = let now = turn.0 in (omega (arith, before, now), turn.1)
turn-append first (x ∷ xs) ys middle end one two = (one.0, turn-append (act_of x + 1) xs ys middle end one.1 two)

-- ---- what notes say

abbrev SaysShut : ℕ → List AnyNote → Bool
SaysShut k notes = list_any (says_shut k) notes

abbrev SaysFound : ℕ → List AnyNote → Bool
SaysFound k notes = list_any (says_found k) notes

any-append : (test : AnyNote → Bool) (xs ys : List AnyNote) → list_any test (xs ++ ys) ≡ (list_any test xs || list_any test ys)
any-append test [] ys = refl
any-append test (x ∷ xs) ys = ap (λ (b : Bool). test x || b) (any-append test xs ys) ∙ assoc (test x) (list_any test xs) (list_any test ys)
  where
    assoc : (a b c : Bool) → (a || (b || c)) ≡ ((a || b) || c)
    assoc true b c = refl
    assoc false b c = refl

either : (a b : Bool) → (a || b) ≡ true → (a ≡ true) ⊎ (b ≡ true)
either true b is = inl refl
either false b is = inr is

left-true : (a b : Bool) → a ≡ true → (a || b) ≡ true
left-true true b is = refl
left-true false b is = absurd (cc is)

right-true : (a b : Bool) → b ≡ true → (a || b) ≡ true
right-true true b is = refl
right-true false b is = is

-- from the act with this number on, over these notes of the event, up to the next act, these notes were given
record Tells (first : ℕ) (all : List AnyNote) (end : ℕ) (now given : List AnyNote) : Type 0 where
  pub same : now ≡ all
  pub turns : InTurn first given end
  pub of_failed : (k : ℕ) → SaysShut k given ≡ true → (first ≤ k) × (k < end) × (SaysShut k all ≡ true)
  pub failed : (k : ℕ) → first ≤ k → k < end → SaysShut k all ≡ true → SaysShut k given ≡ true
  pub found : (k : ℕ) → SaysFound k given ≡ true → SaysFound k all ≡ true

tells-nothing : (first : ℕ) (all : List AnyNote) → Tells first all first all []
tells-nothing first all = record {
  same = refl;
  turns = omega arith;
  of_failed = λ k is. absurd (cc is);
  failed = λ k from upto is. absurd (omega (arith, from, upto));
  found = λ k is. absurd (cc is);
}

tells-then : (first middle end : ℕ) (all between now xs ys : List AnyNote) → Tells first all middle between xs → Tells middle between end now ys → Tells first all end now (xs ++ ys)
tells-then first middle end all between now xs ys one two =
    let low = turn-bound first xs middle one.turns in
    let high = turn-bound middle ys end two.turns in
    record {
      same = two.same ∙ one.same;
      turns = turn-append first xs ys middle end one.turns two.turns;
      of_failed = λ k is. elim (either (SaysShut k xs) (SaysShut k ys) (sym (any-append (says_shut k) xs ys) ∙ is)) [
        | inl left ↦ (let p = one.of_failed k left in let below = p.1 in (p.0, omega (arith, below, high), p.2))
        | inr right ↦ (let p = two.of_failed k right in let from = p.0 in (omega (arith, from, low), p.1, subst (λ (xs : List AnyNote). SaysShut k xs ≡ true) one.same p.2))
      ];
      failed = λ k from upto is. any-append (says_shut k) xs ys ∙ by k from upto is;
      found = λ k is. elim (either (SaysFound k xs) (SaysFound k ys) (sym (any-append (says_found k) xs ys) ∙ is)) [
        | inl left ↦ one.found k left
        | inr right ↦ subst (λ (xs : List AnyNote). SaysFound k xs ≡ true) one.same (two.found k right)
      ];
    }
  where
    by : (k : ℕ) → first ≤ k → k < end → SaysShut k all ≡ true → (SaysShut k xs || SaysShut k ys) ≡ true
    by k from upto is =
        elim (leb_tells (suc k) middle) [
          | inl below ↦ left-true (SaysShut k xs) (SaysShut k ys) (one.failed k from below.1 is)
          | inr above ↦ (
              let past = above.1 in
              right-true (SaysShut k xs) (SaysShut k ys) (two.failed k (omega (arith, past)) upto (subst (λ (xs : List AnyNote). SaysShut k xs ≡ true) (sym one.same) is))
              )
        ]

-- ---- one act on the disk

-- it didn't fail, and gave no note
tells-worked : (k : ℕ) (all : List AnyNote) → SaysShut k all ≡ false → Tells k all (k + 1) all []
tells-worked k all works = record {
  same = refl;
  turns = omega arith;
  of_failed = λ q is. absurd (cc is);
  failed = λ q from upto is. let same : q ≡ k = omega (arith, from, upto) in absurd (both (subst (λ (x : ℕ). SaysShut x all ≡ true) same is));
  found = λ q is. absurd (cc is);
}
  where
    both : SaysShut k all ≡ true → ⊥
    both is = cc (is, works)

-- it failed, and said so
tells-shut : (k : ℕ) (all : List AnyNote) → SaysShut k all ≡ true → Tells k all (k + 1) all (Shut k ∷ [])
tells-shut k all fault = record {
  same = refl;
  turns = (omega arith, omega arith);
  of_failed = λ q is. let same : k ≡ q = agrees k q (only (k == q) is) in (omega (arith, same), omega (arith, same), subst (λ (x : ℕ). SaysShut x all ≡ true) same fault);
  failed = λ q from upto is. let same : q ≡ k = omega (arith, from, upto) in left-true (k == q) false (ap (λ (x : ℕ). k == x) same ∙ equal k);
  found = λ q is. absurd (cc is);
}
  where
    only : (b : Bool) → (b || false) ≡ true → b ≡ true
    only true is = refl
    only false is = absurd (cc is)

-- it opened the store again
tells-again : (k : ℕ) (all : List AnyNote) (found : Bool) → SaysShut k all ≡ false → (found ≡ true → SaysFound k all ≡ true) → Tells k all (k + 1) all (Again k found ∷ [])
tells-again k all found works finding = record {
  same = refl;
  turns = (omega arith, omega arith);
  of_failed = λ q is. absurd (cc is);
  failed = λ q from upto is. let same : q ≡ k = omega (arith, from, upto) in absurd (both (subst (λ (x : ℕ). SaysShut x all ≡ true) same is));
  found = λ q is. by q (k == q) refl found refl is;
}
  where
    both : SaysShut k all ≡ true → ⊥
    both is = cc (is, works)

    by : (q : ℕ) (same : Bool) → (k == q) ≡ same → (b : Bool) → found ≡ b → ((same && b) || false) ≡ true → SaysFound q all ≡ true
    by q true same true is said = subst (λ (x : ℕ). SaysFound x all ≡ true) (agrees k q same) (finding is)
    by q true same false is said = absurd (cc said)
    by q false same true is said = absurd (cc said)
    by q false same false is said = absurd (cc said)

-- ---- acts

module _ (cause : Cause) (w0 : Whole) where
  abbrev Told : Doing Whole Out → Type 0
  Told d = Tells w0.acts w0.notes d.0.acts d.0.notes (notes_in d.1)

  -- the numbers and notes of the event may be those of another that has the same
  more-silent : (w : Whole) (o more : List Out) → notes_in more ≡ [] → Told (w, o) → Told (w, o ++ more)
  more-silent w o more silent p =
      subst (λ (ns : List AnyNote). Tells w0.acts w0.notes w.acts w.notes ns)
      (sym (notes-append o more ∙ ap (λ (ns : List AnyNote). notes_in o ++ ns) silent ∙ append-nil (notes_in o))) p

  more-worked : (w : Whole) (o : List Out) → SaysShut w.acts w.notes ≡ false → Told (w, o) → Tells w0.acts w0.notes (w.acts + 1) w.notes (notes_in o)
  more-worked w o works p =
      subst (λ (ns : List AnyNote). Tells w0.acts w0.notes (w.acts + 1) w.notes ns) (append-nil (notes_in o))
      (tells-then w0.acts w.acts (w.acts + 1) w0.notes w.notes w.notes (notes_in o) [] p (tells-worked w.acts w.notes works))

  more-noted : (w : Whole) (o : List Out) (note : AnyNote) → Tells w.acts w.notes (w.acts + 1) w.notes (note ∷ []) → Told (w, o)
      → Tells w0.acts w0.notes (w.acts + 1) w.notes (notes_in (o ++ Note note ∷ []))
  more-noted w o note one p =
      subst (λ (ns : List AnyNote). Tells w0.acts w0.notes (w.acts + 1) w.notes ns) (sym (notes-append o (Note note ∷ [])))
      (tells-then w0.acts w.acts (w.acts + 1) w0.notes w.notes w.notes (notes_in o) (note ∷ []) p one)

  finding : (b : Bool) (doubt : Option TicketCmd) → is_some (found_in b doubt) ≡ true → b ≡ true
  finding true doubt is = refl
  finding false doubt is = absurd (cc is)

  told-carried : IsCarried cause w0 Told
  told-carried = record {
    marked = λ n w o p. p;
    sends = λ n piece c w o why is slow p. more-silent w o _ refl p;
    reported = λ n w o p. p;
    removes = λ n w o p. p;
    ends = λ lane n reason at w o p. more-silent w o _ refl p;
    gone = λ n w o p. p;
    expired = λ n w o is p. p;
    asking = λ n c o is plain p. p;
    queued = λ n c message request o told is origin p. p;
    registers = λ n c message voice service o told is fresh p. p;
    rested = λ n service w o final serves nothing p. p;
    given = λ q w o by is same p. p;
    opens = λ lane o is p. p;
    time = λ ms w o p. p;
    counts = λ w o read works p. more-worked w o works p;
    shuts = λ doubt w o in_doubt fault only p. more-noted w o (Shut w.acts) (tells-shut w.acts w.notes fault) p;
    reopens = λ doubt w o was works only p. more-noted w o (Again w.acts (is_some (found_in (finds w) doubt)))
        (tells-again w.acts w.notes (is_some (found_in (finds w) doubt)) works (λ is. finding (finds w) doubt is)) p;
    accepts = λ service body w o ready stored room works only p. more-worked w o works p;
    stores = λ n number body w o ready pending holds works only p. more-worked w o works p;
    closes = λ ticket id w o ready found works only p. more-worked w o works p;
    passes = λ q number is found origin fault p. more-noted w0 [] (Shut w0.acts) (tells-shut w0.acts w0.notes fault) p;
  }

abbrev ToldOver : Whole → Doing Whole Out → Type 0
ToldOver w d = Tells w.acts w.notes d.0.acts d.0.notes (notes_in d.1)

told-joins : (w : Whole) (d e : Doing Whole Out) → ToldOver w d → ToldOver d.0 e → ToldOver w (behind d.1 e)
told-joins w d e one two =
    subst (λ (ns : List AnyNote). Tells w.acts w.notes e.0.acts e.0.notes ns) (sym (notes-append d.1 e.1))
    (tells-then w.acts d.0.acts e.0.acts w.notes d.0.notes e.0.notes (notes_in d.1) (notes_in e.1) one two)

told-acts : (cause : Cause) (w : Whole) → IsAllowed cause w.routing → ToldOver w (acts cause w)
told-acts cause w allowed = walk-acts cause w (ToldOver w) (told-carried cause w) allowed (tells-nothing w.acts w.notes)

pub notes_are_told : (limits : Limits) (m : Machine) (e : Noted) → NotesAreTold limits m e
notes_are_told limits m e =
    let w = entered m.state m.store e.notes in
    let all = all-happens ToldOver (λ v. tells-nothing v.acts v.notes) told-joins told-acts (happening limits m e.event) w in
    record { turns = all.turns; failed = λ k. by k all refl; found = all.found }
  where
    by : (k : ℕ) {end : ℕ} {now given : List AnyNote} → Tells 0 e.notes end now given → (end ≡ end) → SaysShut k given ≡ (nat_lt k end && SaysShut k e.notes)
    by k {end = end} {now = now} {given = given} all is = of (SaysShut k given) refl
      where
        inside : (b c : Bool) → nat_lt k end ≡ b → SaysShut k e.notes ≡ c → SaysShut k given ≡ false → (b && c) ≡ false
        inside true true below said none =
            elim (leb_tells (suc k) end) [
              | inl less ↦ (let yes = all.failed k (omega arith) less.1 said in cc (yes, none))
              | inr more ↦ cc (more.0, below)
            ]
        inside true false below said none = refl
        inside false c below said none = refl

        of : (b : Bool) → SaysShut k given ≡ b → b ≡ (nat_lt k end && SaysShut k e.notes)
        of true said =
            let p = all.of_failed k said in
            elim (leb_tells (suc k) end) [
              | inl less ↦ rw less.0 (rw p.2 refl)
              | inr more ↦ (let below = p.1 in let past = more.1 in absurd (omega (arith, below, past)))
            ]
        of false said = sym (inside (nat_lt k end) (SaysShut k e.notes) refl refl said)
