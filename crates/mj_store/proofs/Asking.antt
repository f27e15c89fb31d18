-- What a call asks for its command.
use Rattle.std.proofs.Common.{◌≡◌, ◌≢◌, ℕ, ◌<◌, ◌≤◌, Bool, true, false, List, [], ◌∷◌, Some, None, ltb, leb, arith, length-append}
use Rattle.std.proofs.lemmas.Bool.{and_from, lt-ltb, le-leb}
use Rattle.std.specs.Prelude.{if◌then◌else◌}
use Rattle.mj_ids.specs.Ids.{number_of}
use Rattle.mj_tickets.specs.declared.command.TicketCmd.TheVariants.{Store, Close}
use Rattle.mj_tickets.specs.declared.place.Place.{Place}
use Rattle.mj_tickets.specs.Payload.{Fits, body_text, number_octets}
use Rattle.mj_tickets.specs.Fold.{Fold, takes, accepts}
use Rattle.mj_tickets.specs.Laws.{AreNumbered}
use Rattle.mj_tickets.proofs.LengthLemmas.{length-number_octets}
use Rattle.mj_store.specs.Commands.{CanBeKept}

pub close_fits : (number : ℕ) → Fits (Close number)
close_fits number = record { counted = omega arith; short = omega (arith, length-append (67 ∷ number_octets number) [], length-number_octets number) }

pub store_fits : (number : ℕ) (body : List (List ℕ)) → CanBeKept body → Fits (Store number body)
store_fits number body kept = record {
  counted = kept.counted;
  short = omega (arith, kept.short, length-append (83 ∷ number_octets number) (body_text body), length-number_octets number);
}

-- the next number is always taken
taken : (n : ℕ) (f : Fold Place) → n ≡ f.next → f.highest < f.next → takes n f ≡ true
taken n f is above =
    let over : f.highest < n = omega arith in
    let under : n ≤ f.next = omega arith in
    and_from (ltb f.highest n) (leb n f.next) (lt-ltb _ _ over) (le-leb _ _ under)

accepts_some : {A : Type 0} (b : Bool) (x : A) → b ≡ true → (if b then Some x else None) ≡ None → ⊥
accepts_some true x is e = absurd (cc e)
accepts_some false x is e = absurd (cc is)

pub accept_lawful : (id service : List ℕ) (value : Place) (f : Fold Place) → number_of id ≡ f.next → AreNumbered f → accepts id service value f ≢ None
accept_lawful id service value f is numbered none =
    accepts_some (takes (number_of id) f) _ (taken (number_of id) f is numbered.above) none
