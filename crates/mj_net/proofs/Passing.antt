-- How what the ports stand for goes on.
use Rattle.std.proofs.Common.{◌≡◌, ◌≤◌, ◌⊎◌, ◌||◌, Bool, true, false, List, [], ◌∷◌, ◌++◌, length, inl, inr, refl, sym, ap, ◌∙◌, subst, append_assoc, append-nil}
use Rattle.mj_base.specs.declared.event.Event.{Event}
use Rattle.mj_base.specs.declared.event.Event.TheVariants as events
use Rattle.mj_base.specs.declared.event.Out.{Out}
use Rattle.mj_serve.specs.Given.{Entry, is_stop, outs_given, taken_as}
use Rattle.mj_net.specs.Passing.{Act, Took, Gave, Lanes, PortsState, events_of, most_entries, outs_of, passed, passes}
use Rattle.mj_net.specs.Standing.{Stands, cut, until_stop}

passed-snoc : (lanes : Lanes) (acts : List Act) (act : Act) → passed lanes (acts ++ act ∷ []) ≡ passes (passed lanes acts) act
passed-snoc lanes [] act = refl
passed-snoc lanes (a ∷ acts) act = passed-snoc (passes lanes a) acts act

events-took : (acts : List Act) (e : Event) → events_of (acts ++ Took e ∷ []) ≡ events_of acts ++ e ∷ []
events-took [] e = refl
events-took (Took x ∷ acts) e = ap (λ (es : List Event). x ∷ es) (events-took acts e)
events-took (Gave o ∷ acts) e = events-took acts e

events-gave : (acts : List Act) (o : Out) → events_of (acts ++ Gave o ∷ []) ≡ events_of acts
events-gave [] o = refl
events-gave (Took x ∷ acts) o = ap (λ (es : List Event). x ∷ es) (events-gave acts o)
events-gave (Gave x ∷ acts) o = events-gave acts o

outs-took : (acts : List Act) (e : Event) → outs_of (acts ++ Took e ∷ []) ≡ outs_of acts
outs-took [] e = refl
outs-took (Took x ∷ acts) e = outs-took acts e
outs-took (Gave o ∷ acts) e = ap (λ (os : List Out). o ∷ os) (outs-took acts e)

outs-gave : (acts : List Act) (o : Out) → outs_of (acts ++ Gave o ∷ []) ≡ outs_of acts ++ o ∷ []
outs-gave [] o = refl
outs-gave (Took x ∷ acts) o = outs-gave acts o
outs-gave (Gave x ∷ acts) o = ap (λ (os : List Out). x ∷ os) (outs-gave acts o)

given-more : (given : List Entry) (entry : Entry) → outs_given (given ++ entry ∷ []) ≡ outs_given given ++ entry.out ∷ []
given-more [] entry = refl
given-more (e ∷ given) entry = ap (λ (os : List Out). e.out ∷ os) (given-more given entry)

-- ---- the first end

goes : (b : Bool) (x : Event) (rest xs : List Event) → cut b x rest ≡ x ∷ xs → (b ≡ false) × (rest ≡ xs)
goes true x rest xs e = cc
goes false x rest xs e = (refl, cc)

one-more : (e : Event) → until_stop (e ∷ []) ≡ taken_as e
one-more (events.Open lane) = refl
one-more (events.Bytes lane piece) = refl
one-more (events.Sent lane) = refl
one-more (events.Close lane) = refl
one-more (events.Tick ms) = refl
one-more events.Stop = refl

unstopped : (xs : List Event) (e : Event) → until_stop xs ≡ xs → until_stop (xs ++ e ∷ []) ≡ xs ++ taken_as e
unstopped [] e none = one-more e
unstopped (x ∷ xs) e none =
    let t = goes (is_stop x) x (until_stop xs) xs none in
    ap (λ (b : Bool). cut b x (until_stop (xs ++ e ∷ []))) t.0 ∙ ap (λ (es : List Event). x ∷ es) (unstopped xs e t.1)

taken-going : (e : Event) → is_stop e ≡ false → e ∷ [] ≡ taken_as e
taken-going (events.Open lane) no_end = refl
taken-going (events.Bytes lane piece) no_end = refl
taken-going (events.Sent lane) no_end = refl
taken-going (events.Close lane) no_end = refl
taken-going (events.Tick ms) no_end = refl
taken-going events.Stop no_end = cc

taken-ended : (e : Event) → is_stop e ≡ true → e ∷ [] ≡ taken_as e ++ events.Stop ∷ []
taken-ended (events.Open lane) an_end = cc
taken-ended (events.Bytes lane piece) an_end = cc
taken-ended (events.Sent lane) an_end = cc
taken-ended (events.Close lane) an_end = cc
taken-ended (events.Tick ms) an_end = cc
taken-ended events.Stop an_end = refl

-- ---- steps

is-after : (stopped : Bool) (e : Event) (b : Bool) → stopped ≡ false → (stopped || is_stop e) ≡ b → is_stop e ≡ b
is-after true e b none is = cc
is-after false e b none is = is

pub stands-new : (now : PortsState) → now.stopped ≡ false → Stands now now [] []
stands-new now going = record {
  acts = [];
  entries = sym (append-nil now.taken);
  gives = refl;
  lanes = refl;
  front = refl;
  going = λ _. refl;
  ended = λ stopped. cc;
}

pub stands-took : (origin old new : PortsState) (e : Event) (taken : List Event) (given : List Entry) → old.stopped ≡ false
    → new ≡ record { taken = old.taken ++ e ∷ []; lanes = passes old.lanes (Took e); stopped = old.stopped || is_stop e } → Stands origin old taken given → Stands origin new (taken ++ taken_as e) given
stands-took origin old new e taken given none is s =
    let same : events_of s.acts ≡ taken = s.going none in
    let all : events_of (s.acts ++ Took e ∷ []) ≡ taken ++ e ∷ [] = events-took s.acts e ∙ ap (λ (es : List Event). es ++ e ∷ []) same in
    let stops : (b : Bool) → new.stopped ≡ b → is_stop e ≡ b = λ b at. is-after old.stopped e b none (sym (ap (λ (p : PortsState). p.stopped) is) ∙ at) in
    record {
      acts = s.acts ++ Took e ∷ [];
      entries = ap (λ (p : PortsState). p.taken) is ∙ ap (λ (es : List Event). es ++ e ∷ []) s.entries ∙ append_assoc origin.taken (events_of s.acts) (e ∷ []) ∙ ap (λ (es : List Event). origin.taken ++ es) (sym (events-took s.acts e));
      gives = outs-took s.acts e ∙ s.gives;
      lanes = ap (λ (p : PortsState). p.lanes) is ∙ ap (λ (l : Lanes). passes l (Took e)) s.lanes ∙ sym (passed-snoc origin.lanes s.acts (Took e));
      front = ap until_stop all ∙ unstopped taken e (ap until_stop (sym same) ∙ s.front);
      going = λ at. all ∙ ap (λ (es : List Event). taken ++ es) (taken-going e (stops false at));
      ended = λ at. inl (all ∙ ap (λ (es : List Event). taken ++ es) (taken-ended e (stops true at)) ∙ sym (append_assoc taken (taken_as e) (events.Stop ∷ [])));
    }

pub stands-full : (origin old new : PortsState) (e : Event) (taken : List Event) (given : List Entry) → old.stopped ≡ false → most_entries ≤ length old.taken
    → e ≡ events.Stop → new ≡ record old { stopped = true } → Stands origin old taken given → Stands origin new (taken ++ taken_as e) given
stands-full origin old new e taken given none full stop is s =
    let whole : taken ++ taken_as e ≡ taken = ap (λ (x : Event). taken ++ taken_as x) stop ∙ append-nil taken in
    let same : new.taken ≡ old.taken = ap (λ (p : PortsState). p.taken) is in
    record {
      acts = s.acts;
      entries = same ∙ s.entries;
      gives = s.gives;
      lanes = ap (λ (p : PortsState). p.lanes) is ∙ s.lanes;
      front = s.front ∙ sym whole;
      going = λ at. s.going none ∙ sym whole;
      ended = λ at. inr (subst (λ (es : List Event). most_entries ≤ length es) (sym same) full);
    }

still : (now before old_taken new_taken taken : List Event) → now ≡ before → new_taken ≡ old_taken → (before ≡ taken ++ events.Stop ∷ []) ⊎ (most_entries ≤ length old_taken) → (now ≡ taken ++ events.Stop ∷ []) ⊎ (most_entries ≤ length new_taken)
still now before old_taken new_taken taken e f (inl is) = inl (e ∙ is)
still now before old_taken new_taken taken e f (inr full) = inr (subst (λ (es : List Event). most_entries ≤ length es) (sym f) full)

pub stands-gave : (origin old new : PortsState) (o : Out) (entry : Entry) (taken : List Event) (given : List Entry) → entry.out ≡ o
    → new ≡ record old { lanes = passes old.lanes (Gave o) } → Stands origin old taken given → Stands origin new taken (given ++ entry ∷ [])
stands-gave origin old new o entry taken given names is s =
    let same : new.taken ≡ old.taken = ap (λ (p : PortsState). p.taken) is in
    let stops : new.stopped ≡ old.stopped = ap (λ (p : PortsState). p.stopped) is in
    let more : events_of (s.acts ++ Gave o ∷ []) ≡ events_of s.acts = events-gave s.acts o in
    record {
      acts = s.acts ++ Gave o ∷ [];
      entries = same ∙ s.entries ∙ ap (λ (es : List Event). origin.taken ++ es) (sym more);
      gives = outs-gave s.acts o ∙ ap (λ (os : List Out). os ++ o ∷ []) s.gives ∙ ap (λ (x : Out). outs_given given ++ x ∷ []) (sym names) ∙ sym (given-more given entry);
      lanes = ap (λ (p : PortsState). p.lanes) is ∙ ap (λ (l : Lanes). passes l (Gave o)) s.lanes ∙ sym (passed-snoc origin.lanes s.acts (Gave o));
      front = ap until_stop more ∙ s.front;
      going = λ at. more ∙ s.going (sym stops ∙ at);
      ended = λ at. still (events_of (s.acts ++ Gave o ∷ [])) (events_of s.acts) old.taken new.taken taken more same (s.ended (sym stops ∙ at));
    }
