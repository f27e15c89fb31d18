-- Notes come only with one that an act has failed.
use Rattle.std.proofs.Common.{◌≡◌, ◌⊎◌, ◌||◌, Bool, true, false, List, [], ◌∷◌, ◌++◌, Option, refl, sym, ap, subst, ◌∙◌, inl, inr, ⊎_elim}
use Rattle.std.specs.List.{list_any}
use Rattle.mj_base.specs.declared.event.Note.{Note as AnyNote}
use Rattle.mj_base.specs.declared.event.Note.TheVariants.{Shut}
use Rattle.mj_base.specs.declared.event.Out.{Out}
use Rattle.mj_base.specs.declared.event.Out.TheVariants.{Note}
use Rattle.mj_base.specs.declared.limits.Limits.{Limits}
use Rattle.mj_tickets.specs.declared.command.TicketCmd.{TicketCmd}
use Rattle.mj_machine.specs.MachineState.{Machine, Whole, entered}
use Rattle.mj_machine.specs.StoreState.{Access, Shut as AShut, usable}
use Rattle.mj_machine.specs.Acts.{Doing, behind}
use Rattle.mj_machine.specs.DiskActs.{notes_in}
use Rattle.mj_machine.specs.EventStep.{Noted, happening, outs_of, state_after}
use Rattle.mj_machine.specs.MachineRun.{run_outs}
use Rattle.mj_machine.specs.Steps.{Cause, IsAllowed, acts}
use Rattle.mj_machine.proofs.Changes.{IsCarried}
use Rattle.mj_machine.proofs.EventWalk.{all-happens}
use Rattle.mj_machine.proofs.Walk.{walk-acts}
use Rattle.mj_laws.specs.Notes.{NotesComeWithAFailure, is_failure}
use Rattle.mj_laws.proofs.NoteLemmas.{notes-append}

abbrev Fails : List AnyNote → Type 0
Fails notes = list_any is_failure notes ≡ true

fails-left : (xs ys : List AnyNote) → Fails xs → Fails (xs ++ ys)
fails-left [] ys is = absurd (cc is)
fails-left (x ∷ xs) ys is = by (is_failure x) is (λ rest. fails-left xs ys rest)
  where
    by : (b : Bool) → (b || list_any is_failure xs) ≡ true → (Fails xs → Fails (xs ++ ys)) → (b || list_any is_failure (xs ++ ys)) ≡ true
    by true said more = refl
    by false said more = more said

fails-right : (xs ys : List AnyNote) → Fails ys → Fails (xs ++ ys)
fails-right [] ys is = is
fails-right (x ∷ xs) ys is = by (is_failure x) (fails-right xs ys is)
  where
    by : (b : Bool) → Fails (xs ++ ys) → (b || list_any is_failure (xs ++ ys)) ≡ true
    by true more = refl
    by false more = more

-- an act has failed, or no note was given and the store is open
abbrev IsCalm : Access → List Out → Type 0
IsCalm access outs = Fails (notes_in outs) ⊎ ((access ≡ usable) × (notes_in outs ≡ []))

abbrev CalmOver : Whole → Doing Whole Out → Type 0
CalmOver w d = w.store.access ≡ usable → IsCalm d.0.store.access d.1

-- ---- one list of outs behind another

calm-more : (before access : Access) (xs ys : List Out) → IsCalm before xs → (before ≡ usable → IsCalm access ys) → IsCalm access (xs ++ ys)
calm-more before access xs ys first second =
    subst (λ (ns : List AnyNote). (list_any is_failure ns ≡ true) ⊎ ((access ≡ usable) × (ns ≡ []))) (sym (notes-append xs ys))
    (⊎_elim
    (λ shut. inl (fails-left (notes_in xs) (notes_in ys) shut))
    (λ (calm : (before ≡ usable) × (notes_in xs ≡ [])). ⊎_elim
    (λ shut. inl (fails-right (notes_in xs) (notes_in ys) shut))
    (λ (rest : (access ≡ usable) × (notes_in ys ≡ [])). inr (rest.0, ap (λ (ns : List AnyNote). ns ++ notes_in ys) calm.1 ∙ rest.1))
    (second calm.0))
    first)

calm-joins : (w : Whole) (d e : Doing Whole Out) → CalmOver w d → CalmOver d.0 e → CalmOver w (behind d.1 e)
calm-joins w d e one two open_now = calm-more d.0.store.access e.0.store.access d.1 e.1 (one open_now) two

-- ---- acts

not-shut : (access : Access) (doubt : Option TicketCmd) → access ≡ AShut doubt → access ≡ usable → ⊥
not-shut access doubt shut ready = let e = sym shut ∙ ready in cc e

module _ (cause : Cause) (w0 : Whole) where
  more-silent : (access : Access) (o more : List Out) → notes_in more ≡ [] → IsCalm access o → IsCalm access (o ++ more)
  more-silent access o more silent p = calm-more access access o more p (λ ready. inr (ready, silent))

  calm-carried : IsCarried cause w0 (λ d. CalmOver w0 d)
  calm-carried = record {
    marked = λ n w o p. p;
    sends = λ n piece c w o why is slow p ready. more-silent w.store.access o _ refl (p ready);
    reported = λ n w o p. p;
    removes = λ n w o p. p;
    ends = λ lane n reason at w o p ready. more-silent w.store.access o _ refl (p ready);
    gone = λ n w o p. p;
    expired = λ n w o is p. p;
    asking = λ n c o is plain p. p;
    queued = λ n c message request o told is origin p. p;
    registers = λ n c message voice service o told is fresh p. p;
    rested = λ n service w o final serves nothing p. p;
    given = λ q w o by is same p. p;
    opens = λ lane o is p. p;
    time = λ ms w o p. p;
    counts = λ w o read works p. p;
    shuts = λ doubt w o in_doubt fault only p ready. calm-more w.store.access (AShut doubt) o (Note (Shut w.acts) ∷ []) (p ready) (λ was. inl refl);
    reopens = λ doubt w o was works only p ready. calm-more w.store.access usable o _ (p ready) (λ is. absurd (not-shut w.store.access doubt was is));
    accepts = λ service body w o ready stored room works only p. p;
    stores = λ n number body w o ready pending holds works only p. p;
    closes = λ ticket id w o ready found works only p. p;
    passes = λ q number is found origin fault p ready. inl refl;
  }

calm-acts : (cause : Cause) (w : Whole) → IsAllowed cause w.routing → CalmOver w (acts cause w)
calm-acts cause w allowed = walk-acts cause w (λ d. CalmOver w d) (calm-carried cause w) allowed (λ ready. inr (ready, refl))

-- ---- runs

calm-event : (limits : Limits) (m : Machine) (e : Noted) → m.store.access ≡ usable → IsCalm (state_after limits m e).store.access (outs_of limits m e)
calm-event limits m e ready =
    all-happens CalmOver (λ v open_now. inr (open_now, refl)) calm-joins calm-acts (happening limits m e.event) (entered m.state m.store e.notes) ready

both-false : (xs ys : List AnyNote) → list_any is_failure (xs ++ ys) ≡ false → (Fails xs → ⊥) × (list_any is_failure ys ≡ false)
both-false xs ys none = ((λ is. cc (fails-left xs ys is, none)), by (list_any is_failure ys) refl)
  where
    by : (b : Bool) → list_any is_failure ys ≡ b → b ≡ false
    by true is = absurd (cc (fails-right xs ys is, none))
    by false is = refl

pub notes_come_with_a_failure : (limits : Limits) (m : Machine) (events : List Noted) → NotesComeWithAFailure limits m events
notes_come_with_a_failure limits m [] ready none = (refl, ready)
notes_come_with_a_failure limits m (e ∷ events) ready none =
    let split = both-false (notes_in (outs_of limits m e)) (notes_in (run_outs limits (state_after limits m e) events)) (ap (list_any is_failure) (sym (notes-append (outs_of limits m e) (run_outs limits (state_after limits m e) events))) ∙ none) in
    let now = ⊎_elim (λ (shut : Fails (notes_in (outs_of limits m e))). absurd (split.0 shut)) (λ (calm : ((state_after limits m e).store.access ≡ usable) × (notes_in (outs_of limits m e) ≡ [])). calm) (calm-event limits m e ready) in
    let rest = notes_come_with_a_failure limits (state_after limits m e) events now.0 split.1 in
    (notes-append (outs_of limits m e) (run_outs limits (state_after limits m e) events) ∙ ap (λ (ns : List AnyNote). ns ++ notes_in (run_outs limits (state_after limits m e) events)) now.1 ∙ rest.0, rest.1)
