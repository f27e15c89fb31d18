-- The notes of each turn are lawful, rule by rule.
use Rattle.std.proofs.Common.{◌≡◌, ℕ, ◌+◌, ◌==◌, Bool, true, false, List, [], ◌∷◌, ◌++◌, map, refl, sym, ap, subst, ◌∙◌, append_assoc, cond, Option, None, Some}
use Rattle.std.specs.Prelude.{codes, nat_le, nat_lt, ◌-◌}
use Rattle.std.proofs.lemmas.Bool.{eq-eqb}
use Rattle.std.specs.List.{list_any}
use Rattle.std.specs.Option.{option_and_then}
use Rattle.mj_base.specs.declared.link.LinkEvent.{LinkEvent}
use Rattle.mj_base.specs.declared.link.LinkEvent.TheVariants as event
use Rattle.mj_peer.specs.ClientEndRules as client
use Rattle.mj_peer.specs.declared.act.Act.{Act}
use Rattle.mj_peer.specs.declared.act.Act.TheVariants as act
use Rattle.mj_submit.specs.Notes.{noted, notes_from, with_note}
use Rattle.mj_submit.specs.SubmitRules as rules
use Rattle.mj_submit.specs.SubmitRules.{Acts, Asks, Call, Doing, Ends, Finishes, Gives, Line, Notes, Question, Submitter, Takes, Turn, acts, answers, answers_at, asks, behind, behind_code, closes, code_of, continues, counts, does, doing, gives, goes_on, goes_on_with, happens, id_answered, is_code, is_end, issues, pends, present, question_at, refuses, reopening, stays, stops, sweep, takes, turn_of, wakes, wakes_up, ◌then◌}
use Rattle.mj_submit.specs.declared.note.Note.{Note}
use Rattle.mj_submit.specs.declared.note.Note.TheVariants.{Issued, Given, Closed}
use Rattle.mj_submit.specs.declared.progress.Progress.{Progress}
use Rattle.mj_submit.specs.declared.progress.Stage.{Stage}
use Rattle.mj_submit.specs.declared.progress.Stage.TheVariants.{Fresh, Ticket, Delivered}
use Rattle.mj_submitter.specs.Courses.{effects, effects_of, effects_of_act}
use Rattle.mj_submitter.specs.declared.effect.Effect.{Effect}
use Rattle.mj_submitting.specs.Lawful.{TurnsAreLawful}
use Rattle.mj_submitting.specs.Performing.{notes}
use Rattle.mj_submitting.proofs.PerformLemmas.{from-append, notes-append}

abbrev said : List Doing → List Note
said ds = notes (effects ds)

abbrev Lawful : Turn → Progress → Type 0
Lawful t p = notes_from (said t.1) p ≡ Some t.0.progress

effects-append : (xs ys : List Doing) → effects (xs ++ ys) ≡ effects xs ++ effects ys
effects-append [] ys = refl
effects-append (x ∷ xs) ys = ap (λ (l : List Effect). effects_of x ++ l) (effects-append xs ys) ∙ sym (append_assoc (effects_of x) (effects xs) (effects ys))

said-append : (xs ys : List Doing) → said (xs ++ ys) ≡ said xs ++ said ys
said-append xs ys = ap notes (effects-append xs ys) ∙ notes-append (effects xs) (effects ys)

then-lawful : (t : Turn) (more : Submitter → Turn) (p : Progress) → Lawful t p → Lawful (more t.0) t.0.progress → Lawful (t then more) p
then-lawful t more p a b =
    ap (λ (l : List Note). notes_from l p) (said-append t.1 (more t.0).1) ∙ from-append (said t.1) (said (more t.0).1) p ∙ ap (option_and_then (notes_from (said (more t.0).1))) a ∙ b

-- ---- a call begins

act-silent : (a : Act) (ds : List Doing) → said (Acts a ∷ ds) ≡ said ds
act-silent (act.Write text) ds = refl
act-silent act.Reopen ds = refl
act-silent (act.Part body) ds = refl
act-silent (act.Done body) ds = refl
act-silent act.Served ds = refl
act-silent act.Finished ds = refl
act-silent act.NoAnswer ds = refl

acts-silent : (list : List Act) → said (map Acts list) ≡ []
acts-silent [] = refl
acts-silent (a ∷ list) = act-silent a (map Acts list) ∙ acts-silent list

opening-silent : (first : Bool) (list : List Act) → said (reopening first ++ map Acts list) ≡ []
opening-silent true list = acts-silent list
opening-silent false list = acts-silent list

asks-lawful : (q : Question) (s : Submitter) → Lawful (asks q s) s.progress
asks-lawful q s = ap (λ (l : List Note). notes_from l s.progress) (opening-silent s.first (client.asks (rules.body_of q) (rules.new_client q s.tries s.wait)).1)

goes-on-lawful : (line : List ℕ) (s : Submitter) → Lawful (goes_on line s) s.progress
goes-on-lawful line s = asks-lawful (question_at s.progress.stage s.name line) s

continues-by : (o : Option (List ℕ)) (s : Submitter) → Lawful (goes_on_with o s) s.progress
continues-by None s = refl
continues-by (Some line) s = goes-on-lawful line s

continues-lawful : (s : Submitter) → Lawful (continues s) s.progress
continues-lawful s = continues-by s.line s

-- ---- notes

same-number : (n : ℕ) → (n == n) ≡ true
same-number n = eq-eqb n n refl

next-issued : (p : Progress) (id : List ℕ) → p.stage ≡ Fresh → with_note p (Issued (p.closed + 1) id) ≡ Some (record p { stage = Ticket id })
next-issued p id is =
    subst (λ (g : Stage). noted (Issued (p.closed + 1) id) g p ≡ Some (record p { stage = Ticket id })) (sym is)
    (ap (λ (b : Bool). cond {A = Option Progress} b (Some (record p { stage = Ticket id })) None) (same-number (p.closed + 1)))

next-given : (p : Progress) (id : List ℕ) → p.stage ≡ Ticket id → with_note p (Given (p.closed + 1)) ≡ Some (record p { stage = Delivered id })
next-given p id is =
    subst (λ (g : Stage). noted (Given (p.closed + 1)) g p ≡ Some (record p { stage = Delivered id })) (sym is)
    (ap (λ (b : Bool). cond {A = Option Progress} b (Some (record p { stage = Delivered id })) None) (same-number (p.closed + 1)))

next-closed : (p : Progress) (id : List ℕ) → p.stage ≡ Delivered id → with_note p (Closed (p.closed + 1)) ≡ Some (record { closed = p.closed + 1; stage = Fresh })
next-closed p id is =
    subst (λ (g : Stage). noted (Closed (p.closed + 1)) g p ≡ Some (record { closed = p.closed + 1; stage = Fresh })) (sym is)
    (ap (λ (b : Bool). cond {A = Option Progress} b (Some (record { closed = p.closed + 1; stage = Fresh })) None) (same-number (p.closed + 1)))

notes-lawful : (note : Note) (stage : Stage) (s : Submitter) → with_note s.progress note ≡ Some (record s.progress { stage = stage }) → Lawful (rules.notes note stage s then continues) s.progress
notes-lawful note stage s is =
    let next : Submitter = record s { progress = record s.progress { stage = stage } } in
    ap (option_and_then (notes_from (said (continues next).1))) is ∙ continues-lawful next

-- ---- an answer

issues-lawful : (found : Option (List ℕ)) (body : List (List ℕ)) (s : Submitter) → s.progress.stage ≡ Fresh → Lawful (issues found body s) s.progress
issues-lawful None body s is = refl
issues-lawful (Some id) body s is = notes-lawful (Issued (present s) id) (Ticket id) s (next-issued s.progress id is)

either : (b : Bool) (t u : Turn) (p : Progress) → Lawful t p → Lawful u p → Lawful (cond {A = Turn} b t u) p
either true t u p a b = a
either false t u p a b = b

pends-lawful : (s : Submitter) → Lawful (pends s) s.progress
pends-lawful s = either (nat_lt (s.polled + 1) s.polls) (stays (record s { polled = s.polled + 1; paused = Some 0 })) (stops (rules.NoReply (present s)) s) s.progress refl refl

gives-lawful : (id : List ℕ) (reply : List (List ℕ)) (s : Submitter) → s.progress.stage ≡ Ticket id → Lawful (gives id reply s) s.progress
gives-lawful id reply s is = notes-lawful (Given (present s)) (Delivered id) s (next-given s.progress id is)

closes-lawful : (id : List ℕ) (s : Submitter) → s.progress.stage ≡ Delivered id → Lawful (closes s) s.progress
closes-lawful id s is = ap (option_and_then (notes_from [])) (next-closed s.progress id is)

answers-lawful : (stage : Stage) (body : List (List ℕ)) (s : Submitter) → s.progress.stage ≡ stage → Lawful (answers stage body s) s.progress
answers-lawful Fresh body s is = issues-lawful (id_answered body) body s is
answers-lawful (Ticket id) body s is =
    either (is_code (codes "300") body) (pends s) (cond {A = Turn} (is_code (codes "200") body) (gives id (behind_code body) s) (refuses body s)) s.progress (pends-lawful s)
    (either (is_code (codes "200") body) (gives id (behind_code body) s) (refuses body s) s.progress (gives-lawful id (behind_code body) s is) refl)
answers-lawful (Delivered id) body s is = either (is_code (codes "200") body) (closes s) (refuses body s) s.progress (closes-lawful id s is) refl

answered-lawful : (o : Option (List ℕ)) (body : List (List ℕ)) (s : Submitter) → Lawful (answers_at o body s) s.progress
answered-lawful None body s = refl
answered-lawful (Some line) body s = answers-lawful s.progress.stage body s refl

-- ---- an event

act-lawful : (a : Act) (s : Submitter) → Lawful (acts a s) s.progress
act-lawful (act.Write text) s = refl
act-lawful act.Reopen s = refl
act-lawful (act.Part body) s = refl
act-lawful (act.Done body) s = answered-lawful s.line body s
act-lawful act.Served s = refl
act-lawful act.Finished s = refl
act-lawful act.NoAnswer s = refl

behind-lawful : (more : Submitter → Turn) (b : Bool) (t : Turn) (p : Progress) → Lawful t p → ((s : Submitter) → Lawful (more s) s.progress) → Lawful (behind more b t) p
behind-lawful more true t p a f = a
behind-lawful more false t p a f = then-lawful t more p a (f t.0)

sweep-lawful : (list : List Act) (s : Submitter) → Lawful (sweep list s) s.progress
sweep-lawful [] s = refl
sweep-lawful (a ∷ list) s = behind-lawful (sweep list) (list_any is_end (acts a s).1) (acts a s) s.progress (act-lawful a s) (λ t. sweep-lawful list t)

wakes-lawful : (o : Option ℕ) (s : Submitter) → Lawful (wakes o s) s.progress
wakes-lawful None s = refl
wakes-lawful (Some n) s = either (nat_lt n 10) (stays s) (continues s) s.progress refl (continues-lawful s)

counts-keep : (e : LinkEvent) (s : Submitter) → (counts e s).progress ≡ s.progress
counts-keep (event.Given piece) s = refl
counts-keep event.Idle s = refl
counts-keep event.End s = refl

happens-lawful : (e : LinkEvent) (s : Submitter) → Lawful (happens e s) s.progress
happens-lawful e s =
    let t = client.steps e s.client in
    let from : Submitter = record (counts e s) { client = t.0 } in
    let swept = sweep t.1 from in
    subst (λ (p : Progress). Lawful (swept then wakes_up) p) (counts-keep e s)
    (then-lawful swept wakes_up from.progress (sweep-lawful t.1 from) (wakes-lawful swept.0.paused swept.0))

-- ---- calls

does-lawful : (call : Call) (s : Submitter) → Lawful (does call s) s.progress
does-lawful (Line line) s =
    either (nat_le (s.lines + 1) s.progress.closed) (stays (record s { lines = s.lines + 1 })) (goes_on line (record s { lines = s.lines + 1; line = Some line; polled = 0 })) s.progress refl
    (goes-on-lawful line (record s { lines = s.lines + 1; line = Some line; polled = 0 }))
does-lawful (Gives e) s = happens-lawful e s
does-lawful Ends s = refl

pub turns-are-lawful : TurnsAreLawful
turns-are-lawful call s = either s.over (stays s) (does call s) s.progress refl (does-lawful call s)
