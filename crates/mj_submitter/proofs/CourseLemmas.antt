-- The submitter's code, rule by rule.
use Rattle.std.proofs.Common.{◌≡◌, ℕ, ◌+◌, ◌<◌, Bool, true, false, List, [], ◌∷◌, ◌++◌, map, take, drop, length, get_or, Option, None, Some, is_some, refl, sym, ap, subst, ◌∙◌, append_assoc, append-nil, cond}
use Rattle.std.proofs.lemmas.Bool.{false≢true}
use Rattle.std.proofs.lemmas.List.{take_more}
use Rattle.std.specs.Prelude.{codes, nat_le, nat_lt}
use Rattle.std.specs.List.{list_any}
use Rattle.mj_base.specs.declared.link.LinkEvent.{LinkEvent}
use Rattle.mj_base.specs.declared.link.LinkEvent.TheVariants as event
use Rattle.mj_base.specs.declared.version.Version.TheVariants.{One}
use Rattle.mj_peer.specs.ClientEndRules as client
use Rattle.mj_peer.specs.ClientEndRules.{Client}
use Rattle.mj_peer.specs.ClientStands as ends
use Rattle.mj_peer.specs.declared.act.Act.{Act}
use Rattle.mj_peer.specs.declared.act.Act.TheVariants as act
use Rattle.mj_peer.specs.declared.client_end.ClientEnd.{ClientEnd}
use Rattle.mj_peer.specs.declared.session.Session.{Session}
use Rattle.mj_submit.specs.SubmitRules as rules
use Rattle.mj_submit.specs.SubmitRules.{Acts, Asks, Doing, Notes, Prints, Question, Turn, acts, answers, answers_at, behind, body_of, continues, counts, doing, gives, goes_on_with, happens, is_end, Takes, behind_code, closes, goes_on, id_answered, is_code, issues, notes, pends, question_at, refuses, reopening, service_of, stays, sweep, takes, wakes, wakes_up, ◌then◌}
use Rattle.mj_submit.specs.declared.note.Note.{Note}
use Rattle.mj_submit.specs.declared.note.Note.TheVariants.{Issued, Given, Closed}
use Rattle.mj_submit.specs.declared.progress.Stage.{Stage}
use Rattle.mj_submit.specs.declared.progress.Stage.TheVariants.{Fresh, Ticket, Delivered}
use Rattle.mj_submitter.specs.Courses.{Does, Follows, FollowsTo, IsClient, Restarts, Stands, act_effects, effects, effects_of, effects_of_act, ends_call, quiet_by, service_at, with_client}
use Rattle.mj_submitter.specs.declared.effect.Effect.{Effect}
use Rattle.mj_submitter.specs.declared.effect.Effect.TheVariants as effect
use Rattle.mj_submitter.specs.declared.submitter.Submitter.{Submitter}

-- ---- effects

effects-append : (xs ys : List Doing) → effects (xs ++ ys) ≡ effects xs ++ effects ys
effects-append [] ys = refl
effects-append (x ∷ xs) ys = ap (λ (l : List Effect). effects_of x ++ l) (effects-append xs ys) ∙ sym (append_assoc (effects_of x) (effects xs) (effects ys))

effects-acts : (list : List Act) → effects (map Acts list) ≡ act_effects list
effects-acts [] = refl
effects-acts (a ∷ list) = ap (λ (l : List Effect). effects_of_act a ++ l) (effects-acts list)

pub acts-push : (list : List Act) (a : Act) → act_effects (list ++ a ∷ []) ≡ act_effects list ++ effects_of_act a
acts-push [] a = append-nil (effects_of_act a)
acts-push (b ∷ list) a = ap (λ (l : List Effect). effects_of_act b ++ l) (acts-push list a) ∙ sym (append_assoc (effects_of_act b) (act_effects list) (effects_of_act a))

-- ---- one turn and the next

pub then-does : (mid now : Submitter) (before between after : List Effect) (t : Turn) (more : rules.Submitter → Turn) → Does mid before between t → Follows mid now between after more → Does now before after (t then more)
then-does mid now before between after t more d f =
    let e = f t.0.client d.stands.client in
    let e2 : Does now between after (more t.0) = subst (λ (s : rules.Submitter). Does now between after (more s)) (sym d.stands.fields) e in
    record {
      stands = e2.stands;
      effects_are = e2.effects_are ∙ ap (λ (l : List Effect). l ++ effects (more t.0).1) d.effects_are ∙ append_assoc before (effects t.1) (effects (more t.0).1)
          ∙ ap (λ (l : List Effect). before ++ l) (sym (effects-append t.1 (more t.0).1));
    }

pub doing-does : (now : Submitter) (before between after : List Effect) (d : Doing) (t : Turn) → between ≡ before ++ effects_of d → Does now between after t → Does now before after (doing d t)
doing-does now before between after d t is does = record {
  stands = does.stands;
  effects_are = does.effects_are ∙ ap (λ (l : List Effect). l ++ effects t.1) is ∙ append_assoc before (effects_of d) (effects t.1);
}

-- the same, where the next one looks at no client
then-restarts : (now : Submitter) (before between after : List Effect) (t : Turn) (more : rules.Submitter → Turn) → between ≡ before ++ effects t.1 → Does now between after (more t.0) → Does now before after (t then more)
then-restarts now before between after t more said e = record {
  stands = e.stands;
  effects_are = e.effects_are ∙ ap (λ (l : List Effect). l ++ effects (more t.0).1) said ∙ append_assoc before (effects t.1) (effects (more t.0).1)
      ∙ ap (λ (l : List Effect). before ++ l) (sym (effects-append t.1 (more t.0).1));
}

-- only how far the line at work is has changed
abbrev pub staged : Submitter → Stage → Client → rules.Submitter
staged old stage k = record (with_client old k) { progress = record old.progress { stage = stage } }

notes-then : (old now : Submitter) (note : Note) (stage : Stage) (before between after : List Effect) (k : Client) → between ≡ before ++ effect.Note note ∷ [] → Does now between after (continues (staged old stage k)) → Does now before after (notes note stage (with_client old k) then continues)
notes-then old now note stage before between after k is d = then-restarts now before between after (notes note stage (with_client old k)) continues is d

-- ---- a call begins

service-is : (stage : Stage) (name line : List ℕ) → service_at stage ≡ service_of (question_at stage name line)
service-is Fresh name line = refl
service-is (Ticket id) name line = refl
service-is (Delivered id) name line = refl

-- a call has begun: there is another client, and nothing is waited for
pub record HasBegun (old now : Submitter) (new : ClientEnd) : Type 0 where
  pub fields : (k : Client) → record (with_client old k) { first = false; paused = None } ≡ with_client now k
  pub client : now.client ≡ new

pub begins : (old now : Submitter) (line service : List ℕ) (body : List (List ℕ)) (e : Session) (new : ClientEnd) (list : List Act) (before between after : List Effect)
    → HasBegun old now new → old.line ≡ Some line → body ≡ body_of (question_at old.progress.stage old.name line) → service ≡ service_at old.progress.stage
    → ends.Stands e (client.fresh One service old.tries old.wait) → ends.Follows e new.session [] list (client.asks body)
    → between ≡ before ++ effects (reopening old.first) → after ≡ between ++ act_effects list
    → Restarts old now before after continues
begins old now line service body e new list before between after begun line_is body_is service_is stands follows opening said k =
    let q = question_at old.progress.stage old.name line in
    let t = client.asks (body_of q) (client.fresh One (service_of q) old.tries old.wait) in
    let same : service ≡ service_of q = service_is ∙ service-is old.progress.stage old.name line in
    let does : ends.Does new.session [] list t =
    subst (λ (b : List (List ℕ)). ends.Does new.session [] list (client.asks b (client.fresh One (service_of q) old.tries old.wait))) body_is
    (subst (λ (s : List ℕ). ends.Does new.session [] list (client.asks body (client.fresh One s old.tries old.wait))) same (follows (client.fresh One service old.tries old.wait) stands)) in
    subst (λ (o : Option (List ℕ)). Does now before after (goes_on_with o (with_client old k))) (sym line_is)
    (record {
      stands = record { client = λ working. subst (λ (c : ClientEnd). ends.Stands c.session t.0) (sym begun.client) does.stands; fields = begun.fields t.0 };
      effects_are = said ∙ ap (λ (l : List Effect). l ++ act_effects list) opening ∙ append_assoc before (effects (reopening old.first)) (act_effects list)
          ∙ ap (λ (l : List Effect). before ++ l)
          (ap (λ (l : List Effect). effects (reopening old.first) ++ l) (ap act_effects does.acts ∙ sym (effects-acts t.1)) ∙ sym (effects-append (reopening old.first) (map Acts t.1)));
    })

-- ---- a sweep

pub record SoFar (whole : Turn) (rest : List Act) (now : Submitter) (before after : List Effect) : Type 0 where
  pub mid : rules.Submitter
  pub stands : Stands now mid
  pub state : (sweep rest mid).0 ≡ whole.0
  pub said : after ++ effects (sweep rest mid).1 ≡ before ++ effects whole.1

pub sweep-begins : (list : List Act) (now : Submitter) (before : List Effect) (k : Client) → IsClient now k → SoFar (sweep list (with_client now k)) list now before before
sweep-begins list now before k is = record { mid = with_client now k; stands = record { client = is; fields = refl }; state = refl; said = refl }

goes-on : (whole t : Turn) (rest : List Act) (b : Bool) (before now next : List Effect) → b ≡ false → next ≡ now ++ effects t.1 → (behind (sweep rest) b t).0 ≡ whole.0 → now ++ effects (behind (sweep rest) b t).1 ≡ before ++ effects whole.1
    → ((sweep rest t.0).0 ≡ whole.0) × (next ++ effects (sweep rest t.0).1 ≡ before ++ effects whole.1)
goes-on whole t rest true before now next b_is is state said = absurd (false≢true (sym b_is))
goes-on whole t rest false before now next b_is is state said = (
  state,
  ap (λ (l : List Effect). l ++ effects (sweep rest t.0).1) is ∙ append_assoc now (effects t.1) (effects (sweep rest t.0).1)
      ∙ ap (λ (l : List Effect). now ++ l) (sym (effects-append t.1 (sweep rest t.0).1)) ∙ said,
)

goes-no-more : (whole t : Turn) (rest : List Act) (b : Bool) (before now next : List Effect) → b ≡ true → next ≡ now ++ effects t.1 → (behind (sweep rest) b t).0 ≡ whole.0 → now ++ effects (behind (sweep rest) b t).1 ≡ before ++ effects whole.1
    → (t.0 ≡ whole.0) × (next ≡ before ++ effects whole.1)
goes-no-more whole t rest true before now next b_is is state said = (state, is ∙ said)
goes-no-more whole t rest false before now next b_is is state said = absurd (false≢true b_is)

pub sweep-goes : (whole : Turn) (a : Act) (rest : List Act) (now next : Submitter) (before between after : List Effect) → SoFar whole (a ∷ rest) now before between → FollowsTo false now next between after (acts a) → SoFar whole rest next before after
sweep-goes whole a rest now next before between after h f =
    let m = with_client now h.mid.client in
    let d = f h.mid.client h.stands.client in
    let state : (sweep (a ∷ rest) m).0 ≡ whole.0 = subst (λ (s : rules.Submitter). (sweep (a ∷ rest) s).0 ≡ whole.0) h.stands.fields h.state in
    let said : between ++ effects (sweep (a ∷ rest) m).1 ≡ before ++ effects whole.1 = subst (λ (s : rules.Submitter). between ++ effects (sweep (a ∷ rest) s).1 ≡ before ++ effects whole.1) h.stands.fields h.said in
    let g = goes-on whole (acts a m) rest (list_any is_end (acts a m).1) before between after (sym d.1) d.0.effects_are state said in
    record { mid = (acts a m).0; stands = d.0.stands; state = g.0; said = g.1 }

pub sweep-stops : (whole : Turn) (a : Act) (rest : List Act) (now next : Submitter) (before between after : List Effect) → SoFar whole (a ∷ rest) now before between → FollowsTo true now next between after (acts a) → Does next before after whole
sweep-stops whole a rest now next before between after h f =
    let m = with_client now h.mid.client in
    let d = f h.mid.client h.stands.client in
    let state : (sweep (a ∷ rest) m).0 ≡ whole.0 = subst (λ (s : rules.Submitter). (sweep (a ∷ rest) s).0 ≡ whole.0) h.stands.fields h.state in
    let said : between ++ effects (sweep (a ∷ rest) m).1 ≡ before ++ effects whole.1 = subst (λ (s : rules.Submitter). between ++ effects (sweep (a ∷ rest) s).1 ≡ before ++ effects whole.1) h.stands.fields h.said in
    let g = goes-no-more whole (acts a m) rest (list_any is_end (acts a m).1) before between after (sym d.1) d.0.effects_are state said in
    record { stands = subst (λ (s : rules.Submitter). Stands next s) g.0 d.0.stands; effects_are = g.1 }

pub sweep-is-done : (whole : Turn) (now : Submitter) (before after : List Effect) → SoFar whole [] now before after → Does now before after whole
sweep-is-done whole now before after h = record {
  stands = subst (λ (s : rules.Submitter). Stands now s) h.state h.stands;
  effects_are = sym (append-nil after) ∙ h.said;
}

-- ---- an event

counted : (e : LinkEvent) (s : rules.Submitter) → record s { paused = quiet_by e s.paused } ≡ counts e s
counted (event.Given piece) s = refl
counted event.Idle s = refl
counted event.End s = refl

-- the call's end was told, and what it gives is done
abbrev pub Sweeps : Submitter → ClientEnd → Submitter → List Effect → List Effect → List Act → Type 0
Sweeps old new now before after list = (k : Client) → (is_some old.line ≡ true → ends.Stands new.session k) → Does now before after (sweep list (with_client old k))

met-from : (old mid swept now : Submitter) (e : LinkEvent) (new : ClientEnd) (list : List Act) (before between after : List Effect) → is_some old.line ≡ true → ends.Follows old.client.session new.session [] list (client.steps e)
    → ((k : Client) → record (with_client old k) { paused = quiet_by e old.paused } ≡ with_client mid k) → Sweeps mid new swept before between list → Follows swept now between after wakes_up → Follows old now before after (happens e)
met-from old mid swept now e new list before between after working follows fields sweeping waking k is =
    let t = client.steps e k in
    let d = follows k (is working) in
    let s : Does swept before between (sweep list (with_client mid t.0)) = sweeping t.0 (λ w. d.stands) in
    let s1 : Does swept before between (sweep list (record (record (with_client old k) { paused = quiet_by e old.paused }) { client = t.0 })) =
    subst (λ (x : rules.Submitter). Does swept before between (sweep list x)) (sym (fields t.0)) s in
    let s2 : Does swept before between (sweep t.1 (record (counts e (with_client old k)) { client = t.0 })) =
    subst (λ (l : List Act). Does swept before between (sweep l (record (counts e (with_client old k)) { client = t.0 }))) d.acts
    (subst (λ (x : rules.Submitter). Does swept before between (sweep list (record x { client = t.0 }))) (counted e (with_client old k)) s1) in
    then-does swept now before between after (sweep t.1 (record (counts e (with_client old k)) { client = t.0 })) wakes_up s2 waking

pub met-does : (old mid swept now : Submitter) (e : LinkEvent) (new : ClientEnd) (list acts : List Act) (before between after : List Effect) → is_some old.line ≡ true → mid ≡ record old { paused = quiet_by e old.paused } → ends.Follows mid.client.session new.session [] acts (client.steps e)
    → list ≡ acts → Sweeps mid new swept before between list → Follows swept now between after wakes_up → before ≡ [] → Follows old now [] after (happens e)
met-does old mid swept now e new list acts before between after working mid_is follows same sweeping waking none =
    let sweeping2 : Sweeps mid new swept before between acts = subst (λ (l : List Act). Sweeps mid new swept before between l) same sweeping in
    let follows2 : ends.Follows old.client.session new.session [] acts (client.steps e) = subst (λ (m : Submitter). ends.Follows m.client.session new.session [] acts (client.steps e)) mid_is follows in
    let fields : (k : Client) → record (with_client old k) { paused = quiet_by e old.paused } ≡ with_client mid k = λ k. ap (λ (m : Submitter). with_client m k) (sym mid_is) in
    subst (λ (l : List Effect). Follows old now l after (happens e)) none (met-from old mid swept now e new acts before between after working follows2 fields sweeping2 waking)

wakes-after : (old now : Submitter) (before after : List Effect) (o : Option ℕ) (n : ℕ) → o ≡ Some n → nat_lt n 10 ≡ false → Restarts old now before after continues → (k : Client) → Does now before after (wakes o (with_client old k))
wakes-after old now before after o n is late f k =
    subst (λ (p : Option ℕ). Does now before after (wakes p (with_client old k))) (sym is)
    (subst (λ (b : Bool). Does now before after (cond {A = Turn} b (with_client old k, []) (continues (with_client old k)))) (sym late) (f k))

pub wakes-late : (old now : Submitter) (before after : List Effect) (n : ℕ) → old.paused ≡ Some n → nat_lt n 10 ≡ false → Restarts old now before after continues → Follows old now before after wakes_up
wakes-late old now before after n is late f k client = wakes-after old now before after old.paused n is late f k

-- ---- a line

pub took : (old now : Submitter) (line : List ℕ) (number : ℕ) (before after : List Effect) → number ≡ old.lines + 1 → nat_le number old.progress.closed ≡ false → before ≡ []
    → ((k : Client) → Does now before after (continues (record (with_client old k) { lines = number; line = Some line; polled = 0 }))) → Follows old now [] after (takes line)
took old now line number before after number_is begun none f k client =
    let s = with_client old k in
    let first : ℕ → Turn = λ n. stays (record s { lines = n }) in
    let other : ℕ → Turn = λ n. goes_on line (record s { lines = n; line = Some line; polled = 0 }) in
    let d : Does now before after (other number) = f k in
    let d2 : Does now [] after (cond {A = Turn} (nat_le number old.progress.closed) (first number) (other number)) =
    subst (λ (b : Bool). Does now [] after (cond {A = Turn} b (first number) (other number))) (sym begun) (subst (λ (l : List Effect). Does now l after (other number)) none d) in
    let d3 : Does now [] after (cond {A = Turn} (nat_le (old.lines + 1) old.progress.closed) (first (old.lines + 1)) (other (old.lines + 1))) =
    subst (λ (n : ℕ). Does now [] after (cond {A = Turn} (nat_le n old.progress.closed) (first n) (other n))) number_is d2 in
    doing-does now [] [] after (Takes (s.lines + 1) line) (cond {A = Turn} (nat_le (old.lines + 1) old.progress.closed) (first (old.lines + 1)) (other (old.lines + 1))) refl d3

-- ---- an answer

at-work : (o : Option (List ℕ)) (body : List (List ℕ)) (s : rules.Submitter) → is_some o ≡ true → answers_at o body s ≡ answers s.progress.stage body s
at-work None body s is = absurd (false≢true is)
at-work (Some line) body s is = refl

pub hears-as : (old now : Submitter) (body : List (List ℕ)) (before after : List Effect) (ended : Bool) (stage : Stage) → is_some old.line ≡ true → old.progress.stage ≡ stage → FollowsTo ended old now before after (answers stage body) → FollowsTo ended old now before after (answers_at old.line body)
hears-as old now body before after ended stage working is f k client =
    let at = subst (λ (g : Stage). Does now before after (answers g body (with_client old k)) × (ended ≡ ends_call (answers g body (with_client old k)))) (sym is) (f k client) in
    subst (λ (t : Turn). Does now before after t × (ended ≡ ends_call t)) (sym (at-work old.line body (with_client old k) working)) at

pub issues-end : (found : Option (List ℕ)) (body : List (List ℕ)) (s : rules.Submitter) → true ≡ ends_call (issues found body s)
issues-end None body s = refl
issues-end (Some id) body s = refl

pub issued : (old now : Submitter) (found : Option (List ℕ)) (id : List ℕ) (body : List (List ℕ)) (line : ℕ) (before between after : List Effect) → found ≡ Some id → line ≡ old.progress.closed + 1 → between ≡ before ++ effect.Note (Issued line id) ∷ []
    → ((k : Client) → Does now between after (continues (staged old (Ticket id) k))) → Follows old now before after (issues found body)
issued old now found id body line before between after found_is line_is said f k client =
    let said2 : between ≡ before ++ effect.Note (Issued (old.progress.closed + 1) id) ∷ [] = said ∙ ap (λ (n : ℕ). before ++ effect.Note (Issued n id) ∷ []) line_is in
    subst (λ (o : Option (List ℕ)). Does now before after (issues o body (with_client old k))) (sym found_is)
    (notes-then old now (Issued (old.progress.closed + 1) id) (Ticket id) before between after k said2 (f k))

pub not-issued : (old now : Submitter) (found : Option (List ℕ)) (body : List (List ℕ)) (before after : List Effect) → found ≡ None → Follows old now before after (refuses body) → Follows old now before after (issues found body)
not-issued old now found body before after none f k client = subst (λ (o : Option (List ℕ)). Does now before after (issues o body (with_client old k))) (sym none) (f k client)

pub given : (old now : Submitter) (id : List ℕ) (reply : List (List ℕ)) (line : ℕ) (before first between after : List Effect) → line ≡ old.progress.closed + 1 → first ≡ before ++ effect.Print line reply ∷ [] → between ≡ first ++ effect.Note (Given line) ∷ []
    → ((k : Client) → Does now between after (continues (staged old (Delivered id) k))) → Follows old now before after (gives id reply)
given old now id reply line before first between after line_is printed said f k client =
    let printed2 : first ≡ before ++ effect.Print (old.progress.closed + 1) reply ∷ [] = printed ∙ ap (λ (n : ℕ). before ++ effect.Print n reply ∷ []) line_is in
    let said2 : between ≡ first ++ effect.Note (Given (old.progress.closed + 1)) ∷ [] = said ∙ ap (λ (n : ℕ). first ++ effect.Note (Given n) ∷ []) line_is in
    doing-does now before first after (Prints (old.progress.closed + 1) reply) (notes (Given (old.progress.closed + 1)) (Delivered id) (with_client old k) then continues) printed2
    (notes-then old now (Given (old.progress.closed + 1)) (Delivered id) first between after k said2 (f k))

-- ---- answers by their code

pub close-refused : (old now : Submitter) (body : List (List ℕ)) (before after : List Effect) → is_code (codes "200") body ≡ false → Follows old now before after (refuses body) → (id : List ℕ) → FollowsTo true old now before after (answers (Delivered id) body)
close-refused old now body before after other f id k client =
    let s = with_client old k in
    subst (λ (b : Bool). Does now before after (cond {A = Turn} b (closes s) (refuses body s)) × (true ≡ ends_call (cond {A = Turn} b (closes s) (refuses body s)))) (sym other) (f k client, refl)

pub close-done : (old now : Submitter) (body : List (List ℕ)) (before after : List Effect) → is_code (codes "200") body ≡ true → Follows old now before after closes → (id : List ℕ) → FollowsTo true old now before after (answers (Delivered id) body)
close-done old now body before after fine f id k client =
    let s = with_client old k in
    subst (λ (b : Bool). Does now before after (cond {A = Turn} b (closes s) (refuses body s)) × (true ≡ ends_call (cond {A = Turn} b (closes s) (refuses body s)))) (sym fine) (f k client, refl)

by-codes : (old now : Submitter) (id : List ℕ) (body : List (List ℕ)) (before after : List Effect) (ended first second : Bool) (k : Client) → is_code (codes "300") body ≡ first → is_code (codes "200") body ≡ second
    → (let s = with_client old k in
    let t : Turn = cond {A = Turn} first (pends s) (cond {A = Turn} second (gives id (behind_code body) s) (refuses body s)) in
    Does now before after t × (ended ≡ ends_call t)) → Does now before after (answers (Ticket id) body (with_client old k)) × (ended ≡ ends_call (answers (Ticket id) body (with_client old k)))
by-codes old now id body before after ended first second k first_is second_is d =
    let s = with_client old k in
    let p : Bool → Bool → Turn = λ a b. cond {A = Turn} a (pends s) (cond {A = Turn} b (gives id (behind_code body) s) (refuses body s)) in
    subst (λ (a : Bool). Does now before after (p a (is_code (codes "200") body)) × (ended ≡ ends_call (p a (is_code (codes "200") body)))) (sym first_is)
    (subst (λ (b : Bool). Does now before after (p first b) × (ended ≡ ends_call (p first b))) (sym second_is) d)

pub reply-pends : (old now : Submitter) (id : List ℕ) (body : List (List ℕ)) (before after : List Effect) (ended : Bool) → is_code (codes "300") body ≡ true → FollowsTo ended old now before after pends → FollowsTo ended old now before after (answers (Ticket id) body)
reply-pends old now id body before after ended is f k client = by-codes old now id body before after ended true (is_code (codes "200") body) k is refl (f k client)

pub reply-refused : (old now : Submitter) (id : List ℕ) (body : List (List ℕ)) (before after : List Effect) → is_code (codes "300") body ≡ false → is_code (codes "200") body ≡ false → Follows old now before after (refuses body) → FollowsTo true old now before after (answers (Ticket id) body)
reply-refused old now id body before after first second f k client = by-codes old now id body before after true false false k first second (f k client, refl)

pub reply-given : (old now : Submitter) (id : List ℕ) (body reply : List (List ℕ)) (before after : List Effect) → is_code (codes "300") body ≡ false → is_code (codes "200") body ≡ true → reply ≡ behind_code body → Follows old now before after (gives id reply) → FollowsTo true old now before after (answers (Ticket id) body)
reply-given old now id body reply before after first second reply_is f k client =
    by-codes old now id body before after true false true k first second (subst (λ (r : List (List ℕ)). Does now before after (gives id r (with_client old k))) reply_is (f k client), refl)

pub heard : (old now : Submitter) (body : List (List ℕ)) (before after : List Effect) (ended : Bool) → FollowsTo ended old now before after (answers_at old.line body) → FollowsTo ended old now before after (acts (act.Done body))
heard old now body before after ended f k client = let d = f k client in (record { stands = d.0.stands; effects_are = d.0.effects_are }, d.1)

pub ticket-heard : (old now : Submitter) (found : Option (List ℕ)) (body : List (List ℕ)) (before after : List Effect) → found ≡ id_answered body → Follows old now before after (issues found body) → FollowsTo true old now before after (answers Fresh body)
ticket-heard old now found body before after is f k client = (
  subst (λ (o : Option (List ℕ)). Does now before after (issues o body (with_client old k))) is (f k client),
  issues-end (id_answered body) body (with_client old k),
)

pub taken-more : (list : List Act) (i : ℕ) (a : Act) → i < length list → a ≡ get_or list i a → take (i + 1) list ≡ take i list ++ a ∷ []
taken-more list i a inside at = take_more list i a inside ∙ ap (λ (x : Act). take i list ++ x ∷ []) (sym at)
