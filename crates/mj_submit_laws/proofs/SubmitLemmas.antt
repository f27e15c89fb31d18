-- Every run of the submitter is right.
use Rattle.std.proofs.Common.{◌≡◌, ℕ, ◌+◌, ◌≤◌, ◌==◌, Bool, true, false, List, [], ◌∷◌, ◌++◌, map, refl, sym, ap, subst, ◌∙◌, cond, Option, None, Some, is_some, inl, inr, arith}
use Rattle.std.specs.Prelude.{◌⊎◌, ◌-◌, nat_lt, nat_le, codes}
use Rattle.std.proofs.lemmas.Bool.{false≢true}
use Rattle.std.proofs.lemmas.Bool.Decides.{nat_tests}
use Rattle.std.proofs.lemmas.Slice.Eq.{bytes_eq-Decides}
use Rattle.std.specs.List.{list_any}
use Rattle.mj_base.specs.declared.link.LinkEvent.{LinkEvent}
use Rattle.mj_base.specs.declared.link.LinkEvent.TheVariants as event
use Rattle.mj_ids.specs.Ids.{read_of}
use Rattle.mj_peer.specs.ClientEndRules as client
use Rattle.mj_peer.specs.ClientEndRules.{Client}
use Rattle.mj_peer.specs.declared.act.Act.{Act}
use Rattle.mj_peer.specs.declared.act.Act.TheVariants as act
use Rattle.mj_peer_laws.specs.Watching.{AreRight, seen}
use Rattle.mj_submit.specs.Notes.{noted, with_note}
use Rattle.mj_submit.specs.SubmitRules.{Acts, AreAllowed, Call, Closes, Doing, Ends, Fetches, Finishes, Gives, Hears, IsAllowed, Line, NoAnswer, NoReply, Notes, Question, Refused, Submits, Submitter, Turn, acts, answers, answers_at, asks, behind, behind_code, body_of, closes, code_of, continues, counts, does, doing, doings, fresh, gives, goes_on, goes_on_with, happens, id_alone, id_answered, is_code, is_end, issues, met, new_client, notes, pends, present, question_at, quieter, refuses, reopening, stays, stops, sweep, takes, turn_of, wakes, wakes_up, ◌then◌}
use Rattle.mj_submit.specs.declared.note.Note.{Note}
use Rattle.mj_submit.specs.declared.note.Note.TheVariants.{Issued, Given, Closed}
use Rattle.mj_submit.specs.declared.progress.Progress.{Progress}
use Rattle.mj_submit.specs.declared.progress.Stage.{Stage}
use Rattle.mj_submit.specs.declared.progress.Stage.TheVariants.{Fresh, Ticket, Delivered}
use Rattle.mj_submit_laws.specs.SubmitSights.{IsAskedRightly, IsRight, IsWritten, Scene, begins, is_given, or_same, sees}
use Rattle.mj_submit_laws.proofs.SaidLemmas.{AllSaid, IsOf, Said, Says, asks-says, steps-says}

-- what was seen is how far the submitter is
record Tied (p : Progress) (h n : ℕ) (k : Scene) : Type 0 where
  progress : k.progress ≡ p
  had : k.had ≡ h
  lines : k.lines ≡ n
  printed : is_given p.stage ≡ k.printed

-- a line is at work, and this is asked for it
record Works (q : Question) (p : Progress) (lines : ℕ) (c : Client) (k : Scene) : Type 0 where
  question : k.question ≡ Some q
  asked : IsOf q c.talk
  within : lines ≤ p.closed + 1

abbrev AtWork : Option (List ℕ) → List ℕ → Progress → ℕ → Client → Scene → Type 0
AtWork None name p lines c k = lines ≤ p.closed
AtWork (Some line) name p lines c k = Works (question_at p.stage name line) p lines c k

record Live (line : Option (List ℕ)) (name : List ℕ) (p : Progress) (had lines : ℕ) (c : Client) (k : Scene) : Type 0 where
  tied : Tied p had lines k
  work : AtWork line name p lines c k

abbrev Fits : Submitter → Scene → Type 0
Fits s k = ((s.over ≡ true) × (s.line ≡ None)) ⊎ Live s.line s.name s.progress s.had s.lines s.client k

-- what was done in a turn is right, and what the turn made is what was seen of it
record Goes (t : Turn) (k : Scene) : Type 0 where
  right : AreRight IsRight sees t.1 k
  fits : Fits t.0 (seen sees t.1 k)

-- and the same is asked for the same line
record Stays (line : List ℕ) (q : Question) (t : Turn) (k : Scene) : Type 0 where
  right : AreRight IsRight sees t.1 k
  line_is : t.0.line ≡ Some line
  asks_is : question_at t.0.progress.stage t.0.name line ≡ q
  tied : Tied t.0.progress t.0.had t.0.lines (seen sees t.1 k)
  works : Works q t.0.progress t.0.lines t.0.client (seen sees t.1 k)

abbrev Outcome : List ℕ → Question → Bool → Turn → Scene → Type 0
Outcome line q true t k = Goes t k
Outcome line q false t k = Stays line q t k

-- one list of doings behind another
right-append : (xs ys : List Doing) (k : Scene) → AreRight IsRight sees xs k → AreRight IsRight sees ys (seen sees xs k) → AreRight IsRight sees (xs ++ ys) k
right-append [] ys k a b = b
right-append (x ∷ xs) ys k a b = (a.0, right-append xs ys (sees x k) a.1 b)

seen-append : (xs ys : List Doing) (k : Scene) → seen sees (xs ++ ys) k ≡ seen sees ys (seen sees xs k)
seen-append [] ys k = refl
seen-append (x ∷ xs) ys k = seen-append xs ys (sees x k)

then-goes : (t : Turn) (more : Submitter → Turn) (k : Scene) → AreRight IsRight sees t.1 k → Goes (more t.0) (seen sees t.1 k) → Goes (t then more) k
then-goes t more k right g = record {
  right = right-append t.1 (more t.0).1 k right g.right;
  fits = subst (λ (x : Scene). Fits (more t.0).0 x) (sym (seen-append t.1 (more t.0).1 k)) g.fits;
}

-- a line that stays at work
at-work : (line : List ℕ) (q : Question) (s : Submitter) (k : Scene) → s.line ≡ Some line → question_at s.progress.stage s.name line ≡ q → Tied s.progress s.had s.lines k → Works q s.progress s.lines s.client k
    → Fits s k
at-work line q s k e is tied works =
    inr
    (subst (λ (o : Option (List ℕ)). Live o s.name s.progress s.had s.lines s.client k) (sym e)
    (record { tied = tied; work = subst (λ (x : Question). Works x s.progress s.lines s.client k) (sym is) works }))

behind-goes : (line : List ℕ) (q : Question) (more : Submitter → Turn) (b : Bool) (t : Turn) (k : Scene) → Outcome line q b t k
    → ((x : Scene) → t.0.line ≡ Some line → question_at t.0.progress.stage t.0.name line ≡ q → Tied t.0.progress t.0.had t.0.lines x → Works q t.0.progress t.0.lines t.0.client x → Goes (more t.0) x)
    → Goes (behind more b t) k
behind-goes line q more true t k o h = o
behind-goes line q more false t k o h = then-goes t more k o.right (h (seen sees t.1 k) o.line_is o.asks_is o.tied o.works)

-- ---- numbers

same-number : (n : ℕ) → (n == n) ≡ true
same-number n = grind (arith, nat_tests)

le-of : (a b : ℕ) → nat_le a b ≡ true → a ≤ b
le-of a b e = grind (arith, nat_tests)

le-more : (a b : ℕ) → a ≤ b → a + 1 ≤ b + 1
le-more a b e = omega (arith, e)

-- ---- what a client's end says

written : (q : Question) (a : Act) (o : Option Question) → o ≡ Some q → Said q a → IsWritten a o
written q a o e s = subst (λ (x : Option Question). IsWritten a x) (sym e) s

acts-right : (q : Question) (said-acts : List Act) (k : Scene) → k.question ≡ Some q → AllSaid q said-acts → AreRight IsRight sees (map Acts said-acts) k
acts-right q [] k e s = tt
acts-right q (a ∷ more) k e s = (written q a k.question e s.0, acts-right q more k e s.1)

acts-seen : (said-acts : List Act) (k : Scene) → seen sees (map Acts said-acts) k ≡ k
acts-seen [] k = refl
acts-seen (a ∷ more) k = acts-seen more k

-- ---- a call begins

opening-right : (first : Bool) (ds : List Doing) (k : Scene) → AreRight IsRight sees ds k → AreRight IsRight sees (reopening first ++ ds) k
opening-right true ds k r = r
opening-right false ds k r = (tt, r)

opening-seen : (first : Bool) (ds : List Doing) (k : Scene) → seen sees (reopening first ++ ds) k ≡ seen sees ds k
opening-seen true ds k = refl
opening-seen false ds k = refl

asks-goes : (line : List ℕ) (q : Question) (s : Submitter) (k : Scene) → s.line ≡ Some line → question_at s.progress.stage s.name line ≡ q → Tied s.progress s.had s.lines k → s.lines ≤ s.progress.closed + 1
    → IsAskedRightly q k → Goes (asks q s) k
asks-goes line q s k e is tied within rightly =
    let t = client.asks (body_of q) (new_client q s.tries s.wait) in
    let says = asks-says q s.tries s.wait in
    let x : Scene = record k { question = Some q } in
    let same : seen sees (reopening s.first ++ map Acts t.1) x ≡ x = opening-seen s.first (map Acts t.1) x ∙ acts-seen t.1 x in
    let after : Submitter = record s { client = t.0; first = false; paused = None } in
    record {
      right = (rightly, opening-right s.first (map Acts t.1) x (acts-right q t.1 x refl says.said));
      fits = subst (λ (y : Scene). Fits after y) (sym same)
          (at-work line q after x e is (record { progress = tied.progress; had = tied.had; lines = tied.lines; printed = tied.printed }) (record { question = refl; asked = says.of; within = within }));
    }

asked-rightly : (name line : List ℕ) (k : Scene) (stage : Stage) → k.progress.stage ≡ stage → is_given stage ≡ k.printed → IsAskedRightly (question_at stage name line) k
asked-rightly name line k Fresh e g = e
asked-rightly name line k (Ticket id) e g = e
asked-rightly name line k (Delivered id) e g = (e, sym g)

goes-on : (line : List ℕ) (s : Submitter) (k : Scene) → s.line ≡ Some line → Tied s.progress s.had s.lines k → s.lines ≤ s.progress.closed + 1 → Goes (goes_on line s) k
goes-on line s k e tied within =
    asks-goes line (question_at s.progress.stage s.name line) s k e refl tied within (asked-rightly s.name line k s.progress.stage (ap (λ (p : Progress). p.stage) tied.progress) tied.printed)

continues-on : (line : List ℕ) (s : Submitter) (k : Scene) → s.line ≡ Some line → Tied s.progress s.had s.lines k → s.lines ≤ s.progress.closed + 1 → Goes (continues s) k
continues-on line s k e tied within = subst (λ (o : Option (List ℕ)). Goes (goes_on_with o s) k) (sym e) (goes-on line s k e tied within)

rests : (s : Submitter) (k : Scene) → Fits s k → Goes (stays s) k
rests s k f = record { right = tt; fits = f }

continues-goes : (s : Submitter) (k : Scene) → Fits s k → Goes (continues s) k
continues-goes s k (inl o) = subst (λ (x : Option (List ℕ)). Goes (goes_on_with x s) k) (sym o.1) (rests s k (inl o))
continues-goes s k (inr l) = of s.line refl l
  where
    of : (o : Option (List ℕ)) → s.line ≡ o → Live o s.name s.progress s.had s.lines s.client k → Goes (goes_on_with o s) k
    of None e v = rests s k (inr (subst (λ (x : Option (List ℕ)). Live x s.name s.progress s.had s.lines s.client k) (sym e) v))
    of (Some line) e v = goes-on line s k e v.tied v.work.within

-- ---- answers

stops-goes : (d : Doing) (s : Submitter) (k : Scene) → IsRight d k → Goes (stops d s) k
stops-goes d s k r = record { right = (r, tt); fits = inl (refl, refl) }

present-is : (s : Submitter) (k : Scene) → k.progress ≡ s.progress → present s ≡ k.progress.closed + 1
present-is s k e = ap (λ (p : Progress). p.closed + 1) (sym e)

refuses-goes : (body : List (List ℕ)) (s : Submitter) (k : Scene) → k.progress ≡ s.progress → Goes (refuses body s) k
refuses-goes body s k e = stops-goes (Refused (present s) (code_of body)) s k (present-is s k e)

-- the file behind a record that is the next one
pub next-issued : (p : Progress) (line : ℕ) (id : List ℕ) → line ≡ p.closed + 1 → p.stage ≡ Fresh → with_note p (Issued line id) ≡ Some (record p { stage = Ticket id })
next-issued p line id n e =
    ap (λ (x : Stage). noted (Issued line id) x p) e
    ∙ ap (λ (m : ℕ). cond (m == p.closed + 1) (Some (record p { stage = Ticket id })) None) n
    ∙ ap (λ (b : Bool). cond b (Some (record p { stage = Ticket id })) None) (same-number (p.closed + 1))

pub next-given : (p : Progress) (line : ℕ) (id : List ℕ) → line ≡ p.closed + 1 → p.stage ≡ Ticket id → with_note p (Given line) ≡ Some (record p { stage = Delivered id })
next-given p line id n e =
    ap (λ (x : Stage). noted (Given line) x p) e
    ∙ ap (λ (m : ℕ). cond (m == p.closed + 1) (Some (record p { stage = Delivered id })) None) n
    ∙ ap (λ (b : Bool). cond b (Some (record p { stage = Delivered id })) None) (same-number (p.closed + 1))

abbrev pub line_closed : Progress → Progress
line_closed p = record { closed = p.closed + 1; stage = Fresh }

pub next-closed : (p : Progress) (line : ℕ) (id : List ℕ) → line ≡ p.closed + 1 → p.stage ≡ Delivered id → with_note p (Closed line) ≡ Some (line_closed p)
next-closed p line id n e =
    ap (λ (x : Stage). noted (Closed line) x p) e
    ∙ ap (λ (m : ℕ). cond (m == p.closed + 1) (Some (line_closed p)) None) n
    ∙ ap (λ (b : Bool). cond b (Some (line_closed p)) None) (same-number (p.closed + 1))

-- the same of what was seen
seen-note : (note : Note) (p q : Progress) (k : Scene) → k.progress ≡ p → with_note p note ≡ Some q → or_same k.progress (with_note k.progress note) ≡ q
seen-note note p q k e is = ap (λ (x : Progress). or_same x (with_note x note)) e ∙ ap (λ (o : Option Progress). or_same p o) is

coded : (code : List ℕ) (body : List (List ℕ)) → is_code code body ≡ true → body ≡ code ∷ behind_code body
coded code [] e = absurd (false≢true e)
coded code (first ∷ rest) e = ap (λ (x : List ℕ). x ∷ rest) ((bytes_eq-Decides first code).0 e)

record IsIdAnswer (id : List ℕ) (body : List (List ℕ)) : Type 0 where
  text : List ℕ
  is : body ≡ codes "200" ∷ text ∷ []
  reads : read_of text ≡ Some id

none-some : (id : List ℕ) → None ≡ Some id → ⊥
none-some id e = false≢true (ap is_some e)

id-answer : (id : List ℕ) (body : List (List ℕ)) → id_answered body ≡ Some id → IsIdAnswer id body
id-answer id body e = by (is_code (codes "200") body) refl e
  where
    alone : (rest : List (List ℕ)) → body ≡ codes "200" ∷ rest → id_alone rest ≡ Some id → IsIdAnswer id body
    alone [] is a = absurd (none-some id a)
    alone (text ∷ []) is a = record { text = text; is = is; reads = a }
    alone (text ∷ next ∷ rest) is a = absurd (none-some id a)

    by : (b : Bool) → is_code (codes "200") body ≡ b → cond b (id_alone (behind_code body)) None ≡ Some id → IsIdAnswer id body
    by true c a = alone (behind_code body) (coded (codes "200") body c) a
    by false c a = absurd (none-some id a)

-- at work on a line that is so far, with an answer
record Answered (line : List ℕ) (body : List (List ℕ)) (stage : Stage) (s : Submitter) (k : Scene) : Type 0 where
  line_is : s.line ≡ Some line
  stage_is : s.progress.stage ≡ stage
  tied : Tied s.progress s.had s.lines k
  works : Works (question_at stage s.name line) s.progress s.lines s.client k
  answer : k.answer ≡ Some body

stage-seen : (s : Submitter) (k : Scene) (stage : Stage) → k.progress ≡ s.progress → s.progress.stage ≡ stage → k.progress.stage ≡ stage
stage-seen s k stage e is = ap (λ (p : Progress). p.stage) e ∙ is

issues-goes : (line : List ℕ) (found : Option (List ℕ)) (body : List (List ℕ)) (s : Submitter) (k : Scene) → Answered line body Fresh s k → id_answered body ≡ found → Goes (issues found body s) k
issues-goes line None body s k a e = refuses-goes body s k a.tied.progress
issues-goes line (Some id) body s k a e =
    let got = id-answer id body e in
    let now : Submitter = record s { progress = record s.progress { stage = Ticket id } } in
    let x : Scene = sees (Notes (Issued (present s) id)) k in
    then-goes (notes (Issued (present s) id) (Ticket id) s) continues k
    ((present-is s k a.tied.progress, (stage-seen s k Fresh a.tied.progress a.stage_is, (s.name, line, a.works.question), (got.text, a.answer ∙ ap Some got.is, got.reads))), tt)
    (continues-on line now x a.line_is
    (record {
      progress = seen-note (Issued (present s) id) s.progress (record s.progress { stage = Ticket id }) k a.tied.progress (next-issued s.progress (present s) id refl a.stage_is);
      had = a.tied.had;
      lines = a.tied.lines;
      printed = sym (ap is_given a.stage_is) ∙ a.tied.printed;
    })
    a.works.within)

pends-goes : (line id : List ℕ) (body : List (List ℕ)) (s : Submitter) (k : Scene) → Answered line body (Ticket id) s k → (b : Bool)
    → Outcome line (Fetches id) (list_any is_end (cond {A = Turn} b (stays (record s { polled = s.polled + 1; paused = Some 0 })) (stops (NoReply (present s)) s)).1) (cond {A = Turn} b (stays (record s { polled = s.polled + 1; paused = Some 0 })) (stops (NoReply (present s)) s)) k
pends-goes line id body s k a true = record {
  right = tt;
  line_is = a.line_is;
  asks_is = ap (λ (x : Stage). question_at x s.name line) a.stage_is;
  tied = a.tied;
  works = a.works;
}
pends-goes line id body s k a false = stops-goes (NoReply (present s)) s k (present-is s k a.tied.progress)

gives-goes : (line id : List ℕ) (body : List (List ℕ)) (s : Submitter) (k : Scene) → Answered line body (Ticket id) s k → is_code (codes "200") body ≡ true → Goes (gives id (behind_code body) s) k
gives-goes line id body s k a e =
    let y : Scene = record k { printed = true } in
    let now : Submitter = record s { progress = record s.progress { stage = Delivered id } } in
    let x : Scene = sees (Notes (Given (present s))) y in
    let ticket = stage-seen s k (Ticket id) a.tied.progress a.stage_is in
    let more = then-goes (notes (Given (present s)) (Delivered id) s) continues y
    ((present-is s k a.tied.progress, ((id, ticket), refl)), tt)
    (continues-on line now x a.line_is
    (record {
      progress = seen-note (Given (present s)) s.progress (record s.progress { stage = Delivered id }) y a.tied.progress (next-given s.progress (present s) id refl a.stage_is);
      had = a.tied.had;
      lines = a.tied.lines;
      printed = refl;
    })
    a.works.within) in
    record {
      right = (
        record {
          id = id;
          ticket = ticket;
          asked = a.works.question;
          present = present-is s k a.tied.progress;
          once = sym a.tied.printed ∙ ap is_given a.stage_is;
          answered = a.answer ∙ ap Some (coded (codes "200") body e);
        },
        more.right,
      );
      fits = more.fits;
    }

closes-goes : (line id : List ℕ) (body : List (List ℕ)) (s : Submitter) (k : Scene) → Answered line body (Delivered id) s k → is_code (codes "200") body ≡ true → Goes (closes s) k
closes-goes line id body s k a e = record {
  right = (
    (present-is s k a.tied.progress, ((id, stage-seen s k (Delivered id) a.tied.progress a.stage_is, a.works.question), sym a.tied.printed ∙ ap is_given a.stage_is, (behind_code body, a.answer ∙ ap Some (coded (codes "200") body e)))),
    tt,
  );
  fits = inr
      (record {
        tied = record {
          progress = seen-note (Closed (present s)) s.progress (record { closed = s.progress.closed + 1; stage = Fresh }) k a.tied.progress (next-closed s.progress (present s) id refl a.stage_is);
          had = a.tied.had;
          lines = a.tied.lines;
          printed = refl;
        };
        work = a.works.within;
      });
}

ends-with-question : (b : Bool) (line : List ℕ) (q : Question) (t : Turn) (k : Scene) → b ≡ true → Goes t k → Outcome line q b t k
ends-with-question b line q t k e g = subst (λ (x : Bool). Outcome line q x t k) (sym e) g

issues-end : (found : Option (List ℕ)) (body : List (List ℕ)) (s : Submitter) → list_any is_end (issues found body s).1 ≡ true
issues-end None body s = refl
issues-end (Some id) body s = refl

answers-goes : (line : List ℕ) (body : List (List ℕ)) (s : Submitter) (k : Scene) (stage : Stage) → Answered line body stage s k
    → Outcome line (question_at stage s.name line) (list_any is_end (answers stage body s).1) (answers stage body s) k
answers-goes line body s k Fresh a =
    ends-with-question (list_any is_end (issues (id_answered body) body s).1) line (Submits s.name line) (issues (id_answered body) body s) k (issues-end (id_answered body) body s)
    (issues-goes line (id_answered body) body s k a refl)
answers-goes line body s k (Ticket id) a = by (is_code (codes "300") body) (is_code (codes "200") body) refl
  where
    by : (b d : Bool) → is_code (codes "200") body ≡ d
        → Outcome line (Fetches id) (list_any is_end (cond {A = Turn} b (pends s) (cond {A = Turn} d (gives id (behind_code body) s) (refuses body s))).1) (cond {A = Turn} b (pends s) (cond {A = Turn} d (gives id (behind_code body) s) (refuses body s))) k
    by true d e = pends-goes line id body s k a (nat_lt (s.polled + 1) s.polls)
    by false true e = gives-goes line id body s k a e
    by false false e = refuses-goes body s k a.tied.progress
answers-goes line body s k (Delivered id) a = by (is_code (codes "200") body) refl
  where
    by : (d : Bool) → is_code (codes "200") body ≡ d
        → Outcome line (Closes id) (list_any is_end (cond {A = Turn} d (closes s) (refuses body s)).1) (cond {A = Turn} d (closes s) (refuses body s)) k
    by true e = closes-goes line id body s k a e
    by false e = refuses-goes body s k a.tied.progress

-- ---- acts of the client's end

hears-goes : (line : List ℕ) (q : Question) (body : List (List ℕ)) (b : Bool) (t : Turn) (k : Scene) → Outcome line q b t (record k { answer = Some body }) → Outcome line q b (doing (Hears body) t) k
hears-goes line q body true t k g = record { right = (tt, g.right); fits = g.fits }
hears-goes line q body false t k g = record { right = (tt, g.right); line_is = g.line_is; asks_is = g.asks_is; tied = g.tied; works = g.works }

act-goes : (line : List ℕ) (q : Question) (a : Act) (s : Submitter) (k : Scene) → Said q a → s.line ≡ Some line → question_at s.progress.stage s.name line ≡ q
    → Tied s.progress s.had s.lines k → Works q s.progress s.lines s.client k → Outcome line q (list_any is_end (acts a s).1) (acts a s) k
act-goes line q (act.Write text) s k said e is tied works =
    record { right = (written q (act.Write text) k.question works.question said, tt); line_is = e; asks_is = is; tied = tied; works = works }
act-goes line q act.Reopen s k said e is tied works = record { right = (tt, tt); line_is = e; asks_is = is; tied = tied; works = works }
act-goes line q (act.Part body) s k said e is tied works = record { right = tt; line_is = e; asks_is = is; tied = tied; works = works }
act-goes line q (act.Done body) s k said e is tied works =
    let x : Scene = record k { answer = Some body } in
    let a : Answered line body s.progress.stage s x = record {
      line_is = e;
      stage_is = refl;
      tied = record { progress = tied.progress; had = tied.had; lines = tied.lines; printed = tied.printed };
      works = subst (λ (y : Question). Works y s.progress s.lines s.client x) (sym is) (record { question = works.question; asked = works.asked; within = works.within });
      answer = refl;
    } in
    subst (λ (o : Option (List ℕ)). Outcome line q (list_any is_end (answers_at o body s).1) (doing (Hears body) (answers_at o body s)) k) (sym e)
    (hears-goes line q body (list_any is_end (answers s.progress.stage body s).1) (answers s.progress.stage body s) k
    (subst (λ (y : Question). Outcome line y (list_any is_end (answers s.progress.stage body s).1) (answers s.progress.stage body s) x) is (answers-goes line body s x s.progress.stage a)))
act-goes line q act.Served s k said e is tied works = record { right = tt; line_is = e; asks_is = is; tied = tied; works = works }
act-goes line q act.Finished s k said e is tied works = record { right = tt; line_is = e; asks_is = is; tied = tied; works = works }
act-goes line q act.NoAnswer s k said e is tied works = stops-goes (NoAnswer (present s)) s k (present-is s k tied.progress)

sweep-goes : (line : List ℕ) (q : Question) (said-acts : List Act) (s : Submitter) (k : Scene) → AllSaid q said-acts → s.line ≡ Some line → question_at s.progress.stage s.name line ≡ q
    → Tied s.progress s.had s.lines k → Works q s.progress s.lines s.client k → Goes (sweep said-acts s) k
sweep-goes line q [] s k said e is tied works = record { right = tt; fits = at-work line q s k e is tied works }
sweep-goes line q (a ∷ more) s k said e is tied works =
    behind-goes line q (sweep more) (list_any is_end (acts a s).1) (acts a s) k (act-goes line q a s k said.0 e is tied works)
    (λ x e2 is2 tied2 works2. sweep-goes line q more (acts a s).0 x said.1 e2 is2 tied2 works2)

-- ---- calls

wakes-goes : (s : Submitter) (k : Scene) → Fits s k → Goes (wakes_up s) k
wakes-goes s k f = of s.paused
  where
    by : (b : Bool) → Goes (cond {A = Turn} b (stays s) (continues s)) k
    by true = rests s k f
    by false = continues-goes s k f

    of : (o : Option ℕ) → Goes (wakes o s) k
    of None = rests s k f
    of (Some n) = by (nat_lt n 10)

met-goes : (line : List ℕ) (q : Question) (t : client.Turn) (s : Submitter) (k : Scene) → Says q t → s.line ≡ Some line → question_at s.progress.stage s.name line ≡ q
    → Tied s.progress s.had s.lines k → k.question ≡ Some q → s.lines ≤ s.progress.closed + 1 → Goes (met t s) k
met-goes line q t s k says e is tied question within =
    let now : Submitter = record s { client = t.0 } in
    let g = sweep-goes line q t.1 now k says.said e is tied (record { question = question; asked = says.of; within = within }) in
    then-goes (sweep t.1 now) wakes_up k g.right (wakes-goes (sweep t.1 now).0 (seen sees (sweep t.1 now).1 k) g.fits)

happens-goes : (line : List ℕ) (e : LinkEvent) (s : Submitter) (k : Scene) → s.line ≡ Some line → Tied s.progress s.had s.lines k
    → Works (question_at s.progress.stage s.name line) s.progress s.lines s.client k → Goes (happens e s) k
happens-goes line e s k is tied works = of e
  where
    of : (x : LinkEvent) → Goes (met (client.steps e s.client) (counts x s)) k
    of (event.Given piece) =
        met-goes line (question_at s.progress.stage s.name line) (client.steps e s.client) s k (steps-says (question_at s.progress.stage s.name line) e s.client works.asked) is refl tied works.question works.within
    of event.Idle =
        met-goes line (question_at s.progress.stage s.name line) (client.steps e s.client) (record s { paused = quieter s.paused }) k (steps-says (question_at s.progress.stage s.name line) e s.client works.asked) is refl tied works.question
        works.within
    of event.End =
        met-goes line (question_at s.progress.stage s.name line) (client.steps e s.client) s k (steps-says (question_at s.progress.stage s.name line) e s.client works.asked) is refl tied works.question works.within

-- what is seen when a line is read
abbrev reads_line : ℕ → Scene → Scene
reads_line number k = record k { lines = number }

takes-goes : (line : List ℕ) (s : Submitter) (k : Scene) → s.line ≡ None → Tied s.progress s.had s.lines k → s.lines ≤ s.progress.closed → Goes (takes line s) k
takes-goes line s k e tied within =
    let g = by (nat_le (s.lines + 1) s.progress.closed) refl in
    record { right = (ap (λ (n : ℕ). n + 1) (sym tied.lines), g.right); fits = g.fits }
  where
    has : Tied s.progress s.had (s.lines + 1) (reads_line (s.lines + 1) k)
    has = record { progress = tied.progress; had = tied.had; lines = refl; printed = tied.printed }

    by : (b : Bool) → nat_le (s.lines + 1) s.progress.closed ≡ b
        → Goes (cond {A = Turn} b (stays (record s { lines = s.lines + 1 })) (goes_on line (record s { lines = s.lines + 1; line = Some line; polled = 0 }))) (reads_line (s.lines + 1) k)
    by true is =
        rests (record s { lines = s.lines + 1 }) (reads_line (s.lines + 1) k)
        (inr (subst (λ (o : Option (List ℕ)). Live o s.name s.progress s.had (s.lines + 1) s.client (reads_line (s.lines + 1) k)) (sym e) (record { tied = has; work = le-of (s.lines + 1) s.progress.closed is })))
    by false is = goes-on line (record s { lines = s.lines + 1; line = Some line; polled = 0 }) (reads_line (s.lines + 1) k) refl has (le-more s.lines s.progress.closed within)

ends-goes : (s : Submitter) (k : Scene) → Tied s.progress s.had s.lines k → s.lines ≤ s.progress.closed → Goes (stops (Finishes (s.progress.closed - s.had)) s) k
ends-goes s k tied within =
    stops-goes (Finishes (s.progress.closed - s.had)) s k (
      subst (λ (n : ℕ). n ≤ k.progress.closed) (sym tied.lines) (subst (λ (p : Progress). s.lines ≤ p.closed) (sym tied.progress) within),
      ap (λ (p : Progress). p.closed - s.had) (sym tied.progress) ∙ ap (λ (n : ℕ). k.progress.closed - n) (sym tied.had),
    )

does-goes : (call : Call) (s : Submitter) (k : Scene) (o : Option (List ℕ)) → s.line ≡ o → IsAllowed call o → Live o s.name s.progress s.had s.lines s.client k → Goes (does call s) k
does-goes (Line line) s k None e allowed l = takes-goes line s k e l.tied l.work
does-goes (Line line) s k (Some other) e allowed l = absurd allowed
does-goes (Gives x) s k None e allowed l = absurd allowed
does-goes (Gives x) s k (Some line) e allowed l = happens-goes line x s k e l.tied l.work
does-goes Ends s k None e allowed l = ends-goes s k l.tied l.work
does-goes Ends s k (Some line) e allowed l = absurd allowed

turn-goes : (call : Call) (s : Submitter) (k : Scene) → Fits s k → IsAllowed call s.line → Goes (turn_of call s) k
turn-goes call s k (inl o) allowed = subst (λ (b : Bool). Goes (cond {A = Turn} b (stays s) (does call s)) k) (sym o.0) (rests s k (inl o))
turn-goes call s k (inr l) allowed = by s.over
  where
    by : (b : Bool) → Goes (cond {A = Turn} b (stays s) (does call s)) k
    by true = rests s k (inr l)
    by false = does-goes call s k s.line refl allowed l

run-goes : (calls : List Call) (s : Submitter) (k : Scene) → Fits s k → AreAllowed calls s → AreRight IsRight sees (doings calls s) k
run-goes [] s k f allowed = tt
run-goes (call ∷ calls) s k f allowed =
    let g = turn-goes call s k f allowed.0 in
    right-append (turn_of call s).1 (doings calls (turn_of call s).0) k g.right (run-goes calls (turn_of call s).0 (seen sees (turn_of call s).1 k) g.fits allowed.1)

pub runs-are-right : (name : List ℕ) (tries wait polls : ℕ) (p : Progress) (calls : List Call) → AreAllowed calls (fresh name tries wait polls p)
    → AreRight IsRight sees (doings calls (fresh name tries wait polls p)) (begins p)
runs-are-right name tries wait polls p calls allowed =
    run-goes calls (fresh name tries wait polls p) (begins p)
    (inr (record { tied = record { progress = refl; had = refl; lines = refl; printed = refl }; work = omega arith }))
    allowed
