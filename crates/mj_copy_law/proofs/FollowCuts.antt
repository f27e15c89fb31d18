-- Follow does the same, however what its link gives is cut.
use Rattle.std.proofs.Common.{◌≡◌, ℕ, zero, suc, ◌+◌, ◌<◌, ◌≤◌, Bool, true, false, cond, ◌==◌, ◌||◌, ◌&&◌, List, [], ◌∷◌, ◌++◌, length, refl, sym, ap, subst, ◌∙◌, append_assoc, inl, inr, arith}
use Rattle.std.specs.Prelude.{◌⊎◌, nat_lt}
use Rattle.std.proofs.lemmas.Bool.{false≢true}
use Rattle.std.proofs.lemmas.List.Folds.{list_any-append}
use Rattle.std.specs.List.{list_any}
use Rattle.mj_base.specs.declared.link.LinkEvent.{LinkEvent}
use Rattle.mj_base.specs.declared.link.LinkEvent.TheVariants as event
use Rattle.mj_copy.specs.Messages.{Message, Base, Have, Send, End, Reading, Short, Whole, Wrong, reading}
use Rattle.mj_copy.specs.FollowRules.{Following, FollowTurn, answers_have, awaits_link, follow_all, follow_ends, follow_gains, follow_meets, follow_read, follow_steps, follow_takes, follow_then, follow_turn, goes_on, takes_base, takes_end, takes_send}
use Rattle.mj_copy.specs.ShipRules.{is_going}
use Rattle.mj_copy.specs.declared.awaits.Awaits.TheVariants as waits
use Rattle.mj_copy.specs.declared.phase.Phase.TheVariants.{GivenUp}
use Rattle.mj_copy.specs.declared.follow_act.FollowAct.{FollowAct}
use Rattle.mj_copy.specs.declared.follow_act.FollowAct.TheVariants as act
use Rattle.mj_copy_law.specs.Cuts.{Copying, CopyTurn, FileAnswer, FollowIgnoresCuts, Has, Refuses, Takes, answered, copy_runs, copy_steps, follow_leaves, then_turn, told_of}
use Rattle.mj_copy_law.proofs.Pieces.{Alike, IsCuttable, alike-refl, cuts-alike, then-alike}
use Rattle.mj_copy_law.proofs.Readings.{IsShorter, IsStill, reading_shorter, reading_still}

-- more bytes were read
abbrev more : List ℕ → Following → Following
more ys f = record f { kept = f.kept ++ ys }

-- it looks for messages
abbrev looks : Following → Bool
looks f = is_going f.phase && awaits_link f.awaits

abbrev leaves : FollowTurn → Bool
leaves t = list_any follow_leaves t.1

-- an end of a link: two ways
abbrev ends-by : Bool → Following → FollowTurn
ends-by b f = cond b (record f { kept = []; quiet = 0; used = f.used + 1; based = false; awaits = waits.Link }, act.Reopen ∷ []) (record f { phase = GivenUp; awaits = waits.Link }, act.NoAnswer ∷ [])

-- ---- a message takes no bytes in

same-length : (xs : List ℕ) → length xs ≤ length xs
same-length xs = omega arith

ends-kept : (f : Following) → length (follow_ends f).0.kept ≤ length f.kept
ends-kept f = of (nat_lt (f.used + 1) f.tries)
  where
    of : (b : Bool) → length (ends-by b f).0.kept ≤ length f.kept
    of true = omega arith
    of false = same-length f.kept

base-kept : (base : ℕ) (f : Following) → length (takes_base base f).0.kept ≤ length f.kept
base-kept base f = of f.opened (base == f.base)
  where
    of : (opened same : Bool)
        → length (cond {A = FollowTurn} opened (cond {A = FollowTurn} same (answers_have f) (follow_ends f)) (record f { base = base; awaits = waits.File base }, act.Open base ∷ [])).0.kept ≤ length f.kept
    of true true = same-length f.kept
    of true false = ends-kept f
    of false same = same-length f.kept

send-kept : (at : ℕ) (payload : List ℕ) (f : Following) → length (takes_send at payload f).0.kept ≤ length f.kept
send-kept at payload f = of (nat_lt at f.count) (at == f.count)
  where
    of : (old next : Bool)
        → length (cond {A = FollowTurn} old (answers_have f) (cond {A = FollowTurn} next (record f { awaits = waits.Append payload }, act.Append payload ∷ []) (follow_ends f))).0.kept ≤ length f.kept
    of true next = same-length f.kept
    of false true = same-length f.kept
    of false false = ends-kept f

takes-kept : (m : Message) (f : Following) → length (follow_takes m f).0.kept ≤ length f.kept
takes-kept (Base base) f = base-kept base f
takes-kept (Have count) f = ends-kept f
takes-kept (Send at payload) f = of f.based
  where
    of : (b : Bool) → length (cond {A = FollowTurn} b (takes_send at payload f) (follow_ends f)).0.kept ≤ length f.kept
    of true = send-kept at payload f
    of false = ends-kept f
takes-kept End f = of f.based
  where
    of : (b : Bool) → length (cond {A = FollowTurn} b (takes_end f) (follow_ends f)).0.kept ≤ length f.kept
    of true = same-length f.kept
    of false = ends-kept f

-- ---- enough looks

-- a look more changes nothing where what is read is looked at as often as it has bytes
read-enough : (n k : ℕ) (f : Following) → ((g : Following) → length g.kept < length f.kept → follow_all n g ≡ follow_all k g) → (r : Reading) → IsShorter (length f.kept) r
    → follow_read (follow_all n) r f ≡ follow_read (follow_all k) r f
read-enough n k f enough Short less = refl
read-enough n k f enough Wrong less = refl
read-enough n k f enough (Whole m rest) less =
    let t = follow_takes m (record f { kept = rest }) in
    let kept = takes-kept m (record f { kept = rest }) in
    let shorter : length t.0.kept < length f.kept = omega (arith, kept, less) in
    ap (λ (u : FollowTurn). (u.0, t.1 ++ u.1)) (enough t.0 shorter)

nothing-kept : (n : ℕ) (f : Following) → f.kept ≡ [] → follow_all n f ≡ (f, [])
nothing-kept zero f e = refl
nothing-kept (suc n) f e = of (looks f)
  where
    of : (b : Bool) → cond {A = FollowTurn} b (follow_read (follow_all n) (reading f.kept) f) (f, []) ≡ (f, [])
    of true = ap (λ (x : List ℕ). follow_read (follow_all n) (reading x) f) e
    of false = refl

empty : (xs : List ℕ) → length xs ≤ 0 → xs ≡ []
empty [] e = refl
empty (x ∷ xs) e = absurd (omega (arith, e))

enough : (n k : ℕ) (f : Following) → length f.kept ≤ n → length f.kept ≤ k → follow_all n f ≡ follow_all k f
enough zero k f a b = sym (nothing-kept k f (empty f.kept a))
enough (suc n) zero f a b = nothing-kept (suc n) f (empty f.kept b)
enough (suc n) (suc k) f a b = of (looks f) (λ u c d. enough n k u c d)
  where
    of : (g : Bool) → ((u : Following) → length u.kept ≤ n → length u.kept ≤ k → follow_all n u ≡ follow_all k u) → cond {A = FollowTurn} g (follow_read (follow_all n) (reading f.kept) f) (f, []) ≡ cond {A = FollowTurn} g (follow_read (follow_all k) (reading f.kept) f) (f, [])
    of false next = refl
    of true next =
        read-enough n k f
        (λ u less. next u (omega (arith, less, a)) (omega (arith, less, b)))
        (reading f.kept) (reading_shorter f.kept)

read-gains : (n : ℕ) (f : Following) → length f.kept ≤ n → (r : Reading) → IsShorter (length f.kept) r → follow_read (follow_all n) r f ≡ follow_read follow_gains r f
read-gains n f long Short less = refl
read-gains n f long Wrong less = refl
read-gains n f long (Whole m rest) less =
    let t = follow_takes m (record f { kept = rest }) in
    let kept = takes-kept m (record f { kept = rest }) in
    let shorter : length t.0.kept ≤ n = omega (arith, kept, less, long) in
    ap (λ (u : FollowTurn). (u.0, t.1 ++ u.1)) (enough n (length t.0.kept) t.0 shorter (same-length t.0.kept))

-- all messages that it has are the first one and all that it has then
gains-is : (f : Following) → follow_gains f ≡ cond {A = FollowTurn} (looks f) (follow_read follow_gains (reading f.kept) f) (f, [])
gains-is f =
    enough (length f.kept) (suc (length f.kept)) f (same-length f.kept) (omega arith) ∙ of (looks f)
  where
    of : (g : Bool) → cond {A = FollowTurn} g (follow_read (follow_all (length f.kept)) (reading f.kept) f) (f, []) ≡ cond {A = FollowTurn} g (follow_read follow_gains (reading f.kept) f) (f, [])
    of false = refl
    of true = read-gains (length f.kept) f (same-length f.kept) (reading f.kept) (reading_shorter f.kept)

gains-none : (f : Following) → looks f ≡ false → follow_gains f ≡ (f, [])
gains-none f none = gains-is f ∙ ap (λ (b : Bool). cond {A = FollowTurn} b (follow_read follow_gains (reading f.kept) f) (f, [])) none

-- ---- a turn, and what it is where more bytes were read before

abbrev Stretches : List ℕ → FollowTurn → FollowTurn → Type 0
Stretches ys t u = ((leaves t ≡ true) × (u ≡ t)) ⊎ ((leaves t ≡ false) × (u ≡ (more ys t.0, t.1)))

ends-stretches : (ys : List ℕ) (f : Following) → Stretches ys (follow_ends f) (follow_ends (more ys f))
ends-stretches ys f = of (nat_lt (f.used + 1) f.tries)
  where
    of : (b : Bool) → Stretches ys (ends-by b f) (ends-by b (more ys f))
    of true = inl (refl, refl)
    of false = inr (refl, refl)

base-stretches : (ys : List ℕ) (base : ℕ) (f : Following) → Stretches ys (takes_base base f) (takes_base base (more ys f))
base-stretches ys base f = of f.opened (base == f.base)
  where
    of : (opened same : Bool)
        → Stretches ys (cond {A = FollowTurn} opened (cond {A = FollowTurn} same (answers_have f) (follow_ends f)) (record f { base = base; awaits = waits.File base }, act.Open base ∷ []))
        (cond {A = FollowTurn} opened (cond {A = FollowTurn} same (answers_have (more ys f)) (follow_ends (more ys f))) (record (more ys f) { base = base; awaits = waits.File base }, act.Open base ∷ []))
    of true true = inr (refl, refl)
    of true false = ends-stretches ys f
    of false same = inr (refl, refl)

send-stretches : (ys : List ℕ) (at : ℕ) (payload : List ℕ) (f : Following) → Stretches ys (takes_send at payload f) (takes_send at payload (more ys f))
send-stretches ys at payload f = of (nat_lt at f.count) (at == f.count)
  where
    of : (old next : Bool)
        → Stretches ys (cond {A = FollowTurn} old (answers_have f) (cond {A = FollowTurn} next (record f { awaits = waits.Append payload }, act.Append payload ∷ []) (follow_ends f)))
        (cond {A = FollowTurn} old (answers_have (more ys f)) (cond {A = FollowTurn} next (record (more ys f) { awaits = waits.Append payload }, act.Append payload ∷ []) (follow_ends (more ys f))))
    of true next = inr (refl, refl)
    of false true = inr (refl, refl)
    of false false = ends-stretches ys f

takes-stretches : (ys : List ℕ) (m : Message) (f : Following) → Stretches ys (follow_takes m f) (follow_takes m (more ys f))
takes-stretches ys (Base base) f = base-stretches ys base f
takes-stretches ys (Have count) f = ends-stretches ys f
takes-stretches ys (Send at payload) f = of f.based
  where
    of : (b : Bool) → Stretches ys (cond {A = FollowTurn} b (takes_send at payload f) (follow_ends f)) (cond {A = FollowTurn} b (takes_send at payload (more ys f)) (follow_ends (more ys f)))
    of true = send-stretches ys at payload f
    of false = ends-stretches ys f
takes-stretches ys End f = of f.based
  where
    of : (b : Bool) → Stretches ys (cond {A = FollowTurn} b (takes_end f) (follow_ends f)) (cond {A = FollowTurn} b (takes_end (more ys f)) (follow_ends (more ys f)))
    of true = inr (refl, refl)
    of false = ends-stretches ys f

-- all messages of what was read, and of it with more
record Carries (ys : List ℕ) (t u : FollowTurn) : Type 0 where
  left : leaves t ≡ true → u ≡ t
  stays : leaves t ≡ false → u ≡ follow_then (λ g. follow_gains (more ys g)) t

-- nothing was done
none-carries : (ys : List ℕ) (f : Following) (u : FollowTurn) → u ≡ follow_gains (more ys f) → Carries ys (f, []) u
none-carries ys f u e = record { left = λ l. absurd (false≢true l); stays = λ l. e }

ends-carries : (ys : List ℕ) (f : Following) (u : FollowTurn) → u ≡ follow_ends (more ys f) → Carries ys (follow_ends f) u
ends-carries ys f u e = of (nat_lt (f.used + 1) f.tries) e
  where
    of : (b : Bool) → u ≡ ends-by b (more ys f) → Carries ys (ends-by b f) u
    of true e = record { left = λ l. e; stays = λ l. absurd (false≢true (sym l)) }
    of false e = record {
      left = λ l. absurd (false≢true l);
      stays = λ l. e ∙ sym (ap (λ (x : FollowTurn). (x.0, act.NoAnswer ∷ x.1)) (gains-none (record (more ys f) { phase = GivenUp; awaits = waits.Link }) refl));
    }

-- a message, and what comes behind it
then-carries : (ys : List ℕ) (t v u : FollowTurn) → Stretches ys t v → u ≡ follow_then follow_gains v → Carries ys (follow_gains t.0) (follow_gains (more ys t.0)) → Carries ys (follow_then follow_gains t) u
then-carries ys t v u (inl (l, same)) e c = record {
  left = λ x. e ∙ ap (follow_then follow_gains) same;
  stays = λ x. absurd (false≢true (sym x ∙ list_any-append follow_leaves t.1 (follow_gains t.0).1 ∙ ap (λ (b : Bool). b || leaves (follow_gains t.0)) l));
}
then-carries ys t v u (inr (l, same)) e c =
    let rest : leaves (follow_then follow_gains t) ≡ leaves (follow_gains t.0) = list_any-append follow_leaves t.1 (follow_gains t.0).1 ∙ ap (λ (b : Bool). b || leaves (follow_gains t.0)) l in
    let whole : u ≡ follow_then follow_gains (more ys t.0, t.1) = e ∙ ap (follow_then follow_gains) same in
    record {
      left = λ x. whole ∙ ap (λ (y : FollowTurn). (y.0, t.1 ++ y.1)) (c.left (sym rest ∙ x));
      stays = λ x. whole ∙ ap (λ (y : FollowTurn). (y.0, t.1 ++ y.1)) (c.stays (sym rest ∙ x))
          ∙ ap (λ (l : List FollowAct). ((follow_gains (more ys (follow_gains t.0).0)).0, l)) (sym (append_assoc t.1 (follow_gains t.0).1 (follow_gains (more ys (follow_gains t.0).0)).1));
    }

carries : (n : ℕ) (ys : List ℕ) (f : Following) → length f.kept < n → Carries ys (follow_gains f) (follow_gains (more ys f))
carries zero ys f less = absurd (omega (arith, less))
carries (suc n) ys f less =
    subst (λ (t : FollowTurn). Carries ys t (follow_gains (more ys f))) (sym (gains-is f))
    (of (looks f) (reading f.kept) (gains-is (more ys f)) (reading_shorter f.kept) (reading_still f.kept ys) (λ u c. carries n ys u c))
  where
    of : (g : Bool) (r : Reading) → follow_gains (more ys f) ≡ cond {A = FollowTurn} g (follow_read follow_gains (reading (f.kept ++ ys)) (more ys f)) (more ys f, []) → IsShorter (length f.kept) r
        → IsStill ys r (reading (f.kept ++ ys)) → ((u : Following) → length u.kept < n → Carries ys (follow_gains u) (follow_gains (more ys u))) → Carries ys (cond {A = FollowTurn} g (follow_read follow_gains r f) (f, [])) (follow_gains (more ys f))
    of false r e shorter still next = none-carries ys f (follow_gains (more ys f)) refl
    of true Short e shorter still next = none-carries ys f (follow_gains (more ys f)) refl
    of true Wrong e shorter still next = ends-carries ys f (follow_gains (more ys f)) (e ∙ ap (λ (r : Reading). follow_read follow_gains r (more ys f)) still)
    of true (Whole m rest) e shorter still next =
        let t = follow_takes m (record f { kept = rest }) in
        let v = follow_takes m (more ys (record f { kept = rest })) in
        let kept = takes-kept m (record f { kept = rest }) in
        then-carries ys t v (follow_gains (more ys f)) (takes-stretches ys m (record f { kept = rest })) (e ∙ ap (λ (r : Reading). follow_read follow_gains r (more ys f)) still)
        (next t.0 (omega (arith, kept, shorter, less)))

gains-carries : (ys : List ℕ) (f : Following) → Carries ys (follow_gains f) (follow_gains (more ys f))
gains-carries ys f = carries (suc (length f.kept)) ys f (omega arith)

-- ---- the file's answers

abbrev copy-leaves : CopyTurn → Bool
copy-leaves t = list_any follow_leaves t.1

-- all messages, and the file's answers
abbrev drains : List FileAnswer → Following → CopyTurn
drains answers f = then_turn (answered answers) (follow_gains f)

-- with more bytes, of an end that has met the file's answers
abbrev drains-more : List ℕ → Copying → CopyTurn
drains-more ys c = drains c.answers (more ys c.following)

-- all messages with the answers, and all of them of more bytes
record Flows (ys : List ℕ) (t u : CopyTurn) : Type 0 where
  left : copy-leaves t ≡ true → u ≡ t
  stays : copy-leaves t ≡ false → u ≡ then_turn (drains-more ys) t

-- acts before
before-flows : (ys : List ℕ) (acts : List FollowAct) (t u : CopyTurn) → list_any follow_leaves acts ≡ false → Flows ys t u → Flows ys (t.0, acts ++ t.1) (u.0, acts ++ u.1)
before-flows ys acts t u none f =
    let rest : list_any follow_leaves (acts ++ t.1) ≡ copy-leaves t = list_any-append follow_leaves acts t.1 ∙ ap (λ (b : Bool). b || copy-leaves t) none in
    record {
      left = λ l. ap (λ (x : CopyTurn). (x.0, acts ++ x.1)) (f.left (sym rest ∙ l));
      stays = λ l. ap (λ (x : CopyTurn). (x.0, acts ++ x.1)) (f.stays (sym rest ∙ l)) ∙ ap (λ (x : List FollowAct). ((drains-more ys t.0).0, x)) (sym (append_assoc acts t.1 (drains-more ys t.0).1));
    }

-- what the answers do to an end
abbrev AnswersFlow : List FileAnswer → List ℕ → Type 0
AnswersFlow answers ys = (f : Following) → Flows ys (answered answers f) (drains answers (more ys f))

drains-flow : (answers : List FileAnswer) (ys : List ℕ) → AnswersFlow answers ys → (f : Following) → Flows ys (drains answers f) (drains answers (more ys f))
drains-flow answers ys flow f = of (leaves (follow_gains f)) refl
  where
    c : Carries ys (follow_gains f) (follow_gains (more ys f))
    c = gains-carries ys f

    of : (b : Bool) → leaves (follow_gains f) ≡ b → Flows ys (drains answers f) (drains answers (more ys f))
    of true l =
        let t = follow_gains f in
        let whole : copy-leaves (drains answers f) ≡ true = list_any-append follow_leaves t.1 (answered answers t.0).1 ∙ ap (λ (b : Bool). b || copy-leaves (answered answers t.0)) l in
        record { left = λ x. ap (then_turn (answered answers)) (c.left l); stays = λ x. absurd (false≢true (sym x ∙ whole)) }
    of false l =
        let t = follow_gains f in
        let v = follow_gains (more ys t.0) in
        let same : drains answers (more ys f) ≡ ((answered answers v.0).0, t.1 ++ (v.1 ++ (answered answers v.0).1)) =
        ap (then_turn (answered answers)) (c.stays l) ∙ ap (λ (x : List FollowAct). ((answered answers v.0).0, x)) (append_assoc t.1 v.1 (answered answers v.0).1) in
        subst (λ (u : CopyTurn). Flows ys (drains answers f) u) (sym same) (before-flows ys t.1 (answered answers t.0) (drains answers (more ys t.0)) l (flow t.0))

-- an end that reads its link
none-flows : (answers : List FileAnswer) (ys : List ℕ) (f : Following) → Flows ys (record { following = f; answers = answers }, []) (drains answers (more ys f))
none-flows answers ys f = record { left = λ l. absurd (false≢true l); stays = λ l. refl }

-- the same answers, of an end with more bytes that looks for no message
abbrev waits-on : List FileAnswer → List ℕ → Following → Type 0
waits-on answers ys f = drains answers (more ys f) ≡ answered answers (more ys f)

waiting : (answers : List FileAnswer) (ys : List ℕ) (f : Following) → looks f ≡ false → waits-on answers ys f
waiting answers ys f none = ap (then_turn (answered answers)) (gains-none (more ys f) none)

and-false : (b : Bool) → (b && false) ≡ false
and-false true = refl
and-false false = refl

refused-flows : (answers : List FileAnswer) (ys : List ℕ) → AnswersFlow answers ys → (f : Following)
    → Flows ys (then_turn (answered answers) (follow_steps event.End f)) (then_turn (answered answers) (follow_steps event.End (more ys f)))
refused-flows answers ys flow f = of (is_going f.phase) (nat_lt (f.used + 1) f.tries) refl
  where
    of : (going again : Bool) → is_going f.phase ≡ going
        → Flows ys (then_turn (answered answers) (cond {A = FollowTurn} going (ends-by again f) (f, []))) (then_turn (answered answers) (cond {A = FollowTurn} going (ends-by again (more ys f)) (more ys f, [])))
    of true true e = record { left = λ l. refl; stays = λ l. absurd (false≢true (sym l)) }
    of true false e =
        let g : Following = record f { phase = GivenUp; awaits = waits.Link } in
        before-flows ys (act.NoAnswer ∷ []) (answered answers g) (answered answers (more ys g)) refl (subst (λ (u : CopyTurn). Flows ys (answered answers g) u) (waiting answers ys g refl) (flow g))
    of false again e =
        subst (λ (u : CopyTurn). Flows ys (answered answers f) u) (waiting answers ys f (ap (λ (b : Bool). b && awaits_link f.awaits) e)) (flow f)

-- it says how many commands it has, and goes on
goes-flow : (answers : List FileAnswer) (ys : List ℕ) → AnswersFlow answers ys → (f : Following)
    → Flows ys (then_turn (answered answers) (goes_on f)) (then_turn (answered answers) (goes_on (more ys f)))
goes-flow answers ys flow f =
    let g = (answers_have f).0 in
    let acts = (answers_have f).1 in
    before-flows ys acts (drains answers g) (drains answers (more ys g)) refl (drains-flow answers ys flow g)

answer-flows : (answer : FileAnswer) (answers : List FileAnswer) (ys : List ℕ) → AnswersFlow answers ys → (f : Following)
    → Flows ys (then_turn (answered answers) (follow_turn (told_of answer) f)) (then_turn (answered answers) (follow_turn (told_of answer) (more ys f)))
answer-flows (Has count) answers ys flow f = goes-flow answers ys flow (record f { opened = true; count = count })
answer-flows Takes answers ys flow f = goes-flow answers ys flow (record f { count = f.count + 1 })
answer-flows Refuses answers ys flow f = refused-flows answers ys flow f

answers-flow : (answers : List FileAnswer) (ys : List ℕ) → AnswersFlow answers ys
answers-flow [] ys f = none-flows [] ys f
answers-flow (answer ∷ answers) ys f = of (awaits_link f.awaits) refl (λ g. answers-flow answers ys g)
  where
    of : (b : Bool) → awaits_link f.awaits ≡ b → ((g : Following) → Flows ys (answered answers g) (drains answers (more ys g)))
        → Flows ys (cond {A = CopyTurn} b (record { following = f; answers = answer ∷ answers }, []) (then_turn (answered answers) (follow_turn (told_of answer) f))) (drains (answer ∷ answers) (more ys f))
    of true e k = none-flows (answer ∷ answers) ys f
    of false e k =
        let none : looks f ≡ false = ap (λ (b : Bool). is_going f.phase && b) e ∙ and-false (is_going f.phase) in
        let same : drains (answer ∷ answers) (more ys f) ≡ then_turn (answered answers) (follow_turn (told_of answer) (more ys f)) =
        waiting (answer ∷ answers) ys f none ∙ ap (λ (b : Bool). cond {A = CopyTurn} b (record { following = more ys f; answers = answer ∷ answers }, []) (then_turn (answered answers) (follow_turn (told_of answer) (more ys f)))) e in
        subst (λ (u : CopyTurn). Flows ys (then_turn (answered answers) (follow_turn (told_of answer) f)) u) (sym same) (answer-flows answer answers ys k f)

-- ---- steps

-- nothing is done any more: it is over, or waits for a file that answers no more
abbrev Over : Copying → Type 0
Over c = (is_going c.following.phase ≡ false) ⊎ (awaits_link c.following.awaits ≡ false)

abbrev step : List ℕ → Copying → CopyTurn
step piece c = copy_steps (event.Given piece) c

-- an end that reads its link is told no answer
unasked : (answers : List FileAnswer) (f : Following) → awaits_link f.awaits ≡ true → answered answers f ≡ (record { following = f; answers = answers }, [])
unasked [] f e = refl
unasked (answer ∷ answers) f e = ap (λ (b : Bool). cond {A = CopyTurn} b (record { following = f; answers = answer ∷ answers }, []) (then_turn (answered answers) (follow_turn (told_of answer) f))) e

steps-over : (e : LinkEvent) (c : Copying) → Over c → copy_steps e c ≡ (c, [])
steps-over e c (inr waits) = ap (λ (b : Bool). cond {A = CopyTurn} b (then_turn (answered c.answers) (follow_steps e c.following)) (c, [])) waits
steps-over e c (inl over) = of (awaits_link c.following.awaits) refl
  where
    of : (b : Bool) → awaits_link c.following.awaits ≡ b → cond {A = CopyTurn} b (then_turn (answered c.answers) (follow_steps e c.following)) (c, []) ≡ (c, [])
    of true a = ap (λ (b : Bool). then_turn (answered c.answers) (cond {A = FollowTurn} b (follow_meets e c.following) (c.following, []))) over ∙ unasked c.answers c.following a
    of false a = refl

runs-over : (events : List LinkEvent) (c : Copying) → Over c → copy_runs events c ≡ (c, [])
runs-over [] c over = refl
runs-over (e ∷ events) c over = ap (λ (t : CopyTurn). then_turn (copy_runs events) t) (steps-over e c over) ∙ runs-over events c over

-- behind the file's answers it reads its link, or there are none left
abbrev Rests : Copying → Type 0
Rests c = (awaits_link c.following.awaits ≡ true) ⊎ (c.answers ≡ [])

answered-rests : (answers : List FileAnswer) (f : Following) → Rests (answered answers f).0
answered-rests [] f = inr refl
answered-rests (answer ∷ answers) f = of (awaits_link f.awaits) refl (answered-rests answers (follow_turn (told_of answer) f).0)
  where
    of : (b : Bool) → awaits_link f.awaits ≡ b → Rests (answered answers (follow_turn (told_of answer) f).0).0 → Rests (cond {A = CopyTurn} b (record { following = f; answers = answer ∷ answers }, []) (then_turn (answered answers) (follow_turn (told_of answer) f))).0
    of true e k = inl e
    of false e k = k

-- behind the first piece
over-alike : (ys : List ℕ) (c : Copying) (before : List FollowAct) → Over c → drains-more ys c ≡ (record c { following = more ys c.following }, []) → Over (record c { following = more ys c.following })
    → Alike Copying FollowAct Over (then_turn (drains-more ys) (c, before)) (then_turn (step ys) (c, before))
over-alike ys c before over nothing still =
    let none = steps-over (event.Given ys) c over in
    record {
      acts = ap (λ (x : CopyTurn). before ++ x.1) nothing ∙ sym (ap (λ (x : CopyTurn). before ++ x.1) none);
      states = inr (subst (λ (x : CopyTurn). Over x.0) (sym nothing) still, subst (λ (x : CopyTurn). Over x.0) (sym none) over);
    }

next-alike : (ys : List ℕ) (c : Copying) (before : List FollowAct) → Rests c → Alike Copying FollowAct Over (then_turn (drains-more ys) (c, before)) (then_turn (step ys) (c, before))
next-alike ys c before rests = of (awaits_link c.following.awaits) (is_going c.following.phase) refl refl
  where
    unread : (b : Bool) → awaits_link c.following.awaits ≡ b → looks c.following ≡ false → Rests c → drains-more ys c ≡ (record c { following = more ys c.following }, [])
    unread true a none r = waiting c.answers ys c.following none ∙ unasked c.answers (more ys c.following) a
    unread false a none (inl reads) = absurd (false≢true (sym a ∙ reads))
    unread false a none (inr nil) =
        waiting c.answers ys c.following none ∙ subst (λ (l : List FileAnswer). answered l (more ys c.following) ≡ (record { following = more ys c.following; answers = l }, [])) (sym nil) refl

    of : (a g : Bool) → awaits_link c.following.awaits ≡ a → is_going c.following.phase ≡ g
        → Alike Copying FollowAct Over (then_turn (drains-more ys) (c, before)) (then_turn (step ys) (c, before))
    of true true a g =
        let same : step ys c ≡ drains-more ys c =
        ap (λ (b : Bool). cond {A = CopyTurn} b (then_turn (answered c.answers) (follow_steps (event.Given ys) c.following)) (c, [])) a
        ∙ ap (λ (b : Bool). then_turn (answered c.answers) (cond {A = FollowTurn} b (follow_meets (event.Given ys) c.following) (c.following, []))) g in
        alike-refl Copying FollowAct Over _ _ (ap (λ (x : CopyTurn). (x.0, before ++ x.1)) (sym same))
    of true false a g =
        over-alike ys c before (inl g) (unread true a (ap (λ (b : Bool). b && awaits_link c.following.awaits) g) rests) (inl g)
    of false going a g =
        over-alike ys c before (inr a) (unread false a (ap (λ (b : Bool). is_going c.following.phase && b) a ∙ and-false (is_going c.following.phase)) rests) (inr a)

abbrev Cuts : (ys : List ℕ) (t u : CopyTurn) → Type 0
Cuts ys t u = (copy-leaves t ≡ true → u ≡ t) × (copy-leaves t ≡ false → Alike Copying FollowAct Over u (then_turn (step ys) t))

over-cuts : (xs ys : List ℕ) (c : Copying) → Over c → Cuts ys (step xs c) (step (xs ++ ys) c)
over-cuts xs ys c over =
    let a = steps-over (event.Given xs) c over in
    let b = steps-over (event.Given ys) c over in
    let both = steps-over (event.Given (xs ++ ys)) c over in (
      (λ l. both ∙ sym a),
      (λ l. alike-refl Copying FollowAct Over _ _ (both ∙ sym (ap (then_turn (step ys)) a ∙ b))),
    )

gains-two : (xs ys : List ℕ) (f : Following) → follow_gains (more (xs ++ ys) f) ≡ follow_gains (more ys (more xs f))
gains-two xs ys f = ap (λ (x : List ℕ). follow_gains (record f { kept = x })) (sym (append_assoc f.kept xs ys))

drains-cuts : (xs ys : List ℕ) (answers : List FileAnswer) (f : Following) → Cuts ys (drains answers (more xs f)) (drains answers (more (xs ++ ys) f))
drains-cuts xs ys answers f =
    let flow = drains-flow answers ys (answers-flow answers ys) (more xs f) in
    let t = drains answers (more xs f) in
    let two = ap (then_turn (answered answers)) (gains-two xs ys f) in (
      (λ l. two ∙ flow.left l),
      (λ l. subst (λ (u : CopyTurn). Alike Copying FollowAct Over u (then_turn (step ys) t)) (sym (two ∙ flow.stays l)) (next-alike ys t.0 t.1 (answered-rests answers (follow_gains (more xs f)).0))),
    )

step-cuts : (xs ys : List ℕ) (c : Copying) → Cuts ys (step xs c) (step (xs ++ ys) c)
step-cuts xs ys c = of (awaits_link c.following.awaits) (is_going c.following.phase) refl refl
  where
    reads : (piece : List ℕ) → awaits_link c.following.awaits ≡ true → is_going c.following.phase ≡ true → step piece c ≡ drains c.answers (more piece c.following)
    reads piece a g =
        ap (λ (b : Bool). cond {A = CopyTurn} b (then_turn (answered c.answers) (follow_steps (event.Given piece) c.following)) (c, [])) a
        ∙ ap (λ (b : Bool). then_turn (answered c.answers) (cond {A = FollowTurn} b (follow_meets (event.Given piece) c.following) (c.following, []))) g

    of : (a g : Bool) → awaits_link c.following.awaits ≡ a → is_going c.following.phase ≡ g → Cuts ys (step xs c) (step (xs ++ ys) c)
    of true true a g =
        subst (λ (t : CopyTurn). Cuts ys t (step (xs ++ ys) c)) (sym (reads xs a g))
        (subst (λ (u : CopyTurn). Cuts ys (drains c.answers (more xs c.following)) u) (sym (reads (xs ++ ys) a g)) (drains-cuts xs ys c.answers c.following))
    of true false a g = over-cuts xs ys c (inl g)
    of false going a g = over-cuts xs ys c (inr a)

cuttable : IsCuttable Copying FollowAct follow_leaves (λ piece. copy_steps (event.Given piece)) Over
cuttable = record {
  still = λ piece c over. steps-over (event.Given piece) c over;
  left = λ xs ys c l. (step-cuts xs ys c).0 l;
  stays = λ xs ys c l. (step-cuts xs ys c).1 l;
}

pub follow_ignores_cuts : FollowIgnoresCuts
follow_ignores_cuts f answers p q pieces others behind e =
    let c : Copying = record { following = f; answers = answers } in
    (then-alike Copying FollowAct Over (copy_runs behind) (runs-over behind) _ _ (cuts-alike Copying FollowAct follow_leaves (λ piece. copy_steps (event.Given piece)) Over cuttable p q pieces others c e)).acts
