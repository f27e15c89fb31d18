-- What stays true of follow's state, whatever is read: it appends only to an open file, opens one once, and knows how many
-- commands that has.
use Rattle.std.proofs.Common.{◌≡◌, ℕ, zero, suc, ◌+◌, ◌≤◌, ◌^◌, Bool, true, false, cond, ◌==◌, ◌&&◌, ◌||◌, nat_lt, nat_le, List, [], ◌∷◌, ◌++◌, length, take, drop, refl, ap, subst, ◌∙◌, Option, None, Some}
use Rattle.std.proofs.lemmas.Bool.{leb-true}
use Rattle.mj_base.specs.declared.link.LinkEvent.{LinkEvent}
use Rattle.mj_base.specs.declared.link.LinkEvent.TheVariants as event
use Rattle.mj_frame.specs.declared.head.HeadAnswer.{HeadAnswer}
use Rattle.mj_frame.specs.declared.head.HeadAnswer.TheVariants as answers
use Rattle.mj_frame.specs.HeadReading.{head_at}
use Rattle.mj_copy.specs.FollowRules.{FollowTurn, Following, answers_have, awaits_link, follow_all, follow_appended, follow_ends, follow_idles, follow_meets, follow_opened, follow_read, follow_steps, follow_takes, follow_then, goes_on, new_follow, takes_base, takes_send}
use Rattle.mj_copy.specs.Messages.{Message, Base, Have, Send, End, Reading, Short, Whole, Wrong, base_in, behind_head, headed, is_canonical, is_size, lettered, message_in, number_in, numbered, read_as, reading}
use Rattle.mj_copy.specs.ShipRules.{is_going}
use Rattle.mj_copying.specs.FollowState.{Sound}

pick : {A : Type 0} (P : A → Type 0) (b : Bool) (x y : A) → (b ≡ true → P x) → (b ≡ false → P y) → P (cond {A = A} b x y)
pick P true x y one other = one refl
pick P false x y one other = other refl

-- ---- a base that is read is one

abbrev pub IsBased : Message → Type 0
IsBased (Base base) = (1 ≤ base) × (base ≤ 2 ^ 61)
IsBased (Have n) = Unit {0}
IsBased (Send at payload) = Unit {0}
IsBased End = Unit {0}

abbrev IfSome : Option Message → Type 0
IfSome None = Unit {0}
IfSome (Some m) = IsBased m

abbrev IfWhole : Reading → Type 0
IfWhole (Whole m rest) = IsBased m
IfWhole Short = Unit {0}
IfWhole Wrong = Unit {0}

both_true : (a b : Bool) → (a && b) ≡ true → (a ≡ true) × (b ≡ true)
both_true true true e = (refl, refl)
both_true true false e = absurd (cc e)
both_true false b e = absurd (cc e)

base_based : (base : ℕ) → IfSome (base_in base)
base_based base =
    pick IfSome (nat_le 1 base && nat_le base (2 ^ 61)) _ _
    (λ both. let b = both_true (nat_le 1 base) (nat_le base (2 ^ 61)) both in (leb-true 1 base b.0, leb-true base (2 ^ 61) b.1))
    (λ no_base. tt)

numbered_based : (letter n : ℕ) → IfSome (numbered letter n)
numbered_based letter n =
    pick IfSome (letter == 66) _ _ (λ b. base_based n) (λ other. pick IfSome (letter == 72) _ _ (λ h. tt) (λ none. tt))

lettered_based : (letter : ℕ) (rest : List ℕ) → IfSome (lettered letter rest)
lettered_based letter rest =
    pick IfSome (length rest == 0) _ _
    (λ alone. pick IfSome (letter == 69) _ _ (λ e. tt) (λ none. tt))
    (λ more. pick IfSome (length rest == 8) _ _
    (λ eight. numbered_based letter (number_in (take 8 rest)))
    (λ other. pick IfSome ((letter == 83) && nat_lt 8 (length rest)) _ _ (λ s. tt) (λ none. tt)))

message_based : (body : List ℕ) → IfSome (message_in body)
message_based [] = tt
message_based (letter ∷ rest) = lettered_based letter rest

as_based : (found : Option Message) (rest : List ℕ) → IfSome found → IfWhole (read_as found rest)
as_based None rest based = tt
as_based (Some m) rest based = based

behind_based : (size : ℕ) (octets : List ℕ) → IfWhole (behind_head size octets)
behind_based size octets =
    pick IfWhole (nat_lt (length octets) size) _ _ (λ short. tt) (λ long. as_based (message_in (take size octets)) (drop size octets) (message_based (take size octets)))

headed_based : (answer : HeadAnswer) (octets : List ℕ) → IfWhole (headed answer octets)
headed_based answers.Short octets = tt
headed_based answers.BadFlags octets = tt
headed_based (answers.Head h n) octets = pick IfWhole (is_size h.size && is_canonical h.size n) _ _ (λ good. behind_based h.size (drop n octets)) (λ bad. tt)

reading_based : (octets : List ℕ) → IfWhole (reading octets)
reading_based [] = tt
reading_based (flags ∷ octets) = pick IfWhole ((flags == 0) || (flags == 2)) _ _ (λ good. headed_based (head_at (flags ∷ octets)) (flags ∷ octets)) (λ bad. tt)

-- ---- the state

-- a turn keeps it, and whether the file is open, and with which base
pub record Keeps (n : ℕ) (f : Following) (turn : FollowTurn) : Type 0 where
  pub sound : Sound n turn.0
  pub opened_is : turn.0.opened ≡ f.opened
  pub base_is : f.opened ≡ true → turn.0.base ≡ f.base

pub fresh : (tries : ℕ) → Sound 0 (new_follow tries)
fresh tries = record { based = λ e. absurd (cc e); counts = λ e. absurd (cc e); file = λ base e. absurd (cc e); append = λ payload e. absurd (cc e) }

module _ (n : ℕ) where
  still : (f : Following) → Sound n f → Keeps n f (f, [])
  still f s = record { sound = s; opened_is = refl; base_is = λ e. refl }

  ends : (f : Following) → Sound n f → Keeps n f (follow_ends f)
  ends f s =
      pick (Keeps n f) (nat_lt (f.used + 1) f.tries) _ _
      (λ more. record { sound = record { based = λ e. absurd (cc e); counts = s.counts; file = λ base e. absurd (cc e); append = λ payload e. absurd (cc e) }; opened_is = refl; base_is = λ e. refl })
      (λ last. record { sound = record { based = s.based; counts = s.counts; file = λ base e. absurd (cc e); append = λ payload e. absurd (cc e) }; opened_is = refl; base_is = λ e. refl })

  idles : (f : Following) → Sound n f → Keeps n f (follow_idles f)
  idles f s =
      pick (Keeps n f) (nat_lt (f.quiet + 1) 75) _ _
      (λ more. record { sound = record { based = s.based; counts = s.counts; file = s.file; append = s.append }; opened_is = refl; base_is = λ e. refl })
      (λ last. ends f s)

  answers_kept : (f : Following) → f.opened ≡ true → f.count ≡ n → Keeps n f (answers_have f)
  answers_kept f opened counts = record {
    sound = record { based = λ e. opened; counts = λ e. counts; file = λ base e. absurd (cc e); append = λ payload e. absurd (cc e) };
    opened_is = refl;
    base_is = λ e. refl;
  }

  base_kept : (base : ℕ) (f : Following) → IsBased (Base base) → Sound n f → Keeps n f (takes_base base f)
  base_kept base f is s =
      pick (Keeps n f) f.opened _ _
      (λ opened. pick (Keeps n f) (base == f.base) _ _ (λ same. answers_kept f opened (s.counts opened)) (λ other. ends f s))
      (λ closed. record {
        sound = record {
          based = s.based;
          counts = s.counts;
          file = λ b e. let same : base ≡ b = cc e in (closed, same, subst (λ (x : ℕ). 1 ≤ x) same is.0, subst (λ (x : ℕ). x ≤ 2 ^ 61) same is.1);
          append = λ payload e. absurd (cc e);
        };
        opened_is = refl;
        base_is = λ e. absurd (cc (e, closed));
      })

  send_kept : (at : ℕ) (payload : List ℕ) (f : Following) → f.opened ≡ true → Sound n f → Keeps n f (takes_send at payload f)
  send_kept at payload f opened s =
      pick (Keeps n f) (nat_lt at f.count) _ _
      (λ old. answers_kept f opened (s.counts opened))
      (λ beyond. pick (Keeps n f) (at == f.count) _ _
      (λ next. record { sound = record { based = s.based; counts = s.counts; file = λ b e. absurd (cc e); append = λ p e. opened }; opened_is = refl; base_is = λ e. refl })
      (λ other. ends f s))

  takes : (m : Message) (f : Following) → IsBased m → Sound n f → Keeps n f (follow_takes m f)
  takes (Base base) f is s = base_kept base f is s
  takes (Send at payload) f is s = pick (Keeps n f) f.based _ _ (λ based. send_kept at payload f (s.based based) s) (λ other. ends f s)
  takes End f is s =
      pick (Keeps n f) f.based _ _
      (λ based. record { sound = record { based = s.based; counts = s.counts; file = s.file; append = s.append }; opened_is = refl; base_is = λ e. refl })
      (λ other. ends f s)
  takes (Have count) f is s = ends f s

  joins : (most : ℕ) (f : Following) (turn : FollowTurn) → Keeps n f turn → ((g : Following) → Sound n g → Keeps n g (follow_all most g)) → Keeps n f (follow_then (follow_all most) turn)
  joins most f turn first rest =
      let next = rest turn.0 first.sound in
      record { sound = next.sound; opened_is = next.opened_is ∙ first.opened_is; base_is = λ e. next.base_is (first.opened_is ∙ e) ∙ first.base_is e }

  read : (most : ℕ) (r : Reading) (f : Following) → IfWhole r → Sound n f → ((g : Following) → Sound n g → Keeps n g (follow_all most g)) → Keeps n f (follow_read (follow_all most) r f)
  read most Short f based s rest = still f s
  read most Wrong f based s rest = ends f s
  read most (Whole m left) f based s rest =
      let one = takes m (record f { kept = left }) based (record { based = s.based; counts = s.counts; file = s.file; append = s.append }) in
      joins most f (follow_takes m (record f { kept = left })) (record { sound = one.sound; opened_is = one.opened_is; base_is = one.base_is }) rest

  all : (most : ℕ) (f : Following) → Sound n f → Keeps n f (follow_all most f)
  all zero f s = still f s
  all (suc most) f s =
      pick (Keeps n f) (is_going f.phase && awaits_link f.awaits) _ _ (λ going. read most (reading f.kept) f (reading_based f.kept) s (all most)) (λ over. still f s)

  meets : (e : LinkEvent) (f : Following) → Sound n f → Keeps n f (follow_meets e f)
  meets (event.Given octets) f s =
      let k = all (length (f.kept ++ octets)) (record f { kept = f.kept ++ octets }) (record { based = s.based; counts = s.counts; file = s.file; append = s.append }) in
      record { sound = k.sound; opened_is = k.opened_is; base_is = k.base_is }
  meets event.Idle f s = idles f s
  meets event.End f s = ends f s

  pub steps_keep : (e : LinkEvent) (f : Following) → Sound n f → Keeps n f (follow_steps e f)
  steps_keep e f s = pick (Keeps n f) (is_going f.phase) _ _ (λ going. meets e f s) (λ over. still f s)

  goes_keep : (f : Following) → f.opened ≡ true → f.count ≡ n → Keeps n f (goes_on f)
  goes_keep f opened counts = joins (length f.kept) f (answers_have f) (answers_kept f opened counts) (all (length f.kept))

pub opened_keep : (n : ℕ) (f : Following) → Keeps n (record f { opened = true; count = n }) (follow_opened n f)
opened_keep n f = goes_keep n (record f { opened = true; count = n }) refl refl

pub appended_keep : (n : ℕ) (f : Following) → f.opened ≡ true → f.count ≡ n → Keeps (n + 1) (record f { count = f.count + 1 }) (follow_appended f)
appended_keep n f opened counts = goes_keep (n + 1) (record f { count = f.count + 1 }) opened (ap (λ (k : ℕ). k + 1) counts)
