-- The table of deadlines after one number has changed.
use Rattle.std.proofs.Common.{◌≡◌, ◌≢◌, ◌⊎◌, ◌+◌, ◌==◌, ℕ, Bool, true, false, cond, List, Option, None, Some, refl, sym, ap, subst, ◌∙◌, inl, inr}
use Rattle.std.specs.Option.{option_map}
use Rattle.std.specs.FinMap as leases_by
use Rattle.std.specs.FinMap.{FinMap, get-insert, get-remove}
use Rattle.std.specs.Cmp.{nat_cmp_total}
use Rattle.std.specs.Ordering.{nat_cmp}
use Rattle.std.proofs.lemmas.Bool.Decides.{eqb_tells}
use Rattle.mj_base.specs.declared.limits.Limits.{Limits}
use Rattle.mj_lease.proofs.EntryLemmas.{tie}
use Rattle.mj_machine.specs.declared.connection.Connection.{Connection}
use Rattle.mj_machine.specs.declared.connection.Role.{Role}
use Rattle.mj_machine.specs.declared.connection.Role.TheVariants.{Fresh, Client, Worker, Gone}
use Rattle.mj_machine.specs.declared.held.Held.{Held}
use Rattle.mj_machine.specs.TickStep.{deadline_of, lease_of}
use Rattle.mj_routing.specs.Places.{mark_in, role_mark}
use Rattle.mj_routing.specs.Deadlines.{LeasesStand, SameBut, deadline_at, deadline_on, kept}

-- ---- what a mark says of the deadline

role_marked : (limits : Limits) (held : List Held) (n : ℕ) (role : Role) (mark : ℕ) → role_mark role ≡ Some mark → deadline_of limits held n role ≡ Some (mark + lease_of limits held n)
role_marked limits held n Fresh mark e = cc
role_marked limits held n Client mark e = cc
role_marked limits held n (Worker r) mark e = let same : r.mark ≡ mark = cc in ap (λ (m : ℕ). Some (m + lease_of limits held n)) same
role_marked limits held n Gone mark e = cc

pub marked : (limits : Limits) (held : List Held) (n : ℕ) (found : Option Connection) (mark : ℕ) → mark_in found ≡ Some mark → deadline_at limits held n found ≡ Some (mark + lease_of limits held n)
marked limits held n None mark e = cc
marked limits held n (Some c) mark e = role_marked limits held n c.role mark e

role_unmarked : (limits : Limits) (held : List Held) (n : ℕ) (role : Role) → role_mark role ≡ None → deadline_of limits held n role ≡ None
role_unmarked limits held n Fresh e = refl
role_unmarked limits held n Client e = refl
role_unmarked limits held n (Worker r) e = cc
role_unmarked limits held n Gone e = refl

pub unmarked : (limits : Limits) (held : List Held) (n : ℕ) (found : Option Connection) → mark_in found ≡ None → deadline_at limits held n found ≡ None
unmarked limits held n None e = refl
unmarked limits held n (Some c) e = role_unmarked limits held n c.role e

-- ---- the table

got-insert : (m : FinMap nat_cmp ℕ) (n v q : ℕ) → leases_by.get (leases_by.insert m n v) q ≡ cond (n == q) (Some v) (leases_by.get m q)
got-insert m n v q = get-insert nat_cmp_total m n v q ∙ ap (λ (b : Bool). cond b (Some v) (leases_by.get m q)) (tie q n)

got-remove : (m : FinMap nat_cmp ℕ) (n q : ℕ) → leases_by.get (leases_by.remove m n) q ≡ cond (n == q) None (leases_by.get m q)
got-remove m n q = get-remove nat_cmp_total m n q ∙ ap (λ (b : Bool). cond {A = Option ℕ} b None (leases_by.get m q)) (tie q n)

pub renewed : (limits : Limits) (before now : List Connection) (held_before held_now : List Held) (leases new : FinMap nat_cmp ℕ) (n deadline : ℕ)
    → new ≡ leases_by.insert leases n (kept deadline) → deadline_on limits now held_now n ≡ Some deadline
    → LeasesStand limits before held_before leases → SameBut n limits before held_before now held_now → LeasesStand limits now held_now new
renewed limits before now held_before held_now leases new n deadline new_is here stands same = λ q.
    subst (λ (m : FinMap nat_cmp ℕ). leases_by.get m q ≡ option_map kept (deadline_on limits now held_now q)) (sym new_is) (at q (eqb_tells n q))
  where
    at : (q : ℕ) → ((n == q) ≡ true × (n ≡ q)) ⊎ ((n == q) ≡ false × (n ≢ q)) → leases_by.get (leases_by.insert leases n (kept deadline)) q ≡ option_map kept (deadline_on limits now held_now q)
    at q (inl agree) =
        got-insert leases n (kept deadline) q ∙ ap (λ (b : Bool). cond b (Some (kept deadline)) (leases_by.get leases q)) agree.0
        ∙ ap (option_map kept) (sym here ∙ ap (deadline_on limits now held_now) agree.1)
    at q (inr apart) =
        got-insert leases n (kept deadline) q ∙ ap (λ (b : Bool). cond b (Some (kept deadline)) (leases_by.get leases q)) apart.0
        ∙ stands q ∙ ap (option_map kept) (sym (same q (λ e. apart.1 (sym e))))

pub forgotten : (limits : Limits) (before now : List Connection) (held_before held_now : List Held) (leases new : FinMap nat_cmp ℕ) (n : ℕ)
    → new ≡ leases_by.remove leases n → deadline_on limits now held_now n ≡ None
    → LeasesStand limits before held_before leases → SameBut n limits before held_before now held_now → LeasesStand limits now held_now new
forgotten limits before now held_before held_now leases new n new_is here stands same = λ q.
    subst (λ (m : FinMap nat_cmp ℕ). leases_by.get m q ≡ option_map kept (deadline_on limits now held_now q)) (sym new_is) (at q (eqb_tells n q))
  where
    at : (q : ℕ) → ((n == q) ≡ true × (n ≡ q)) ⊎ ((n == q) ≡ false × (n ≢ q)) → leases_by.get (leases_by.remove leases n) q ≡ option_map kept (deadline_on limits now held_now q)
    at q (inl agree) =
        got-remove leases n q ∙ ap (λ (b : Bool). cond {A = Option ℕ} b None (leases_by.get leases q)) agree.0
        ∙ ap (option_map kept) (sym here ∙ ap (deadline_on limits now held_now) agree.1)
    at q (inr apart) =
        got-remove leases n q ∙ ap (λ (b : Bool). cond {A = Option ℕ} b None (leases_by.get leases q)) apart.0
        ∙ stands q ∙ ap (option_map kept) (sym (same q (λ e. apart.1 (sym e))))
