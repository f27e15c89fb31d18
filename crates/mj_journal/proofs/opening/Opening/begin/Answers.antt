use Rattle.std.proofs.Common.{◌≡◌, ◌<◌, ◌++◌, ◌∷◌, ℕ, Option, None, is_some, take, drop, refl, ap, subst, sym, ◌∙◌, arith}
use Rattle.std.proofs.lemmas.Result.{IfOk-weaker}
use Rattle.mj_disk.specs.Content.{settled}
use Rattle.mj_disk.specs.DiskModel.{History, Now, Becomes}
use Rattle.mj_journal.specs.declared.opening.Opening.{Opening}
use Rattle.mj_journal.specs.FileText.{header_2, IsHeader}
use Rattle.mj_journal.specs.Opening.{Begins, IsEmptyWith}
use Rattle.mj_journal.proofs.Beginning.{making_leaves, spoiled_keeps, begins_keeps, begins_long, begins_empty, begins_made, begun_sized, begun_read}
use Rattle.mj_journal.proofs.Exits.{both_at_ok, either_exit}
use Rattle.mj_journal.proofs.opening.Opening.begin.Goals as goal

pub returns-then-is_long-clause-begun : goal.returns-then-is_long-clause-begun
returns-then-is_long-clause-begun g c =
    IfOk-weaker c.open_long.result
    (λ (o : Opening). (o.size ≡ c.in-Ok.size) × Now (g.D.Disk.told c.settle.new.disk) (λ held. IsHeader o.base (take 16 held.octets)))
    (λ (o : Opening). Begins c.args.base o.base o.size (g.D.Disk.told c.args.disk.now) (g.D.Disk.told c.open_long.new.disk))
    (λ o h.
    let long : 17 < o.size = omega (arith, h.0) in
    begins_long c.args.base o.base o.size _ _ _ c.in-Ok.ensures.synced c.open_long.ensures.same long (λ history is. h.0 ∙ c.in-Ok.ensures.size history is) h.1)
    c.open_long.ensures.header

pub returns-in_default-found-clause-begun : goal.returns-in_default-found-clause-begun
returns-in_default-found-clause-begun g c =
    let before = g.D.Disk.told c.args.disk.now in
    let after = g.D.Disk.told c.make.new.disk in
    IfOk-weaker c.make.result
    (λ (o : Opening). (o.base ≡ c.args.base) × (o.size ≡ 17) × Becomes (λ held. settled (header_2 c.args.base ++ 0 ∷ drop 17 held.octets)) (g.D.Disk.told c.find_short.new.disk) after)
    (λ (o : Opening). Begins c.args.base o.base o.size before after)
    (λ o h.
    let made = subst (λ (t : Option History). Becomes (λ held. settled (header_2 c.args.base ++ 0 ∷ drop 17 held.octets)) t after) c.find_short.ensures.same h.2 in
    let begins = begins_made c.args.base c.in-Ok.size _ _ _ c.requires.low c.requires.high c.if-is_long.ensures c.in-Ok.ensures.synced c.in-Ok.ensures.size (λ history is. subst (λ (f : Option ℕ). IsEmptyWith f history.now.octets) c.in_default-found.is (c.in-Ok-find_short.ensures.found history is)) made in
    subst (λ (b : ℕ). Begins c.args.base b o.size before after) (sym h.0) (subst (λ (n : ℕ). Begins c.args.base c.args.base n before after) (sym h.1) begins))
    c.make.ensures.made

pub returns-in_default-found-clause-size : goal.returns-in_default-found-clause-size
returns-in_default-found-clause-size g c =
    let telling = c.make.ensures.telling ∙ ap is_some c.find_short.ensures.same ∙ c.settle.ensures.telling in
    IfOk-weaker c.make.result _ _ (λ (o : Opening) begins. begun_sized c.args.base o.base o.size _ _ begins telling) (returns-in_default-found-clause-begun g c)

pub returns-in_default-found-clause-ready : goal.returns-in_default-found-clause-ready
returns-in_default-found-clause-ready g c =
    let telling = c.make.ensures.telling ∙ ap is_some c.find_short.ensures.same ∙ c.settle.ensures.telling in
    both_at_ok c.make.result _ _ _ (λ (o : Opening) begins first. begun_read c.args.base o.base o.size o.next _ _ begins telling first.0) (returns-in_default-found-clause-begun g c) c.make.ensures.first

pub returns-in_default-found-clause-kept : goal.returns-in_default-found-clause-kept
returns-in_default-found-clause-kept g c =
    let none : Now (g.D.Disk.told c.settle.new.disk) (λ held. IsEmptyWith None held.octets) = λ history is. subst (λ (f : Option ℕ). IsEmptyWith f history.now.octets) c.in_default-found.is (c.in-Ok-find_short.ensures.found history is) in
    either_exit c.make.result
    (λ (o : Opening) begins. begins_keeps c.args.base o.base o.size _ _ begins)
    (spoiled_keeps c.in-Ok.size _ _ _ _ c.if-is_long.ensures c.settle.ensures.kept c.find_short.ensures.same c.in-Ok.ensures.size none)
    (returns-in_default-found-clause-begun g c)
    c.make.ensures.spoiled

pub returns-in_default-found-clause-crash : goal.returns-in_default-found-clause-crash
returns-in_default-found-clause-crash g c =
    let none : Now (g.D.Disk.told c.settle.new.disk) (λ held. IsEmptyWith None held.octets) = λ history is. subst (λ (f : Option ℕ). IsEmptyWith f history.now.octets) c.in_default-found.is (c.in-Ok-find_short.ensures.found history is) in
    making_leaves c.in-Ok.size _ _ _ _ _ _ _ _ c.if-is_long.ensures c.settle.ensures.crash c.in-Ok.ensures.synced c.find_short.ensures.same c.find_short.ensures.later c.in-Ok.ensures.size none c.make.ensures.crash

pub returns-then-is_long-clause-ready : goal.returns-then-is_long-clause-ready
returns-then-is_long-clause-ready g c =
    let telling = ap is_some c.open_long.ensures.same ∙ c.settle.ensures.telling in
    both_at_ok c.open_long.result _ _ _ (λ (o : Opening) begins first. begun_read c.args.base o.base o.size o.next _ _ begins telling first.0) (returns-then-is_long-clause-begun g c) c.open_long.ensures.first

pub returns-clause-begun : goal.returns-clause-begun
returns-clause-begun g c =
    begins_empty c.args.base c.in-Some.found _ _ _ c.in-Ok.ensures.synced c.find_short.ensures.same (λ history is. subst (λ (f : Option ℕ). IsEmptyWith f history.now.octets) c.in-Some.is (c.in-Ok-find_short.ensures.found history is))

pub returns-clause-size : goal.returns-clause-size
returns-clause-size g c =
    begun_sized c.args.base c.in-Some.found 17 _ _ (returns-clause-begun g c) (ap is_some c.find_short.ensures.same ∙ c.settle.ensures.telling)

pub returns-clause-ready : goal.returns-clause-ready
returns-clause-ready g c =
    begun_read c.args.base c.in-Some.found 17 16 _ _ (returns-clause-begun g c) (ap is_some c.find_short.ensures.same ∙ c.settle.ensures.telling) refl
