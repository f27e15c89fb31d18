-- What a link tells, one thing behind the other; counts that don't fall.
use Rattle.std.proofs.Common.{◌≡◌, ℕ, List, [], ◌++◌, sym, ap, subst, ◌∙◌, append_assoc, append-nil, Option, None, Some, ◌≤◌, Result, Ok, Err, OnErr, IfErr, IfOk, arith}
use Rattle.std.specs.Prelude.{OnOk}
use Rattle.mj_base.specs.Linking.{Tells}
use Rattle.mj_base.specs.declared.link.LinkEntry.{LinkEntry}
use Rattle.mj_copying.specs.Passing.{AreLater, Counts}

pub tells_same : (old now : Option (List LinkEntry)) → now ≡ old → Tells old now []
tells_same None now e = e
tells_same (Some xs) now e = e ∙ ap Some (sym (append-nil xs))

pub tells_more : (old mid now : Option (List LinkEntry)) (xs ys : List LinkEntry) → Tells old mid xs → Tells mid now ys → Tells old now (xs ++ ys)
tells_more None mid now xs ys a b = subst (λ (m : Option (List LinkEntry)). Tells m now ys) a b
tells_more (Some ts) mid now xs ys a b = subst (λ (m : Option (List LinkEntry)). Tells m now ys) a b ∙ ap Some (append_assoc ts xs ys)

-- where nothing more was told
pub tells_still : (old mid now : Option (List LinkEntry)) (xs : List LinkEntry) → Tells old mid xs → now ≡ mid → Tells old now xs
tells_still old mid now xs a e = subst (λ (m : Option (List LinkEntry)). Tells old m xs) (sym e) a

pub tells_alike : (old now : Option (List LinkEntry)) (xs ys : List LinkEntry) → xs ≡ ys → Tells old now xs → Tells old now ys
tells_alike old now xs ys e a = subst (λ (l : List LinkEntry). Tells old now l) e a

pub later_more : (a b c : Counts) → AreLater a b → AreLater b c → AreLater a c
later_more a b c x y = record {
  reads = (let h = x.reads in let k = y.reads in omega (arith, h, k));
  writes = (let h = x.writes in let k = y.writes in omega (arith, h, k));
  disk = (let h = x.disk in let k = y.disk in omega (arith, h, k));
}

-- ---- results

pub on_ok : {T E P Q : Type 0} (r : Result T E) → (P → Q) → OnOk r P → OnOk r Q
on_ok (Ok x) f p = f p
on_ok (Err e) f p = p

pub on_ok_always : {T E Q : Type 0} (r : Result T E) → Q → OnOk r Q
on_ok_always (Ok x) q = q
on_ok_always (Err e) q = tt

pub on_err : {T E P Q : Type 0} (r : Result T E) → (P → Q) → OnErr r P → OnErr r Q
on_err (Ok x) f p = p
on_err (Err e) f p = f p

pub if_ok : {T E : Type 0} {P Q : T → Type 0} (r : Result T E) → ((x : T) → P x → Q x) → IfOk r P → IfOk r Q
if_ok (Ok x) f p = f x p
if_ok (Err e) f p = p

pub if_err : {T E : Type 0} {P Q : E → Type 0} (r : Result T E) → ((e : E) → P e → Q e) → IfErr r P → IfErr r Q
if_err (Ok x) f p = p
if_err (Err e) f p = f e p

pub if_err_both : {T E A : Type 0} {P Q : E → Type 0} (r : Result T E) → ((e : E) → A → P e → Q e) → OnErr r A → IfErr r P → IfErr r Q
if_err_both (Ok x) f a p = p
if_err_both (Err e) f a p = f e a p

pub later_none : (a : Counts) → AreLater a a
later_none a = record { reads = le_refl a.reads; writes = le_refl a.writes; disk = le_refl a.disk }
  where
    le_refl : (n : ℕ) → n ≤ n
    le_refl n = omega arith
