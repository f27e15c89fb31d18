-- What is said of an open shelf.
use Rattle.std.proofs.Common.{◌≡◌, Err, IfErr, IfSome, Ok, Option, Some, OnOk, Result, sym, subst}
use Rattle.mj_store.specs.Standing.{StoreValue}
use Rattle.mj_keeper.specs.declared.keeper.Shelf.{Shelf}
use Rattle.mj_keeper.specs.declared.keeper.Shelf.TheVariants as shelves
use Rattle.mj_keeper.specs.Standing.{IsOpenWith}

pub open-with : (P : StoreValue → Type 0) (shelf : Shelf) (held : StoreValue) → shelf ≡ shelves.Open held → P held → IsOpenWith P shelf
open-with P shelf held is p = subst (λ (s : Shelf). IsOpenWith P s) (sym is) p

pub with-open : (P : StoreValue → Type 0) (shelf : Shelf) (held : StoreValue) → shelf ≡ shelves.Open held → IsOpenWith P shelf → P held
with-open P shelf held is p = subst (λ (s : Shelf). IsOpenWith P s) is p

-- ---- what holds of a result

pub on-ok-map : {T E : Type 0} (r : Result T E) (P Q : Type 0) → (P → Q) → OnOk r P → OnOk r Q
on-ok-map (Ok v) P Q f p = f p
on-ok-map (Err e) P Q f p = p

pub if-err-map : {T E : Type 0} (r : Result T E) (P Q : E → Type 0) → ((e : E) → P e → Q e) → IfErr r P → IfErr r Q
if-err-map (Ok v) P Q f p = p
if-err-map (Err e) P Q f p = f e p

-- of a value that is there
pub with-some : {A : Type 0} (P : A → Type 0) (o : Option A) (a : A) → o ≡ Some a → IfSome o P → P a
with-some {A} P o a is p = subst (λ (x : Option A). IfSome x P) is p
