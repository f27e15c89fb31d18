-- Lists of passes that grow at their end, and that are emptied from there.
use Rattle.std.proofs.Common.{◌≡◌, ℕ, zero, suc, ◌+◌, List, [], ◌∷◌, ◌++◌, length, All, refl, sym, ap, ◌∙◌, subst, add-zero, add-one, length-append, arith}
use Rattle.std.specs.List.{AllZip}
use Rattle.std.proofs.lemmas.List.Elements.{All-nil, All-cons, All-push}
use Rattle.mj_base.specs.declared.event.Event.{Event}
use Rattle.mj_lanes.specs.declared.outlet.Item.{Item}
use Rattle.mj_lanes.specs.Ends.{Name}
use Rattle.mj_lanes.specs.Passes.{ReaderState, WriterState, TickerState, OutletState, HubState, AreOfOne, new_reader, new_writer, new_outlet, new_readers, new_writers, AreNew}

writers-snoc : (inbox : Name Event) (lane : ℕ) (os : List OutletState) (o : OutletState) → new_writers inbox lane (os ++ o ∷ []) ≡ new_writers inbox lane os ++ new_writer inbox (lane + length os) o.name ∷ []
writers-snoc inbox lane [] o = ap (λ n. new_writer inbox n o.name ∷ []) (sym (add-zero lane))
writers-snoc inbox lane (x ∷ xs) o =
    let e : lane + 1 + length xs ≡ lane + length (x ∷ xs) = omega arith in
    ap (λ l. new_writer inbox lane x.name ∷ l) (writers-snoc inbox (lane + 1) xs o ∙ ap (λ n. new_writers inbox (lane + 1) xs ++ new_writer inbox n o.name ∷ []) e)

one_more : (inbox : Name Event) (n : ℕ) (name : Name Item) (os : List OutletState) (rs : List ReaderState) (ws : List WriterState) → AreNew inbox n os rs ws
    → AreNew inbox (n + 1) (os ++ new_outlet name ∷ []) (rs ++ new_reader inbox n ∷ []) (ws ++ new_writer inbox n name ∷ [])
one_more inbox n name os rs ws h =
    let at : length os ≡ 0 + length os = omega arith in
    record {
      count = length-append os (new_outlet name ∷ []) ∙ ap (λ m. m + 1) h.count;
      empty = All-push (λ (o : OutletState). o.put ≡ []) os (new_outlet name) h.empty refl;
      readers_are = ap (λ l. l ++ new_reader inbox n ∷ []) h.readers_are ∙ ap (new_readers inbox) (sym (add-one n));
      writers_are = ap (λ l. l ++ new_writer inbox n name ∷ []) h.writers_are ∙ ap (λ m. new_writers inbox 0 os ++ new_writer inbox m name ∷ []) (sym h.count ∙ at) ∙ sym (writers-snoc inbox 0 os (new_outlet name));
    }

of_inbox_readers : (inbox : Name Event) (n : ℕ) → All (λ p. p.inbox ≡ inbox) (new_readers inbox n)
of_inbox_readers inbox zero = All-nil (λ (p : ReaderState). p.inbox ≡ inbox)
of_inbox_readers inbox (suc n) = All-push (λ (p : ReaderState). p.inbox ≡ inbox) (new_readers inbox n) (new_reader inbox n) (of_inbox_readers inbox n) refl

of_inbox_writers : (inbox : Name Event) (lane : ℕ) (os : List OutletState) → All (λ w. w.inbox ≡ inbox) (new_writers inbox lane os)
of_inbox_writers inbox lane [] = All-nil (λ (w : WriterState). w.inbox ≡ inbox)
of_inbox_writers inbox lane (o ∷ os) = All-cons (λ (w : WriterState). w.inbox ≡ inbox) (new_writer inbox lane o.name) (new_writers inbox (lane + 1) os) refl (of_inbox_writers inbox (lane + 1) os)

of_outlets : (inbox : Name Event) (lane : ℕ) (os : List OutletState) → AllZip (λ (w : WriterState) (o : OutletState). w.outlet ≡ o.name) (new_writers inbox lane os) os
of_outlets inbox lane [] = tt
of_outlets inbox lane (o ∷ os) = (refl, of_outlets inbox (lane + 1) os)

pub grown : (inbox : Name Event) (n : ℕ) (name : Name Item) (os os' : List OutletState) (rs rs' : List ReaderState) (ws ws' : List WriterState) (r : ReaderState) (w : WriterState) → AreNew inbox n os rs ws
    → os' ≡ os ++ new_outlet name ∷ [] → r ≡ new_reader inbox n → rs' ≡ rs ++ r ∷ [] → w ≡ new_writer inbox n name → ws' ≡ ws ++ w ∷ [] → AreNew inbox (n + 1) os' rs' ws'
grown inbox n name os os' rs rs' ws ws' r w h eo er ers ew ews =
    let readers : rs' ≡ rs ++ new_reader inbox n ∷ [] = ers ∙ ap (λ x. rs ++ x ∷ []) er in
    let writers : ws' ≡ ws ++ new_writer inbox n name ∷ [] = ews ∙ ap (λ x. ws ++ x ∷ []) ew in
    subst (λ (x : List OutletState × List ReaderState × List WriterState). AreNew inbox (n + 1) x.0 x.1 x.2) (λ k. (sym eo k, sym readers k, sym writers k)) (one_more inbox n name os rs ws h)

pub are_of_one : (was : Name Event) (now : HubState) (lanes : ℕ) (rs : List ReaderState) (ws : List WriterState) (ticks : TickerState) → now.inbox ≡ was → ticks.inbox ≡ was → AreNew was lanes now.outlets rs ws → AreOfOne now rs ws ticks
are_of_one was now lanes rs ws ticks e t h = record {
  ticker = t ∙ sym e;
  readers_are = subst (λ (n : Name Event). All (λ (p : ReaderState). p.inbox ≡ n) rs) (sym e) (subst (All (λ (p : ReaderState). p.inbox ≡ was)) (sym h.readers_are) (of_inbox_readers was lanes));
  writers_are = subst (λ (n : Name Event). All (λ (w : WriterState). w.inbox ≡ n) ws) (sym e) (subst (All (λ (w : WriterState). w.inbox ≡ was)) (sym h.writers_are) (of_inbox_writers was 0 now.outlets));
  outlets = subst (λ (l : List WriterState). AllZip (λ (w : WriterState) (o : OutletState). w.outlet ≡ o.name) l now.outlets) (sym h.writers_are) (of_outlets was 0 now.outlets);
}

module _ {A B : Type 0} (R : A → B → Type 0) where
  zip-push : (xs : List A) (ys : List B) (x : A) (y : B) → AllZip R xs ys → R x y → AllZip R (xs ++ x ∷ []) (ys ++ y ∷ [])
  zip-push [] [] x y h r = (r, tt)
  zip-push [] (b ∷ ys) x y h r = absurd h
  zip-push (a ∷ xs) [] x y h r = absurd h
  zip-push (a ∷ xs) (b ∷ ys) x y h r = (h.0, zip-push xs ys x y h.1 r)

  zip-pop : (xs : List A) (ys : List B) (x : A) (y : B) → AllZip R (xs ++ x ∷ []) (ys ++ y ∷ []) → AllZip R xs ys × R x y
  zip-pop [] [] x y h = (tt, h.0)
  zip-pop [] (b ∷ []) x y h = absurd h.1
  zip-pop [] (b ∷ c ∷ ys) x y h = absurd h.1
  zip-pop (a ∷ []) [] x y h = absurd h.1
  zip-pop (a ∷ b ∷ xs) [] x y h = absurd h.1
  zip-pop (a ∷ xs) (b ∷ ys) x y h = let t = zip-pop xs ys x y h.1 in ((h.0, t.0), t.1)

  not-ended : (xs : List A) (x : A) → AllZip R (xs ++ x ∷ []) [] → ⊥
  not-ended [] x h = h
  not-ended (y ∷ ys) x h = h

  -- what holds of two lists, place by place, holds of their last items and of the others
  pub zip-last : (xs xs' : List A) (ys ys' : List B) (x : A) (y : B) → xs ≡ xs' ++ x ∷ [] → ys ≡ ys' ++ y ∷ [] → AllZip R xs ys → AllZip R xs' ys' × R x y
  zip-last xs xs' ys ys' x y e f h = zip-pop xs' ys' x y (subst (λ (l : List A × List B). AllZip R l.0 l.1) (λ k. (e k, f k)) h)

  pub zip-with-last : (xs xs' : List A) (ys ys' : List B) (x : A) (y : B) → xs ≡ xs' ++ x ∷ [] → ys ≡ ys' ++ y ∷ [] → R x y → AllZip R xs' ys' → AllZip R xs ys
  zip-with-last xs xs' ys ys' x y e f here others = subst (λ (l : List A × List B). AllZip R l.0 l.1) (λ k. (sym e k, sym f k)) (zip-push xs' ys' x y others here)

  -- where one list has a last item, the other isn't empty
  pub zip-too-short : (xs xs' : List A) (ys : List B) (x : A) → xs ≡ xs' ++ x ∷ [] → ys ≡ [] → AllZip R xs ys → ⊥
  zip-too-short xs xs' ys x e f h = not-ended xs' x (subst (λ (l : List A × List B). AllZip R l.0 l.1) (λ k. (e k, f k)) h)

  pub zip-ends : (ys : List B) → AllZip R [] ys → ys ≡ []
  zip-ends [] h = refl
  zip-ends (y ∷ ys) h = absurd h

-- what holds of the last item and of the others holds of all
pub all-last : {A : Type 0} (Q : A → Type 0) (xs ys : List A) (x : A) → xs ≡ ys ++ x ∷ [] → Q x → All Q ys → All Q xs
all-last Q xs ys x e here others = subst (All Q) (sym e) (All-push Q ys x others here)
