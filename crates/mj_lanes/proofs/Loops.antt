-- What the loops of readers, writers and the ticker add in one turn.
use Rattle.std.proofs.Common.{◌≡◌, ℕ, ◌<◌, ◌≤◌, List, [], ◌∷◌, ◌++◌, map, take, Option, sym, ap, ◌∙◌, subst, append_assoc, append-nil, arith}
use Rattle.std.specs.List.{concat}
use Rattle.std.specs.Io.KnownBytes.{Keeps, Consumes, Appends}
use Rattle.std.proofs.KnownBytes.{Consumes-nil, Consumes-trans, Appends-nil, Appends-trans, Appends-kept}
use Rattle.std.proofs.lemmas.List.{map-append}
use Rattle.std.proofs.lemmas.List.Folds.{concat-append}
use Rattle.std.proofs.lemmas.List.Elements.{All-nil, All-push}
use Rattle.mj_base.specs.Rising.{Rose}
use Rattle.mj_base.specs.Writing.{AppendsFront}
use Rattle.mj_base.specs.declared.event.Event.{Event}
use Rattle.mj_base.specs.declared.event.Event.TheVariants.{Bytes, Sent, Close, Tick, Stop}
use Rattle.mj_lanes.specs.declared.outlet.Item.{Item}
use Rattle.mj_lanes.specs.declared.outlet.Item.TheVariants.{Piece, Mark}
use Rattle.mj_lanes.specs.ReadSteps.{Reads, ReadsAll}
use Rattle.mj_lanes.specs.WriteSteps.{Wrote, WroteAll, WroteFront, Drops, Writes}
use Rattle.mj_lanes.specs.TickSteps.{IsEarly, Ticks, TicksAll}

pub rose_since : (a b c : ℕ) → a ≤ b → Rose b c → Rose a c
rose_since a b c le h = omega arith

-- a list that grows twice by images
pub mapped_twice : {A B : Type 0} (f : A → B) (l m n : List B) (xs ys : List A) → m ≡ l ++ map f xs → n ≡ m ++ map f ys → n ≡ l ++ map f (xs ++ ys)
mapped_twice f l m n xs ys e e' = e' ∙ ap (λ k. k ++ map f ys) e ∙ append_assoc l (map f xs) (map f ys) ∙ ap (λ k. l ++ k) (sym (map-append f xs ys))

pub reads_none : (lane : ℕ) (sent : List Event) (left : Option (List ℕ)) → Reads lane sent sent left left
reads_none lane sent left = record { pieces = []; sends = sym (append-nil sent); takes = Consumes-nil left }

pub reads_one : (lane at : ℕ) (s t : List Event) (p q : List ℕ) (a b : Option (List ℕ)) → at ≡ lane → p ≡ q → t ≡ s ++ Bytes at p ∷ [] → Consumes a b q → Reads lane s t a b
reads_one lane at s t p q a b here same sends takes = record {
  pieces = q ∷ [];
  sends = sends ∙ (λ k. s ++ Bytes (here k) (same k) ∷ []);
  takes = subst (Consumes a b) (sym (append-nil q)) takes;
}

reads_more : (lane : ℕ) (s t u : List Event) (a b c : Option (List ℕ)) → Reads lane s t a b → Reads lane t u b c → Reads lane s u a c
reads_more lane s t u a b c h h' = record {
  pieces = h.pieces ++ h'.pieces;
  sends = mapped_twice (Bytes lane) s t u h.pieces h'.pieces h.sends h'.sends;
  takes = subst (Consumes a c) (sym (concat-append h.pieces h'.pieces)) (Consumes-trans a b c (concat h.pieces) (concat h'.pieces) h.takes h'.takes);
}

-- the same where the second part speaks of the lane by another name
pub reads_turn : (lane at : ℕ) (s t u : List Event) (a b c : Option (List ℕ)) → at ≡ lane → Reads lane s t a b → Reads at t u b c → Reads lane s u a c
reads_turn lane at s t u a b c here h h' = reads_more lane s t u a b c h (subst (λ n. Reads n t u b c) here h')

pub reads_all : (lane : ℕ) (s t u : List Event) (a b : Option (List ℕ)) → Reads lane s t a b → u ≡ t ++ Close lane ∷ [] → ReadsAll lane s u a b
reads_all lane s t u a b h e = record { pieces = h.pieces; sends = e ∙ ap (λ l. l ++ Close lane ∷ []) h.sends; takes = h.takes }

module _ (lane : ℕ) where
  pub wrote_none : (t : List Item) (s : List Event) (a : Option (List ℕ)) → Wrote lane t t s s a a
  wrote_none t s a = record { pieces = []; takes = sym (append-nil t); sends = sym (append-nil s); writes = Appends-nil a }

  pub wrote_one : (t t' u : List Item) (s s' v : List Event) (a b c : Option (List ℕ)) (p : List ℕ) → Wrote lane t t' s s' a b → u ≡ t' ++ Piece p ∷ [] → v ≡ s' ++ Sent lane ∷ [] → Appends b c p → Wrote lane t u s v a c
  wrote_one t t' u s s' v a b c p h takes sends writes = record {
    pieces = h.pieces ++ p ∷ [];
    takes = mapped_twice Piece t t' u h.pieces (p ∷ []) h.takes takes;
    sends = mapped_twice (λ _. Sent lane) s s' v h.pieces (p ∷ []) h.sends sends;
    writes = subst (Appends a c) (ap (λ l. concat h.pieces ++ l) (sym (append-nil p)) ∙ sym (concat-append h.pieces (p ∷ []))) (Appends-trans a b c (concat h.pieces) p h.writes writes);
  }

  pub wrote_all : (t t' u : List Item) (s s' : List Event) (a b : Option (List ℕ)) → Wrote lane t t' s s' a b → u ≡ t' ++ Mark ∷ [] → WroteAll lane t u s s' a b
  wrote_all t t' u s s' a b h e = record {
    pieces = h.pieces;
    takes = e ∙ ap (λ l. l ++ Mark ∷ []) h.takes ∙ append_assoc t (map Piece h.pieces) (Mark ∷ []);
    sends = h.sends;
    writes = h.writes;
  }

  pub wrote_front : (t t' u : List Item) (s s' v : List Event) (a b c : Option (List ℕ)) (cut : List ℕ) → Wrote lane t t' s s' a b → u ≡ t' ++ Piece cut ∷ [] → v ≡ s' → AppendsFront b c cut → WroteFront lane t u s v a c
  wrote_front t t' u s s' v a b c cut h e same front = record {
    pieces = h.pieces;
    cut = cut;
    n = front.0;
    takes = e ∙ ap (λ l. l ++ Piece cut ∷ []) h.takes ∙ append_assoc t (map Piece h.pieces) (Piece cut ∷ []);
    sends = same ∙ h.sends;
    writes = Appends-trans a b c (concat h.pieces) (take front.0 cut) h.writes front.1;
  }

  -- a write that added nothing added a front
  pub nothing_added : (b c : Option (List ℕ)) (cut : List ℕ) → Keeps b c → AppendsFront b c cut
  nothing_added b c cut keeps = (0, Appends-kept b b c [] (Appends-nil b) keeps)

  pub writes_all : (t t' : List Item) (s s' : List Event) (a b : Option (List ℕ)) → WroteAll lane t t' s s' a b → Writes lane t t' s s' a b
  writes_all t t' s s' a b h = record {
    pieces = h.pieces;
    rest = [];
    n = 0;
    takes = h.takes ∙ ap (λ l. t ++ (map Piece l ++ Mark ∷ [])) (sym (append-nil h.pieces));
    sends = h.sends;
    writes = subst (Appends a b) (sym (append-nil (concat h.pieces))) h.writes;
  }

  pub writes_front : (t t' u : List Item) (s s' v : List Event) (a b : Option (List ℕ)) → WroteFront lane t t' s s' a b → Drops t' u → v ≡ s' → Writes lane t u s v a b
  writes_front t t' u s s' v a b h d same =
      let ps : List Item = map Piece h.pieces in
      let ds : List Item = map Piece d.pieces ++ Mark ∷ [] in
      let regroup : (t ++ (ps ++ Piece h.cut ∷ [])) ++ ds ≡ t ++ (ps ++ (Piece h.cut ∷ ds)) = append_assoc t (ps ++ Piece h.cut ∷ []) ds ∙ ap (λ l. t ++ l) (append_assoc ps (Piece h.cut ∷ []) ds) in
      let whole : map Piece (h.pieces ++ h.cut ∷ d.pieces) ++ Mark ∷ [] ≡ ps ++ (Piece h.cut ∷ ds)
      = ap (λ l. l ++ Mark ∷ []) (map-append Piece h.pieces (h.cut ∷ d.pieces)) ∙ append_assoc ps (Piece h.cut ∷ map Piece d.pieces) (Mark ∷ []) in
      record {
        pieces = h.pieces;
        rest = h.cut ∷ d.pieces;
        n = h.n;
        takes = d.takes ∙ ap (λ l. l ++ ds) h.takes ∙ regroup ∙ ap (λ l. t ++ l) (sym whole);
        sends = same ∙ h.sends;
        writes = subst (λ l. Appends a b (concat h.pieces ++ take h.n l)) (sym (append-nil h.cut)) h.writes;
      }

-- pieces that were taken and dropped
pub dropped_more : (t t' u : List Item) (ps : List (List ℕ)) (p : List ℕ) → t' ≡ t ++ map Piece ps → u ≡ t' ++ Piece p ∷ [] → u ≡ t ++ map Piece (ps ++ p ∷ [])
dropped_more t t' u ps p e e' = mapped_twice Piece t t' u ps (p ∷ []) e e'

pub drops : (t t' u : List Item) (ps : List (List ℕ)) → t' ≡ t ++ map Piece ps → u ≡ t' ++ Mark ∷ [] → Drops t u
drops t t' u ps e e' = record { pieces = ps; takes = e' ∙ ap (λ l. l ++ Mark ∷ []) e ∙ append_assoc t (map Piece ps) (Mark ∷ []) }

module _ (until : ℕ) where
  pub ticks_none : (s : List Event) (a : Option (List ℕ)) → Ticks until s s a a
  ticks_none s a = record { moments = []; sends = sym (append-nil s); gives = Appends-nil a; early = All-nil (IsEarly until) }

  pub ticks_more : (s t u : List Event) (a b c : Option (List ℕ)) (m : ℕ) → Ticks until s t a b → u ≡ t ++ Tick m ∷ [] → Appends b c (m ∷ []) → IsEarly until m → Ticks until s u a c
  ticks_more s t u a b c m h e gives early = record {
    moments = h.moments ++ m ∷ [];
    sends = mapped_twice Tick s t u h.moments (m ∷ []) h.sends e;
    gives = Appends-trans a b c h.moments (m ∷ []) h.gives gives;
    early = All-push (IsEarly until) h.moments m h.early early;
  }

  pub ticks_all : (s t u v : List Event) (a b c : Option (List ℕ)) (m : ℕ) → Ticks until s t a b → u ≡ t ++ Tick m ∷ [] → Appends b c (m ∷ []) → v ≡ u ++ Stop ∷ [] → (0 < until) × (until ≤ m) → TicksAll until s v a c
  ticks_all s t u v a b c m h e gives e' last = record {
    moments = h.moments;
    last = m;
    sends = e' ∙ ap (λ l. l ++ Stop ∷ []) (mapped_twice Tick s t u h.moments (m ∷ []) h.sends e);
    gives = Appends-trans a b c h.moments (m ∷ []) h.gives gives;
    early = h.early;
    has_end = last.0;
    reached = last.1;
  }
