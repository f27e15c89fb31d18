-- A text, byte by byte.
use Rattle.std.proofs.Common.{◌≡◌, ◌<◌, ◌≤◌, ◌+◌, ℕ, Bool, false, cond, List, [], ◌∷◌, ◌++◌, length, map, take, drop, get_or, Option, Some, None, Result, Ok, Err, IfOk, refl, sym, ap, subst, ◌∙◌, arith, append-nil, append_assoc, length-append, take-append-drop}
use Rattle.std.specs.Prelude.{replicate}
use Rattle.std.specs.List.{list_any, position}
use Rattle.std.proofs.lemmas.Bool.{lt-ltb, or_from}
use Rattle.std.proofs.lemmas.List.{drop_more, length-map, map-append, take_more}
use Rattle.mj_ledger.proofs.Lists.{any-push}
use Rattle.mj_audit.specs.Judging.{StandsFor}
use Rattle.mj_audit.specs.declared.audit.Audit.{Audit}
use Rattle.mj_audit_prog.specs.Reading.{AreHeld, IsRead, LastStep, LineStep, OctetStep, Standing}
use Rattle.mj_audit_prog.specs.TextLines.{IsJudged, is_newline, lines_of}
use Rattle.mj_audit_prog.specs.declared.reader.Reader.{Reader}
use Rattle.mj_audit_prog.proofs.TextLemmas.{plain-begun, plain-end, plain-newline}
use Rattle.mj_audit_prog.proofs.VerdictLemmas.{held-end, held-more, held-over}
use Rattle.mj_transcript.specs.Text.{is_silent, is_space, line_of, worded_at}
use Rattle.mj_transcript.specs.Verdicts.{judged, verdict_after, verdict_at}
use Rattle.mj_transcript.specs.declared.line.Line.{Line}
use Rattle.mj_transcript.specs.declared.line.Line.TheVariants as lined
use Rattle.mj_transcript.specs.declared.verdict.Verdict.{Verdict}
use Rattle.mj_transcript.specs.declared.verdict.Verdict.TheVariants as verdicts

pub if-ok : {A E : Type 0} {P Q : A → Type 0} (r : Result A E) → ((x : A) → P x → Q x) → IfOk r P → IfOk r Q
if-ok (Ok x) f h = f x h
if-ok (Err e) f h = h

-- ---- a line

lines-push : (done : List (List ℕ)) (p : List ℕ) → map line_of (done ++ p ∷ []) ≡ map line_of done ++ line_of p ∷ []
lines-push done p = map-append line_of done (p ∷ [])

pub line-held : (old new : Audit) (lines now : ℕ) (done : List (List ℕ)) (p : List ℕ) → StandsFor new (map line_of done ++ line_of p ∷ []) → verdict_at (map line_of done) (line_of p) ≡ verdicts.Held → AreHeld (map line_of done) → lines ≡ length done → now ≡ lines + 1
    → StandsFor new (map line_of (done ++ p ∷ [])) × AreHeld (map line_of (done ++ p ∷ [])) × (now ≡ length (done ++ p ∷ []))
line-held old new lines now done p stands held before count more = (
  subst (StandsFor new) (sym (lines-push done p)) stands,
  subst AreHeld (sym (lines-push done p)) (held-more (map line_of done) (line_of p) held before),
  (let l = length-append done (p ∷ []) in omega (arith, l, count, more)),
)

pub line-over : (done : List (List ℕ)) (line : Line) (v : Verdict) → v ≡ verdict_at (map line_of done) line → (v ≡ verdicts.Held → ⊥) → AreHeld (map line_of done) → (more : List Line) → judged (map line_of done ++ line ∷ more) ≡ replicate (length done) verdicts.Held ++ v ∷ []
line-over done line v is other before more =
    held-over (map line_of done) line v is other before more ∙ ap (λ (n : ℕ). replicate n verdicts.Held ++ v ∷ []) (length-map done line_of)

judged-lines : (text : List ℕ) (done : List (List ℕ)) (p : List ℕ) (rest : List (List ℕ)) (held : ℕ) (v : Verdict) → lines_of text ≡ done ++ p ∷ rest → held ≡ length done
    → ((more : List Line) → judged (map line_of done ++ line_of p ∷ more) ≡ replicate (length done) verdicts.Held ++ v ∷ []) → IsJudged text held v
judged-lines text done p rest held v split count over =
    ap (λ (l : List (List ℕ)). judged (map line_of l)) split ∙ ap judged (map-append line_of done (p ∷ rest)) ∙ over (map line_of rest)
    ∙ ap (λ (n : ℕ). replicate n verdicts.Held ++ v ∷ []) (sym count)

-- ---- a newline

split-newline : (old : Reader) (read : List ℕ) (r : IsRead old read) (rest : List ℕ) → lines_of ((read ++ 10 ∷ []) ++ rest) ≡ r.done ++ old.pending.items ∷ lines_of rest
split-newline old read r rest =
    ap lines_of (append_assoc read (10 ∷ []) rest) ∙ r.split (10 ∷ rest) ∙ ap (λ (l : List (List ℕ)). r.done ++ l) (plain-newline old.pending.items rest r.plain)

newline-at : (over : Option Verdict) (old new : Reader) (read : List ℕ) → ((done : List (List ℕ)) → Standing old done → LineStep over old new done) → IsRead old read → OctetStep over new (read ++ 10 ∷ [])
newline-at None old new read step r =
    let s = step r.done r.standing in
    record {
      done = r.done ++ old.pending.items ∷ [];
      standing = s.0;
      split = λ rest. split-newline old read r rest ∙ sym (append_assoc r.done (old.pending.items ∷ []) (lines_of rest))
          ∙ ap (λ (l : List ℕ). (r.done ++ old.pending.items ∷ []) ++ lines_of (l ++ rest)) (sym s.1);
      plain = ap (list_any is_newline) s.1;
      short = (let none : length new.pending.items ≡ 0 = ap length s.1 in omega (arith, none));
    }
newline-at (Some v) old new read step r =
    let s = step r.done r.standing in
    λ rest. judged-lines ((read ++ 10 ∷ []) ++ rest) r.done old.pending.items (lines_of rest) new.lines v (split-newline old read r rest) s.0 s.1

pub newline-step : (over : Option Verdict) (old new : Reader) (read : List ℕ) (octet : ℕ) → octet ≡ 10 → ((done : List (List ℕ)) → Standing old done → LineStep over old new done) → IsRead old read → OctetStep over new (read ++ octet ∷ [])
newline-step over old new read octet is step r = subst (λ (o : ℕ). OctetStep over new (read ++ o ∷ [])) (sym is) (newline-at over old new read step r)

-- ---- another byte

split-octet : (old : Reader) (read : List ℕ) (octet : ℕ) (r : IsRead old read) (rest : List ℕ) → lines_of ((read ++ octet ∷ []) ++ rest) ≡ r.done ++ lines_of ((old.pending.items ++ octet ∷ []) ++ rest)
split-octet old read octet r rest =
    ap lines_of (append_assoc read (octet ∷ []) rest) ∙ r.split (octet ∷ rest) ∙ ap (λ (l : List ℕ). r.done ++ lines_of l) (sym (append_assoc old.pending.items (octet ∷ []) rest))

plain-push : (p : List ℕ) (octet : ℕ) → list_any is_newline p ≡ false → is_newline octet ≡ false → list_any is_newline (p ++ octet ∷ []) ≡ false
plain-push p octet plain isnt = any-push is_newline p octet ∙ or_from (list_any is_newline p) (is_newline octet) plain isnt

begun-any : (p rest : List ℕ) → 0 < length p → list_any is_newline p ≡ false → (x : List ℕ) × (more : List (List ℕ)) × (lines_of (p ++ rest) ≡ (p ++ x) ∷ more)
begun-any [] rest some plain = absurd (omega arith)
begun-any (c ∷ cs) rest some plain = plain-begun c cs rest plain

too-long : (text : List ℕ) → 131081 < length text → line_of text ≡ lined.Unlawful
too-long text long = ap (λ (b : Bool). cond b lined.Unlawful (cond (is_silent text) lined.Silent (worded_at text (position is_space text)))) (lt-ltb 131081 (length text) long)

unheld : verdicts.Unlawful ≡ verdicts.Held → ⊥
unheld h = cc

pub long-step : (old : Reader) (read : List ℕ) (octet : ℕ) (pending : List ℕ) → pending ≡ old.pending.items ++ octet ∷ [] → is_newline octet ≡ false → 131081 < length pending → IsRead old read → (rest : List ℕ) → IsJudged ((read ++ octet ∷ []) ++ rest) old.lines verdicts.Unlawful
long-step old read octet pending is isnt long r rest =
    let p = old.pending.items ++ octet ∷ [] in
    let size : 131081 < length p = subst (λ (l : List ℕ). 131081 < length l) is long in
    let b = begun-any p rest (omega (arith, size)) (plain-push old.pending.items octet r.plain isnt) in
    let all : 131081 < length (p ++ b.0) = (let l = length-append p b.0 in omega (arith, l, size)) in
    judged-lines ((read ++ octet ∷ []) ++ rest) r.done (p ++ b.0) b.1 old.lines verdicts.Unlawful
    (split-octet old read octet r rest ∙ ap (λ (l : List (List ℕ)). r.done ++ l) b.2)
    r.standing.count
    (λ more. ap (λ (line : Line). judged (map line_of r.done ++ line ∷ more)) (too-long (p ++ b.0) all) ∙ line-over r.done lined.Unlawful verdicts.Unlawful refl unheld r.standing.held more)

pub octet-step : (old new : Reader) (read : List ℕ) (octet : ℕ) → new.audit ≡ old.audit → new.lines ≡ old.lines → new.pending.items ≡ old.pending.items ++ octet ∷ [] → is_newline octet ≡ false → length new.pending.items ≤ 131081 → IsRead old read → IsRead new (read ++ octet ∷ [])
octet-step old new read octet audit lines pending isnt short r = record {
  done = r.done;
  standing = record { stands = subst (λ (a : Audit). StandsFor a (map line_of r.done)) (sym audit) r.standing.stands; held = r.standing.held; count = lines ∙ r.standing.count };
  split = λ rest. split-octet old read octet r rest ∙ ap (λ (l : List ℕ). r.done ++ lines_of (l ++ rest)) (sym pending);
  plain = ap (list_any is_newline) pending ∙ plain-push old.pending.items octet r.plain isnt;
  short = short;
}

-- ---- a piece

pub piece-goes : (new : Reader) (read piece : List ℕ) (i octet : ℕ) → i < length piece → octet ≡ get_or piece i octet → IsRead new ((read ++ take i piece) ++ octet ∷ []) → IsRead new (read ++ take (i + 1) piece)
piece-goes new read piece i octet inside is r =
    subst (IsRead new) (append_assoc read (take i piece) (octet ∷ []) ∙ ap (λ (l : List ℕ). read ++ l) (sym (take_more piece i octet inside ∙ ap (λ (x : ℕ). take i piece ++ x ∷ []) (sym is)))) r

pub piece-over : (read piece : List ℕ) (i octet held : ℕ) (v : Verdict) → i < length piece → octet ≡ get_or piece i octet → ((rest : List ℕ) → IsJudged (((read ++ take i piece) ++ octet ∷ []) ++ rest) held v) → (rest : List ℕ) → IsJudged ((read ++ piece) ++ rest) held v
piece-over read piece i octet held v inside is over rest =
    let cut : piece ≡ take i piece ++ octet ∷ drop (i + 1) piece = sym (take-append-drop i piece) ∙ ap (λ (l : List ℕ). take i piece ++ l) (drop_more piece i octet inside ∙ ap (λ (x : ℕ). x ∷ drop (i + 1) piece) (sym is)) in
    subst (λ (text : List ℕ). IsJudged text held v)
    (append_assoc (read ++ take i piece) (octet ∷ []) (drop (i + 1) piece ++ rest)
    ∙ append_assoc read (take i piece) (octet ∷ (drop (i + 1) piece ++ rest))
    ∙ ap (λ (l : List ℕ). read ++ l) (sym (append_assoc (take i piece) (octet ∷ drop (i + 1) piece) rest) ∙ ap (λ (l : List ℕ). l ++ rest) (sym cut))
    ∙ sym (append_assoc read piece rest))
    (over (drop (i + 1) piece ++ rest))

-- ---- the end

whole-split : (old : Reader) (read : List ℕ) (r : IsRead old read) → lines_of read ≡ r.done ++ lines_of old.pending.items
whole-split old read r = ap lines_of (sym (append-nil read)) ∙ r.split [] ∙ ap (λ (l : List ℕ). r.done ++ lines_of l) (append-nil old.pending.items)

end-any : (p : List ℕ) → 0 < length p → list_any is_newline p ≡ false → lines_of p ≡ p ∷ []
end-any [] some plain = absurd (omega arith)
end-any (c ∷ cs) some plain = plain-end c cs plain

last-split : (old : Reader) (read : List ℕ) (r : IsRead old read) → 0 < length old.pending.items → lines_of read ≡ r.done ++ old.pending.items ∷ []
last-split old read r some = whole-split old read r ∙ ap (λ (l : List (List ℕ)). r.done ++ l) (end-any old.pending.items some r.plain)

last-at : (over : Option Verdict) (old new : Reader) (read : List ℕ) → ((done : List (List ℕ)) → Standing old done → LineStep over old new done) → (r : IsRead old read) → lines_of read ≡ r.done ++ old.pending.items ∷ [] → LastStep over new read
last-at None old new read step r split = (r.done ++ old.pending.items ∷ [], (step r.done r.standing).0, split)
last-at (Some v) old new read step r split = judged-lines read r.done old.pending.items [] new.lines v split (step r.done r.standing).0 (step r.done r.standing).1

pub last-step : (over : Option Verdict) (old new : Reader) (read : List ℕ) → 0 < length old.pending.items → ((done : List (List ℕ)) → Standing old done → LineStep over old new done) → IsRead old read → LastStep over new read
last-step over old new read some step r = last-at over old new read step r (last-split old read r some)

pub last-none : (old : Reader) (read : List ℕ) → old.pending.items ≡ [] → IsRead old read → LastStep None old read
last-none old read none r = (r.done, r.standing, whole-split old read r ∙ ap (λ (l : List ℕ). r.done ++ lines_of l) none ∙ append-nil r.done)

pub judged-end : (r : Reader) (read : List ℕ) (v : Verdict) → ((lines : List Line) → StandsFor r.audit lines → v ≡ verdict_after lines) → LastStep None r read → IsJudged read r.lines v
judged-end r read v finish (done, standing, split) =
    ap (λ (l : List (List ℕ)). judged (map line_of l)) split ∙ held-end (map line_of done) standing.held
    ∙ ap (λ (n : ℕ). replicate n verdicts.Held ++ verdict_after (map line_of done) ∷ []) (length-map done line_of ∙ sym standing.count)
    ∙ ap (λ (w : Verdict). replicate r.lines verdicts.Held ++ w ∷ []) (sym (finish (map line_of done) standing.stands))
