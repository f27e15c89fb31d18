-- An audit, piece by piece.
use Rattle.std.proofs.Common.{◌≡◌, ◌<◌, ◌≤◌, ◌+◌, ◌-◌, ◌^◌, ℕ, zero, suc, min, Result, Ok, Err, IfErr, List, [], ◌∷◌, ◌++◌, length, take, Option, Some, None, refl, sym, ap, subst, ◌∙◌, arith, append-nil, length-append, length-take}
use Rattle.std.proofs.Math.Seq.{take-append_seam, take-append-add}
use Rattle.std.specs.Io.KnownBytes.{Consumes, IsAtEnd, Keeps}
use Rattle.std.proofs.KnownBytes.{Consumes-kept, Consumes-nil, Consumes-trans}
use Rattle.mj_audit_prog.specs.Auditing.{IsAudited, IsOpen, IsText}
use Rattle.mj_audit_prog.specs.AuditingSoFar.{HaltCause, IsHalted, SoFar, Turned}
use Rattle.mj_audit_prog.specs.Reading.{IsRead}
use Rattle.mj_audit_prog.specs.TextLines.{IsJudged}
use Rattle.mj_audit_prog.specs.declared.pieces.Halt.{Halt}
use Rattle.mj_audit_prog.specs.declared.pieces.Halt.TheVariants as halts
use Rattle.mj_audit_prog.specs.declared.pieces.Turn.TheVariants as turns
use Rattle.mj_audit_prog.specs.declared.reader.Reader.{Reader}
use Rattle.mj_transcript.specs.declared.verdict.Verdict.{Verdict}

pub if-err : {A E : Type 0} {P Q : E → Type 0} (r : Result A E) → ((e : E) → P e → Q e) → IfErr r P → IfErr r Q
if-err (Ok x) f h = h
if-err (Err e) f h = f e h

-- ---- the text

take-all : (n : ℕ) (xs : List ℕ) → length xs ≤ n → take n xs ≡ xs
take-all zero [] few = refl
take-all zero (x ∷ xs) few = absurd (omega arith)
take-all (suc n) [] few = refl
take-all (suc n) (x ∷ xs) few = ap (λ (ys : List ℕ). x ∷ ys) (take-all n xs (omega arith))

-- as many bytes as may be read are the text
text-full : (from now : Option (List ℕ)) (bytes : List ℕ) → Consumes from now bytes → length bytes ≡ 2 ^ 40 → IsText from bytes
text-full None now bytes took full = omega arith
text-full (Some all) None bytes took full = absurd took
text-full (Some all) (Some left) bytes took full = sym (take-append_seam bytes left) ∙ ap (λ (n : ℕ). take n (bytes ++ left)) full ∙ ap (take (2 ^ 40)) (sym took)

-- and so is what was read up to the source's end
text-end : (from now : Option (List ℕ)) (bytes : List ℕ) → Consumes from now bytes → IsAtEnd now → length bytes ≤ 2 ^ 40 → IsText from bytes
text-end None now bytes took end few = few
text-end (Some all) None bytes took end few = absurd took
text-end (Some all) (Some left) bytes took end few =
    let whole : all ≡ bytes = took ∙ ap (λ (xs : List ℕ). bytes ++ xs) end ∙ append-nil bytes in
    sym (ap (take (2 ^ 40)) whole ∙ take-all (2 ^ 40) bytes few)

-- the text goes on behind what was read
text-reading : (from now : Option (List ℕ)) (bytes : List ℕ) → Consumes from now bytes → length bytes ≤ 2 ^ 40 → (rest : List ℕ) × IsText from (bytes ++ rest)
text-reading None now bytes took few = ([], subst (λ (text : List ℕ). length text ≤ 2 ^ 40) (sym (append-nil bytes)) few)
text-reading (Some all) None bytes took few = absurd took
text-reading (Some all) (Some left) bytes took few =
    let count : length bytes + (2 ^ 40 - length bytes) ≡ 2 ^ 40 = omega arith in (
      take (2 ^ 40 - length bytes) left,
      sym (ap (take (2 ^ 40)) took ∙ ap (λ (n : ℕ). take n (bytes ++ left)) (sym count) ∙ take-append-add bytes left (2 ^ 40 - length bytes)),
    )

-- ---- a read of at most so many bytes

take-shorter : (n m : ℕ) (xs : List ℕ) → n ≤ m → take n (take m xs) ≡ take n xs
take-shorter zero m xs less = refl
take-shorter (suc n) zero xs less = absurd (omega arith)
take-shorter (suc n) (suc m) [] less = refl
take-shorter (suc n) (suc m) (x ∷ xs) less = ap (λ (l : List ℕ). x ∷ l) (take-shorter n m xs (omega arith))

pub got-some : (buffer : List ℕ) (most count : ℕ) → 0 < count → count ≤ length (take most buffer) → 0 < length (take count buffer)
got-some buffer most count some inside = let l = length-take most buffer in let k = length-take count buffer in omega (arith, some, inside, l, k)

pub got-few : (buffer : List ℕ) (taken most count len : ℕ) → count ≤ length (take most buffer) → most ≡ min (2 ^ 40 - taken) len → taken ≤ 2 ^ 40 → taken + length (take count buffer) ≤ 2 ^ 40
got-few buffer taken most count len inside is few = let l = length-take most buffer in let k = length-take count buffer in omega (arith, inside, is, few, l, k)

pub got-small : (buffer : List ℕ) (count len : ℕ) → length buffer ≡ len → len ≤ 4096 → length (take count buffer) ≤ 4096
got-small buffer count len same small = let k = length-take count buffer in omega (arith, same, small, k)

pub got-took : (buffer : List ℕ) (most count : ℕ) (left now : Option (List ℕ)) → count ≤ length (take most buffer) → Consumes left now (take count (take most buffer)) → Consumes left now (take count buffer)
got-took buffer most count left now inside took =
    let l = length-take most buffer in
    subst (λ (bytes : List ℕ). Consumes left now bytes) (take-shorter count most buffer (omega (arith, inside, l))) took

pub no-room : (taken len most : ℕ) → most ≡ min (2 ^ 40 - taken) len → 0 < len → most ≡ 0 → 2 ^ 40 ≤ taken
no-room taken len most is some none = omega (arith, is, some, none)

-- ---- a turn

pub is-open : (r : Reader) (read : List ℕ) → IsRead r read → IsOpen read
is-open r read s = record { whole = s.done; last = r.pending.items; split = s.split; plain = s.plain; short = s.short; held = s.standing.held }

pub so-far-at-first : (from : Option (List ℕ)) (r : Reader) → IsRead r [] → SoFar from from r 0 []
so-far-at-first from r s = record { took = Consumes-nil from; count = refl; few = omega arith; stands = s }

pub so-far-more : (from before left : Option (List ℕ)) (old new : Reader) (taken : ℕ) (read piece : List ℕ) → taken + length piece ≤ 2 ^ 40 → SoFar from before old taken read → Consumes before left piece → IsRead new (read ++ piece)
    → SoFar from left new (taken + length piece) (read ++ piece)
so-far-more from before left old new taken read piece few s took stands = record {
  took = Consumes-trans from before left read piece s.took took;
  count = (let l = length-append read piece in let c = s.count in omega (arith, l, c));
  few = few;
  stands = stands;
}

pub turned-over : (from before left : Option (List ℕ)) (old new : Reader) (taken : ℕ) (read piece : List ℕ) (v : Verdict) → taken + length piece ≤ 2 ^ 40 → length piece ≤ 4096 → SoFar from before old taken read → Consumes before left piece
    → ((rest : List ℕ) → IsJudged ((read ++ piece) ++ rest) new.lines v) → Turned (turns.Over v) from left new read
turned-over from before left old new taken read piece v few small s took over =
    (piece, small, (let l = length-append read piece in let c = s.count in omega (arith, l, c, few)), Consumes-trans from before left read piece s.took took, over)

-- no more may be read
pub turned-full : (from left : Option (List ℕ)) (r : Reader) (taken : ℕ) (read : List ℕ) → SoFar from left r taken read → 2 ^ 40 ≤ length read → Turned turns.End from left r read
turned-full from left r taken read s full = (let c = s.count in let f = s.few in (text-full from left read s.took (omega (arith, c, f, full)), s.took, s.stands))

pub turned-no-room : (from left : Option (List ℕ)) (r : Reader) (taken : ℕ) (read : List ℕ) → SoFar from left r taken read → 2 ^ 40 ≤ taken → Turned turns.End from left r read
turned-no-room from left r taken read s full = turned-full from left r taken read s (let c = s.count in omega (arith, c, full))

-- the source is at its end
pub turned-end : (from left now : Option (List ℕ)) (r : Reader) (taken : ℕ) (read : List ℕ) → SoFar from left r taken read → Keeps left now → IsAtEnd now → Turned turns.End from now r read
turned-end from left now r taken read s kept end =
    let took = Consumes-kept from left now read s.took kept in
    (text-end from now read took end (let c = s.count in let f = s.few in omega (arith, c, f)), took, s.stands)

-- ---- why it broke off

pub halted-reading : (from left now : Option (List ℕ)) (r : Reader) (taken : ℕ) (read : List ℕ) → SoFar from left r taken read → Keeps left now → IsHalted halts.Read from now
halted-reading from left now r taken read s kept = (read, Consumes-kept from left now read s.took kept, is-open r read s.stands)

pub halted-starved : (halt : Halt) (from left : Option (List ℕ)) → halt ≡ halts.NoMemory → IsHalted halt from left
halted-starved halt from left is = subst (λ (h : Halt). IsHalted h from left) (sym is) tt

pub cause-starved : (halt : Halt) (before now : ℕ) → halt ≡ halts.NoMemory → HaltCause halt before now
cause-starved halt before now is = subst (λ (h : Halt). HaltCause h before now) (sym is) tt

pub cause-later : (halt : Halt) (before mid now : ℕ) → before ≤ mid → HaltCause halt mid now → HaltCause halt before now
cause-later halts.NoMemory before mid now later cause = tt
cause-later halts.Read before mid now later cause = omega (arith, later, cause)

-- ---- the verdict

pub audited-end : (from left : Option (List ℕ)) (r : Reader) (read : List ℕ) (held : ℕ) (v : Verdict) → Turned turns.End from left r read → IsJudged read held v → IsAudited from left held v
audited-end from left r read held v (text, took, stands) judged =
    let whole : (read ++ []) ++ [] ≡ read = append-nil (read ++ []) ∙ append-nil read in
    record {
      front = read;
      piece = [];
      rest = [];
      text = subst (IsText from) (sym whole) text;
      judged = subst (λ (t : List ℕ). IsJudged t held v) (sym whole) judged;
      took = subst (Consumes from left) (sym (append-nil read)) took;
      going = is-open r read stands;
      few = omega arith;
    }

pub audited-over : (from before left : Option (List ℕ)) (old new : Reader) (taken : ℕ) (read : List ℕ) (v : Verdict) → SoFar from before old taken read → Turned (turns.Over v) from left new read → IsAudited from left new.lines v
audited-over from before left old new taken read v s (piece, small, few, took, over) =
    let t = text-reading from left (read ++ piece) took few in
    record {
      front = read;
      piece = piece;
      rest = t.0;
      text = t.1;
      judged = over t.0;
      took = took;
      going = is-open old read s.stands;
      few = small;
    }
