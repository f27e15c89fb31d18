-- Laws of what was read of a source.
use Rattle.std.proofs.Common.{◌≡◌, ◌<◌, ◌≤◌, ◌+◌, ◌-◌, ◌^◌, ℕ, zero, suc, List, [], ◌++◌, length, take, Option, Some, None, refl, sym, ap, ◌∙◌, append-nil, arith, length-append}
use Rattle.std.proofs.Math.Seq.{take-append_seam, take-append-add}
use Rattle.mj_prog.proofs.Lists.{take-all}
use Rattle.std.specs.Io.KnownBytes.{Consumes, Keeps, IsAtEnd}
use Rattle.std.proofs.KnownBytes.{Consumes-trans, Consumes-kept}
use Rattle.mj_prog.specs.Script.{lines_of}
use Rattle.mj_prog.specs.ReplayTable.{IsInput}
use Rattle.mj_prog.specs.ReadSoFar.{IsRead}

-- as many bytes as may be read are the script's text
input-full : (from now : Option (List ℕ)) (bytes : List ℕ) → Consumes from now bytes → length bytes ≡ 2 ^ 40 → IsInput from bytes
input-full None now bytes took full = omega arith
input-full (Some all) None bytes took full = absurd took
input-full (Some all) (Some left) bytes took full =
    sym (take-append_seam bytes left) ∙ ap (λ (n : ℕ). take n (bytes ++ left)) full ∙ ap (take (2 ^ 40)) (sym took)

-- what was read up to the source's end is the script's text
input-end : (from now : Option (List ℕ)) (bytes : List ℕ) → Consumes from now bytes → IsAtEnd now → length bytes ≤ 2 ^ 40 → IsInput from bytes
input-end None now bytes took end few = few
input-end (Some all) None bytes took end few = absurd took
input-end (Some all) (Some left) bytes took end few =
    let whole : all ≡ bytes = took ∙ ap (λ (xs : List ℕ). bytes ++ xs) end ∙ append-nil bytes in
    sym (ap (take (2 ^ 40)) whole ∙ take-all (2 ^ 40) bytes few)

-- the script's text goes on behind what was read
pub text-reading : (from now : Option (List ℕ)) (bytes : List ℕ) → Consumes from now bytes → length bytes ≤ 2 ^ 40
    → (text : List ℕ) × (rest : List ℕ) × IsInput from text × (text ≡ bytes ++ rest)
text-reading None now bytes took few = (bytes, [], few, sym (append-nil bytes))
text-reading (Some all) None bytes took few = absurd took
text-reading (Some all) (Some left) bytes took few =
    let count : length bytes + (2 ^ 40 - length bytes) ≡ 2 ^ 40 = omega arith in (
      take (2 ^ 40) all,
      take (2 ^ 40 - length bytes) left,
      refl,
      ap (take (2 ^ 40)) took ∙ ap (λ (n : ℕ). take n (bytes ++ left)) (sym count) ∙ take-append-add bytes left (2 ^ 40 - length bytes),
    )

pub text-now : (from now : Option (List ℕ)) (room : ℕ) (bytes : List ℕ) → IsRead from now room bytes
    → (text : List ℕ) × (rest : List ℕ) × IsInput from text × (lines_of text ≡ lines_of (bytes ++ rest)) × (room ≡ 0 → rest ≡ [])
text-now from now zero bytes r =
    let h = r.over refl in (h.0, [], h.1, h.2 ∙ ap lines_of (sym (append-nil bytes)), λ _. refl)
text-now from now (suc room) bytes r =
    let h = r.reading (omega arith) in
    let few : length bytes ≤ 2 ^ 40 = omega (arith, h.1) in
    let t = text-reading from now bytes h.0 few in
    (t.0, t.1, t.2, ap lines_of t.3, λ e. absurd (omega arith))

pub read-got : (from now new : Option (List ℕ)) (room count : ℕ) (bytes octets : List ℕ) → IsRead from now room bytes → 0 < room → count ≤ room
    → length octets ≡ count → Consumes now new octets → IsRead from new (room - count) (bytes ++ octets)
read-got from now new room count bytes octets r some few size took =
    let h = r.reading some in
    let all : Consumes from new (bytes ++ octets) = Consumes-trans from now new bytes octets h.0 took in
    let sum : length (bytes ++ octets) ≡ length bytes + length octets = length-append bytes octets in
    record {
      reading = λ more. (all, omega (arith, h.1));
      over = λ none. (bytes ++ octets, input-full from new (bytes ++ octets) all (omega (arith, h.1)), refl);
    }

pub read-end : (from now new : Option (List ℕ)) (room : ℕ) (bytes : List ℕ) → IsRead from now room bytes → 0 < room
    → Keeps now new → IsAtEnd new → IsRead from new 0 bytes
read-end from now new room bytes r some kept end =
    let h = r.reading some in
    let all : Consumes from new bytes = Consumes-kept from now new bytes h.0 kept in
    record {
      reading = λ more. absurd (omega arith);
      over = λ none. (bytes, input-end from new bytes all end (omega (arith, h.1)), refl);
    }

pub read-kept : (from now new : Option (List ℕ)) (room : ℕ) (bytes : List ℕ) → IsRead from now room bytes → Keeps now new → IsRead from new room bytes
read-kept from now new room bytes r kept = record {
  reading = λ more. let h = r.reading more in (Consumes-kept from now new bytes h.0 kept, h.1);
  over = r.over;
}
