-- Laws of what is printed.
use Rattle.std.proofs.Common.{◌≡◌, ◌≤◌, ℕ, List, [], ◌∷◌, ◌++◌, length, take, drop, Option, refl, sym, ap, ◌∙◌, subst, append_assoc, arith, take-append-drop}
use Rattle.std.proofs.Math.Seq.{take-append_seam}
use Rattle.std.specs.Io.KnownBytes.{Appends}
use Rattle.std.proofs.KnownBytes.{Appends-trans}
use Rattle.mj_base.specs.Rising.{Rose}
use Rattle.mj_base.specs.Writing.{AppendsFront}
use Rattle.mj_base.specs.declared.event.Out.{Out}
use Rattle.mj_prog.specs.Shown.{shown, line_of_out}

pub shown-append : (first second : List Out) → shown (first ++ second) ≡ shown first ++ shown second
shown-append [] second = refl
shown-append (out ∷ first) second = ap (λ (xs : List ℕ). line_of_out out ++ xs) (shown-append first second) ∙ sym (append_assoc (line_of_out out) (shown first) (shown second))

-- bytes that begin a text are a front of it
pub front-of : (old new : Option (List ℕ)) (bytes rest text : List ℕ) → Appends old new bytes → text ≡ bytes ++ rest → AppendsFront old new text
front-of old new bytes rest text added whole =
    (length bytes, subst (Appends old new) (sym (ap (take (length bytes)) whole ∙ take-append_seam bytes rest)) added)

-- a front of a text stands behind what was written before it
pub front-behind : (old mid new : Option (List ℕ)) (bytes more rest text : List ℕ) → Appends old mid bytes → AppendsFront mid new more
    → text ≡ bytes ++ (more ++ rest) → AppendsFront old new text
front-behind old mid new bytes more rest text before front whole =
    let n = front.0 in
    front-of old new (bytes ++ take n more) (drop n more ++ rest) text (Appends-trans old mid new bytes (take n more) before front.1)
    (whole ∙ ap (λ (xs : List ℕ). bytes ++ (xs ++ rest)) (sym (take-append-drop n more))
    ∙ ap (λ (xs : List ℕ). bytes ++ xs) (append_assoc (take n more) (drop n more) rest)
    ∙ sym (append_assoc bytes (take n more) (drop n more ++ rest)))

pub rose-from : (a b c : ℕ) → a ≤ b → Rose b c → Rose a c
rose-from a b c first rose = omega arith

pub rose-until : (a b c : ℕ) → Rose a b → b ≤ c → Rose a c
rose-until a b c rose last = omega arith
