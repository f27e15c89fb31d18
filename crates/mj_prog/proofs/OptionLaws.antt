-- Laws of options among words.
use Rattle.std.proofs.Common.{◌≡◌, ◌<◌, ◌≤◌, ◌+◌, ◌-◌, ◌*◌, ◌/◌, ◌%◌, ℕ, suc, Bool, true, false, cond, List, [], ◌∷◌, length, get_or, map, drop, Option, Some, None, refl, sym, ap, ◌∙◌, subst, arith, length-drop}
use Rattle.std.proofs.Math.Seq.{drop-cons}
use Rattle.std.proofs.lemmas.List.{get_or-map, length-map}
use Rattle.std.specs.Str.{bytes_eq}
use Rattle.std.specs.Prelude.{codes}
use Rattle.std.proofs.lemmas.Slice.Eq.{bytes_eq-Decides}
use Rattle.mj_prog.specs.declared.words.Found.{Found}
use Rattle.mj_prog.specs.declared.words.Found.TheVariants as founds
use Rattle.mj_prog.specs.Words.{command_in, tool_in}
use Rattle.mj_prog.specs.declared.words.Tool.{Tool}
use Rattle.mj_prog.specs.declared.words.Tool.TheVariants as tools
use Rattle.mj_words.specs.Options.{once_or, values_of}
use Rattle.mj_prog.specs.FoundValue.{IsFound, found_after}

-- a word's bytes
pub word-at : {X : Type 0} (f : X → List ℕ) (words : List X) (i : ℕ) (word : X) → i < length words → word ≡ get_or words i word → get_or (map f words) i [] ≡ f word
word-at f words i word inside is = get_or-map f words i word [] inside ∙ ap f (sym is)

-- an option's name has a value behind it
pub option-inside : {X : Type 0} (f : X → List ℕ) (words : List X) (i : ℕ) → i < length words / 2 → 2 * i + 1 < length (map f words)
option-inside f words i inside = let size : length (map f words) ≡ length words = length-map words f in omega arith

-- the two words of an option, and what follows them
pair-at : (words : List (List ℕ)) (i : ℕ) → 2 * i + 1 < length words
    → drop (2 * i) words ≡ get_or words (2 * i) [] ∷ get_or words (2 * i + 1) [] ∷ drop (2 * (i + 1)) words
pair-at words i inside =
    let next : suc (2 * i) ≡ 2 * i + 1 = omega arith in
    let after : suc (2 * i + 1) ≡ 2 * (i + 1) = omega arith in
    let value : drop (suc (2 * i)) words ≡ get_or words (2 * i + 1) [] ∷ drop (2 * (i + 1)) words =
    ap (λ (n : ℕ). drop n words) next ∙ drop-cons words (2 * i + 1) [] (omega arith) ∙ ap (λ (n : ℕ). get_or words (2 * i + 1) [] ∷ drop n words) after in
    drop-cons words (2 * i) [] (omega arith) ∙ ap (λ (ws : List (List ℕ)). get_or words (2 * i) [] ∷ ws) value

left-over : {X : Type 0} (f : X → List ℕ) (words : List X) → length (drop (2 * (length words / 2)) (map f words)) ≡ length words % 2
left-over f words =
    let same : length (map f words) ≡ length words = length-map words f in
    let size : length (drop (2 * (length words / 2)) (map f words)) ≡ length (map f words) - 2 * (length words / 2) = length-drop (2 * (length words / 2)) (map f words) in omega arith

found-value : (words : List (List ℕ)) (answer : Found) (at : ℕ) (rest later values : List (List ℕ)) → at < length words → rest ≡ get_or words at [] ∷ later
    → IsFound words answer rest values → IsFound words (found_after answer at) later values
found-value words founds.Nowhere at rest later values inside e found = (inside, found ∙ e)
found-value words (founds.At place) at rest later values inside e found =
    let two : values ≡ get_or words place [] ∷ get_or words at [] ∷ later = found.1 ∙ ap (λ (ws : List (List ℕ)). get_or words place [] ∷ ws) e in rw two (omega arith)
found-value words founds.Twice at rest later values inside e found = found

-- one more value
pub found-step : (words : List (List ℕ)) (name : List ℕ) (i : ℕ) (answer : Found) (values : List (List ℕ)) → 2 * i + 1 < length words
    → bytes_eq (get_or words (2 * i) []) name ≡ true → IsFound words answer (values_of name (drop (2 * i) words)) values
    → IsFound words (found_after answer (2 * i + 1)) (values_of name (drop (2 * (i + 1)) words)) values
found-step words name i answer values inside same found =
    let later = values_of name (drop (2 * (i + 1)) words) in
    found-value words answer (2 * i + 1) (values_of name (drop (2 * i) words)) later values inside
    (ap (values_of name) (pair-at words i inside) ∙ ap (λ (b : Bool). cond b (get_or words (2 * i + 1) [] ∷ later) later) same) found

-- another option
pub found-other : (words : List (List ℕ)) (name : List ℕ) (i : ℕ) (answer : Found) (values : List (List ℕ)) → 2 * i + 1 < length words
    → bytes_eq (get_or words (2 * i) []) name ≡ false → IsFound words answer (values_of name (drop (2 * i) words)) values
    → IsFound words answer (values_of name (drop (2 * (i + 1)) words)) values
found-other words name i answer values inside other found =
    let later = values_of name (drop (2 * (i + 1)) words) in
    subst (λ (rest : List (List ℕ)). IsFound words answer rest values)
    (ap (values_of name) (pair-at words i inside) ∙ ap (λ (b : Bool). cond b (get_or words (2 * i + 1) [] ∷ later) later) other) found

no-values : (words : List (List ℕ)) (name : List ℕ) → length words < 2 → values_of name words ≡ []
no-values [] name few = refl
no-values (word ∷ []) name few = refl
no-values (other ∷ value ∷ more) name few = absurd (omega arith)

pub found-end : {X : Type 0} (f : X → List ℕ) (words : List X) (name : List ℕ) (answer : Found) (values : List (List ℕ))
    → IsFound (map f words) answer (values_of name (drop (2 * (length words / 2)) (map f words))) values → IsFound (map f words) answer [] values
found-end f words name answer values found =
    let size = left-over f words in
    subst (λ (rest : List (List ℕ)). IsFound (map f words) answer rest values) (no-values (drop (2 * (length words / 2)) (map f words)) name (omega (arith, size))) found

-- an option that is given more than once has no value
pub once-twice : {A : Type 0} (default : A) (read : List ℕ → Option A) (values : List (List ℕ)) → 2 ≤ length values → None ≡ once_or default read values
once-twice default read [] two = absurd (omega arith)
once-twice default read (value ∷ []) two = absurd (omega arith)
once-twice default read (value ∷ other ∷ more) two = refl

-- a place alone asks for nothing
pub too-few-words : (words : List (List ℕ)) → length words < 2 → None ≡ command_in words
too-few-words [] few = refl
too-few-words (place ∷ []) few = refl
too-few-words (place ∷ command ∷ more) few = absurd (omega arith)

dashed-alone : (place word : List ℕ) (tool : Tool) (here shown audited : Bool) → bytes_eq word (codes "show") ≡ shown → bytes_eq word (codes "audit") ≡ audited
    → cond here (cond shown (Some tools.Show) (cond audited (Some tools.Audit) None)) None ≡ Some tool → command_in (place ∷ word ∷ []) ≡ None
dashed-alone place word tool true true audited same other is = subst (λ (w : List ℕ). command_in (place ∷ w ∷ []) ≡ None) (sym ((bytes_eq-Decides word (codes "show")).0 same)) refl
dashed-alone place word tool true false true same other is = subst (λ (w : List ℕ). command_in (place ∷ w ∷ []) ≡ None) (sym ((bytes_eq-Decides word (codes "audit")).0 other)) refl
dashed-alone place word tool true false false same other is = absurd (cc)
dashed-alone place word tool false shown audited same other is = absurd (cc)

-- what asks for a tool asks for nothing of the broker
pub tools-alone : (words : List (List ℕ)) (tool : Tool) → tool_in words ≡ Some tool → command_in words ≡ None
tools-alone [] tool is = refl
tools-alone (word ∷ []) tool is = refl
tools-alone (place ∷ word ∷ []) tool is = dashed-alone place word tool (bytes_eq place (codes "-")) (bytes_eq word (codes "show")) (bytes_eq word (codes "audit")) refl refl is
tools-alone (place ∷ word ∷ other ∷ more) tool is = cc
