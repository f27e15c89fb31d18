-- How a message begins: what is read stands there.
use Rattle.std.proofs.Common.{◌≡◌, ℕ, Bool, true, false, cond, List, [], ◌∷◌, Option, Some, None, option_map, refl, ap, subst, codes}
use Rattle.std.proofs.lemmas.Slice.Eq.{bytes_eq-Decides}
use Rattle.std.specs.Str.{bytes_eq}
use Rattle.mj_base.specs.declared.version.Version.{Version}
use Rattle.mj_base.specs.declared.version.Version.TheVariants.{One, Two}
use Rattle.mj_opening.specs.declared.party.Party.{Party}
use Rattle.mj_opening.specs.declared.party.Party.TheVariants.{Clients, Workers}
use Rattle.mj_opening.specs.Opening.{Begun, IsBegun, begun, version_of, behind_empty, opening_of, word_of}

pub same : (a b : List ℕ) → bytes_eq a b ≡ true → a ≡ b
same a b e = (bytes_eq-Decides a b).0 e

version_by : (party : Party) (word : List ℕ) (v : Version) (one two : Bool) → bytes_eq word (word_of party One) ≡ one → bytes_eq word (word_of party Two) ≡ two
    → cond one (Some One) (cond two (Some Two) None) ≡ Some v → word ≡ word_of party v
version_by party word One true two is_one is_two e = same _ _ is_one
version_by party word Two true two is_one is_two e = cc
version_by party word One false true is_one is_two e = cc
version_by party word Two false true is_one is_two e = same _ _ is_two
version_by party word v false false is_one is_two e = cc

behind_row : (party : Party) (v : Version) (first word : List ℕ) (more : List (List ℕ)) → first ≡ [] → word ≡ word_of party v → IsBegun party v true more (first ∷ word ∷ more)
behind_row party One first word more e w = cc
behind_row party Two first word more e w = cc

behind_by : (party : Party) (first word : List ℕ) (more : List (List ℕ)) (b : Begun) (o : Option Version) → first ≡ [] → version_of party word ≡ o
    → option_map (begun true more) o ≡ Some b → IsBegun party b.version b.lead b.rest (first ∷ word ∷ more)
behind_by party first word more b None e is r = cc
behind_by party first word more b (Some v) e is r =
    let q : begun true more v ≡ b = cc in
    subst (λ (x : Begun). IsBegun party x.version x.lead x.rest (first ∷ word ∷ more)) q (behind_row party v first word more e (version_by party word v _ _ refl refl is))

behind_begun : (party : Party) (first : List ℕ) (rest : List (List ℕ)) (b : Begun) → first ≡ [] → behind_empty party rest ≡ Some b → IsBegun party b.version b.lead b.rest (first ∷ rest)
behind_begun party first [] b e r = cc
behind_begun party first (word ∷ more) b e r = behind_by party first word more b (version_of party word) e refl r

begun_by : (party : Party) (first : List ℕ) (rest : List (List ℕ)) (b : Begun) (two empty : Bool) → bytes_eq first (word_of party Two) ≡ two → bytes_eq first [] ≡ empty
    → cond two (Some (begun false rest Two)) (cond empty (behind_empty party rest) None) ≡ Some b → IsBegun party b.version b.lead b.rest (first ∷ rest)
begun_by party first rest b true empty is_two is_empty e =
    let q : begun false rest Two ≡ b = cc in
    subst (λ (x : Begun). IsBegun party x.version x.lead x.rest (first ∷ rest)) q (ap (λ (x : List ℕ). x ∷ rest) (same _ _ is_two))
begun_by party first rest b false true is_two is_empty e = behind_begun party first rest b (same _ _ is_empty) e
begun_by party first rest b false false is_two is_empty e = cc

-- what is read first stands there
pub opening_stands : (party : Party) (m : List (List ℕ)) (b : Begun) → opening_of party m ≡ Some b → IsBegun party b.version b.lead b.rest m
opening_stands party [] b e = cc
opening_stands party (first ∷ rest) b e = begun_by party first rest b _ _ refl refl e

-- what is written first is read again
pub opening_is_read : (party : Party) (version : Version) (lead : Bool) (rest m : List (List ℕ)) → IsBegun party version lead rest m → opening_of party m ≡ Some (begun lead rest version)
opening_is_read Clients One true rest m e = ap (opening_of Clients) e
opening_is_read Clients One false rest m e = absurd e
opening_is_read Clients Two true rest m e = ap (opening_of Clients) e
opening_is_read Clients Two false rest m e = ap (opening_of Clients) e
opening_is_read Workers One true rest m e = ap (opening_of Workers) e
opening_is_read Workers One false rest m e = absurd e
opening_is_read Workers Two true rest m e = ap (opening_of Workers) e
opening_is_read Workers Two false rest m e = ap (opening_of Workers) e
