-- The service name of a message: what is read stands there.
use Rattle.std.proofs.Common.{◌≡◌, ℕ, Bool, true, false, cond, IsTrue, List, [], ◌∷◌, Option, Some, None, option_map, refl, ap, subst, codes}
use Rattle.std.proofs.lemmas.Bool.{cond-true}
use Rattle.std.proofs.lemmas.Slice.Eq.{bytes_eq-Decides}
use Rattle.std.specs.Str.{bytes_eq}
use Rattle.mj_base.specs.ServiceName.{is_service_name}
use Rattle.mj_base.specs.declared.version.Version.{Version}
use Rattle.mj_base.specs.declared.version.Version.TheVariants.{One, Two}
use Rattle.mj_client_cmd.specs.ClientReading.{named}

-- a name and the frames behind it
abbrev pub IsNamed : List ℕ × List (List ℕ) → List (List ℕ) → Type 0
IsNamed n rest = IsTrue (is_service_name n.0) × (rest ≡ n.0 ∷ n.1)

named_by : (service : List ℕ) (body : List (List ℕ)) (n : List ℕ × List (List ℕ)) (good : Bool) → is_service_name service ≡ good
    → cond good (Some (service, body)) None ≡ Some n → IsNamed n (service ∷ body)
named_by service body n true is e =
    let pair : List ℕ × List (List ℕ) = (service, body) in
    let q : pair ≡ n = cc in
    subst (λ (x : List ℕ × List (List ℕ)). IsNamed x (service ∷ body)) q (is, refl)
named_by service body n false is e = cc

pub named_stands : (rest : List (List ℕ)) (n : List ℕ × List (List ℕ)) → named rest ≡ Some n → IsNamed n rest
named_stands [] n e = cc
named_stands (service ∷ body) n e = named_by service body n _ refl e

pub name_is_read : (service : List ℕ) (body : List (List ℕ)) → IsTrue (is_service_name service) → named (service ∷ body) ≡ Some (service, body)
name_is_read service body good = cond-true (is_service_name service) (Some (service, body)) None good
