-- Laws of statuses and their numbers.
use Rattle.std.proofs.Common.{◌≡◌, ℕ, Option, IfSome, nat_eq, if◌then◌else◌, refl, sym, ap, ◌∙◌, subst}
use Rattle.mj_peer_prog.specs.PeerTable.{Scene}
use Rattle.mj_peer_prog.specs.StatusRows.{IsRow}
use Rattle.mj_peer_prog.specs.Statuses.{code_of}
use Rattle.mj_peer_prog.specs.declared.status.Status.{Status}
use Rattle.mj_peer_prog.specs.declared.status.Status.TheVariants as statuses
use Rattle.mj_peer_prog.specs.declared.task.Task.{Task}

-- a status is what its number says
abbrev named : ℕ → Status
named n =
    if nat_eq n 0 then statuses.Done
    else if nat_eq n 1 then statuses.Words
    else if nat_eq n 4 then statuses.NoMemory
    else if nat_eq n 6 then statuses.Read
    else if nat_eq n 7 then statuses.Write
    else statuses.NoAnswer

named-code : (s : Status) → named (code_of s) ≡ s
named-code statuses.Done = refl
named-code statuses.Words = refl
named-code statuses.NoMemory = refl
named-code statuses.Read = refl
named-code statuses.Write = refl
named-code statuses.NoAnswer = refl

pub status-is : (s t : Status) (result : ℕ) → result ≡ code_of s → result ≡ code_of t → s ≡ t
status-is s t result e f = sym (named-code s) ∙ ap named (sym e ∙ f) ∙ named-code t

-- the row of a status that is known
pub row-of : (found : Option Task) (s : Scene) (result : ℕ) (x y : Status) → IfSome found (λ task. IsRow x task s) → result ≡ code_of x → result ≡ code_of y → IfSome found (λ task. IsRow y task s)
row-of found s result x y rows e f = subst (λ (status : Status). IfSome found (λ task. IsRow status task s)) (status-is x y result e f) rows

row-words : (task : Task) (s : Scene) (x : Status) → IsRow x task s → x ≡ statuses.Words → ⊥
row-words task s x row is = subst (λ (y : Status). IsRow y task s) is row

-- where there is a task its words were right
pub some-words : (task : Task) (s : Scene) (x : Status) → IsRow x task s → x ≡ statuses.Words → ⊥
some-words task s x row is = row-words task s x row is
