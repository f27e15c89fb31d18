-- Where payloads stand.
use Rattle.std.proofs.Common.{◌≡◌, ℕ, zero, suc, ◌+◌, ◌<◌, ◌≤◌, ◌^◌, List, [], ◌∷◌, ◌++◌, length, get_or, take, drop, refl, sym, ◌∙◌, ap, subst, arith}
use Rattle.std.proofs.lemmas.List.{drop_more, take-append-drop}
use Rattle.mj_journal.specs.FileText.{Stands, StandsFor, end_of, sizes}
use Rattle.mj_journal.proofs.Files.{length-header}
use Rattle.mj_journal.proofs.Standing.{ends_inside, in_place}
use Rattle.mj_copy_file.specs.Logs.{Knows, spots_from}
use Rattle.mj_copy_file.specs.declared.log.Log.{Log}
use Rattle.mj_copy_file.specs.declared.spot.Spot.{Spot}

length-spots : (gate : ℕ) (payloads : List (List ℕ)) → length (spots_from gate payloads) ≡ length payloads
length-spots gate [] = refl
length-spots gate (payload ∷ payloads) = ap suc (length-spots (gate + (length payload + 5)) payloads)

few : (gate : ℕ) (payloads : List (List ℕ)) → length payloads ≤ sizes payloads
few gate [] = omega arith
few gate (payload ∷ payloads) = let rest = few gate payloads in omega (arith, rest)

pub counted : (payloads : List (List ℕ)) (log : Log) (n : ℕ) → Knows payloads log → n ≡ length log.spots.items → n ≡ length payloads
counted payloads log n knows is = is ∙ ap length knows.spots_are ∙ length-spots 16 payloads

pub counts_few : (payloads : List (List ℕ)) (log : Log) (n : ℕ) → Knows payloads log → n ≡ length log.spots.items → log.journal.end < 2 ^ 62 → n < 2 ^ 62
counts_few payloads log n knows is small =
    let all = counted payloads log n knows is in
    let less = few 16 payloads in
    let end = knows.end_is in
    omega (arith, all, less, end, small)

spot_at : (gate : ℕ) (payloads : List (List ℕ)) (n : ℕ) (d : Spot) → n < length payloads → get_or (spots_from gate payloads) n d ≡ record { at = gate + sizes (take n payloads) + 5; len = length (get_or payloads n []) }
spot_at gate [] n d inside = absurd (omega arith)
spot_at gate (payload ∷ payloads) zero d inside = let place : gate + 5 ≡ gate + 0 + 5 = omega arith in ap (λ (at : ℕ). record { at = at; len = length payload }) place
spot_at gate (payload ∷ payloads) (suc n) d inside =
    let place : gate + (length payload + 5) + sizes (take n payloads) + 5 ≡ gate + (length payload + 5 + sizes (take n payloads)) + 5 = omega arith in
    spot_at (gate + (length payload + 5)) payloads n d (omega arith) ∙ ap (λ (at : ℕ). record { at = at; len = length (get_or payloads n []) }) place

split_at : (payloads : List (List ℕ)) (n : ℕ) → n < length payloads → payloads ≡ take n payloads ++ get_or payloads n [] ∷ drop (n + 1) payloads
split_at payloads n inside = sym (take-append-drop n payloads) ∙ ap (λ (l : List (List ℕ)). take n payloads ++ l) (drop_more payloads n [] inside)

-- the payload stands at its place, inside the file
pub stands_at : (base : ℕ) (payloads : List (List ℕ)) (n : ℕ) (d spot : Spot) (octets : List ℕ) → n < length payloads → spot ≡ get_or (spots_from 16 payloads) n d → StandsFor base payloads octets
    → (take spot.len (drop spot.at octets) ≡ get_or payloads n []) × (spot.at + spot.len ≤ length octets)
stands_at base payloads n d spot octets inside is stands =
    let same = is ∙ spot_at 16 payloads n d inside in
    let at_is : spot.at ≡ end_of (take n payloads) + 5 = ap (λ (s : Spot). s.at) same in
    let len_is : spot.len ≡ length (get_or payloads n []) = ap (λ (s : Spot). s.len) same in
    let whole = split_at payloads n inside in
    let size = length-header base stands.0 stands.1 in
    let place = in_place stands.0 (take n payloads) (get_or payloads n []) (drop (n + 1) payloads) octets size (subst (λ (ps : List (List ℕ)). Stands stands.0 ps octets) whole stands.2) in
    let end : end_of (take n payloads ++ get_or payloads n [] ∷ drop (n + 1) payloads) ≡ end_of payloads = ap end_of (sym whole) in
    let inner = ends_inside (end_of payloads) (record { octets = octets; synced = octets; ranges = []; greatest = 0 }) (stands.0, payloads, size, stands.2, refl) in
    let here = place.1 in (
      ap (λ (k : ℕ). take k (drop spot.at octets)) len_is ∙ ap (λ (k : ℕ). take (length (get_or payloads n [])) (drop k octets)) at_is ∙ place.0,
      omega (arith, at_is, len_is, here, end, inner),
    )
