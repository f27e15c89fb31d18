use Rattle.std.proofs.Common.{◌≡◌, ◌<◌, ℕ, List, take, drop, get_or, length, sym, ap, refl, ◌∙◌, arith}
use Rattle.std.proofs.lemmas.List.{with_items_is}
use Rattle.mj_copy_file.specs.declared.spot.Spot.{Spot}
use Rattle.mj_copy_file.proofs.LogSpots.{counted, stands_at}
use Rattle.mj_copy_file.proofs.log.Log.payload.Goals as goal

pub read-requires : goal.read-requires
read-requires g c = λ history is.
    let held = c.requires.held in
    let spot = c.index-spot.result.now in
    let inside : c.args.n < length held.0 = omega (arith, c.requires.inside, counted held.0 c.args.self.now (length c.args.self.now.spots.items) held.1.knows refl) in
    let here = stands_at c.args.self.now.base held.0 c.args.n c.index-spot.result.now c.index-spot.result.now history.now.octets inside
    (c.index-spot.ensures ∙ ap (λ (l : List Spot). get_or l c.args.n c.index-spot.result.now) held.1.knows.spots_are) (held.1.file history is).1 in
    let size : length c.as_mut_slice.result.now ≡ c.index-spot.result.now.len = ap length c.as_mut_slice.ensures.value ∙ c.in-Ok.ensures in
    let end = here.1 in
    omega (arith, size, end)

pub returns-clause-payload : goal.returns-clause-payload
returns-clause-payload g c = λ history is payloads knows stands.
    let inside : c.args.n < length payloads = omega (arith, c.requires.inside, counted payloads c.args.self.now (length c.args.self.now.spots.items) knows refl) in
    let here = stands_at c.args.self.now.base payloads c.args.n c.index-spot.result.now c.index-spot.result.now history.now.octets inside
    (c.index-spot.ensures ∙ ap (λ (l : List Spot). get_or l c.args.n c.index-spot.result.now) knows.spots_are) stands in
    let size : length c.as_mut_slice.result.now ≡ c.index-spot.result.now.len = ap length c.as_mut_slice.ensures.value ∙ c.in-Ok.ensures in
    let room = c.in-Ok.room.ok in
    let same : length c.read.new.into ≡ length c.as_mut_slice.result.now = c.read.auto.into in
    let full : length c.read.new.into ≡ c.in-Ok.room.len = omega (arith, same, size, room, c.in-Ok.ensures) in
    c.from_vec.ensures ∙ with_items_is c.in-Ok.room c.read.new.into full
    ∙ c.in-Ok-read.ensures.octets history is
    ∙ ap (λ (n : ℕ). take n (drop c.index-spot.result.now.at history.now.octets)) size
    ∙ here.0

pub returns-clause-held : goal.returns-clause-held
returns-clause-held g c =
    let held = c.requires.held in (
      held.0,
      record {
        knows = held.1.knows;
        settled = c.in-Ok-read.ensures.settled held.1.settled;
        file = λ history is. held.1.file history (sym c.in-Ok-read.ensures.same ∙ is);
      },
    )
