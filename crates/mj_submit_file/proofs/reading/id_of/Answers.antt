use Rattle.std.proofs.Common.{◌≡◌, ◌∙◌, take, ap, arith}
use Rattle.std.proofs.lemmas.List.{take_all}
use Rattle.mj_ids.specs.Ids.{id_in}
use Rattle.mj_submit_file.proofs.reading.id_of.Goals as goal

pub returns : goal.returns
returns c =
    let whole = take_all 16 c.args.octets.now (omega (arith, c.requires)) in
    let chunk : c.in_ok-first_chunk.field-0.now ≡ take 16 c.args.octets.now = (let e = c.in_ok-first_chunk.ensures in cc) in
    c.from_octets.ensures.exact ∙ ap id_in (chunk ∙ whole)
