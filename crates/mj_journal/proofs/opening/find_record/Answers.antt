use Rattle.std.proofs.Common.{◌≡◌, ◌<◌, ◌+◌, ◌^◌, ◌≤◌, length, sym, ◌∙◌, arith}
use Rattle.mj_journal.proofs.Reading.{not_whole_short, not_whole_length}
use Rattle.mj_journal.proofs.opening.find_record.Goals as goal

pub returns-then-size-gate-lt7-clause-found : goal.returns-then-size-gate-lt7-clause-found
returns-then-size-gate-lt7-clause-found g c history is =
    let sized : c.args.size ≡ length history.now.octets = c.requires.size history is in
    let room : length history.now.octets < c.args.gate + 7 = omega arith in
    not_whole_short c.args.gate history.now.octets room

pub returns-then-not-fits-clause-found : goal.returns-then-not-fits-clause-found
returns-then-not-fits-clause-found g c history is =
    let sized : c.args.size ≡ length history.now.octets = c.requires.size history is in
    let small : c.length_of-len.result < 2 ^ 32 = omega arith in
    let inside : c.args.gate < length history.now.octets = omega arith in
    not_whole_length c.args.gate c.length_of-len.result history.now.octets
    (sym (c.length_of-len.ensures ∙ c.in_ok-read.ensures.octets history is))
    small
    (λ (f : (1 ≤ c.length_of-len.result) × (c.length_of-len.result ≤ 2097152) × (c.args.gate + 5 + c.length_of-len.result < length history.now.octets)).
    let low = f.0 in
    let high = f.1 in
    let room = f.2 in
    c.if-not-fits.ensures (low, high, omega arith))
