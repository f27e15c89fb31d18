use Rattle.std.proofs.Common.{◌≡◌, length, arith}
use Rattle.mj_copy_file.proofs.LogSpots.{counted, counts_few}
use Rattle.mj_copy_file.proofs.log.Log.count.Goals as goal

pub returns-clause-count : goal.returns-clause-count
returns-clause-count c =
    let ok = c.args.self.now.spots.ok in
    let is : c.len.result ≡ length c.args.self.now.spots.items = omega (arith, c.len.ensures, ok) in
    λ payloads knows. counted payloads c.args.self.now c.len.result knows is

pub returns-clause-small : goal.returns-clause-small
returns-clause-small c =
    let ok = c.args.self.now.spots.ok in
    let is : c.len.result ≡ length c.args.self.now.spots.items = omega (arith, c.len.ensures, ok) in
    counts_few c.requires.0 c.args.self.now c.len.result c.requires.1 is c.args.self.now.journal.small
