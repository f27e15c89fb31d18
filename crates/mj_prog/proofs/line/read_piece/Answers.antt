use Rattle.std.proofs.Common.{◌<◌, length, rules}
use Rattle.mj_prog.proofs.Pieces.{pieces-are-hex, piece-sized}
use Rattle.mj_prog.proofs.line.read_piece.Goals as goal

pub returns-then-is_empty-clause-hex : goal.returns-then-is_empty-clause-hex
returns-then-is_empty-clause-hex c = pieces-are-hex c.args.digits.now

pub returns-clause-hex : goal.returns-clause-hex
returns-clause-hex c = pieces-are-hex c.args.digits.now

pub returns-clause-sized : goal.returns-clause-sized
returns-clause-sized c =
    let some : 0 < length c.args.digits.now = search rules in
    piece-sized c.args.digits.now c.decode_piece.result some c.if-digits-gt-PIECE_DIGITS.false c.decode_piece.ensures
