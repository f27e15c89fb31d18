use Rattle.std.proofs.Common.{arith}
use Rattle.mj_handshake.proofs.MeaningLemmas.{is_found, is_handshake, is_socket_type, is_reason}
use Rattle.mj_handshake.proofs.ready.read_ready.Goals as goal

pub returns-clause-found : goal.returns-clause-found
returns-clause-found c = is_found c.args.body.now c.ready_type.result c.ready_type.ensures (record { small = λ i. omega (arith, c.type_inv.body i) })

pub returns-clause-bad_handshake : goal.returns-clause-bad_handshake
returns-clause-bad_handshake c = is_handshake c.args.body.now c.ready_type.result c.ready_type.ensures (record { small = λ i. omega (arith, c.type_inv.body i) })

pub returns-clause-bad_socket_type : goal.returns-clause-bad_socket_type
returns-clause-bad_socket_type c = is_socket_type c.args.body.now c.ready_type.result c.ready_type.ensures (record { small = λ i. omega (arith, c.type_inv.body i) })

pub returns-clause-reasons : goal.returns-clause-reasons
returns-clause-reasons c = is_reason c.args.body.now c.ready_type.result c.ready_type.ensures (record { small = λ i. omega (arith, c.type_inv.body i) })
