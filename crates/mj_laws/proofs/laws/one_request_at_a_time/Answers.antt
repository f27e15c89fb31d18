use Rattle.mj_laws.proofs.LeaseLemmas.{leases_end_in_time}
use Rattle.mj_laws.proofs.PairedLemmas.{requests_are_paired}
use Rattle.mj_laws.proofs.RequestLemmas.{one_request_at_a_time}
use Rattle.mj_laws.proofs.laws.one_request_at_a_time.Goals as goal

pub returns : goal.returns
returns c = record { between = one_request_at_a_time; paired = requests_are_paired; leases = leases_end_in_time }
