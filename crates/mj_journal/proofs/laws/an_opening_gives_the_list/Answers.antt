use Rattle.std.proofs.Common.{refl}
use Rattle.mj_journal.proofs.Handing.{hands_out, hands_out_either, alike_opens, hands_out_appended, reads_since}
use Rattle.mj_journal.proofs.laws.an_opening_gives_the_list.Goals as goal

pub returns-clause-list : goal.returns-clause-list
returns-clause-list g c disk history after asked base of payloads handed is opens out =
    hands_out asked base of payloads handed _ after history is out opens

pub returns-clause-either : goal.returns-clause-either
returns-clause-either g c disk history after asked base first second handed is each out =
    hands_out_either asked base first second handed _ after history is out (each history.now.octets (g.met.D.Disk.reads_image disk history is))

pub returns-clause-image : goal.returns-clause-image
returns-clause-image g c disk history left after asked base first second handed is each image out =
    hands_out_either asked base first second handed _ after left refl out (each left.now.octets image)

pub returns-clause-begin : goal.returns-clause-begin
returns-clause-begin g c before disk moments crashes history left after asked base first second handed is each since out =
    let image = (crashes history is).each left.now.octets (reads_since _ _ left (g.met.D.Disk.reads_image disk) since) in
    hands_out_either asked base first second handed _ after left refl out
    (alike_opens first second history.now left.now.octets each (g.met.D.Disk.reads_image before history is) image)

pub returns-clause-append : goal.returns-clause-append
returns-clause-append g c before disk payload end moments crashes history left after head asked base of payloads handed is all_synced is_header stands place since out =
    hands_out_appended payload end moments _ _ crashes history left after head asked base of payloads handed is all_synced is_header stands place (reads_since _ _ left (g.met.D.Disk.reads_image disk) since) out
