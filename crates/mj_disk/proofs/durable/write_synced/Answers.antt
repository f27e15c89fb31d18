use Rattle.std.proofs.Common.{length}
use Rattle.mj_disk.specs.Content.{IsImage, touched}
use Rattle.mj_disk.specs.DiskModel.{Touches}
use Rattle.mj_disk.proofs.Images.{touched_more}
use Rattle.mj_disk.proofs.Moments.{started, goes_on, synced_on}
use Rattle.mj_disk.proofs.durable.write_synced.Goals as goal

pub returns-in_err-write-clause-crash : goal.returns-in_err-write-clause-crash
returns-in_err-write-clause-crash g c history is =
    let P = IsImage (touched c.args.at (length c.args.octets.now) history.now) in
    let at_start = started _ history _ P is (g.met.D.Disk.in_time c.args.disk.now history is) (λ image now. touched_more _ _ history.now image now) in
    goes_on (Touches c.args.at (length c.args.octets.now)) _ _ _ _ _ _ history P at_start is c.write.ensures.crash c.write.ensures.later (λ next image how now. how.none_more image now)

pub returns-clause-crash : goal.returns-clause-crash
returns-clause-crash g c history is =
    let P = IsImage (touched c.args.at (length c.args.octets.now) history.now) in
    let at_start = started _ history _ P is (g.met.D.Disk.in_time c.args.disk.now history is) (λ image now. touched_more _ _ history.now image now) in
    let behind = goes_on (Touches c.args.at (length c.args.octets.now)) _ _ _ _ _ _ history P at_start is c.write.ensures.crash c.write.ensures.later (λ next image how now. how.none_more image now) in
    let mid = c.in_ok-write.ensures.written history is in
    synced_on _ _ _ _ _ _ mid.0 P behind mid.1 (g.met.D.Disk.reads_image c.write.new.self mid.0 mid.1) c.sync.ensures.crash c.sync.ensures.later
