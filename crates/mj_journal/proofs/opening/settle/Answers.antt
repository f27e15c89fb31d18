use Rattle.std.proofs.Common.{ℕ, ◌≡◌, length, ap, ◌∙◌}
use Rattle.std.proofs.lemmas.Result.{IfOk-weaker}
use Rattle.mj_disk.specs.Content.{Content, IsImage}
use Rattle.mj_disk.specs.DiskModel.{Now}
use Rattle.mj_disk.proofs.Moments.{started, synced_on, still}
use Rattle.mj_journal.proofs.opening.settle.Goals as goal

pub returns-in_err-sync-clause-crash : goal.returns-in_err-sync-clause-crash
returns-in_err-sync-clause-crash g c history is =
    let at_start = started _ history _ (IsImage history.now) is (g.met.D.Disk.in_time c.args.disk.now history is) (λ image now. now) in
    synced_on _ _ _ _ _ _ history (IsImage history.now) at_start is (g.met.D.Disk.reads_image c.args.disk.now history is) c.sync.ensures.crash c.sync.ensures.later

pub returns-clause-crash : goal.returns-clause-crash
returns-clause-crash g c history is =
    let at_start = started _ history _ (IsImage history.now) is (g.met.D.Disk.in_time c.args.disk.now history is) (λ image now. now) in
    let synced = synced_on _ _ _ _ _ _ history (IsImage history.now) at_start is (g.met.D.Disk.reads_image c.args.disk.now history is) c.sync.ensures.crash c.sync.ensures.later in
    still _ _ _ _ _ _ _ synced c.size.ensures.same c.size.ensures.later

pub returns-clause-size : goal.returns-clause-size
returns-clause-size g c =
    IfOk-weaker c.size.result
    (λ (n : ℕ). Now (g.D.Disk.told c.sync.new.self) (λ held. n ≡ length held.octets))
    (λ (n : ℕ). Now (g.D.Disk.told c.args.disk.now) (λ held. n ≡ length held.octets))
    (λ n sized history is.
    let held = c.in_ok-sync.ensures.synced history is in
    sized held.0 held.1 ∙ ap (λ (k : Content). length k.octets) held.2)
    c.size.ensures.size
