use Rattle.std.proofs.Common.{◌≡◌, rules, ap, length, arith}
use Rattle.std.proofs.lemmas.Fn.{filter_same}
use Rattle.mj_lease.specs.Entries.{without_entry}
use Rattle.mj_lease.proofs.EntryLemmas.{fewer}
use Rattle.mj_lease.proofs.entries.take_entry.Goals as goal

pub returns-clause-items : goal.returns-clause-items
returns-clause-items c = filter_same _ _ _ (λ x b f' k. search rules) _ _ c.retain.ensures.filtered

pub returns-clause-len : goal.returns-clause-len
returns-clause-len c =
    let items : c.retain.new.self.items ≡ without_entry c.args.conn c.args.entries.now.items = returns-clause-items c in
    let lengths : length c.retain.new.self.items ≡ length (without_entry c.args.conn c.args.entries.now.items) = ap length items in
    let kept = fewer c.args.conn c.args.entries.now.items in
    let new_ok = c.retain.new.self.ok in
    let old_ok = c.args.entries.now.ok in
    omega (arith, lengths, kept, new_ok, old_ok)
