use Rattle.std.proofs.Common.{rules, not}
use Rattle.std.specs.Str.{bytes_eq}
use Rattle.std.proofs.lemmas.Fn.{filter_same}
use Rattle.mj_ledger.proofs.waiting.leave.Goals as goal

pub returns : goal.returns
returns c = filter_same _ (λ x. not (bytes_eq x c.args.who.now)) _ (λ x b f k. search rules) c.args.present.now.items c.retain.new.self.items c.retain.ensures.filtered
