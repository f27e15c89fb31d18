use Rattle.std.proofs.Common.{[], ◌≡◌, ◌++◌, List, ℕ, ap, arith, length, refl, sym}
use Rattle.std.specs.List.{list_any}
use Rattle.mj_audit_prog.specs.TextLines.{is_newline, lines_of}
use Rattle.mj_audit_prog.proofs.VerdictLemmas.{held-none}
use Rattle.mj_audit_prog.proofs.reader.Reader.new.Goals as goal

pub returns-clause-fresh : goal.returns-clause-fresh
returns-clause-fresh c = record {
  done = [];
  standing = record { stands = c.in_ok-new.ensures.stands; held = held-none; count = refl };
  split = λ rest. ap (λ (l : List ℕ). lines_of (l ++ rest)) (sym c.new-2.ensures.items);
  plain = ap (list_any is_newline) c.new-2.ensures.items;
  short = (let none : length c.new-2.result.items ≡ 0 = ap length c.new-2.ensures.items in omega (arith, none));
}
