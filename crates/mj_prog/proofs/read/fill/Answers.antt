use Rattle.std.proofs.Common.{◌≡◌, ◌+◌, ◌-◌, ℕ, Bool, true, cond, ◌++◌, length, take, replicate, vec_len, is_ok, sym, ap, subst, ◌∙◌, rules}
use Rattle.mj_prog.specs.declared.read.Filled.{Filled}
use Rattle.mj_prog.specs.ReadSoFar.{Fills, filled_count}
use Rattle.mj_prog.proofs.Filling.{fill-of, held, grown-front}
use Rattle.mj_prog.proofs.read.fill.Goals as goal

pub returns-clause-fills : goal.returns-clause-fills
returns-clause-fills g c =
    let old = c.args.pending.now.items in
    let at = c.len-at.result in
    let most = c.args.most in
    let buffer = c.read_behind.new.buffer in
    let ok : is_ok c.resize.result ≡ true = search rules in
    let grown = ap (λ (b : Bool). cond b (take (at + most) old ++ replicate (at + most - vec_len c.args.pending.now) 0) old) ok in
    let size = ap (λ (b : Bool). cond b (at + most) (vec_len c.args.pending.now)) ok in
    let slice = c.read_behind.auto.buffer ∙ c.as_mut_slice.ensures.len in
    let whole = held c.resize.new.self.len buffer c.resize.new.self.items (sym slice) in
    let count : at ≡ length old = search rules in
    let kept = c.read_behind.ensures.kept ∙ ap (take at) c.as_mut_slice.ensures.value ∙ grown-front at most old c.resize.new.self.items _ count (c.resize.ensures.items ∙ grown) in
    let cut = c.truncate.ensures.items ∙ ap (take (at + c.count_of.result)) whole ∙ ap (λ (n : ℕ). take (at + n) buffer) (c.count_of.ensures ∙ ap filled_count c.filled_by-filled.ensures) in
    subst (λ (f : Filled). Fills (g.S.Source.left c.args.src.now) (g.S.Source.left c.read_behind.new.src) most old c.truncate.new.self.items f) (sym c.filled_by-filled.ensures)
    (fill-of _ _ most at old buffer c.truncate.new.self.items c.read_behind.result (slice ∙ c.resize.ensures.len ∙ size) kept c.read_behind.ensures.octets cut)
