use Rattle.std.proofs.Common.{◌≡◌, ℕ, true, false, Option, sym, ◌∙◌, ap, subst, ⊎_elim}
use Rattle.std.proofs.lemmas.Bool.{cases_Bool}
use Rattle.std.proofs.lemmas.Result.{on_ok_weaker}
use Rattle.mj_disk.specs.DiskModel.{History, Now}
use Rattle.mj_journal.specs.declared.journal.Journal.{Journal}
use Rattle.mj_journal.specs.Making.{IsMaking}
use Rattle.mj_journal.proofs.Exits.{all_ok, unspent_exits}
use Rattle.mj_journal.proofs.Finishing.{making_ends, grows, grown_making, making_goes_on, stays_on, left_unfinished}
use Rattle.mj_journal.proofs.making.Making.append.Goals as goal

pub append-requires-clause-file : goal.append-requires-clause-file
append-requires-clause-file g c unspent history is =
    making_ends c.args.self.now.base c.args.self.now.journal.end history.now (c.requires.file unspent history is)

pub returns-clause-grown : goal.returns-clause-grown
returns-clause-grown g c =
    all_ok c.append.result
    (λ text settled end. grows c.args.self.now.base c.args.self.now.journal.end c.append.new.self.end c.args.payload.now _ _ c.append.ensures.telling c.requires.payload text (λ history is. g.met.D.Disk.settled_told c.append.new.disk history is settled) end)
    c.append.ensures.text
    c.append.ensures.settled
    c.append.ensures.end

pub returns-clause-ready : goal.returns-clause-ready
returns-clause-ready g c unspent =
    ⊎_elim
    (λ (spent : c.args.self.now.journal.spent ≡ true).
    let still : c.append.new.self.spent ≡ true = ap (λ (j : Journal). j.spent) (c.append.ensures.spent_same (c.append.ensures.spent.1 spent)).1 ∙ spent in
    absurd (let both : true ≡ false = sym still ∙ unspent in cc))
    (λ (clean : c.args.self.now.journal.spent ≡ false).
    let file = c.requires.file clean in
    unspent_exits c.append.result (Now (g.D.Disk.told c.append.new.disk) (IsMaking c.args.self.now.base c.append.new.self.end)) c.append.new.self.spent unspent
    (on_ok_weaker c.append.result (grown_making c.args.self.now.base c.args.self.now.journal.end c.append.new.self.end c.args.payload.now _ _ c.append.ensures.telling file) (returns-clause-grown g c))
    (λ spent. ap (λ (j : Journal). j.spent) (c.append.ensures.spent_same spent).1 ∙ c.append.ensures.spent.0 spent)
    (λ none.
    let same = c.append.ensures.no_memory none in
    subst (λ (t : Option History). Now t (IsMaking c.args.self.now.base c.append.new.self.end)) (sym (ap g.D.Disk.told same.0))
    (subst (λ (n : ℕ). Now (g.D.Disk.told c.args.disk.now) (IsMaking c.args.self.now.base n)) (sym (ap (λ (j : Journal). j.end) same.1)) file))
    (λ failed. (c.append.ensures.failed failed).1))
    (cases_Bool c.args.self.now.journal.spent)

pub returns-clause-crash : goal.returns-clause-crash
returns-clause-crash g c =
    ⊎_elim
    (λ (spent : c.args.self.now.journal.spent ≡ true). stays_on _ _ _ (ap g.D.Disk.told (c.append.ensures.spent_same (c.append.ensures.spent.1 spent)).0) c.append.ensures.later)
    (λ (unspent : c.args.self.now.journal.spent ≡ false). making_goes_on c.args.self.now.base c.args.self.now.journal.end c.args.payload.now _ _ _ c.append.ensures.telling c.append.ensures.later (c.requires.file unspent) c.append.ensures.crash)
    (cases_Bool c.args.self.now.journal.spent)

pub returns-clause-left : goal.returns-clause-left
returns-clause-left g c fault =
    ⊎_elim
    (λ (spent : c.args.self.now.journal.spent ≡ true). let both = c.append.ensures.spent.1 spent in absurd (cc))
    (λ (unspent : c.args.self.now.journal.spent ≡ false). left_unfinished c.args.self.now.base c.args.self.now.journal.end c.args.payload.now _ _ c.append.ensures.telling (c.requires.file unspent) (c.append.ensures.left fault))
    (cases_Bool c.args.self.now.journal.spent)
