use Rattle.std.proofs.Common.{ℕ, ap, ◌∙◌, refl, inl, inr, Some}
use Rattle.mj_titanic.specs.declared.fault.ActFault.TheVariants.{NoMemory}
use Rattle.mj_keeper.specs.declared.keeper.Shelf.TheVariants as shelves
use Rattle.mj_ids.specs.Ids.{text_of}
use Rattle.mj_titanic.specs.Acting.{nowhere, parts}
use Rattle.mj_titanic.specs.Accepting.{accept_of}
use Rattle.mj_titanic.proofs.Composing.{stopped-still, stopped-unmoved}
use Rattle.mj_titanic.proofs.Attempts.{sound-done, sound-failed}
use Rattle.mj_titanic.proofs.Appends.{append-did, append-failed, append-stopped}
use Rattle.mj_titanic.proofs.Accepts.{open-with}
use Rattle.mj_titanic.proofs.acts.Keeping.accept.Goals as goal

pub returns-in_default-checked_add-clause-stopped : goal.returns-in_default-checked_add-clause-stopped
returns-in_default-checked_add-clause-stopped g c = λ core. open-with _ _ _ c.in-Open.is (inl (stopped-still g.D.Disk NoMemory (parts core c.args.self.now) c.args.disk.now nowhere tt (λ refused. absurd refused)))

pub returns-in-Ok-clause-done : goal.returns-in-Ok-clause-done
returns-in-Ok-clause-done g c = λ core. open-with _ _ _ c.in-Open.is (
  c.in-Ok.ensures.room,
  c.next-number.ensures.value,
  c.text.ensures.value ∙ ap text_of c.in-Ok.ensures.id,
  append-did g.D.Disk (accept_of c.args.self.now.keeper c.in-Open.store c.args.service.now c.args.body.now) (parts core c.args.self.now) c.in-Open.store c.args.disk.now c.accept.new.disk c.in-Open.is c.accept.ensures.crash c.accept.ensures.count
      _ c.accept.new.self _ _ (c.in-Some.ensures.1) c.accept.ensures.telling refl refl c.accept.ensures.limits c.in-Ok.ensures.added refl,
)

pub returns-in-Ok-clause-sound : goal.returns-in-Ok-clause-sound
returns-in-Ok-clause-sound g c =
    sound-done g.D.Disk c.args.self.now.keeper _ c.in-Open.store c.args.disk.now c.accept.new.disk c.in-Open.is c.requires.sound c.accept.new.self refl c.accept.ensures.limits c.in-Ok.ensures.held

pub returns-in-Err-NoMemory-clause-stopped : goal.returns-in-Err-NoMemory-clause-stopped
returns-in-Err-NoMemory-clause-stopped g c = λ core.
    open-with _ _ _ c.in-Open.is (inl (stopped-unmoved g.D.Disk NoMemory (parts core c.args.self.now) c.args.disk.now c.accept.new.disk nowhere (c.in-Err-NoMemory.ensures.same (cc)).1 tt (λ refused. absurd refused)))

pub returns-in-Ok-shut-clause-done : goal.returns-in-Ok-shut-clause-done
returns-in-Ok-shut-clause-done g c = λ core.
    let now = c.in-Ok-shut.ensures.keeper ∙ ap (λ (n : ℕ). record c.args.self.now.keeper { shelf = shelves.Shut n }) c.end-end.ensures.value in
    open-with _ _ _ c.in-Open.is (
      c.in-Err-DiskFault.ensures.room_at_fault (cc),
      append-failed g.D.Disk (accept_of c.args.self.now.keeper c.in-Open.store c.args.service.now c.args.body.now) (parts core c.args.self.now) c.in-Open.store c.args.disk.now c.accept.new.disk c.in-Open.is c.accept.ensures.crash c.accept.ensures.count
          _ _ _ (c.in-Ok-shut.ensures.acts ∙ c.in-Some.ensures.1) c.accept.ensures.telling refl now (c.in-Err-DiskFault.ensures.doubt (cc)) (c.in-Err-DiskFault.ensures.cause (cc)) c.in-Ok-shut.ensures.note,
    )

pub returns-in-Ok-shut-clause-sound : goal.returns-in-Ok-shut-clause-sound
returns-in-Ok-shut-clause-sound g c =
    let now = c.in-Ok-shut.ensures.keeper ∙ ap (λ (n : ℕ). record c.args.self.now.keeper { shelf = shelves.Shut n }) c.end-end.ensures.value in
    sound-failed g.D.Disk c.args.self.now.keeper c.shut.new.self.keeper c.in-Open.store c.args.disk.now c.accept.new.disk c.in-Open.is c.requires.sound (Some (accept_of c.args.self.now.keeper c.in-Open.store c.args.service.now c.args.body.now)) now (c.in-Err-DiskFault.ensures.doubt (cc))

pub returns-in-Err-clause-stopped : goal.returns-in-Err-clause-stopped
returns-in-Err-clause-stopped g c = λ core. open-with _ _ _ c.in-Open.is (inr (
  c.in-Err-DiskFault.ensures.room_at_fault (cc),
  append-stopped g.D.Disk (accept_of c.args.self.now.keeper c.in-Open.store c.args.service.now c.args.body.now) (parts core c.args.self.now) c.in-Open.store c.args.disk.now c.accept.new.disk c.in-Open.is c.accept.ensures.crash c.accept.ensures.count NoMemory tt (λ refused. absurd refused),
))
