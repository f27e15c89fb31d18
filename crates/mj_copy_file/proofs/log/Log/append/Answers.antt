use Rattle.std.proofs.Common.{◌+◌, ℕ, Option, refl, ap, subst}
use Rattle.std.specs.Prelude.{IfNone, IfSome}
use Rattle.mj_tickets.specs.Payload.{IsCommand}
use Rattle.mj_tickets.specs.declared.command.TicketCmd.{TicketCmd}
use Rattle.mj_copy_file.proofs.LogAppends.{appends_one, ends_held, leaves_either, refuses_no_command, refuses_unlawful, stays_either}
use Rattle.mj_copy_file.proofs.log.Log.append.Goals as goal

pub returns-in_default-clause-crash : goal.returns-in_default-clause-crash
returns-in_default-clause-crash g c = stays_either g.D.Disk c.args.payload.now c.args.self.now c.args.disk.now (g.met.D.Disk.in_time c.args.disk.now)

pub returns-in_default-cmd-clause-refused : goal.returns-in_default-cmd-clause-refused
returns-in_default-cmd-clause-refused g c = λ no.
    refuses_no_command g.D.Disk c.args.self.now c.args.disk.now c.args.payload.now
    (subst (λ (o : Option TicketCmd). IfNone o ((cmd : TicketCmd) → IsCommand cmd c.args.payload.now → ⊥)) c.in_default-cmd.is c.in-Ok.ensures.only)

pub returns-in_default-cmd-clause-crash : goal.returns-in_default-cmd-clause-crash
returns-in_default-cmd-clause-crash g c = stays_either g.D.Disk c.args.payload.now c.args.self.now c.args.disk.now (g.met.D.Disk.in_time c.args.disk.now)

pub returns-in-Err-Unlawful-clause-refused : goal.returns-in-Err-Unlawful-clause-refused
returns-in-Err-Unlawful-clause-refused g c =
    let command = subst (λ (o : Option TicketCmd). IfSome o (λ cmd. IsCommand cmd c.args.payload.now)) c.in-Some.is c.in-Ok.ensures.found in
    let none = c.in-Err-Unlawful.ensures.unlawful.0 (cc) in
    rw c.in-Err-Unlawful.ensures.err
    (λ no. refuses_unlawful g.D.Disk c.args.self.now c.args.self.now c.args.disk.now c.args.payload.now c.in-Some.cmd (c.end-at.result + 5) command (ap (λ (n : ℕ). n + 5) c.end-at.ensures.value) none refl)

pub returns-in-Err-Unlawful-clause-crash : goal.returns-in-Err-Unlawful-clause-crash
returns-in-Err-Unlawful-clause-crash g c = stays_either g.D.Disk c.args.payload.now c.args.self.now c.args.disk.now (g.met.D.Disk.in_time c.args.disk.now)

pub returns-in-Err-NoMemory-clause-crash : goal.returns-in-Err-NoMemory-clause-crash
returns-in-Err-NoMemory-clause-crash g c = stays_either g.D.Disk c.args.payload.now c.args.self.now c.args.disk.now (g.met.D.Disk.in_time c.args.disk.now)

pub returns-in_default-push-clause-crash : goal.returns-in_default-push-clause-crash
returns-in_default-push-clause-crash g c = stays_either g.D.Disk c.args.payload.now c.args.self.now c.args.disk.now (g.met.D.Disk.in_time c.args.disk.now)

pub write-requires-clause-file : goal.write-requires-clause-file
write-requires-clause-file g c = ends_held g.D.Disk c.args.self.now c.args.disk.now c.args.self.now.journal.end refl c.requires.held

pub returns-then-at-payload-ge-SIZE_LIMIT-clause-crash : goal.returns-then-at-payload-ge-SIZE_LIMIT-clause-crash
returns-then-at-payload-ge-SIZE_LIMIT-clause-crash g c =
    leaves_either g.D.Disk c.args.payload.now c.args.self.now c.args.disk.now c.write.new.disk c.args.self.now.journal.end refl c.write.ensures.telling c.write.ensures.later c.write.ensures.crash

pub write-requires-2-clause-file : goal.write-requires-2-clause-file
write-requires-2-clause-file g c = ends_held g.D.Disk c.args.self.now c.args.disk.now c.args.self.now.journal.end refl c.requires.held

pub returns-in-Ok-write-2-clause-appended : goal.returns-in-Ok-write-2-clause-appended
returns-in-Ok-write-2-clause-appended g c = λ yes.
    let command = subst (λ (o : Option TicketCmd). IfSome o (λ cmd. IsCommand cmd c.args.payload.now)) c.in-Some.is c.in-Ok.ensures.found in
    appends_one g.D.Disk c.args.self.now _ c.args.disk.now c.write-2.new.disk c.args.payload.now c.in-Some.cmd (c.end-at.result + 5) c.args.self.now.journal.end
    (record {
      command = command;
      at_is = ap (λ (n : ℕ). n + 5) c.end-at.ensures.value;
      index_is = c.in-Ok-apply.ensures.ok;
      base_is = refl;
      spots_are = c.in-Ok-push.ensures.items;
      end_is = c.in-Ok-write-2.ensures.end;
      unspent = c.in-Ok-write-2.ensures.unspent;
    })
    refl c.write-2.ensures.telling c.in-Ok-write-2.ensures.settled (g.met.D.Disk.settled_told c.write-2.new.disk) c.in-Ok-write-2.ensures.appended

pub returns-in-Ok-write-2-clause-crash : goal.returns-in-Ok-write-2-clause-crash
returns-in-Ok-write-2-clause-crash g c =
    leaves_either g.D.Disk c.args.payload.now c.args.self.now c.args.disk.now c.write-2.new.disk c.args.self.now.journal.end refl c.write-2.ensures.telling c.write-2.ensures.later c.write-2.ensures.crash

pub returns-clause-crash : goal.returns-clause-crash
returns-clause-crash g c =
    leaves_either g.D.Disk c.args.payload.now c.args.self.now c.args.disk.now c.write-2.new.disk c.args.self.now.journal.end refl c.write-2.ensures.telling c.write-2.ensures.later c.write-2.ensures.crash
