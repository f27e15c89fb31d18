use Rattle.std.proofs.Common.{ℕ, ◌+◌, List, [], ◌∷◌, ◌++◌, Option, sym, ap, ◌∙◌, subst}
use Rattle.std.specs.Prelude.{IfSome, IfNone}
use Rattle.mj_tickets.specs.declared.command.TicketCmd.{TicketCmd}
use Rattle.mj_tickets.specs.Payload.{IsCommand}
use Rattle.mj_copy_file.proofs.LogReads.{next_unread, reads_bad, reads_more, reads_whole}
use Rattle.mj_store.proofs.Reading.{unlawful}
use Rattle.mj_copy_file.proofs.reading.read_more.Goals as goal

pub returns-in-Err-clause-unread : goal.returns-in-Err-clause-unread
returns-in-Err-clause-unread g c =
    next_unread _ c.args.opening.now.next c.args.tickets.now.index c.args.spots.now.items _ c.in-Err.fault c.requires.read c.in-Err.ensures.kind c.in-Err.ensures.refused

pub returns-then-not-more-clause-all : goal.returns-then-not-more-clause-all
returns-then-not-more-clause-all g c = λ no.
    reads_whole c.args.opening.now.base c.args.opening.now.next _ c.args.tickets.now.index c.args.spots.now.items _ (c.in-Ok.ensures.stay c.if-not-more.true).0 c.requires.read (c.in-Ok.ensures.end c.if-not-more.true)

pub returns-in_default-cmd-clause-unread : goal.returns-in_default-cmd-clause-unread
returns-in_default-cmd-clause-unread g c =
    let only = subst (λ (o : Option TicketCmd). IfNone o ((cmd : TicketCmd) → IsCommand cmd c.as_slice.result.now → ⊥)) c.in_default-cmd.is c.in-Ok-read_cmd.ensures.only in
    reads_bad c.args.opening.now.base c.args.opening.now.next _ c.next.new.self.next c.args.tickets.now.index c.args.spots.now.items _ c.next.new.payload (c.gate.ensures ∙ c.in-Ok.ensures.last c.if-not-more.false) c.requires.read (c.in-Ok.ensures.read c.if-not-more.false)
    (λ cmd is. absurd (only cmd (subst (λ (l : List ℕ). IsCommand cmd l) (sym c.as_slice.ensures) is)))

pub returns-in-Err-Unlawful-clause-unread : goal.returns-in-Err-Unlawful-clause-unread
returns-in-Err-Unlawful-clause-unread g c =
    let found = subst (λ (o : Option TicketCmd). IfSome o (λ cmd. IsCommand cmd c.as_slice.result.now)) c.in-Some.is c.in-Ok-read_cmd.ensures.found in
    let command = subst (λ (l : List ℕ). IsCommand c.in-Some.cmd l) c.as_slice.ensures found in
    let none = c.in-Err-Unlawful.ensures.unlawful.0 (cc) in
    reads_bad c.args.opening.now.base c.args.opening.now.next _ c.next.new.self.next c.args.tickets.now.index c.args.spots.now.items _ c.next.new.payload (c.gate-in-Err-Unlawful.ensures ∙ c.in-Ok.ensures.last c.if-not-more.false) c.requires.read (c.in-Ok.ensures.read c.if-not-more.false)
    (unlawful c.in-Some.cmd c.gate-at.result c.args.opening.now.next c.args.tickets.now.index c.next.new.payload (c.gate-at.ensures ∙ c.in-Ok.ensures.last c.if-not-more.false) command none)

pub returns-in-Ok-push-clause-more : goal.returns-in-Ok-push-clause-more
returns-in-Ok-push-clause-more g c = λ yes.
    let found = subst (λ (o : Option TicketCmd). IfSome o (λ cmd. IsCommand cmd c.as_slice.result.now)) c.in-Some.is c.in-Ok-read_cmd.ensures.found in
    reads_more c.args.opening.now.base c.args.opening.now.next (c.gate-at.result + 5) c.next.new.self.next c.args.tickets.now.index c.apply.new.self.index c.args.spots.now.items c.push.new.self.items _ c.next.new.payload c.in-Some.cmd
    (ap (λ (n : ℕ). n + 5) (c.gate-at.ensures ∙ c.in-Ok.ensures.last c.if-not-more.false)) (c.in-Ok.ensures.place c.if-not-more.false)
    (subst (λ (l : List ℕ). IsCommand c.in-Some.cmd l) c.as_slice.ensures found)
    c.in-Ok-apply.ensures.ok
    (c.in-Ok-push.ensures.items ∙ ap (λ (n : ℕ). c.args.spots.now.items ++ record { at = c.gate-at.result + 5; len = n } ∷ []) c.len.ensures)
    c.requires.read (c.in-Ok.ensures.read c.if-not-more.false)
