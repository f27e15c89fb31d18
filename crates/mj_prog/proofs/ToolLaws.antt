-- Laws of the statuses of what needs no broker.
use Rattle.std.proofs.Common.{ℕ, List, Option, inl, inr}
use Rattle.mj_audit_prog.specs.Auditing.{Audits, AllHeld, LineUnlawful, LawBroken, Starved as AuditStarved, Unread as AuditUnread, Unwritten as AuditUnwritten}
use Rattle.mj_words.specs.SinkCounts.{SinkCounts}
use Rattle.mj_show.specs.Helping.{Helps, Printed, Starved as HelpStarved, Unwritten as HelpUnwritten}
use Rattle.mj_show.specs.Showing.{Shows, Whole, Starved, Unread, Unwritten}
use Rattle.mj_prog.specs.Statuses.{IsStatus}
use Rattle.mj_prog.specs.declared.status.Status.TheVariants as statuses

pub helps-status : (old new : Option (List ℕ)) (before now status : ℕ) → Helps old new before now status → IsStatus status
helps-status old new before now status (Printed is added) = inl (statuses.Done, is)
helps-status old new before now status (HelpStarved is keeps) = inl (statuses.NoMemory, is)
helps-status old new before now status (HelpUnwritten is rose front) = inl (statuses.Write, is)

pub shows-status : (from left : Option (List ℕ)) (reads_before reads_now : ℕ) (old new : Option (List ℕ)) (before now : SinkCounts) (status : ℕ) → Shows from left reads_before reads_now old new before now status → IsStatus status
shows-status from left reads_before reads_now old new before now status (Whole is shown) = inl (statuses.Done, is)
shows-status from left reads_before reads_now old new before now status (Starved is cut) = inl (statuses.NoMemory, is)
shows-status from left reads_before reads_now old new before now status (Unread is rose unread) = inl (statuses.Read, is)
shows-status from left reads_before reads_now old new before now status (Unwritten is rose cut) = inl (statuses.Write, is)

pub audits-status : (from left : Option (List ℕ)) (reads_before reads_now : ℕ) (old new : Option (List ℕ)) (before now : SinkCounts) (status : ℕ) → Audits from left reads_before reads_now old new before now status → IsStatus status
audits-status from left reads_before reads_now old new before now status (AllHeld is held) = inl (statuses.Done, is)
audits-status from left reads_before reads_now old new before now status (LineUnlawful is unlawful) = inl (statuses.Line, is)
audits-status from left reads_before reads_now old new before now status (AuditStarved is keeps) = inl (statuses.NoMemory, is)
audits-status from left reads_before reads_now old new before now status (AuditUnread is rose unread) = inl (statuses.Read, is)
audits-status from left reads_before reads_now old new before now status (AuditUnwritten is rose front) = inl (statuses.Write, is)
audits-status from left reads_before reads_now old new before now status (LawBroken is broken) = inr is
