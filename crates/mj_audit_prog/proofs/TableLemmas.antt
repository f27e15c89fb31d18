-- The last line of an audit, and its status.
use Rattle.std.proofs.Common.{◌≡◌, ℕ, List, [], Option, Result, Ok, Err, IfOk, IfErr, refl, subst, arith}
use Rattle.std.specs.Prelude.{MatchResult}
use Rattle.std.specs.Io.KnownBytes.{Appends}
use Rattle.std.proofs.KnownBytes.{Keeps-refl}
use Rattle.mj_audit_prog.specs.Auditing.{AllHeld, Audits, IsAudited, LawBroken, LineUnlawful, Starved, Unread, Unwritten, verdict_line}
use Rattle.mj_audit_prog.specs.AuditingSoFar.{HaltCause, IsHalted, status_after}
use Rattle.mj_audit_prog.specs.declared.auditing.Outcome.{Outcome}
use Rattle.mj_audit_prog.specs.declared.pieces.Halt.{Halt}
use Rattle.mj_audit_prog.specs.declared.pieces.Halt.TheVariants as halts
use Rattle.mj_base.specs.Writing.{AppendsFront, WriteAdds, WriteCause}
use Rattle.mj_base.specs.declared.sink.WriteAnswer.{WriteAnswer}
use Rattle.mj_base.specs.declared.sink.WriteAnswer.TheVariants as writes
use Rattle.mj_transcript.specs.declared.verdict.Law.{Law}
use Rattle.mj_transcript.specs.declared.verdict.Verdict.TheVariants as verdicts
use Rattle.mj_words.specs.Lines.{AppendsLine, fault_read}
use Rattle.mj_words.specs.SinkCounts.{AreLater, SinkCounts}

pub same-counts : (counts : SinkCounts) → AreLater counts counts
same-counts counts = record { faults = omega arith; wants = omega arith }

held-is : verdicts.Held ≡ verdicts.Unlawful → ⊥
held-is h = cc

broken-is : (law : Law) → verdicts.Broken law ≡ verdicts.Unlawful → ⊥
broken-is law h = cc

pub audits-starved : (from left old : Option (List ℕ)) (reads_before reads_now : ℕ) (before now : SinkCounts) → Audits from left reads_before reads_now old old before now 4
audits-starved from left old reads_before reads_now before now = Starved refl (Keeps-refl old)

pub audits-unread : (from left old new : Option (List ℕ)) (reads_before reads_now : ℕ) (before now : SinkCounts) → HaltCause halts.Read reads_before reads_now → IsHalted halts.Read from left → AppendsLine old new before now [] fault_read
    → Audits from left reads_before reads_now old new before now 6
audits-unread from left old new reads_before reads_now before now rose (read, took, going) line = Unread refl rose (read, took, going, line)

-- the line was written, or wasn't
pub audits-held : (from left old new : Option (List ℕ)) (reads_before reads_now : ℕ) (before now : SinkCounts) (held status : ℕ) (line : List ℕ) (answer : WriteAnswer) → IsAudited from left held verdicts.Held → line ≡ verdict_line held verdicts.Held
    → WriteAdds old new answer line → WriteCause before.faults now.faults answer → status ≡ status_after 0 answer → Audits from left reads_before reads_now old new before now status
audits-held from left old new reads_before reads_now before now held status line writes.Done audited is adds cause status_is = AllHeld status_is (held, audited, subst (Appends old new) is adds)
audits-held from left old new reads_before reads_now before now held status line writes.NoMemory audited is adds cause status_is = Starved status_is adds
audits-held from left old new reads_before reads_now before now held status line writes.Failed audited is adds cause status_is =
    Unwritten status_is cause (held, verdicts.Held, held-is, audited, subst (AppendsFront old new) is adds)

pub audits-broken : (from left old new : Option (List ℕ)) (reads_before reads_now : ℕ) (before now : SinkCounts) (held status : ℕ) (law : Law) (line : List ℕ) (answer : WriteAnswer) → IsAudited from left held (verdicts.Broken law)
    → line ≡ verdict_line held (verdicts.Broken law) → WriteAdds old new answer line → WriteCause before.faults now.faults answer → status ≡ status_after 12 answer → Audits from left reads_before reads_now old new before now status
audits-broken from left old new reads_before reads_now before now held status law line writes.Done audited is adds cause status_is = LawBroken status_is (held, law, audited, subst (Appends old new) is adds)
audits-broken from left old new reads_before reads_now before now held status law line writes.NoMemory audited is adds cause status_is = Starved status_is adds
audits-broken from left old new reads_before reads_now before now held status law line writes.Failed audited is adds cause status_is =
    Unwritten status_is cause (held, verdicts.Broken law, broken-is law, audited, subst (AppendsFront old new) is adds)

pub audits-unlawful : (from left old new : Option (List ℕ)) (reads_before reads_now : ℕ) (before now : SinkCounts) (held : ℕ) (line : List ℕ) → IsAudited from left held verdicts.Unlawful → line ≡ verdict_line held verdicts.Unlawful
    → AppendsLine old new before now [] line → Audits from left reads_before reads_now old new before now 2
audits-unlawful from left old new reads_before reads_now before now held line audited is adds = LineUnlawful refl (held, audited, subst (AppendsLine old new before now []) is adds)

pub ended : (r : Result Outcome Halt) (C : Outcome → Type 0) (Q D : Halt → Type 0) → IfOk r C → IfErr r Q → IfErr r D → MatchResult r C (λ halt. Q halt × D halt)
ended (Ok outcome) C Q D ok err cause = ok
ended (Err halt) C Q D ok err cause = (err, cause)
