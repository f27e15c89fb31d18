-- The last line of a showing, and its status.
use Rattle.std.proofs.Common.{◌≡◌, ◌≤◌, ◌^◌, ℕ, List, [], ◌++◌, length, take, drop, Option, Some, None, append_assoc, take-append-drop, refl, sym, ap, subst, ◌∙◌, arith, append-nil, Result, Ok, Err, IfOk, IfErr}
use Rattle.std.specs.Prelude.{MatchResult}
use Rattle.std.specs.Io.KnownBytes.{Appends}
use Rattle.std.proofs.KnownBytes.{Appends-trans, Appends-kept, Appends-nil}
use Rattle.mj_base.specs.Rising.{Rose}
use Rattle.mj_base.specs.Writing.{AppendsFront, WriteAdds, WriteCause}
use Rattle.mj_base.specs.declared.sink.WriteAnswer.{WriteAnswer}
use Rattle.mj_base.specs.declared.sink.WriteAnswer.TheVariants as writes
use Rattle.mj_show.specs.Showing.{IsCutOff, Shows, Whole, Starved, Unread, Unwritten, output, shown}
use Rattle.mj_show.specs.ShowingSoFar.{IsFront, IsHalted, IsWhole, status_after}
use Rattle.mj_show.specs.declared.halt.Halt.{Halt}
use Rattle.mj_show.specs.declared.halt.Halt.TheVariants as halts
use Rattle.mj_show.proofs.StreamLemmas.{front-behind, front-of}
use Rattle.mj_words.specs.Lines.{AppendsLine, done_line, fault_read}
use Rattle.mj_words.specs.SinkCounts.{SinkCounts}

rose-from : (a b c : ℕ) → a ≤ b → Rose b c → Rose a c
rose-from a b c first rose = omega arith

-- a front of the lines is a front of the output
pub cut-front : (from old new : Option (List ℕ)) → IsFront from old new → IsCutOff from old new
cut-front from old new (stream, is, (n, added)) = (stream, is, front-take n old new (shown stream) (done_line (length stream)) added)
  where
    front-take : (n : ℕ) (old new : Option (List ℕ)) (text rest : List ℕ) → Appends old new (take n text) → AppendsFront old new (text ++ rest)
    front-take n old new text rest added = front-of old new (take n text) (drop n text ++ rest) (text ++ rest) added (ap (λ (l : List ℕ). l ++ rest) (sym (take-append-drop n text)) ∙ append_assoc (take n text) (drop n text) rest)

-- all lines were printed, and not the last one
pub cut-whole : (from old new : Option (List ℕ)) (count : ℕ) → IsWhole from old new count → IsCutOff from old new
cut-whole from old new count (stream, is, added, counted) = (stream, is, front-of old new (shown stream) (done_line (length stream)) (output stream) added refl)

-- the last line was written, or wasn't
pub shows-written : (from left old mid new : Option (List ℕ)) (reads_before reads_now : ℕ) (before now : SinkCounts) (faults count status : ℕ) (answer : WriteAnswer) → before.faults ≤ faults → IsWhole from old mid count
    → WriteAdds mid new answer (done_line count) → WriteCause faults now.faults answer → status ≡ status_after answer → Shows from left reads_before reads_now old new before now status
shows-written from left old mid new reads_before reads_now before now faults count status writes.Done later (stream, is, added, counted) adds cause status_is =
    Whole status_is (stream, is, Appends-trans old mid new (shown stream) (done_line (length stream)) added (subst (λ (n : ℕ). Appends mid new (done_line n)) counted adds))
shows-written from left old mid new reads_before reads_now before now faults count status writes.NoMemory later (stream, is, added, counted) adds cause status_is =
    Starved status_is (stream, is, front-of old new (shown stream) (done_line (length stream)) (output stream) (Appends-kept old mid new (shown stream) added adds) refl)
shows-written from left old mid new reads_before reads_now before now faults count status writes.Failed later (stream, is, added, counted) adds cause status_is =
    Unwritten status_is (rose-from before.faults faults now.faults later cause)
    (stream, is, front-behind old mid new (shown stream) (done_line (length stream)) [] (output stream) added (subst (λ (n : ℕ). AppendsFront mid new (done_line n)) counted adds) (ap (λ (l : List ℕ). shown stream ++ l) (sym (append-nil (done_line (length stream))))))

-- there was no memory for it
pub shows-unmade : (from left old new : Option (List ℕ)) (reads_before reads_now : ℕ) (before now : SinkCounts) (count : ℕ) → IsWhole from old new count → Shows from left reads_before reads_now old new before now 4
shows-unmade from left old new reads_before reads_now before now count w = Starved refl (cut-whole from old new count w)

pub shows-starved : (from left old new : Option (List ℕ)) (reads_before reads_now : ℕ) (before now : SinkCounts) → IsHalted halts.NoMemory from left old new → Shows from left reads_before reads_now old new before now 4
shows-starved from left old new reads_before reads_now before now h = Starved refl (cut-front from old new h)

pub shows-unwritten : (from left old new : Option (List ℕ)) (reads_before reads_now : ℕ) (before now : SinkCounts) → Rose before.faults now.faults → IsHalted halts.Write from left old new → Shows from left reads_before reads_now old new before now 7
shows-unwritten from left old new reads_before reads_now before now rose h = Unwritten refl rose (cut-front from old new h)

pub shows-unread : (from left old mid new : Option (List ℕ)) (reads_before reads_now : ℕ) (before now : SinkCounts) → Rose reads_before reads_now → IsHalted halts.Read from left old mid
    → ((bytes : List ℕ) → Appends old mid bytes → AppendsLine old new before now bytes fault_read) → Shows from left reads_before reads_now old new before now 6
shows-unread from left old mid new reads_before reads_now before now rose (read, took, added) line = Unread refl rose (read, took, line (shown read) added)

-- nothing was read yet
pub halted-at-once : (halt : Halt) (from old : Option (List ℕ)) → halt ≡ halts.NoMemory → IsHalted halt from from old old
halted-at-once halt from old is = subst (λ (x : Halt). IsHalted x from from old old) (sym is) (front-at-once from old)
  where
    front-at-once : (from old : Option (List ℕ)) → IsFront from old old
    front-at-once None old = ([], omega arith, (0, Appends-nil old))
    front-at-once (Some all) old = (take (2 ^ 40) all, refl, (0, Appends-nil old))

pub ended : (r : Result ℕ Halt) (C : ℕ → Type 0) (Q D : Halt → Type 0) → IfOk r C → IfErr r Q → IfErr r D → MatchResult r C (λ halt. Q halt × D halt)
ended (Ok count) C Q D ok err cause = ok
ended (Err halt) C Q D ok err cause = (err, cause)
