use Rattle.std.proofs.Common.{◌≡◌, ℕ, IfSome, map, string_bytes, ap, inl, inr, subst, sym, ◌∙◌, ⊎_elim}
use Rattle.mj_gen.specs.Generating.{Generates}
use Rattle.mj_prog.specs.Running.{fault_counts}
use Rattle.mj_words.specs.SinkCounts.{counted}
use Rattle.mj_prog.specs.StatusRows.{IsRow}
use Rattle.mj_prog.specs.Statuses.{code_of}
use Rattle.mj_prog.specs.Words.{command_in, load_in, options_in}
use Rattle.mj_prog.specs.declared.status.Status.TheVariants as statuses
use Rattle.mj_prog.proofs.StatusLaws.{answers, file-row, lists-all, lists-done, lists-front, listing-cause, row-of, status-is, store-row, unopened-code, write-cause, read-cause, disk-cause}
use Rattle.mj_prog.proofs.ToolLaws.{audits-status, helps-status, shows-status}
use Rattle.mj_prog.proofs.Untouched.{alone-untouched}
use Rattle.mj_prog.proofs.top_call.tool.Goals as goal

pub returns-in-None-clause-words : goal.returns-in-None-clause-words
returns-in-None-clause-words g c = (
  λ is. (sym c.read_tool.ensures ∙ c.in-None.is, c.run_command.ensures.words.0 (status-is c.run_command.result statuses.Words c.code.result c.code.ensures is)),
  λ none. c.code.ensures ∙ ap code_of (c.run_command.ensures.words.1 none.1),
)

pub returns-in-None-clause-refused_words : goal.returns-in-None-clause-refused_words
returns-in-None-clause-refused_words g c = λ is. c.run_command.ensures.refused_words (status-is c.run_command.result statuses.Words c.code.result c.code.ensures is)

pub returns-in-None-clause-statuses : goal.returns-in-None-clause-statuses
returns-in-None-clause-statuses g c = inl (c.run_command.result, c.code.ensures)

pub returns-in-None-clause-done : goal.returns-in-None-clause-done
returns-in-None-clause-done g c = λ is.
    (row-of g.D.Disk c.args.disk.now c.run_command.new.disk (options_in (map string_bytes c.args.words.now)) (λ lanes first made s. IsRow lanes first made (g.S.Source.left c.args.src.now) (g.S.Source.left c.run_command.new.src) (g.K.Sink.written c.args.out.now) (g.K.Sink.written c.run_command.new.out) (counted (g.K.Sink.faults c.args.out.now) (g.K.Sink.wants c.args.out.now)) (counted (g.K.Sink.faults c.run_command.new.out) (g.K.Sink.wants c.run_command.new.out)) s)
    c.run_command.result statuses.Done c.run_command.ensures.rows (status-is c.run_command.result statuses.Done c.code.result c.code.ensures is))

pub returns-in-None-clause-unlawful : goal.returns-in-None-clause-unlawful
returns-in-None-clause-unlawful g c = λ is.
    (row-of g.D.Disk c.args.disk.now c.run_command.new.disk (options_in (map string_bytes c.args.words.now)) (λ lanes first made s. IsRow lanes first made (g.S.Source.left c.args.src.now) (g.S.Source.left c.run_command.new.src) (g.K.Sink.written c.args.out.now) (g.K.Sink.written c.run_command.new.out) (counted (g.K.Sink.faults c.args.out.now) (g.K.Sink.wants c.args.out.now)) (counted (g.K.Sink.faults c.run_command.new.out) (g.K.Sink.wants c.run_command.new.out)) s)
    c.run_command.result statuses.Line c.run_command.ensures.rows (status-is c.run_command.result statuses.Line c.code.result c.code.ensures is))

pub returns-in-None-clause-memory : goal.returns-in-None-clause-memory
returns-in-None-clause-memory g c = λ is.
    (row-of g.D.Disk c.args.disk.now c.run_command.new.disk (options_in (map string_bytes c.args.words.now)) (λ lanes first made s. IsRow lanes first made (g.S.Source.left c.args.src.now) (g.S.Source.left c.run_command.new.src) (g.K.Sink.written c.args.out.now) (g.K.Sink.written c.run_command.new.out) (counted (g.K.Sink.faults c.args.out.now) (g.K.Sink.wants c.args.out.now)) (counted (g.K.Sink.faults c.run_command.new.out) (g.K.Sink.wants c.run_command.new.out)) s)
    c.run_command.result statuses.NoMemory c.run_command.ensures.rows (status-is c.run_command.result statuses.NoMemory c.code.result c.code.ensures is))

pub returns-in-None-clause-read : goal.returns-in-None-clause-read
returns-in-None-clause-read g c = λ is. (
  read-cause (load_in (map string_bytes c.args.words.now)) (fault_counts (g.D.Disk.faults c.args.disk.now) (g.D.Disk.faults c.run_command.new.disk) (g.S.Source.faults c.args.src.now) (g.S.Source.faults c.run_command.new.src) (g.K.Sink.faults c.args.out.now)) (g.K.Sink.faults c.run_command.new.out) c.run_command.result (status-is c.run_command.result statuses.Read c.code.result c.code.ensures is) c.run_command.ensures.cause,
  (row-of g.D.Disk c.args.disk.now c.run_command.new.disk (options_in (map string_bytes c.args.words.now)) (λ lanes first made s. IsRow lanes first made (g.S.Source.left c.args.src.now) (g.S.Source.left c.run_command.new.src) (g.K.Sink.written c.args.out.now) (g.K.Sink.written c.run_command.new.out) (counted (g.K.Sink.faults c.args.out.now) (g.K.Sink.wants c.args.out.now)) (counted (g.K.Sink.faults c.run_command.new.out) (g.K.Sink.wants c.run_command.new.out)) s)
      c.run_command.result statuses.Read c.run_command.ensures.rows (status-is c.run_command.result statuses.Read c.code.result c.code.ensures is)),
)

pub returns-in-None-clause-write : goal.returns-in-None-clause-write
returns-in-None-clause-write g c = λ is. (
  write-cause (load_in (map string_bytes c.args.words.now)) (fault_counts (g.D.Disk.faults c.args.disk.now) (g.D.Disk.faults c.run_command.new.disk) (g.S.Source.faults c.args.src.now) (g.S.Source.faults c.run_command.new.src) (g.K.Sink.faults c.args.out.now)) (g.K.Sink.faults c.run_command.new.out) c.run_command.result (status-is c.run_command.result statuses.Write c.code.result c.code.ensures is) c.run_command.ensures.cause,
  (row-of g.D.Disk c.args.disk.now c.run_command.new.disk (options_in (map string_bytes c.args.words.now)) (λ lanes first made s. IsRow lanes first made (g.S.Source.left c.args.src.now) (g.S.Source.left c.run_command.new.src) (g.K.Sink.written c.args.out.now) (g.K.Sink.written c.run_command.new.out) (counted (g.K.Sink.faults c.args.out.now) (g.K.Sink.wants c.args.out.now)) (counted (g.K.Sink.faults c.run_command.new.out) (g.K.Sink.wants c.run_command.new.out)) s)
      c.run_command.result statuses.Write c.run_command.ensures.rows (status-is c.run_command.result statuses.Write c.code.result c.code.ensures is)),
)

pub returns-in-None-clause-store : goal.returns-in-None-clause-store
returns-in-None-clause-store g c = λ is.
    let at = (status-is c.run_command.result statuses.Store c.code.result c.code.ensures is) in
    store-row g.D.Disk c.args.disk.now c.run_command.new.disk (command_in (map string_bytes c.args.words.now)) _ (λ telling. (c.run_command.ensures.refused at telling).0)
    (λ telling. ((file-row (g.D.Disk.told c.args.disk.now) (g.D.Disk.told c.run_command.new.disk) (g.K.Sink.written c.args.out.now) (g.K.Sink.written c.run_command.new.out) (counted (g.K.Sink.faults c.args.out.now) (g.K.Sink.wants c.args.out.now)) (counted (g.K.Sink.faults c.run_command.new.out) (g.K.Sink.wants c.run_command.new.out)) c.run_command.result statuses.Store c.run_command.ensures.file at) telling.0 telling.1).1.unlawful)
    (row-of g.D.Disk c.args.disk.now c.run_command.new.disk (options_in (map string_bytes c.args.words.now)) (λ lanes first made s. IsRow lanes first made (g.S.Source.left c.args.src.now) (g.S.Source.left c.run_command.new.src) (g.K.Sink.written c.args.out.now) (g.K.Sink.written c.run_command.new.out) (counted (g.K.Sink.faults c.args.out.now) (g.K.Sink.wants c.args.out.now)) (counted (g.K.Sink.faults c.run_command.new.out) (g.K.Sink.wants c.run_command.new.out)) s)
    c.run_command.result statuses.Store c.run_command.ensures.rows (status-is c.run_command.result statuses.Store c.code.result c.code.ensures is))

pub returns-in-None-clause-refused : goal.returns-in-None-clause-refused
returns-in-None-clause-refused g c = λ is telling.
    let at = (status-is c.run_command.result statuses.Store c.code.result c.code.ensures is) in
    let refused = c.run_command.ensures.refused at telling in
    (refused.0, refused.1, (file-row (g.D.Disk.told c.args.disk.now) (g.D.Disk.told c.run_command.new.disk) (g.K.Sink.written c.args.out.now) (g.K.Sink.written c.run_command.new.out) (counted (g.K.Sink.faults c.args.out.now) (g.K.Sink.wants c.args.out.now)) (counted (g.K.Sink.faults c.run_command.new.out) (g.K.Sink.wants c.run_command.new.out)) c.run_command.result statuses.Store c.run_command.ensures.file at) telling.0 telling.1)

pub returns-in-None-clause-refuses : goal.returns-in-None-clause-refuses
returns-in-None-clause-refuses g c = λ file telling none.
    let refuses = c.run_command.ensures.refuses file telling none in
    (refuses.0, unopened-code c.run_command.result c.code.result c.code.ensures refuses.1)

pub returns-in-None-clause-opening : goal.returns-in-None-clause-opening
returns-in-None-clause-opening g c = λ is.
    let at = (status-is c.run_command.result statuses.Disk c.code.result c.code.ensures is) in
    (λ none. disk-cause (load_in (map string_bytes c.args.words.now)) (fault_counts (g.D.Disk.faults c.args.disk.now) (g.D.Disk.faults c.run_command.new.disk) (g.S.Source.faults c.args.src.now) (g.S.Source.faults c.run_command.new.src) (g.K.Sink.faults c.args.out.now)) (g.K.Sink.faults c.run_command.new.out) c.run_command.result at c.run_command.ensures.cause none, c.run_command.ensures.opening at, (file-row (g.D.Disk.told c.args.disk.now) (g.D.Disk.told c.run_command.new.disk) (g.K.Sink.written c.args.out.now) (g.K.Sink.written c.run_command.new.out) (counted (g.K.Sink.faults c.args.out.now) (g.K.Sink.wants c.args.out.now)) (counted (g.K.Sink.faults c.run_command.new.out) (g.K.Sink.wants c.run_command.new.out)) c.run_command.result statuses.Disk c.run_command.ensures.file at))

pub returns-in-None-clause-complete : goal.returns-in-None-clause-complete
returns-in-None-clause-complete g c =
    answers g.D.Disk c.args.disk.now c.run_command.new.disk (command_in (map string_bytes c.args.words.now)) (fault_counts (g.D.Disk.faults c.args.disk.now) (g.D.Disk.faults c.run_command.new.disk) (g.S.Source.faults c.args.src.now) (g.S.Source.faults c.run_command.new.src) (g.K.Sink.faults c.args.out.now)) (g.K.Sink.faults c.run_command.new.out) (g.S.Source.left c.args.src.now) (g.S.Source.left c.run_command.new.src) (g.K.Sink.written c.args.out.now) (g.K.Sink.written c.run_command.new.out)
    (counted (g.K.Sink.faults c.args.out.now) (g.K.Sink.wants c.args.out.now)) (counted (g.K.Sink.faults c.run_command.new.out) (g.K.Sink.wants c.run_command.new.out)) c.code.result c.run_command.result c.run_command.ensures.rows c.run_command.ensures.cause
    (λ at telling. (c.run_command.ensures.refused at telling).0) (λ at telling. ((file-row (g.D.Disk.told c.args.disk.now) (g.D.Disk.told c.run_command.new.disk) (g.K.Sink.written c.args.out.now) (g.K.Sink.written c.run_command.new.out) (counted (g.K.Sink.faults c.args.out.now) (g.K.Sink.wants c.args.out.now)) (counted (g.K.Sink.faults c.run_command.new.out) (g.K.Sink.wants c.run_command.new.out)) c.run_command.result statuses.Store c.run_command.ensures.file at) telling.0 telling.1).1.unlawful) c.code.ensures

pub returns-in-None-clause-lists : goal.returns-in-None-clause-lists
returns-in-None-clause-lists g c = λ asks is. lists-done _ _ _ c.run_command.result (c.run_command.ensures.lists asks) (status-is c.run_command.result statuses.Done c.code.result c.code.ensures is)

pub returns-in-None-clause-lists_front : goal.returns-in-None-clause-lists_front
returns-in-None-clause-lists_front g c = λ asks some. lists-front _ _ _ c.run_command.result (c.run_command.ensures.lists asks)
    (⊎_elim (λ is. inl (status-is c.run_command.result statuses.NoMemory c.code.result c.code.ensures is)) (λ is. inr (status-is c.run_command.result statuses.Write c.code.result c.code.ensures is)) some)

pub returns-in-None-clause-lists_all : goal.returns-in-None-clause-lists_all
returns-in-None-clause-lists_all g c = λ asks written synced. lists-all _ _ _ (fault_counts (g.D.Disk.faults c.args.disk.now) (g.D.Disk.faults c.run_command.new.disk) (g.S.Source.faults c.args.src.now) (g.S.Source.faults c.run_command.new.src) (g.K.Sink.faults c.args.out.now)) (g.K.Sink.faults c.run_command.new.out) c.code.result c.run_command.result (c.run_command.ensures.lists asks) (listing-cause (command_in (map string_bytes c.args.words.now)) _ _ c.run_command.result asks c.run_command.ensures.cause) c.code.ensures written synced

-- ---- what needs no broker

pub returns-in-Some-Help-clause-statuses : goal.returns-in-Some-Help-clause-statuses
returns-in-Some-Help-clause-statuses g c = helps-status _ _ _ _ c.help.result c.help.ensures

pub returns-in-Some-Help-clause-alone : goal.returns-in-Some-Help-clause-alone
returns-in-Some-Help-clause-alone g c = λ _. alone-untouched (g.D.Disk.time c.args.disk.now) (g.D.Disk.told c.args.disk.now) (g.met.D.Disk.in_time c.args.disk.now)

pub returns-in-Some-Show-clause-statuses : goal.returns-in-Some-Show-clause-statuses
returns-in-Some-Show-clause-statuses g c = shows-status _ _ _ _ _ _ _ _ c.show.result c.show.ensures.shows

pub returns-in-Some-Show-clause-alone : goal.returns-in-Some-Show-clause-alone
returns-in-Some-Show-clause-alone g c = λ _. alone-untouched (g.D.Disk.time c.args.disk.now) (g.D.Disk.told c.args.disk.now) (g.met.D.Disk.in_time c.args.disk.now)

pub returns-in-Some-Audit-clause-statuses : goal.returns-in-Some-Audit-clause-statuses
returns-in-Some-Audit-clause-statuses g c = audits-status _ _ _ _ _ _ _ _ c.audit.result c.audit.ensures.audits

pub returns-in-Some-Audit-clause-alone : goal.returns-in-Some-Audit-clause-alone
returns-in-Some-Audit-clause-alone g c = λ _. alone-untouched (g.D.Disk.time c.args.disk.now) (g.D.Disk.told c.args.disk.now) (g.met.D.Disk.in_time c.args.disk.now)

-- ---- a load

pub returns-in-None-clause-gens : goal.returns-in-None-clause-gens
returns-in-None-clause-gens g c =
    subst (λ (number : ℕ). IfSome (load_in (map string_bytes c.args.words.now)) (λ load. (c.run_command.new.src ≡ c.args.src.now) × Generates g.D.Disk load.requests load.stored c.args.disk.now c.run_command.new.disk (g.K.Sink.written c.args.out.now) (g.K.Sink.written c.run_command.new.out) (counted (g.K.Sink.faults c.args.out.now) (g.K.Sink.wants c.args.out.now)) (counted (g.K.Sink.faults c.run_command.new.out) (g.K.Sink.wants c.run_command.new.out)) number))
    (sym c.code.ensures) c.run_command.ensures.gens
