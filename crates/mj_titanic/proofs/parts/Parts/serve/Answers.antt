use Rattle.std.proofs.Common.{ℕ, List, Option, ap, sym, ◌∙◌}
use Rattle.std.specs.Prelude.{codes}
use Rattle.std.specs.Str.{bytes_eq}
use Rattle.mj_mmi.specs.Asking
use Rattle.mj_machine.specs.TitanicStep.{Titanic, fetches, finishes, serves, submits, tells, titanic_of}
use Rattle.mj_titanic.specs.Acting.{seen}
use Rattle.mj_titanic.proofs.Accepts.{if-err-map, on-ok-map}
use Rattle.mj_titanic.proofs.Rowing.{did-around, did-same, stopped-around, stopped-same}
use Rattle.mj_titanic.proofs.Naming.{is-fetches, is-finishes, is-none, is-submits}
use Rattle.mj_titanic.proofs.parts.Parts.serve.Goals as goal

pub returns-then-eq-clause-done : goal.returns-then-eq-clause-done
returns-then-eq-clause-done g c =
    on-ok-map c.submit.result _ _ (λ did. did-same g.D.Disk (seen c.args.self.now) c.args.disk.now _ _ _ _ (submits c.args.number c.args.request.now (Asking.read_submit c.args.request.now.body)) (serves (titanic_of c.args.request.now.service) c.args.number c.args.request.now) did
    (λ w at. ap (λ (o : Option Titanic). serves o c.args.number c.args.request.now w) (sym (is-submits c.args.request.now.service (ap (λ (s : List ℕ). bytes_eq s (codes "titanic.request")) (sym c.as_slice-name.ensures.value) ∙ sym c.eq.ensures ∙ c.if-eq.true))))) c.submit.ensures.done

pub returns-then-eq-clause-stopped : goal.returns-then-eq-clause-stopped
returns-then-eq-clause-stopped g c =
    if-err-map c.submit.result _ _ (λ fault stopped. stopped-same g.D.Disk fault (seen c.args.self.now) c.args.disk.now _ (submits c.args.number c.args.request.now (Asking.read_submit c.args.request.now.body)) (serves (titanic_of c.args.request.now.service) c.args.number c.args.request.now) stopped
    (λ w at. ap (λ (o : Option Titanic). serves o c.args.number c.args.request.now w) (sym (is-submits c.args.request.now.service (ap (λ (s : List ℕ). bytes_eq s (codes "titanic.request")) (sym c.as_slice-name.ensures.value) ∙ sym c.eq.ensures ∙ c.if-eq.true))))) c.submit.ensures.stopped

pub returns-then-eq-2-clause-done : goal.returns-then-eq-2-clause-done
returns-then-eq-2-clause-done g c =
    on-ok-map c.fetch.result _ _ (λ did. did-same g.D.Disk (seen c.args.self.now) c.args.disk.now _ _ _ _ (fetches c.args.number c.args.request.now (Asking.read_ticket c.args.request.now.body)) (serves (titanic_of c.args.request.now.service) c.args.number c.args.request.now) did
    (λ w at. ap (λ (o : Option Titanic). serves o c.args.number c.args.request.now w) (sym (is-fetches c.args.request.now.service (ap (λ (s : List ℕ). bytes_eq s (codes "titanic.request")) (sym c.as_slice-name.ensures.value) ∙ sym c.eq.ensures ∙ c.if-eq.false) (ap (λ (s : List ℕ). bytes_eq s (codes "titanic.reply")) (sym c.as_slice-name.ensures.value) ∙ sym c.eq-2.ensures ∙ c.if-eq-2.true))))) c.fetch.ensures.done

pub returns-then-eq-2-clause-stopped : goal.returns-then-eq-2-clause-stopped
returns-then-eq-2-clause-stopped g c =
    if-err-map c.fetch.result _ _ (λ fault stopped. stopped-same g.D.Disk fault (seen c.args.self.now) c.args.disk.now _ (fetches c.args.number c.args.request.now (Asking.read_ticket c.args.request.now.body)) (serves (titanic_of c.args.request.now.service) c.args.number c.args.request.now) stopped
    (λ w at. ap (λ (o : Option Titanic). serves o c.args.number c.args.request.now w) (sym (is-fetches c.args.request.now.service (ap (λ (s : List ℕ). bytes_eq s (codes "titanic.request")) (sym c.as_slice-name.ensures.value) ∙ sym c.eq.ensures ∙ c.if-eq.false) (ap (λ (s : List ℕ). bytes_eq s (codes "titanic.reply")) (sym c.as_slice-name.ensures.value) ∙ sym c.eq-2.ensures ∙ c.if-eq-2.true))))) c.fetch.ensures.stopped

pub returns-then-eq-3-clause-done : goal.returns-then-eq-3-clause-done
returns-then-eq-3-clause-done g c =
    on-ok-map c.finish.result _ _ (λ did. did-same g.D.Disk (seen c.args.self.now) c.args.disk.now _ _ _ _ (finishes c.args.number c.args.request.now (Asking.read_ticket c.args.request.now.body)) (serves (titanic_of c.args.request.now.service) c.args.number c.args.request.now) did
    (λ w at. ap (λ (o : Option Titanic). serves o c.args.number c.args.request.now w) (sym (is-finishes c.args.request.now.service (ap (λ (s : List ℕ). bytes_eq s (codes "titanic.request")) (sym c.as_slice-name.ensures.value) ∙ sym c.eq.ensures ∙ c.if-eq.false) (ap (λ (s : List ℕ). bytes_eq s (codes "titanic.reply")) (sym c.as_slice-name.ensures.value) ∙ sym c.eq-2.ensures ∙ c.if-eq-2.false) (ap (λ (s : List ℕ). bytes_eq s (codes "titanic.close")) (sym c.as_slice-name.ensures.value) ∙ sym c.eq-3.ensures ∙ c.if-eq-3.true))))) c.finish.ensures.done

pub returns-then-eq-3-clause-stopped : goal.returns-then-eq-3-clause-stopped
returns-then-eq-3-clause-stopped g c =
    if-err-map c.finish.result _ _ (λ fault stopped. stopped-same g.D.Disk fault (seen c.args.self.now) c.args.disk.now _ (finishes c.args.number c.args.request.now (Asking.read_ticket c.args.request.now.body)) (serves (titanic_of c.args.request.now.service) c.args.number c.args.request.now) stopped
    (λ w at. ap (λ (o : Option Titanic). serves o c.args.number c.args.request.now w) (sym (is-finishes c.args.request.now.service (ap (λ (s : List ℕ). bytes_eq s (codes "titanic.request")) (sym c.as_slice-name.ensures.value) ∙ sym c.eq.ensures ∙ c.if-eq.false) (ap (λ (s : List ℕ). bytes_eq s (codes "titanic.reply")) (sym c.as_slice-name.ensures.value) ∙ sym c.eq-2.ensures ∙ c.if-eq-2.false) (ap (λ (s : List ℕ). bytes_eq s (codes "titanic.close")) (sym c.as_slice-name.ensures.value) ∙ sym c.eq-3.ensures ∙ c.if-eq-3.true))))) c.finish.ensures.stopped

pub returns-clause-done : goal.returns-clause-done
returns-clause-done g c =
    on-ok-map c.tell.result _ _ (λ did. did-same g.D.Disk (seen c.args.self.now) c.args.disk.now _ _ _ _ (tells c.args.number c.args.request.now (codes "501")) (serves (titanic_of c.args.request.now.service) c.args.number c.args.request.now) (did-around g.D.Disk (seen c.args.self.now) c.args.disk.now _ _ _ _ (tells c.args.number c.args.request.now (codes "501")) did)
    (λ w at. ap (λ (o : Option Titanic). serves o c.args.number c.args.request.now w) (sym (is-none c.args.request.now.service (ap (λ (s : List ℕ). bytes_eq s (codes "titanic.request")) (sym c.as_slice-name.ensures.value) ∙ sym c.eq.ensures ∙ c.if-eq.false) (ap (λ (s : List ℕ). bytes_eq s (codes "titanic.reply")) (sym c.as_slice-name.ensures.value) ∙ sym c.eq-2.ensures ∙ c.if-eq-2.false) (ap (λ (s : List ℕ). bytes_eq s (codes "titanic.close")) (sym c.as_slice-name.ensures.value) ∙ sym c.eq-3.ensures ∙ c.if-eq-3.false))))) c.tell.ensures.done

pub returns-clause-stopped : goal.returns-clause-stopped
returns-clause-stopped g c =
    if-err-map c.tell.result _ _ (λ fault stopped. stopped-same g.D.Disk fault (seen c.args.self.now) c.args.disk.now _ (tells c.args.number c.args.request.now (codes "501")) (serves (titanic_of c.args.request.now.service) c.args.number c.args.request.now) (stopped-around g.D.Disk fault (seen c.args.self.now) c.args.disk.now _ (tells c.args.number c.args.request.now (codes "501")) stopped)
    (λ w at. ap (λ (o : Option Titanic). serves o c.args.number c.args.request.now w) (sym (is-none c.args.request.now.service (ap (λ (s : List ℕ). bytes_eq s (codes "titanic.request")) (sym c.as_slice-name.ensures.value) ∙ sym c.eq.ensures ∙ c.if-eq.false) (ap (λ (s : List ℕ). bytes_eq s (codes "titanic.reply")) (sym c.as_slice-name.ensures.value) ∙ sym c.eq-2.ensures ∙ c.if-eq-2.false) (ap (λ (s : List ℕ). bytes_eq s (codes "titanic.close")) (sym c.as_slice-name.ensures.value) ∙ sym c.eq-3.ensures ∙ c.if-eq-3.false))))) c.tell.ensures.stopped
