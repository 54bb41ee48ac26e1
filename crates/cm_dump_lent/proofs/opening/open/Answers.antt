use Rattle.std.proofs.Common.{◌≡◌, ◌∙◌, List, ℕ, ap, arith, length, sym}
use Rattle.cm_bdz.specs.LentLaws.{held_is}
use Rattle.cm_dump.specs.Forms.{form_of, version_of}
use Rattle.cm_dump.specs.Headings.{heading_at}
use Rattle.cm_dump.specs.Spelling.{spelling_by}
use Rattle.cm_dump.specs.declared.front.Algorithm.{Algorithm}
use Rattle.cm_dump.specs.declared.front.Algorithm.TheVariants as algorithm
use Rattle.cm_dump.specs.declared.front.Header.{Header}
use Rattle.cm_dump_items.specs.PartLaws.{part_front}
use Rattle.cm_dump_items.specs.StepLaws.{byte_fault, fails_then, ok_err, ok_same}
use Rattle.cm_dump_lent.proofs.FaultLemmas.{brz_fault}
use Rattle.cm_dump_lent.proofs.opening.open.Goals as goal

other : {A : Type 0} → (let a : Algorithm = algorithm.Bdz in a) ≡ algorithm.Brz → A
other is = absurd (grind (arith, is))

pub returns-in-Err-clause-fault : goal.returns-in-Err-clause-fault
unfolding spelling_by
returns-in-Err-clause-fault c =
    let dump : List ℕ = c.args.dump.now in
    let e = c.in-Err.fault in
    let failed = c.in-Err.ensures.exact dump (rw c.min-front.ensures (part_front dump 24)) in
    let heading = byte_fault e (heading_at (form_of (version_of dump)) dump) c.in-Err.ensures.kind failed in
    (byte_fault e _ c.in-Err.ensures.kind (fails_then e (heading_at (form_of (version_of dump)) dump) _ failed), c.in-Err.ensures.kind, λ is. ok_err is.header e (sym is.heading ∙ heading))

pub returns-in-Ok-open_bdz-clause-answers : goal.returns-in-Ok-open_bdz-clause-answers
returns-in-Ok-open_bdz-clause-answers c = λ key. held_is c.in-Ok-open_bdz.bdz c.in-Ok-open_bdz.ensures.valid c.in-Ok-open_bdz.ensures.stands key

pub returns-in-Ok-open_bdz-clause-room : goal.returns-in-Ok-open_bdz-clause-room
returns-in-Ok-open_bdz-clause-room c = λ lacks.
    let dump : List ℕ = c.args.dump.now in
    let heading = c.in-Ok.ensures.exact dump (rw c.min-front.ensures (part_front dump 24)) in
    let same : c.in-Ok.heading.header ≡ lacks.header = ok_same (sym heading ∙ lacks.heading) in
    other (sym c.in-Bdz.is ∙ (ap (λ (h : Header). h.algorithm) same ∙ lacks.brz))

pub returns-in-Ok-open_brz-clause-room : goal.returns-in-Ok-open_brz-clause-room
returns-in-Ok-open_brz-clause-room c = λ lacks.
    let dump : List ℕ = c.args.dump.now in
    let heading = c.in-Ok.ensures.exact dump (rw c.min-front.ensures (part_front dump 24)) in
    let same : lacks.header ≡ c.in-Ok.heading.header = sym (ok_same (sym heading ∙ lacks.heading)) in
    let few = rw same at lacks.few in
    omega (arith, few, c.in-Ok-open_brz.ensures.room)

pub returns-in-Err-open_brz-clause-fault : goal.returns-in-Err-open_brz-clause-fault
returns-in-Err-open_brz-clause-fault c =
    let dump : List ℕ = c.args.dump.now in
    let heading = c.in-Ok.ensures.exact dump (rw c.min-front.ensures (part_front dump 24)) in
    let version = c.in-Ok.ensures.version dump (rw c.min-front.ensures (part_front dump 24)) in
    let fault = rw version at c.in-Err-open_brz.ensures.fault in
    brz_fault dump c.in-Ok.heading.header (length c.args.index.now) c.in-Err-open_brz.fault heading c.in-Brz.is fault
