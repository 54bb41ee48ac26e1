use Rattle.std.proofs.Common.{◌∙◌, ℕ, List, Option, Bor, ap, sym, subst}
use Rattle.cm_witness_report.specs.Fields.{Finds, number_at}
use Rattle.cm_witness_report.proofs.FieldLemmas.{field_absent, field_rest}
use Rattle.cm_witness_report.proofs.fields.field.Goals as goal

pub returns-in_err-rest : goal.returns-in_err-rest
returns-in_err-rest c = rw c.from_residual.ensures (field_absent c.args.part.now c.args.text.now c.in_err-rest.ensures.cases)

pub returns : goal.returns
returns c =
    let cut = c.in_ok-rest.ensures.cases in
    subst (λ (o : Option (ℕ × List ℕ)). Finds {X = ℕ × Bor (List ℕ)} (λ x. (x.0, x.1.now)) c.number.result o) (ap number_at cut.1 ∙ sym (field_rest c.args.part.now c.args.text.now cut.0)) c.number.ensures
