use Rattle.cm_tool.proofs.Tests.{fault_ends, line_cut, line_ends, test_form}
use Rattle.cm_tool.proofs.testing.test_algorithm.Goals as goal

pub returns-in-Err-clause-form : goal.returns-in-Err-clause-form
returns-in-Err-clause-form g c = test_form c.args.algorithm c.in-Err.fault _ _ _ _ c.stop_of.result c.in-Err.ensures.cause c.in-Err.ensures.form (rw c.fault_of.ensures.fault at c.stop_of.ensures.stops)

pub returns-in-Err-clause-ends : goal.returns-in-Err-clause-ends
returns-in-Err-clause-ends g c = λ files is. fault_ends c.args.job.now c.args.algorithm files c.in-Err.fault _ _ c.stop_of.result (c.in-Err.ensures.fault files is) (rw c.fault_of.ensures.fault at c.stop_of.ensures.stops)

pub returns-in-Ok-print_line-clause-ends : goal.returns-in-Ok-print_line-clause-ends
returns-in-Ok-print_line-clause-ends g c = λ files is.
    let sum = rw c.in-Ok-reload.ensures.same at c.generated_sum-sum.ensures.sum in
    line_ends c.args.job.now c.args.algorithm files c.in-Ok.function c.saved_len-bytes.result c.generated_sum-sum.result _ _ (c.in-Ok.ensures.made files is) c.saved_len-bytes.ensures sum c.in-Ok-print_line.ensures.text

pub returns-clause-ends : goal.returns-clause-ends
returns-clause-ends g c = λ files is.
    let sum = rw c.in-Ok-reload.ensures.same at c.generated_sum-sum.ensures.sum in
    let cut = c.in-Err-print_line.ensures.text in
    line_cut c.args.job.now c.args.algorithm files c.in-Ok.function c.saved_len-bytes.result c.generated_sum-sum.result cut.0 _ _ (c.in-Ok.ensures.made files is) c.saved_len-bytes.ensures sum cut.1

pub returns-in-Ok-print_line-clause-spilled : goal.returns-in-Ok-print_line-clause-spilled
returns-in-Ok-print_line-clause-spilled g c = λ files is. record { f = c.in-Ok.function; built = c.in-Ok.ensures.made files is; spilled = c.in-Ok.ensures.spilled files is; unspilled = c.in-Ok.ensures.unspilled }
