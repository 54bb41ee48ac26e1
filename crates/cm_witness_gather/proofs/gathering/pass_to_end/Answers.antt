use Rattle.std.proofs.Common.{◌∙◌, sym}
use Rattle.cm_witness_gather.proofs.gathering.pass_to_end.Goals as goal

pub returns-clause-end : goal.returns-clause-end
returns-clause-end g c = λ told is.
    let ends = c.in_ok-expect_end.ensures.end told (c.pass_keys.ensures.told ∙ is) in
    (sym ends.all ∙ c.in_ok-pass_keys.ensures.at, ends.fault_is)
