use Rattle.std.proofs.Common.{refl, rules}
use Rattle.cm_witness_gather.proofs.GatherLemmas.{handed_on}
use Rattle.cm_witness_gather.proofs.gathering.gather_with.Goals as goal

pub returns-in_err-core-clause-reads : goal.returns-in_err-core-clause-reads
returns-in_err-core-clause-reads g c = record {
  told = search rules;
  cause = search rules;
  failed = search rules;
  given = search rules;
  changed = search rules;
  fault = handed_on c.from_residual-in_err-core.result c.in_err-core.field-0.0 _ c.from_residual-in_err-core.ensures.1 c.in_err-core.ensures.fault;
}

pub returns-clause-form : goal.returns-clause-form
returns-clause-form g c = record {
  algorithm_is = refl;
  seed_is = refl;
  place_is = refl;
  count = c.in_ok-core.ensures.count;
  third = c.in_ok-core.ensures.third c.args.algorithm c.requires.ends;
}

pub returns-clause-gathered : goal.returns-clause-gathered
returns-clause-gathered g c = λ told is.
    let end = c.in_ok-core.ensures.end told is in
    record { many = end.0; ended = end.1; edges_are = c.in_ok-core.ensures.edges told is; equal_are = c.in_ok-core.ensures.equal told is }
