use Rattle.cm_lib_numbers.proofs.Algorithms as algorithms
use Rattle.cm_lib_numbers.proofs.keys_have_numbers.Goals as goal

pub returns-clause-apart : goal.returns-clause-apart
returns-clause-apart c = λ algorithm b told ratio seeds f within wide of. algorithms.numbers_apart algorithm told.keys ratio b seeds f wide (record {
  chm_numbers = λ seed empty. c.answers_numbers.ensures told.keys ratio seed of.many within (c.empty_rest.ensures.rest _ empty);
  bdz_apart = λ seed empty. c.answers_apart.ensures.bdz told.keys ratio seed b of.many within (c.empty_rest.ensures.rest _ empty);
  bdz_ph_apart = λ seed empty. c.answers_apart.ensures.bdz_ph told.keys ratio seed of.many within (c.empty_rest.ensures.rest _ empty);
  brz_apart = λ g some made. c.numbers_apart.ensures.apart told.keys ratio b seeds g of.many.0 of.many.1 within some made;
}) of.made

pub returns-clause-span : goal.returns-clause-span
returns-clause-span c = λ algorithm b told ratio seeds f other of. algorithms.span_is algorithm told.keys ratio b seeds f other of.made

pub returns-clause-in_order : goal.returns-clause-in_order
returns-clause-in_order c = λ b told ratio seeds f within of.
    algorithms.in_order told.keys ratio b seeds f (λ seed empty. c.answers_numbers.ensures told.keys ratio seed of.many within (c.empty_rest.ensures.rest _ empty)) of.made
