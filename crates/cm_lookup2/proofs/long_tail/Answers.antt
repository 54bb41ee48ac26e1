use Rattle.std.proofs.Common.{◌∙◌, arith}
use Rattle.cm_lookup2.proofs.TailLemmas.{second_of, third_of}
use Rattle.cm_lookup2.proofs.long_tail.Goals as goal

pub returns-clause-b : goal.returns-clause-b
returns-clause-b c = c.last_of_four.ensures ∙ second_of c.args.rest.now _ (λ i. omega (arith, c.type_inv.rest i)) c.requires.0 c.min-second.ensures

pub returns-clause-c : goal.returns-clause-c
returns-clause-c c =
    let third = c.last_of_four-2.ensures ∙ third_of c.args.rest.now _ (λ i. omega (arith, c.type_inv.rest i)) c.requires.0 c.requires.1 c.saturating_sub-third.ensures in
    omega (arith, third)
