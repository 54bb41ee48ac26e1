use Rattle.std.proofs.Common.{rules, arith, ◌≡◌, ◌∙◌, [], sym}
use Rattle.cm_algo_seeds.specs.OneSeedLaws.{no_keys}
use Rattle.cm_algo_seeds.proofs.seeds.solve.Goals as goal

pub assign-requires : goal.assign-requires
assign-requires g c =
    let nil : c.rest.result.now ≡ [] = no_keys c.rest.result.now (search rules) in
    let width = (g.met.S.Scheme.laws c.args.scheme.now).two_or_three in
    (omega (arith, width.1), (omega (arith, width.1), (c.in_ok-peeled.ensures.peeling, (sym c.in_ok-peeled.ensures.peeling.rest ∙ (sym c.rest.ensures ∙ nil), c.requires.many))))

pub returns-in_err-peeled-clause-steps : goal.returns-in_err-peeled-clause-steps
returns-in_err-peeled-clause-steps g c = c.peel_without_levels.ensures.steps

pub returns-in_err-table-clause-steps : goal.returns-in_err-table-clause-steps
returns-in_err-table-clause-steps g c = c.peel_without_levels.ensures.steps

pub returns-in_ok-table-clause-solved : goal.returns-in_ok-table-clause-solved
returns-in_ok-table-clause-solved g c =
    let nil : c.rest.result.now ≡ [] = no_keys c.rest.result.now (search rules) in
    record {
      empty = sym c.in_ok-peeled.ensures.peeling.rest ∙ (sym c.rest.ensures ∙ nil);
      bound_is = c.in_ok-table.ensures.bound;
      cells_are = c.in_ok-table.ensures.cells;
      solved = c.in_ok-table.ensures.solved;
    }

pub returns-in_ok-table-clause-steps : goal.returns-in_ok-table-clause-steps
returns-in_ok-table-clause-steps g c = c.peel_without_levels.ensures.steps

pub returns-else-is_empty-clause-peeled : goal.returns-else-is_empty-clause-peeled
returns-else-is_empty-clause-peeled g c = c.in_ok-peeled.ensures.peeling.rest

pub returns-else-is_empty-clause-steps : goal.returns-else-is_empty-clause-steps
returns-else-is_empty-clause-steps g c = c.peel_without_levels.ensures.steps
