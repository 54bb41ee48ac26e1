use Rattle.std.proofs.Common.{◌∙◌, rules}
use Rattle.cm_algo_names.specs.declared.algorithm.Algorithm.TheVariants.{Bdz}
use Rattle.cm_filter.specs.Filters.{filter_rule}
use Rattle.cm_filter_dump.proofs.Built.{filter_is}
use Rattle.cm_filter_dump.specs.Building.{make_filter, recipe_of}
use Rattle.cm_tool_cells.specs.RecipeLaws.{made_of, made_verdict, refuses}
use Rattle.cm_filter_dump.proofs.building.make_by.Goals as goal

pub returns-in-Ok-clause-made : goal.returns-in-Ok-clause-made
returns-in-Ok-clause-made g c = λ told is.
    let job = c.args.job.now in
    let built = rw c.new-scheme.ensures.width at (c.in-Ok.ensures.first told is) in
    let many = c.in-Ok.ensures.many in
    let f = c.from_built.ensures in
    made_verdict Bdz (filter_rule job.w) (recipe_of job) (make_filter job) told _ _ _ _ (many.0, many.1) built (filter_is job told c.from_built.result _ _ _ built f.keys (f.ratio ∙ many.2) f.seed f.bits f.cells)

pub returns-in-Ok-clause-makes : goal.returns-in-Ok-clause-makes
returns-in-Ok-clause-makes g c = λ told is.
    let job = c.args.job.now in
    let built = rw c.new-scheme.ensures.width at (c.in-Ok.ensures.first told is) in
    let many = c.in-Ok.ensures.many in
    let f = c.from_built.ensures in (
      made_of (filter_rule job.w) (recipe_of job) (make_filter job) told _ _ _ _ (many.0, many.1) built (filter_is job told c.from_built.result _ _ _ built f.keys (f.ratio ∙ many.2) f.seed f.bits f.cells),
      record {
        keys = rw f.keys (many.0, many.1);
        ratio = rw (f.ratio, many.2) c.requires.job.ratio;
        seed = search rules;
        bits = rw f.bits c.requires.job.width;
        size = rw (f.cells, f.keys, f.ratio, many.2) c.in-Ok.ensures.cells.1;
        below = rw (f.cells, f.bits) (rw (c.in-Ok.ensures.cells.0, c.new-scheme.ensures.width) at c.in-Ok.built.cells.in_bound);
      },
    )

pub returns-in-Err-clause-refused : goal.returns-in-Err-clause-refused
returns-in-Err-clause-refused g c = λ told is.
    let job = c.args.job.now in
    refuses Bdz (filter_rule job.w) (recipe_of job) (make_filter job) told c.in-Err.fault (rw c.new-scheme.ensures.width at (c.in-Err.ensures.refused told is))
