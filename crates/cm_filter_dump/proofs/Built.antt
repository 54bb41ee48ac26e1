-- From the cells of keys to the filter of a job.
use Rattle.std.proofs.Common.{◌≡◌, ◌∙◌, ℕ, List, length, ap}
use Rattle.cm_filter.specs.Filters.{Filter, filter_rule, filter_under}
use Rattle.cm_filter_dump.specs.Building.{make_filter, recipe_of}
use Rattle.cm_filter_dump.specs.declared.files.FilterFile.{FilterFile}
use Rattle.cm_filter_words.specs.declared.jobs.FilterBuild.{FilterBuild}
use Rattle.cm_io.specs.Passes.{Told}
use Rattle.cm_spec.specs.Built.{cells_under}
use Rattle.cm_tool_cells.specs.Recipes.{tried}
use Rattle.cm_tool_cells.specs.Seeds.{IsBuiltFrom}

-- a filter is known by its parts
by_parts : (f : Filter) (keys : List (ℕ × List ℕ)) (c w seed : ℕ) → f.keys ≡ length keys → f.ratio ≡ c → f.seed ≡ seed → f.bits ≡ w → f.cells ≡ cells_under (filter_rule w) keys c seed → f ≡ filter_under keys c w seed
by_parts f keys c w seed m r s b cells =
    ap (λ (k : ℕ). let g : Filter = record { keys = k; ratio = f.ratio; seed = f.seed; bits = f.bits; cells = f.cells } in g) m
    ∙ ap (λ (k : ℕ). let g : Filter = record { keys = length keys; ratio = k; seed = f.seed; bits = f.bits; cells = f.cells } in g) r
    ∙ ap (λ (k : ℕ). let g : Filter = record { keys = length keys; ratio = c; seed = k; bits = f.bits; cells = f.cells } in g) s
    ∙ ap (λ (k : ℕ). let g : Filter = record { keys = length keys; ratio = c; seed = seed; bits = k; cells = f.cells } in g) b
    ∙ ap (λ (xs : List ℕ). let g : Filter = record { keys = length keys; ratio = c; seed = seed; bits = w; cells = xs } in g) cells

-- the filter of the cells of a build is that of its keys
pub filter_is : (job : FilterBuild) (told : Told) (f : Filter) (m seed : ℕ) (cells : List ℕ) → IsBuiltFrom (filter_rule job.w) told job.c (tried (recipe_of job)) m seed cells → f.keys ≡ m → f.ratio ≡ job.c → f.seed ≡ seed → f.bits ≡ job.w → f.cells ≡ cells
    → (let file : FilterFile = record { filter = f } in file) ≡ make_filter job told.keys seed
filter_is job told f m seed cells built keys ratio seed_is bits cells_are =
    ap (λ (g : Filter). let file : FilterFile = record { filter = g } in file) (by_parts f told.keys job.c job.w seed (keys ∙ built.many) ratio seed_is bits (cells_are ∙ built.cells_are))
