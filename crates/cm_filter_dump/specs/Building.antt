-- What a build makes of keys, for the driver of builds.
use Rattle.std.specs.Prelude.{ℕ, List, []}
use Rattle.cm_algo_names.specs.declared.algorithm.Algorithm.TheVariants.{Bdz}
use Rattle.cm_filter.specs.Filters.{filter_rule, filter_under}
use Rattle.cm_filter_dump.specs.Program.{naming}
use Rattle.cm_filter_dump.specs.declared.files.FilterFile.{FilterFile}
use Rattle.cm_filter_file.specs.FilterFiles.{IsFilter, filter_bytes}
use Rattle.cm_filter_words.specs.Limits.{IsFilterBuild}
use Rattle.cm_filter_words.specs.declared.jobs.FilterBuild.{FilterBuild}
use Rattle.cm_io.specs.Passes.{Told}
use Rattle.cm_tool_building.specs.Building.{Building}
use Rattle.cm_tool_building.specs.Meanings.{Meaning}
use Rattle.cm_tool_cells.specs.Recipes.{IsMadeOf, meaning_by}
use Rattle.cm_tool_cells.specs.declared.recipe.Recipe.{Recipe}

-- how the cells of a job are built
abbrev pub recipe_of : FilterBuild → Recipe
recipe_of job = record { c = job.c; seed = job.seed; count = job.count }

-- the filter of keys under a seed
abbrev pub make_filter : FilterBuild → List (ℕ × List ℕ) → ℕ → FilterFile
make_filter job keys seed = record { filter = filter_under keys job.c job.w seed }

-- what is known of the filter of keys: it is that of the first seed that works, and its numbers are in their ranges
abbrev pub IsFileOf : FilterBuild → Told → FilterFile → Type 0
IsFileOf job told file = IsMadeOf (filter_rule job.w) (recipe_of job) (make_filter job) told file × IsFilter file.filter

-- Its graphs are those of BDZ, and so are its reports.
abbrev pub meaning_of : FilterBuild → Meaning FilterFile
meaning_of job = record (meaning_by Bdz (filter_rule job.w) (recipe_of job) (make_filter job)) {
  ready = IsFilterBuild job;
  makes = λ told file _ _. IsFileOf job told file;
}

-- the build of a job
abbrev pub building_of : FilterBuild → Building FilterFile
building_of job = record {
  named = naming job.keys job.filter;
  dir = [];
  first = job.first;
  end = job.end;
  meaning = meaning_of job;
  bytes = λ file. filter_bytes file.filter;
}
