use Rattle.std.proofs.Common.{refl}
use Rattle.std.specs.Fmt.{digits}
use Rattle.std.specs.Path.{path_join}
use Rattle.cm_shards_join.specs.Counts.{differs_from}
use Rattle.cm_shards_join.specs.Taking.{compare_counts, join_of, take_all, take_function}
use Rattle.cm_shards_manifest.specs.Paths.{folder_of}
use Rattle.cm_shards_join.proofs.ExampleLemmas.{spelled_one, spelled_two, spelled_vertices}
use Rattle.cm_shards_join.proofs.examples.joined.Goals as goal

pub returns-clause-counted : goal.returns-clause-counted
unfolding take_all take_function compare_counts join_of differs_from folder_of path_join digits
returns-clause-counted c = λ files are. rw (are.first, spelled_two, are.second, spelled_one, are.split) refl

pub returns-clause-uncounted : goal.returns-clause-uncounted
unfolding take_all take_function compare_counts join_of differs_from folder_of path_join digits
returns-clause-uncounted c = λ files counts are. rw (are.first, spelled_two, are.second, spelled_one) refl

pub returns-clause-vertices : goal.returns-clause-vertices
unfolding take_all take_function compare_counts join_of differs_from folder_of path_join digits
returns-clause-vertices c = λ files are. rw (are.first, spelled_vertices, are.second, spelled_vertices, are.split) refl
