use Rattle.std.proofs.Common.{refl}
use Rattle.std.specs.Fmt.{digits}
use Rattle.std.specs.Path.{path_join}
use Rattle.cm_shards_join.specs.Counts.{differs_from}
use Rattle.cm_shards_join.specs.Taking.{compare_counts, join_of, take_all, take_function}
use Rattle.cm_shards_manifest.specs.Paths.{folder_of}
use Rattle.cm_shards_join.proofs.ExampleLemmas.{spelled_cut, spelled_one, spelled_two, spelled_vertices}
use Rattle.cm_shards_join.proofs.examples.refused.Goals as goal

pub returns-clause-kind : goal.returns-clause-kind
unfolding take_all take_function compare_counts join_of differs_from folder_of path_join digits
returns-clause-kind c = λ files counts are. rw (are.first, spelled_two, are.second, spelled_vertices) refl

pub returns-clause-counts : goal.returns-clause-counts
unfolding take_all take_function compare_counts join_of differs_from folder_of path_join digits
returns-clause-counts c = λ files are. rw (are.first, spelled_two, are.second, spelled_one, are.split) refl

pub returns-clause-turned : goal.returns-clause-turned
unfolding take_all take_function compare_counts join_of differs_from folder_of path_join digits
returns-clause-turned c = λ files are. rw (are.first, spelled_one, are.second, spelled_two, are.split) refl

pub returns-clause-longer : goal.returns-clause-longer
unfolding take_all take_function compare_counts join_of differs_from folder_of path_join digits
returns-clause-longer c = λ files are. rw (are.first, spelled_two, are.second, spelled_one, are.split) refl

pub returns-clause-cut : goal.returns-clause-cut
unfolding take_all take_function compare_counts join_of differs_from folder_of path_join digits
returns-clause-cut c = λ files b counts are. rw (are.first, spelled_cut) refl

pub returns-clause-nameless : goal.returns-clause-nameless
unfolding take_all take_function compare_counts join_of differs_from folder_of path_join digits
returns-clause-nameless c = λ files. refl
