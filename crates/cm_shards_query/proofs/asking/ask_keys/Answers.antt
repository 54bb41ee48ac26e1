use Rattle.std.proofs.Common.{◌≡◌, ◌∙◌, ℕ, [], List, Option, ap}
use Rattle.std.specs.Option.{option_map}
use Rattle.cm_io.specs.NotingLaws.{noted_nothing}
use Rattle.cm_shards_query.proofs.Steps.{ends_keys, err_none, part_none}
use Rattle.cm_shards_query.specs.Outcomes.{lines_of}
use Rattle.cm_tool_asking.specs.Leaves.{wrote}
use Rattle.cm_shards_query.proofs.asking.ask_keys.Goals as goal

pub returns-in-Err-Memory-clause-err : goal.returns-in-Err-Memory-clause-err
returns-in-Err-Memory-clause-err g c = err_none _ _

pub returns-in-Err-Failed-clause-err : goal.returns-in-Err-Failed-clause-err
returns-in-Err-Failed-clause-err g c = err_none _ _

pub returns-in-Err-Failed-clause-told : goal.returns-in-Err-Failed-clause-told
returns-in-Err-Failed-clause-told g c = λ files is. ([], noted_nothing _ _, part_none _ _ _ _ _)

pub returns-clause-told : goal.returns-clause-told
returns-clause-told g c = λ files is.
    let job = c.args.question.now.job.now in
    let path : c.as_str.result.now ≡ job.keys = c.as_str.ensures.bytes in
    let opened = rw path at (c.in-Ok.ensures.reader files is) in
    let told = c.new-lines.ensures.told ∙ ap (λ (known : Option (List ℕ)). option_map (lines_of job) known) opened.tells in
    let ends = c.answer_lines-asked.ensures.ends (lines_of job opened.bytes) told in
    (ends.0, ends.1, ends_keys job c.args.question.now.shards.now files opened.bytes (wrote _ _ ends.0) c.answer_lines-asked.result opened.there ends.2)
