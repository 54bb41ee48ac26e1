use Rattle.std.proofs.Common.{rules, ◌≡◌}
use Rattle.cm_shards_words.specs.Program.{program}
use Rattle.cm_shards_words.proofs.noting.note_file.Goals as goal

pub returns-clause-noted : goal.returns-clause-noted
returns-clause-noted g c =
    let name : c.as_bytes.result.now ≡ program = search rules in
    let file : c.as_bytes-2.result.now ≡ c.args.file.now = c.as_bytes-2.ensures.value in
    rw (name, file) at c.note_pieces.ensures.noted
