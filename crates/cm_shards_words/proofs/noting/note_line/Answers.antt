use Rattle.std.proofs.Common.{rules, ◌≡◌}
use Rattle.std.specs.Prelude.{decimal}
use Rattle.cm_shards_words.specs.Program.{program}
use Rattle.cm_shards_words.proofs.noting.note_line.Goals as goal

pub returns-clause-noted : goal.returns-clause-noted
returns-clause-noted g c =
    let name : c.as_bytes-program.result.now ≡ program = search rules in
    let file : c.as_bytes-file.result.now ≡ c.args.file.now = c.as_bytes-file.ensures.value in
    let digits : c.as_bytes-digits.result.now ≡ decimal c.args.line = search rules in
    rw (name, file, digits) at c.note_pieces.ensures.noted
