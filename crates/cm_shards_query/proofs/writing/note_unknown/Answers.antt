use Rattle.std.proofs.Common.{rules, ◌≡◌}
use Rattle.std.specs.Prelude.{decimal}
use Rattle.cm_shards_words.specs.Program.{program}
use Rattle.cm_shards_query.proofs.writing.note_unknown.Goals as goal

pub returns-clause-noted : goal.returns-clause-noted
returns-clause-noted g c =
    let name : c.as_bytes.result.now ≡ program = search rules in
    let digits : c.as_bytes-digits.result.now ≡ decimal c.args.line = search rules in
    rw (name, digits) at c.note_pieces.ensures.noted
