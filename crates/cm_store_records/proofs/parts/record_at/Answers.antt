use Rattle.std.proofs.Common.{arith}
use Rattle.cm_store_records.proofs.PartLemmas.{record_cut, record_none, record_there}
use Rattle.cm_store_records.proofs.parts.record_at.Goals as goal

pub returns-then-bytes-at-lt-HEAD_LEN-clause-none : goal.returns-then-bytes-at-lt-HEAD_LEN-clause-none
returns-then-bytes-at-lt-HEAD_LEN-clause-none c = record_none c.args.bytes.now c.args.at c.requires.inside c.if-bytes-at-lt-HEAD_LEN.true

pub returns-then-bytes-until-clause-none : goal.returns-then-bytes-until-clause-none
returns-then-bytes-until-clause-none c =
    let head = c.if-bytes-at-lt-HEAD_LEN.false in
    record_cut c.args.bytes.now c.args.at c.number_at.result c.number_at-2.result (omega (arith, c.requires.inside, head)) c.if-bytes-until.true c.number_at.ensures.number c.number_at-2.ensures.number

pub returns-clause-some : goal.returns-clause-some
returns-clause-some c = record_there c.args.bytes.now c.args.at c.number_at.result c.number_at-2.result c.if-bytes-until.false c.number_at.ensures.number c.number_at-2.ensures.number
