use Rattle.std.proofs.Common.{◌∙◌, ap, arith, length}
use Rattle.std.proofs.lemmas.List.FromFn.{length-map-range_with_len}
use Rattle.cm_lib_lent.specs.Rooms.{dump_len_by}
use Rattle.cm_lib_lent.proofs.RoomLemmas.{dump_fits}
use Rattle.cm_lib_lent.proofs.room.dumps_fit.Goals as goal

pub returns-clause-dump : goal.returns-clause-dump
returns-clause-dump c = λ plan seeds keys f other of.
    dump_fits plan.algorithm plan.b _ plan.c seeds f (record { by_chm = c.dump_lens.ensures.chm; by_bdz = c.dump_lens.ensures.bdz; by_bdz_ph = c.dump_lens.ensures.bdz_ph }) other of.made
    ∙ ap (dump_len_by plan) (length-map-range_with_len _ 0 (length keys.ends))

pub returns-clause-enough : goal.returns-clause-enough
returns-clause-enough c = λ plan seeds keys room needed other enough fails.
    let len = returns-clause-dump c plan seeds keys fails.0 other fails.1 in
    absurd (omega (arith, enough, len, fails.2, fails.3))
