use Rattle.std.proofs.Common.{◌≡◌, [], ◌∷◌, take}
use Rattle.std.specs.Prelude.{fold, slice_index}
use Rattle.cm_spec.specs.Lookup2.{absorb, start}
use Rattle.cm_lookup2.proofs.four.words_of_four.Given as goal

abbrev pub invariant-loop-i : goal.invariant-loop-i
invariant-loop-i l = l.s ≡
    fold absorb (start (slice_index l.fn.seeds 0)) (take l.i l.p_blocks)
    ∷ fold absorb (start (slice_index l.fn.seeds 1)) (take l.i l.q_blocks)
    ∷ fold absorb (start (slice_index l.fn.seeds 2)) (take l.i l.r_blocks)
    ∷ fold absorb (start (slice_index l.fn.seeds 3)) (take l.i l.t_blocks)
    ∷ []
