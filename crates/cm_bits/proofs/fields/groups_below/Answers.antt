use Rattle.std.proofs.Common.{arith, refl, ◌≡◌, ◌+◌, ◌*◌}
use Rattle.std.proofs.lemmas.Bool.{false≢true}
use Rattle.cm_bits.proofs.FieldsLemmas.{field_room, group_more, pair_below}
use Rattle.cm_bits.proofs.fields.groups_below.Goals as goal

pub is_pair_below-requires-clause-room : goal.is_pair_below-requires-clause-room
is_pair_below-requires-clause-room c =
    omega (arith, field_room c.args.width c.args.n (8 * c.loop-g.g) c.args.held.now c.requires.held.whole (omega (arith, c.loop-g-test.true)))

pub is_pair_below-requires-in-loop-g-clause-room : goal.is_pair_below-requires-in-loop-g-clause-room
is_pair_below-requires-in-loop-g-clause-room c =
    omega (arith, field_room c.args.width c.args.n (8 * c.loop-g.g + 2) c.args.held.now c.requires.held.whole (omega (arith, c.loop-g-test.true)))

pub is_pair_below-requires-in-loop-g-2-clause-room : goal.is_pair_below-requires-in-loop-g-2-clause-room
is_pair_below-requires-in-loop-g-2-clause-room c =
    omega (arith, field_room c.args.width c.args.n (8 * c.loop-g.g + 4) c.args.held.now c.requires.held.whole (omega (arith, c.loop-g-test.true)))

pub is_pair_below-requires-in-loop-g-3-clause-room : goal.is_pair_below-requires-in-loop-g-3-clause-room
is_pair_below-requires-in-loop-g-3-clause-room c =
    omega (arith, field_room c.args.width c.args.n (8 * c.loop-g.g + 6) c.args.held.now c.requires.held.whole (omega (arith, c.loop-g-test.true)))

pub loop-g-preserved : goal.loop-g-preserved
loop-g-preserved c =
    group_more c.args.width c.loop-g.g (c.loop-g.g * c.args.width) c.args.bound c.args.held.now c.requires.held.width c.requires.held.fit refl
    (c.if-not-is_pair_below.ensures.0 refl) (c.if-not-is_pair_below-2.ensures.0 refl) (c.if-not-is_pair_below-3.ensures.0 refl) (c.if-not-is_pair_below-4.ensures.0 refl)
    c.loop-g.invariant

pub returns-then-not-is_pair_below-clause-next : goal.returns-then-not-is_pair_below-clause-next
returns-then-not-is_pair_below-clause-next c l all =
    let start : 2 * 0 * c.args.width ≡ 0 = omega arith in
    false≢true (c.if-not-is_pair_below.ensures.1 (rw start at (pair_below c.args.width c.loop-g.g 0 c.args.bound (c.loop-g.g + 1) c.args.held.now c.requires.held.width c.requires.held.fit (omega arith) (omega arith) all)))

pub returns-then-not-is_pair_below-2-clause-next : goal.returns-then-not-is_pair_below-2-clause-next
returns-then-not-is_pair_below-2-clause-next c l all =
    false≢true (c.if-not-is_pair_below-2.ensures.1 (pair_below c.args.width c.loop-g.g 1 c.args.bound (c.loop-g.g + 1) c.args.held.now c.requires.held.width c.requires.held.fit (omega arith) (omega arith) all))

pub returns-then-not-is_pair_below-3-clause-next : goal.returns-then-not-is_pair_below-3-clause-next
returns-then-not-is_pair_below-3-clause-next c l all =
    false≢true (c.if-not-is_pair_below-3.ensures.1 (pair_below c.args.width c.loop-g.g 2 c.args.bound (c.loop-g.g + 1) c.args.held.now c.requires.held.width c.requires.held.fit (omega arith) (omega arith) all))

pub returns-then-not-is_pair_below-4-clause-next : goal.returns-then-not-is_pair_below-4-clause-next
returns-then-not-is_pair_below-4-clause-next c l all =
    false≢true (c.if-not-is_pair_below-4.ensures.1 (pair_below c.args.width c.loop-g.g 3 c.args.bound (c.loop-g.g + 1) c.args.held.now c.requires.held.width c.requires.held.fit (omega arith) (omega arith) all))
