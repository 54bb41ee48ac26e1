use Rattle.std.proofs.Common.{◌≡◌, ◌∙◌, ◌+◌, ◌-◌, ◌++◌, length, drop, take, sym, arith, refl, length-take, length-drop, rules}
use Rattle.cm_dump_items.proofs.ItemLemmas.{item_room, fill_ends, item_more}
use Rattle.cm_dump_items.proofs.items.fill.Goals as goal

pub loop-got-init : goal.loop-got-init
loop-got-init g c = record {
  same = refl;
  quiet = refl;
  size = refl;
  inside = omega arith;
  at = λ x is. (omega (arith, (c.requires.at x is).0), omega (arith, (c.requires.at x is).1));
  bytes = λ x is. refl;
}

pub returns-in-Ok-eq0-clause-at : goal.returns-in-Ok-eq0-clause-at
returns-in-Ok-eq0-clause-at g c = λ x is.
    let inv = c.loop-got.invariant in
    let before = sym c.in-Ok-eq0.ensures.told ∙ is in
    let gives = c.in-Ok-eq0.ensures.gives x before in
    (omega (arith, gives.moved, (inv.at x before).0, c.in-Ok-eq0.field-0-is), omega (arith, (inv.at x before).1))

pub returns-in-Ok-eq0-clause-fills : goal.returns-in-Ok-eq0-clause-fills
returns-in-Ok-eq0-clause-fills g c = λ x is.
    let inv = c.loop-got.invariant in
    let is_now = inv.same ∙ is in
    let got = c.loop-got.got in
    let gives = c.in-Ok-eq0.ensures.gives x is_now in
    let none : got + 0 ≡ got = omega arith in
    let buf = c.loop-got.buf in
    let rest = drop (length buf - got) (drop got buf) in
    let zero : c.in-Ok-eq0.field-0 ≡ 0 = omega (arith, c.in-Ok-eq0.field-0-is) in
    let more : take (got + c.in-Ok-eq0.field-0) (take got buf ++ (c.read.new.buf ++ rest)) ≡ take (got + c.in-Ok-eq0.field-0) (drop c.args.at x) =
    item_more x buf c.read.new.buf rest c.args.at got c.in-Ok-eq0.field-0 _ _ _ (inv.bytes x is_now) inv.inside (inv.at x is_now).0 gives (omega (arith, zero)) in
    record {
      given = rw (zero, none) at more;
      end = λ l. fill_ends x c.loop-got.buf _ c.args.at got _ _ _ gives zero (inv.at x is_now).0 c.loop-got-test.true;
    }

pub returns-in-Err-clause-at : goal.returns-in-Err-clause-at
returns-in-Err-clause-at g c = tt

pub returns-in-Err-clause-fills : goal.returns-in-Err-clause-fills
returns-in-Err-clause-fills g c = tt

pub returns-in-Err-clause-cause : goal.returns-in-Err-clause-cause
returns-in-Err-clause-cause g c = search rules

pub loop-got-preserved : goal.loop-got-preserved
loop-got-preserved g c =
    let inv = c.loop-got.invariant in
    let buf = c.loop-got.buf in
    let got = c.loop-got.got in
    let room = item_room buf c.read.new.buf got inv.inside c.read.auto.buf in
    record {
      same = c.in-Ok.ensures.told ∙ inv.same;
      quiet = c.in-Ok.ensures.cause.fine ∙ inv.quiet;
      size = room ∙ inv.size;
      inside = omega (arith, room, c.in-Ok.ensures.bound, length-take (length buf - got) (drop got buf), length-drop got buf, inv.inside);
      at = λ x is. let is_now = sym c.in-Ok.ensures.told ∙ is in let gives = c.in-Ok.ensures.gives x is_now in let at = inv.at x is_now in
          (omega (arith, gives.moved, at.0), omega (arith, gives.moved, at.0, gives.inside));
      bytes = λ x is. let is_now = sym c.in-Ok.ensures.told ∙ is in
          item_more x buf c.read.new.buf _ c.args.at got c.in-Ok.n _ _ _ (inv.bytes x is_now) inv.inside (inv.at x is_now).0 (c.in-Ok.ensures.gives x is_now) (omega (arith, c.read.auto.buf, c.in-Ok.ensures.bound));
    }
