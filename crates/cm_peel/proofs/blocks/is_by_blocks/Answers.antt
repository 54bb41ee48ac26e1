use Rattle.std.proofs.Common.{◌∙◌, ◌/◌, ◌<◌, ◌≤◌, sym, arith}
use Rattle.std.proofs.Math.Nat.{le-div_iff_mul-le}
use Rattle.std.proofs.lemmas.Bool.{both_ways, le-leb, le-ltb, leb-true}
use Rattle.cm_peel.proofs.blocks.is_by_blocks.Goals.{then-blocks-gt0, else-blocks-gt0}
use Rattle.cm_peel.proofs.blocks.is_by_blocks.Goals as goal

pub returns-else-halves-blocks-ge-LEAST-clause-not_so : goal.returns-else-halves-blocks-ge-LEAST-clause-not_so
returns-else-halves-blocks-ge-LEAST-clause-not_so c = λ some many room space. elim c.if-blocks-gt0.branch [
  | then-blocks-gt0 w ↦ w.value-is ∙ le-leb 64 (c.args.halves / c.args.blocks) ((le-div_iff_mul-le some).1 (omega (arith, many)))
  | else-blocks-gt0 w ↦ absurd (omega (arith, some, w.if-blocks-gt0.false))
]

pub returns-then-halves-blocks-ge-LEAST-clause-so : goal.returns-then-halves-blocks-ge-LEAST-clause-so
returns-then-halves-blocks-ge-LEAST-clause-so c = λ enough. elim c.if-blocks-gt0.branch [
  | then-blocks-gt0 w ↦
      let some : 0 < c.args.blocks = w.if-blocks-gt0.true in
      let halves : 64 ≤ c.args.halves / c.args.blocks = leb-true 64 _ (sym w.value-is ∙ c.if-halves-blocks-ge-LEAST.true) in
      let room : 64 ≤ c.args.room / 2 / c.args.blocks = leb-true 64 _ enough in
      let many = (le-div_iff_mul-le {k = c.args.blocks} {x = 64} {y = c.args.halves} some).0 halves in
      let long = (le-div_iff_mul-le {k = c.args.blocks} {x = 64} {y = c.args.room / 2} some).0 room in
      (some, omega (arith, many), omega (arith, long))
  | else-blocks-gt0 w ↦ absurd (both_ways _ (le-ltb 0 c.args.blocks w.if-blocks-gt0.false) (sym w.value-is ∙ c.if-halves-blocks-ge-LEAST.true))
]
