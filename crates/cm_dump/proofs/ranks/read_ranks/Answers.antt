use Rattle.std.proofs.Common.{◌≡◌, ◌∙◌, ◌≤◌, length, arith, refl, sym}
use Rattle.cm_dump.specs.Spelling.{ranks_at}
use Rattle.cm_dump.proofs.RankLemmas.{ranks_fault, ranks_more}
use Rattle.cm_dump.proofs.ranks.read_ranks.Goals as goal

pub loop-done-init : goal.loop-done-init
unfolding ranks_at
loop-done-init g c = record {
  same = refl;
  quiet = refl;
  within = omega arith;
  at = λ x is. let at = c.requires.at x is in (omega (arith, at.0), omega (arith, at.1));
  right = λ x is. refl;
}

pub returns-in-Err-clause-exact : goal.returns-in-Err-clause-exact
returns-in-Err-clause-exact g c = λ x is.
    let inv = c.loop-done.invariant in
    let before = inv.same ∙ is in
    let few : c.loop-done.done ≤ length c.args.ranks.now.ranks = omega (arith, inv.within, c.entries-entries.ensures.entries) in
    ranks_fault x c.args.at c.args.ranks.now.ranks c.loop-done.done c.min-count.result c.in-Err.fault few (inv.right x before) (c.in-Err.ensures.exact x before)

pub loop-done-preserved : goal.loop-done-preserved
loop-done-preserved g c =
    let inv = c.loop-done.invariant in
    let few : c.loop-done.done ≤ length c.args.ranks.now.ranks = omega (arith, inv.within, c.entries-entries.ensures.entries) in
    record {
      same = c.in-Ok.ensures.told ∙ inv.same;
      quiet = c.in-Ok.ensures.cause ∙ inv.quiet;
      within = omega (arith, inv.within, c.loop-done-test.true, c.min-count.ensures);
      at = λ x is. let at = c.in-Ok.ensures.at x is in (omega (arith, at.0), omega (arith, at.1));
      right = λ x is. let before = sym c.in-Ok.ensures.told ∙ is in
          ranks_more x c.args.at c.args.ranks.now.ranks c.loop-done.done c.min-count.result few (inv.right x before) (c.in-Ok.ensures.exact x before);
    }

pub returns-clause-at : goal.returns-clause-at
returns-clause-at g c = λ x is.
    let inv = c.loop-done.invariant in
    let at = inv.at x is in
    let all : c.loop-done.done ≡ length c.args.ranks.now.ranks = omega (arith, inv.within, c.loop-done-test.false, c.entries-entries.ensures.entries) in
    (omega (arith, at.0, all), omega (arith, at.1, all))
