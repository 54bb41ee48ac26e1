use Rattle.std.proofs.Common.{arith, ◌≡◌, ◌∙◌, ℕ, false, get_or, subst, sym, below_more}
use Rattle.cm_brz_split.specs.Split.{is_split}
use Rattle.cm_brz_split.specs.SizesLaws.{find_first, find_none, over_never_splits}
use Rattle.cm_brz_split.proofs.split.choose_split.Goals as goal

pub returns-in-None-clause-first : goal.returns-in-None-clause-first
returns-in-None-clause-first g c = λ told is.
    let splits = rw c.in-None.is at c.in_ok-over.ensures.splits in
    find_first (is_split told.keys c.args.buckets) c.args.seeds.now 0 c.requires.some (splits told is) (λ j low. absurd (omega (arith, low)))

pub loop-i-init : goal.loop-i-init
loop-i-init g c =
    let lowest = rw c.in-Some.is at c.in_ok-over.ensures.lowest in
    record {
      same = c.try_seed.ensures.told;
      quiet = c.in_ok-over.ensures.cause;
      long = omega (arith, c.try_seed.auto.sizes, c.requires.long);
      fails = λ told is j low.
          let first : 0 ≡ j = omega (arith, low) in
          subst (λ (i : ℕ). is_split told.keys c.args.buckets (get_or c.args.seeds.now i 0) ≡ false) first (over_never_splits told.keys c.args.buckets (get_or c.args.seeds.now 0 0) _ _ (lowest told is));
    }

pub try_seed-requires-in-loop-i-clause-counted : goal.try_seed-requires-in-loop-i-clause-counted
try_seed-requires-in-loop-i-clause-counted g c = λ told is. c.requires.counted told (sym c.loop-i.invariant.same ∙ is)

pub returns-in-None-2-clause-first : goal.returns-in-None-2-clause-first
returns-in-None-2-clause-first g c = λ told is.
    let splits = rw c.in-None-2.is at c.in_ok-try_seed.ensures.splits in
    find_first (is_split told.keys c.args.buckets) c.args.seeds.now c.loop-i.i c.loop-i-test.true (splits told (c.loop-i.invariant.same ∙ is)) (c.loop-i.invariant.fails told is)

pub loop-i-preserved : goal.loop-i-preserved
loop-i-preserved g c =
    let before = c.loop-i.invariant in
    let lowest = rw c.in-Some-2.is at c.in_ok-try_seed.ensures.lowest in
    record {
      same = c.try_seed-in-loop-i.ensures.told ∙ before.same;
      quiet = c.in_ok-try_seed.ensures.cause ∙ before.quiet;
      long = omega (arith, c.try_seed-in-loop-i.auto.sizes, before.long);
      fails = λ told is. below_more (λ (j : ℕ). is_split told.keys c.args.buckets (get_or c.args.seeds.now j 0) ≡ false) c.loop-i.i (before.fails told is) (over_never_splits told.keys c.args.buckets (get_or c.args.seeds.now c.loop-i.i 0) _ _ (lowest told (before.same ∙ is)));
    }

pub returns-clause-none : goal.returns-clause-none
returns-clause-none g c = λ told is.
    let lowest = rw c.in-Some.is at c.in_ok-over.ensures.lowest in
    (find_none (is_split told.keys c.args.buckets) c.args.seeds.now (λ j low. c.loop-i.invariant.fails told is j (omega (arith, low, c.loop-i-test.false, c.loop-i.auto.i-end))), lowest told is)

pub returns-clause-counted : goal.returns-clause-counted
returns-clause-counted g c = record {
  state = c.try_seed.new.keys;
  ended = c.in_ok-over.ensures.ended;
  over = rw c.in-Some.is at c.in_ok-over.ensures.gave_over;
}
