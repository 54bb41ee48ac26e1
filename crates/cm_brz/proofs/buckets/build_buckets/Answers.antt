use Rattle.std.proofs.Common.{arith, ◌∙◌, ℕ, ap, subst, sum, take}
use Rattle.std.proofs.lemmas.List.Sums.{sum_by_more, sum_by_more_le}
use Rattle.cm_brz_split.specs.Puts.{keys_in_bucket}
use Rattle.cm_brz.specs.BrzOf.{PushesBucket}
use Rattle.cm_brz_func.specs.Functions.{Brz}
use Rattle.cm_brz.proofs.Pushes.{built_more, more_keys_in, one_bucket_more, same_but_buckets, steps_more}
use Rattle.cm_brz.proofs.buckets.build_buckets.Goals as goal

pub returns-in_err-add_bucket-clause-steps : goal.returns-in_err-add_bucket-clause-steps
returns-in_err-add_bucket-clause-steps g c =
    steps_more _ c.loop-j.steps _ _ (sum (take c.loop-j.j c.args.sizes.now)) _ _ c.loop-j.invariant.steps c.add_bucket.ensures.steps
    (omega (arith, c.in_ok-read_bucket.ensures.size, sum_by_more_le (λ (x : ℕ). x) c.args.sizes.now c.loop-j.j 0 c.loop-j-test.true, c.requires.all))

pub loop-j-preserved : goal.loop-j-preserved
loop-j-preserved g c =
    let before = c.loop-j.invariant in
    let pushed : PushesBucket c.loop-j.parts c.add_bucket.new.parts c.read_bucket.new.held.keys c.args.parts.now.ratio c.args.seeds.now = subst (λ (r : ℕ). PushesBucket c.loop-j.parts c.add_bucket.new.parts c.read_bucket.new.held.keys r c.args.seeds.now) (ap (λ (f : Brz). f.ratio) before.same) c.in_ok-add_bucket.ensures.pushed in
    let more = sum_by_more (λ (x : ℕ). x) c.args.sizes.now c.loop-j.j 0 c.loop-j-test.true in
    record {
      usable = c.in_ok-read_bucket.ensures.store;
      sealed_still = c.in_ok-read_bucket.ensures.sealed;
      asks = c.in_ok-read_bucket.ensures.asks;
      none = λ i later. c.in_ok-read_bucket.ensures.later i (omega (arith, later));
      known_still = c.read_bucket.ensures.known ∙ before.known_still;
      still = c.in_ok-read_bucket.ensures.cause ∙ before.still;
      same = same_but_buckets c.args.parts.now c.loop-j.parts c.add_bucket.new.parts c.read_bucket.new.held.keys c.args.parts.now.ratio c.args.seeds.now before.same pushed;
      count = omega (arith, one_bucket_more c.loop-j.parts c.add_bucket.new.parts c.read_bucket.new.held.keys c.args.parts.now.ratio c.args.seeds.now pushed, before.count);
      held = omega (arith, more_keys_in c.loop-j.parts c.add_bucket.new.parts c.read_bucket.new.held.keys c.args.parts.now.ratio c.args.seeds.now pushed, before.held, c.in_ok-read_bucket.ensures.size, more);
      steps = steps_more _ c.loop-j.steps _ _ (sum (take c.loop-j.j c.args.sizes.now)) _ _ before.steps c.add_bucket.ensures.steps (omega (arith, c.in_ok-read_bucket.ensures.size, more));
      holds = λ records held. c.in_ok-read_bucket.ensures.holds records (before.holds records held);
      built = λ records held. built_more (keys_in_bucket records) c.args.parts.now.ratio c.args.seeds.now c.loop-j.parts c.add_bucket.new.parts c.read_bucket.new.held.keys c.loop-j.j (before.built records held) before.count pushed (c.in_ok-read_bucket.ensures.keys records (before.holds records held));
    }
