use Rattle.std.proofs.Common.{◌≡◌, ◌∙◌, ◌*◌, ◌/◌, ap, arith, sym}
use Rattle.cm_brz_func.specs.Functions.{Bucket}
use Rattle.cm_bdz.specs.Places.{bdz_place}
use Rattle.cm_spec.specs.Lookup2.{words}
use Rattle.cm_dump_brz.proofs.BucketLemmas.{ends_are}
use Rattle.cm_dump_brz.proofs.bucket.LentBucket.ends.Goals as goal

pub returns : goal.returns
returns c =
    let i = c.self.inside in
    let thirds = c.self.invariant.thirds c.if-self-eq0.false in
    let n : i.n ≡ 3 * (i.n / 3) = omega (arith, thirds.is) in
    let place = c.place_in-place.ensures.place ∙ ap (λ t. bdz_place c.args.hashed (3 * t)) c.new.ensures.value in
    record {
      ends = λ key are.
          let under = are ∙ ap (λ (b : Bucket). words key b.seed) (sym c.self.view_is) in
          rw (← c.self.view_is) (ends_are i.size i.seed i.n (i.n / 3) i.image.now c.place_in-place.result c.args.hashed key c.if-self-eq0.false n place under);
    }
