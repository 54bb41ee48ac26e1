use Rattle.std.proofs.Common.{◌<◌, ◌+◌, ◌-◌, ◌≤◌, length, map, subst, ap, arith}
use Rattle.std.proofs.lemmas.List.{length-map}
use Rattle.cm_brz_split.proofs.PassLemmas.{rise_far, taken_rest}
use Rattle.cm_brz_split.specs.BucketPass.{BucketPass, keyed_in, line_before}
use Rattle.cm_brz_split.proofs.bucket_keys.BucketKeysKeyPass.skip.Goals as goal

pub returns-clause-rises : goal.returns-clause-rises
returns-clause-rises c =
    let self = c.self.inside in
    let keys = map (keyed_in self.bytes.items) self.spots.items in
    let n = c.len.result - self.given in
    λ some.
    let inside : self.given + n ≤ length keys = omega (arith, some, c.len.ensures.value, length-map self.spots.items (keyed_in self.bytes.items)) in
    subst (λ (b : BucketPass). line_before b.keys b.given < line_before keys (self.given + n)) c.self.view_is (rise_far keys self.given n c.self.invariant.0.rise some inside)

pub returns-clause-gave : goal.returns-clause-gave
returns-clause-gave c = λ given is.
    let self = c.self.inside in
    let all = map (keyed_in self.bytes.items) self.spots.items in
    taken_rest all c.args.self.now.keys given self.given c.args.self.now.given c.len.result (ap (λ (b : BucketPass). b.keys) c.self.view_is) (ap (λ (b : BucketPass). b.given) c.self.view_is)
    (omega (arith, c.len.ensures.value, length-map self.spots.items (keyed_in self.bytes.items))) (omega (arith, c.len.ensures.value, c.self.invariant.0.within)) is
