use Rattle.std.proofs.Common.{◌≡◌, ◌<◌, ap, refl, length, arith, None}
use Rattle.cm_brz_split.proofs.PassLemmas.{peeked}
use Rattle.cm_brz_split.specs.BucketPass.{BucketPass}
use Rattle.cm_brz_split.specs.declared.bucket_keys.Spot.{Spot}
use Rattle.cm_io.specs.Passes.{Told}
use Rattle.cm_brz_split.proofs.bucket_keys.BucketKeysKeyPass.peek.Goals as goal

pub returns-clause-gives : goal.returns-clause-gives
returns-clause-gives c = λ x is.
    let self = c.self.inside in
    let none : Spot = record { line = 0; from = 0; until = 0 } in
    let told : Told = record { keys = c.args.self.now.keys; fault = None } in
    let same : told ≡ x = cc in
    let inside : self.given < length self.spots.items = omega (arith, c.if-self-len.false, c.len.ensures.value, c.self.invariant.0.within) in
    peeked self.bytes.items _ self.spots.items _ self.given none c.args.self.now x _ _ (ap (λ (p : BucketPass). p.keys) c.self.view_is) (ap (λ (p : BucketPass). p.given) c.self.view_is) same inside c.deref.ensures.0 c.deref-2.ensures.value refl refl
