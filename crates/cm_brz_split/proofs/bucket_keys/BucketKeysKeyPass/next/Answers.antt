use Rattle.std.proofs.Common.{rules, ◌≡◌, ◌∙◌, ℕ, ◌+◌, ◌<◌, ◌-◌, ◌∷◌, List, length, map, take, drop, get_or, ap, refl, sym, subst, arith, None}
use Rattle.cm_brz_split.proofs.PassLemmas.{line_there, peeked, taken_one}
use Rattle.cm_brz_split.specs.BucketPass.{BucketPass, keyed_in, line_before}
use Rattle.cm_brz_split.specs.declared.bucket_keys.Spot.{Spot}
use Rattle.cm_io.specs.Passes.{Told}
use Rattle.cm_brz_split.proofs.bucket_keys.BucketKeysKeyPass.next.Goals as goal

pub returns-clause-gives : goal.returns-clause-gives
returns-clause-gives c = λ x is.
    let self = c.self.inside in
    let none : Spot = record { line = 0; from = 0; until = 0 } in
    let told : Told = record { keys = c.args.self.now.keys; fault = None } in
    let same : told ≡ x = cc in
    let inside : self.given < length self.spots.items = omega (arith, c.if-self-len.false, c.len.ensures.value, c.self.invariant.0.within) in
    let s = get_or c.deref.result.now self.given none in
    let line = line_there self.bytes.items self.spots.items self.given none inside ∙ ap (λ (l : List Spot). (get_or l self.given none).line) (sym c.deref.ensures.0) in
    let key : c.try_extend_from_slice.new.self.items ≡ take (s.until - s.from) (drop s.from c.deref-2.result.now) = search rules in
    let k : ℕ × List ℕ = (line_before (map (keyed_in self.bytes.items) self.spots.items) (self.given + 1), c.try_extend_from_slice.new.self.items) in
    subst (λ (n : ℕ). drop c.args.self.now.given x.keys ≡ k ∷ drop n x.keys) (ap (λ (p : BucketPass). p.given + 1) (sym c.self.view_is))
    (peeked self.bytes.items _ self.spots.items _ self.given none c.args.self.now x _ _ (ap (λ (p : BucketPass). p.keys) c.self.view_is) (ap (λ (p : BucketPass). p.given) c.self.view_is) same inside c.deref.ensures.0 c.deref-2.ensures.value line key)

pub returns-clause-gave : goal.returns-clause-gave
returns-clause-gave c = λ given is.
    let self = c.self.inside in
    let keys = c.args.self.now.keys in
    let all = map (keyed_in self.bytes.items) self.spots.items in
    let k : ℕ × List ℕ = (line_before all (self.given + 1), c.try_extend_from_slice.new.self.items) in
    let told : Told = record { keys = keys; fault = None } in
    taken_one all keys given self.given c.args.self.now.given k (ap (λ (b : BucketPass). b.keys) c.self.view_is) (ap (λ (b : BucketPass). b.given) c.self.view_is) (returns-clause-gives c told refl) is
