use Rattle.std.proofs.Common.{arith, ◌∙◌, ◌<◌, ℕ, List, ap, get_or, length, sym}
use Rattle.cm_brz_split.proofs.putting.put_all.Goals as goal

pub returns-in-Some-clause-fault : goal.returns-in-Some-clause-fault
returns-in-Some-clause-fault g c = λ told is.
    let j = c.in-Some.j in
    let same = c.deref-sizes.ensures.value in
    let low : j < c.args.splitting.now.split.buckets = omega (arith, c.in-Some.ensures.some.0, ap length same, c.requires.long) in
    c.in-Some.ensures.some.1 (ap (λ (xs : List ℕ). get_or xs j 0) same ∙ c.requires.sizes told is j low ∙ sym (c.in_ok-put_each.ensures.sizes told is j low))
