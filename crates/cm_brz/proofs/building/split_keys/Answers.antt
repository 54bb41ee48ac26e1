use Rattle.std.proofs.Common.{arith, ◌≡◌, ◌∙◌, ℕ, get_or, length, ap, sym, subst, refl, Some, length-append, length-drop}
use Rattle.std.proofs.lemmas.List.{length-take}
use Rattle.cm_brz_split.specs.Split.{split_of}
use Rattle.cm_brz_func.specs.Functions.{bucket_count}
use Rattle.cm_brz.proofs.Whole.{refuses_at}
use Rattle.cm_brz.proofs.building.split_keys.Goals as goal

pub refuse_overfull-requires-clause-counted : goal.refuse_overfull-requires-clause-counted
refuse_overfull-requires-clause-counted g c = λ told is. c.requires.counted told (sym c.choose_split.ensures.told ∙ is)

pub returns-in-Ok-clause-buckets : goal.returns-in-Ok-clause-buckets
returns-in-Ok-clause-buckets g c =
    let split = rw c.in-Ok.is at c.in_ok-split.ensures.split in (
      split.0 ∙ (c.new-buckets.ensures.value ∙ c.bucket_total-total.ensures.count),
      omega (arith, ap length c.in_ok-narrowed-in-Ok.ensures.same, ap length c.deref.ensures.value, length-take {A = ℕ}, length-append {A = ℕ}, length-drop {A = ℕ}, c.deref_mut.ensures.len, c.choose_split.auto.sizes, c.in_ok-sizes.ensures.len, c.bucket_total-total.ensures.count),
    )

pub returns-in-Ok-clause-first : goal.returns-in-Ok-clause-first
returns-in-Ok-clause-first g c = λ told is.
    let first = rw c.in-Ok.is at c.in_ok-split.ensures.first in
    let counted = c.requires.counted told is in
    let count : c.new-buckets.result ≡ bucket_count (length told.keys) c.args.b = c.new-buckets.ensures.value ∙ (c.bucket_total-total.ensures.count ∙ ap (λ (n : ℕ). bucket_count n c.args.b) (sym counted.many)) in
    subst (λ (k : ℕ). split_of told.keys k c.args.seeds.now ≡ Some c.in-Ok.split.seed) count (first told is)

pub returns-clause-fault : goal.returns-clause-fault
returns-clause-fault g c = λ told is ratio.
    let none = rw c.in-Err.is at c.in_ok-split.ensures.none in
    let counted = c.requires.counted told is in
    let count : c.new-buckets.result ≡ bucket_count (length told.keys) c.args.b = c.new-buckets.ensures.value ∙ (c.bucket_total-total.ensures.count ∙ ap (λ (n : ℕ). bucket_count n c.args.b) (sym counted.many)) in
    refuses_at told ratio c.args.b c.new-buckets.result (get_or c.args.seeds.now 0 0) c.in-Err.over.bucket c.in-Err.over.count c.args.seeds.now c.refuse_overfull.result count counted.whole refl (none told is).0 (none told is).1 (c.refuse_overfull.ensures.shows told (c.choose_split.ensures.told ∙ is))
