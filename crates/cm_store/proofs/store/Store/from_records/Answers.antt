use Rattle.std.proofs.Common.{◌≡◌, ℕ, List, length, sym, subst}
use Rattle.cm_bits.specs.Bound.{AllBelow}
use Rattle.cm_store.proofs.FillLemmas.{is_store}
use Rattle.cm_store.proofs.store.Store.from_records.Goals as goal
use Rattle.cm_store.specs.Stores.{IsStore}

-- what was put together is a store
made : (c : goal.After-into_bytes) → IsStore (record { index = c.in-Ok.index; places = c.in_ok-places.places.items.items; bytes = c.args.records.bytes })
made c =
    let places = c.in_ok-places in
    let below = subst (λ (b : ℕ). AllBelow b places.places.items.items) places.ensures.bound places.places.in_bound in
    is_store c.in-Ok.index places.places.items.items c.args.records.lines c.args.records.bytes c.args.built.m c.in-Ok.ensures.keys c.requires.keys c.requires.count c.into_bytes.ensures.holds places.ensures.places below places.ensures.sound

pub invariant_of-result : goal.invariant_of-result
invariant_of-result c =
    let places = c.in_ok-places.places in
    subst (λ (b : List ℕ). IsStore (record { index = c.in-Ok.index; places = places.items.items; bytes = b }) × (places.bound ≡ length b)) (sym c.into_bytes.ensures.bytes) (made c, c.in_ok-places.ensures.bound)

pub returns-clause-valid : goal.returns-clause-valid
returns-clause-valid c = (invariant_of-result c).0
