use Rattle.std.proofs.Common.{◌≡◌, ◌∙◌, ◌<◌, ◌+◌, ◌-◌, ℕ, List, length, map, take, drop, bytes_eq, Some, ap, arith, subst, sym}
use Rattle.std.proofs.lemmas.Bool.{false≢true}
use Rattle.std.proofs.lemmas.List.{length-map}
use Rattle.std.proofs.lemmas.Slice.Eq.{bytes_eq-Decides}
use Rattle.cm_witness_gather.specs.Candidates.{word_of}
use Rattle.cm_witness_gather.specs.Pairs.{first_line}
use Rattle.cm_witness_gather.specs.Tables.{Tabled, number_of, spotted_in}
use Rattle.cm_witness_gather.proofs.TableLemmas.{found_by_slot, key_in, none_by_slot, number_read, spot_at, spot_is}
use Rattle.cm_witness_gather.proofs.table.Table.line_of.Goals as goal

pub returns-then-number-eq0 : goal.returns-then-number-eq0
returns-then-number-eq0 c =
    let self = c.self.inside in
    let key = c.args.key.now in
    let slot : c.args.slot ≡ word_of (length self.slots.items) key = c.requires.slot ∙ ap (λ (t : Tabled). word_of (length t.slots) key) (sym c.self.view_is) in
    let within : c.args.slot < length self.slots.items = subst (λ (t : Tabled). c.args.slot < length t.slots) (sym c.self.view_is) c.requires.within in
    let number : number_of self.slots.items key ≡ c.index-number.result.now = number_read self.slots.items c.args.slot c.index-number.result.now key within slot c.index-number.ensures in
    sym (none_by_slot (map (spotted_in self.bytes.items) self.spots.items) self.slots.items key c.self.invariant.1 (λ i at same. omega (arith, at, number, c.if-number-eq0.true)))
    ∙ ap (λ (t : Tabled). first_line t.keys key) c.self.view_is

pub returns-then-eq : goal.returns-then-eq
returns-then-eq c =
    let self = c.self.inside in
    let key = c.args.key.now in
    let keys = map (spotted_in self.bytes.items) self.spots.items in
    let n : ℕ = c.index-number.result.now in
    let spot = c.index-spot.result.now in
    let slot : c.args.slot ≡ word_of (length self.slots.items) key = c.requires.slot ∙ ap (λ (t : Tabled). word_of (length t.slots) key) (sym c.self.view_is) in
    let within : c.args.slot < length self.slots.items = subst (λ (t : Tabled). c.args.slot < length t.slots) (sym c.self.view_is) c.requires.within in
    let number : number_of self.slots.items key ≡ n = number_read self.slots.items c.args.slot n key within slot c.index-number.ensures in
    let many : length keys ≡ length self.spots.items = length-map self.spots.items (spotted_in self.bytes.items) in
    let there : n - 1 < length self.spots.items = omega (arith, c.self.invariant.1.inside c.args.slot n within, c.index-number.ensures, c.if-number-eq0.false, many) in
    let compared = c.eq.ensures ∙ ap (λ (l : List ℕ). bytes_eq (take (spot.from + spot.len - spot.from) (drop spot.from l)) key) c.deref.ensures.value in
    let same : (key_in keys (n - 1)).1 ≡ key = (bytes_eq-Decides _ key).0 (sym (spot_is self.bytes.items self.spots.items (n - 1) spot key _ there c.index-spot.ensures compared) ∙ c.if-eq.true) in
    ap (λ (k : ℕ × List ℕ). Some k.0) (sym (spot_at self.bytes.items self.spots.items (n - 1) spot there c.index-spot.ensures))
    ∙ sym (found_by_slot keys self.slots.items key (n - 1) c.self.invariant.1 (omega (arith, there, many)) (omega (arith, number, c.if-number-eq0.false)) same)
    ∙ ap (λ (t : Tabled). first_line t.keys key) c.self.view_is

pub returns-else-eq : goal.returns-else-eq
returns-else-eq c =
    let self = c.self.inside in
    let key = c.args.key.now in
    let keys = map (spotted_in self.bytes.items) self.spots.items in
    let n : ℕ = c.index-number.result.now in
    let spot = c.index-spot.result.now in
    let slot : c.args.slot ≡ word_of (length self.slots.items) key = c.requires.slot ∙ ap (λ (t : Tabled). word_of (length t.slots) key) (sym c.self.view_is) in
    let within : c.args.slot < length self.slots.items = subst (λ (t : Tabled). c.args.slot < length t.slots) (sym c.self.view_is) c.requires.within in
    let number : number_of self.slots.items key ≡ n = number_read self.slots.items c.args.slot n key within slot c.index-number.ensures in
    let many : length keys ≡ length self.spots.items = length-map self.spots.items (spotted_in self.bytes.items) in
    let there : n - 1 < length self.spots.items = omega (arith, c.self.invariant.1.inside c.args.slot n within, c.index-number.ensures, c.if-number-eq0.false, many) in
    let compared = c.eq.ensures ∙ ap (λ (l : List ℕ). bytes_eq (take (spot.from + spot.len - spot.from) (drop spot.from l)) key) c.deref.ensures.value in
    let other = sym (spot_is self.bytes.items self.spots.items (n - 1) spot key _ there c.index-spot.ensures compared) ∙ c.if-eq.false in
    sym (none_by_slot keys self.slots.items key c.self.invariant.1 (λ i at same.
    let here : i ≡ n - 1 = omega (arith, at, number) in
    false≢true (sym other ∙ (bytes_eq-Decides _ key).1 (ap (λ (i : ℕ). (key_in keys i).1) (sym here) ∙ same))))
    ∙ ap (λ (t : Tabled). first_line t.keys key) c.self.view_is
