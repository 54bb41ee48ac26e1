use Rattle.std.proofs.Common.{set, ◌+◌, refl, length-append, ◌≡◌, ◌∙◌, ◌<◌, ℕ, List, [], ◌∷◌, ◌++◌, length, map, ap, arith, subst, sym}
use Rattle.std.proofs.lemmas.List.{length-map}
use Rattle.cm_witness_gather.specs.Candidates.{word_of}
use Rattle.cm_witness_gather.specs.Pairs.{first_line}
use Rattle.cm_witness_gather.specs.Tables.{IsTable, Tabled, number_of, spotted_in}
use Rattle.cm_witness_gather.specs.declared.table.Spot.{Spot}
use Rattle.cm_witness_gather.proofs.TableLemmas.{none_by_slot, spotted_more, stands_more, table_more}
use Rattle.cm_witness_gather.proofs.table.Table.add.Goals as goal

pub invariant_of-self-2 : goal.invariant_of-self-2
invariant_of-self-2 c =
    let self = c.self.inside in
    let key = c.args.key.now in
    let keys = map (spotted_in self.bytes.items) self.spots.items in
    let slot : c.args.slot ≡ word_of (length self.slots.items) key = c.requires.slot ∙ ap (λ (t : Tabled). word_of (length t.slots) key) (sym c.self.view_is) in
    let within : c.args.slot < length self.slots.items = subst (λ (t : Tabled). c.args.slot < length t.slots) (sym c.self.view_is) c.requires.within in
    let free : number_of self.slots.items key ≡ 0 = ap (λ (t : Tabled). number_of t.slots key) c.self.view_is ∙ c.requires.takes.free in
    let bytes = c.in_ok-extend_from_slice.ensures.items in
    let spot : Spot = record { from = c.len-from.result; len = length key; line = c.args.line } in
    let spots = c.push_reserved.ensures.items ∙ ap (λ (l : List Spot). l ++ spot ∷ []) c.reserve.ensures.items in
    let from : c.len-from.result ≡ length self.bytes.items = omega (arith, self.bytes.ok.0) in
    let many : c.len.result ≡ length keys + 1 = omega (arith, c.push_reserved.new.self.ok.0, ap length spots, length-append self.spots.items (spot ∷ []), length-map self.spots.items (spotted_in self.bytes.items)) in
    let keys_more = spotted_more self.bytes.items key _ self.spots.items _ spot c.self.invariant.0 bytes spots from refl in (
      stands_more self.bytes.items key _ self.spots.items _ spot c.self.invariant.0 bytes spots from refl,
      subst (λ (l : List (ℕ × List ℕ)). IsTable l (set self.slots.items c.args.slot c.len.result)) (sym keys_more) (table_more keys self.slots.items c.args.slot c.len.result c.args.line key c.self.invariant.1 within slot free many),
    )

pub returns-clause-added : goal.returns-clause-added
returns-clause-added c =
    let self = c.self.inside in
    let key = c.args.key.now in
    let spot : Spot = record { from = c.len-from.result; len = length key; line = c.args.line } in
    let spots = c.push_reserved.ensures.items ∙ ap (λ (l : List Spot). l ++ spot ∷ []) c.reserve.ensures.items in
    spotted_more self.bytes.items key _ self.spots.items _ spot c.self.invariant.0 c.in_ok-extend_from_slice.ensures.items spots (omega (arith, self.bytes.ok.0)) refl
    ∙ ap (λ (t : Tabled). t.keys ++ (c.args.line, key) ∷ []) c.self.view_is

pub returns-clause-none : goal.returns-clause-none
returns-clause-none c =
    let self = c.self.inside in
    let key = c.args.key.now in
    let free : number_of self.slots.items key ≡ 0 = ap (λ (t : Tabled). number_of t.slots key) c.self.view_is ∙ c.requires.takes.free in
    sym (ap (λ (t : Tabled). first_line t.keys key) c.self.view_is)
    ∙ none_by_slot (map (spotted_in self.bytes.items) self.spots.items) self.slots.items key c.self.invariant.1 (λ i at same. omega (arith, at, free))
