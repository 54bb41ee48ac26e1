use Rattle.std.proofs.Common.{rules, arith, ◌≡◌, ◌∙◌, ℕ, ◌+◌, ◌%◌, ◌^◌, ◌<◌, List, [], ◌∷◌, ◌++◌, length, ap, sym}
use Rattle.std.proofs.lemmas.List.FromFn.{length-map-range_with_len, map-range_with_len_more}
use Rattle.cm_words_values.specs.declared.limits.TheConstants.{MAX_SEEDS}
use Rattle.cm_tool_cells.proofs.tries.seeds.Goals as goal

pub push-requires : goal.push-requires
push-requires c =
    let many : length c.loop-i.seeds.items ≡ c.loop-i.i = ap length c.loop-i.invariant ∙ length-map-range_with_len _ 0 c.loop-i.i in
    let room : length c.loop-i.seeds.items < MAX_SEEDS = omega (arith, many, c.loop-i-test.true, c.requires) in
    (search rules, room)

pub loop-i-preserved : goal.loop-i-preserved
loop-i-preserved c =
    let f : ℕ → ℕ = λ i. (c.args.first + i) % 2 ^ 32 in
    let next : c.push.new.self.items ≡ c.loop-i.seeds.items ++ f c.loop-i.i ∷ [] = search rules in
    next ∙ ap (λ (xs : List ℕ). xs ++ f c.loop-i.i ∷ []) c.loop-i.invariant ∙ sym (map-range_with_len_more f 0 c.loop-i.i c.loop-i.i (omega arith))
