use Rattle.std.proofs.Common.{rules, arith, ◌≡◌, ◌∙◌, ◌-◌, ◌+◌, ◌<◌, ℕ, List, [], ◌∷◌, ◌++◌, length, map, ap, sym}
use Rattle.std.specs.List.{range_with_len}
use Rattle.std.proofs.lemmas.List.FromFn.{map-range_with_len_more}
use Rattle.cm_dump_images.proofs.Pieces.{piece_len}
use Rattle.cm_dump_images.proofs.image.gather.Goals as goal

pub push-requires : goal.push-requires
push-requires g c =
    let few : length c.loop-i.piece.items ≡ c.loop-i.i - c.args.from = piece_len _ _ _ _ c.loop-i.invariant in
    let room : length c.loop-i.piece.items < 4096 = omega (arith, few, c.requires.room, c.loop-i-test.true, c.loop-i.auto.i) in
    (search rules, room)

pub loop-i-preserved : goal.loop-i-preserved
loop-i-preserved g c =
    let f = g.C.Cells.image_byte (g.C.Cells.bound_of c.args.table.now) (g.C.Cells.cells c.args.table.now) in
    let at : c.args.from + (c.loop-i.i - c.args.from) ≡ c.loop-i.i = omega (arith, c.loop-i.auto.i) in
    let next : c.loop-i.i - c.args.from + 1 ≡ c.loop-i.i + 1 - c.args.from = omega (arith, c.loop-i.auto.i) in
    c.push.ensures.items ∙ ap (λ (xs : List ℕ). xs ++ c.byte.result ∷ []) c.loop-i.invariant ∙ ap (λ (b : ℕ). map f (range_with_len c.args.from (c.loop-i.i - c.args.from)) ++ b ∷ []) c.byte.ensures
    ∙ sym (map-range_with_len_more f c.args.from (c.loop-i.i - c.args.from) c.loop-i.i at) ∙ ap (λ (n : ℕ). map f (range_with_len c.args.from n)) next
