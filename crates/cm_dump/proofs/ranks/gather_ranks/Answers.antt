use Rattle.std.proofs.Common.{◌≡◌, ◌∙◌, ℕ, List, ◌+◌, ◌-◌, ◌*◌, ◌<◌, ◌++◌, w32, length, take, drop, ap, sym, arith, length-take, length-drop}
use Rattle.std.specs.Int.{to_le_bytes}
use Rattle.std.specs.Prelude.{slice_index, IsOk, OnOk, Result, Ok, Err}
use Rattle.std.proofs.lemmas.Bool.{false≢true}
use Rattle.std.proofs.lemmas.List.{get_or-drop}
use Rattle.cm_dump.specs.Dumps.{ranks_image}
use Rattle.cm_dump.proofs.RankLemmas.{image_next, length-ranks_image}
use Rattle.cm_dump.proofs.ranks.gather_ranks.Goals as goal

pub loop-i-init : goal.loop-i-init
unfolding ranks_image
loop-i-init c = let z : c.args.from - c.args.from ≡ 0 = omega arith in rw z c.clear.ensures

pub loop-i-preserved : goal.loop-i-preserved
loop-i-preserved c =
    let xs : List ℕ = drop c.args.from c.args.ranks.now.ranks in
    let k : ℕ = c.loop-i.i - c.args.from in
    let inside : k < length xs = omega (arith, length-drop c.args.from c.args.ranks.now.ranks, c.requires.inside, c.loop-i-test.true, c.loop-i.auto.i) in
    let rank : c.entry.result ≡ slice_index xs k = c.entry.ensures.entry ∙ ap (λ (n : ℕ). slice_index c.args.ranks.now.ranks n) (let at : c.loop-i.i ≡ c.args.from + k = omega (arith, c.loop-i.auto.i) in at) ∙ sym (get_or-drop c.args.from c.args.ranks.now.ranks k 0) in
    let more : k + 1 ≡ c.loop-i.i + 1 - c.args.from = omega (arith, c.loop-i.auto.i) in
    let few : length c.loop-i.piece.items ≡ 4 * k = ap length c.loop-i.invariant ∙ length-ranks_image (take k xs) ∙ omega (arith, length-take k xs, inside) in
    let ok : IsOk c.try_extend_from_slice.result = c.try_extend_from_slice.ensures.variant.1 (omega (arith, few, inside, c.requires.room, c.requires.inside, c.loop-i-test.true, c.loop-i.auto.i, ap length c.to_le_bytes.ensures)) in
    rw (← more)
    (on_ok _ ok c.try_extend_from_slice.ensures.ok
    ∙ ap (λ (l : List ℕ). l ++ c.to_le_bytes.result) c.loop-i.invariant
    ∙ ap (λ (l : List ℕ). ranks_image (take k xs) ++ l) (c.to_le_bytes.ensures ∙ ap (to_le_bytes w32) rank)
    ∙ image_next xs k inside) where
      on_ok : {A E : Type 0} {P : Type 0} (r : Result A E) → IsOk r → OnOk r P → P
      on_ok (Ok x) is holds = holds
      on_ok (Err e) is holds = absurd (false≢true is)
