use Rattle.std.proofs.Common.{◌≡◌, ◌∙◌, ◌<◌, ◌+◌, ◌*◌, ◌/◌, ◌%◌, ℕ, suc, List, cond, eqb, leb, min, length, get_or, set, take, sym, ap, refl, subst, arith}
use Rattle.std.proofs.lemmas.Bool.{cond-true, cond-false, eq-eqb, ne_eqb}
use mir.Val.{bool_byte}
use Rattle.std.proofs.Math.ListN.{length-set}
use Rattle.std.proofs.lemmas.List.{take_more}
use Rattle.cm_peel.specs.AtRound.{AreTaken, tag_of}
use Rattle.cm_peel.proofs.Chunks.{byte_small, written_if}
use Rattle.cm_peel.proofs.Taking.{taken_more}
use Rattle.cm_peel.proofs.chunk.take_listed.Goals as goal
use Rattle.cm_peel.proofs.chunk.take_listed.Goals.{then-marks-i, else-marks-i}

pub loop-i-preserved : goal.loop-i-preserved
loop-i-preserved c =
    let inv = c.loop-i.invariant in
    let t : ℕ = c.args.rounds in
    let places : List ℕ = c.args.places.now in
    let i : ℕ = c.loop-i.i in
    let q : ℕ = get_or places i 0 in
    let e : ℕ = q / 4 in
    let within : i < length places = c.loop-i-test.true in
    let inside : e < length c.args.bytes.now = c.requires.places i 0 within in
    let mark : get_or c.args.marks.now i 0 ≡ get_or c.args.bytes.now e 0 = c.requires.known i within in
    let now : ℕ = get_or c.loop-i.bytes e 0 in
    let next : t + 1 ≡ suc t = omega arith in
    let byte : c.if-marks-i.bytes ≡ cond (eqb (get_or c.args.bytes.now e 0 / 4) (t % 2)) now (min now (tag_of (suc t) + q % 4)) = elim c.if-marks-i.branch [
      | then-marks-i w ↦ w.bytes-is ∙ sym (cond-true _ now (min now (tag_of (suc t) + q % 4)) (eq-eqb _ _ (ap (λ n. n / 4) (sym mark) ∙ w.if-marks-i.true)))
      | else-marks-i w ↦ w.bytes-is ∙ (c.min-least.ensures ∙ (ap (λ n. min now (4 * (n % 2) + q % 4)) next ∙ sym (cond-false _ now (min now (tag_of (suc t) + q % 4)) (ne_eqb _ _ (λ s. w.if-marks-i.false (ap (λ n. n / 4) mark ∙ s))))))
    ] in
    let at : ℕ = c.loop-i.end in
    let list : List ℕ = c.loop-i.list in
    let below : at < length list = omega (arith, inv.few, inv.room, c.requires.room, within) in
    let done = taken_more t (take i places) q e c.if-marks-i.bytes c.args.bytes.now c.loop-i.bytes (set c.loop-i.bytes e c.if-marks-i.bytes) (take c.args.count c.args.list.now) (take at list) _ inv.taken refl inside byte refl (written_if (leb 8 now) list at e below) in
    record {
      long = done.bytes_long;
      room = length-set _ _ _ ∙ inv.room;
      few = omega (arith, inv.few, byte_small (leb 8 now));
      taken = subst (λ (xs : List ℕ). AreTaken t xs c.args.bytes.now (set c.loop-i.bytes e c.if-marks-i.bytes) (take c.args.count c.args.list.now) (take (at + bool_byte (leb 8 now)) (set list at e))) (sym (take_more places i 0 within)) done;
    }
