use Rattle.std.proofs.Common.{◌≡◌, ◌∙◌, ◌<◌, ◌+◌, ◌*◌, ◌/◌, ◌%◌, ◌^◌, ◌++◌, ℕ, suc, Bool, List, [], ◌∷◌, cond, eqb, leb, min, length, get_or, set, take, sym, ap, refl, subst, arith}
use Rattle.std.proofs.lemmas.Bool.{cond-true, cond-false, eq-eqb, ne_eqb, le-leb, lt-leb}
use Rattle.std.specs.Prelude.{bit_or}
use Rattle.std.proofs.Math.ListN.{length-set}
use Rattle.std.proofs.lemmas.List.{set-get_or, take_more}
use Rattle.cm_peel.specs.AtRound.{AreTaken, tag_of}
use Rattle.cm_peel.proofs.Chunks.{byte_small}
use Rattle.cm_peel.proofs.Marked.{marked_step, counted}
use Rattle.cm_peel.proofs.Taking.{taken_more}
use Rattle.cm_peel.proofs.freed.mark_listed.Goals as goal
use Rattle.cm_peel.proofs.freed.mark_listed.Goals.{then-known-i, else-known-i, then-old-ge-UNTAKEN, else-old-ge-UNTAKEN}

pub loop-i-preserved : goal.loop-i-preserved
loop-i-preserved c =
    let inv = c.loop-i.invariant in
    let t : ℕ = c.args.rounds in
    let places : List ℕ = c.args.places.now in
    let i : ℕ = c.loop-i.i in
    let q : ℕ = get_or places i 0 in
    let e : ℕ = q / 4 in
    let within : i < length places = c.loop-i-test.true in
    let inside : e < length c.args.bytes.now = c.requires.places i 0 within in
    let mark : get_or c.args.known.now i 0 ≡ get_or c.args.bytes.now e 0 = c.requires.known i within in
    let now : ℕ = get_or c.loop-i.bytes e 0 in
    let next : t + 1 ≡ suc t = omega arith in
    let byte : c.if-known-i.bytes ≡ cond (eqb (get_or c.args.bytes.now e 0 / 4) (t % 2)) now (min now (tag_of (suc t) + q % 4)) = elim c.if-known-i.branch [
      | then-known-i w ↦ w.bytes-is ∙ sym (cond-true _ now (min now (tag_of (suc t) + q % 4)) (eq-eqb _ _ (ap (λ n. n / 4) (sym mark) ∙ w.if-known-i.true)))
      | else-known-i w ↦ w.bytes-is ∙ (c.min-least.ensures ∙ (ap (λ n. min now (4 * (n % 2) + q % 4)) next ∙ sym (cond-false _ now (min now (tag_of (suc t) + q % 4)) (ne_eqb _ _ (λ s. w.if-known-i.false (ap (λ n. n / 4) mark ∙ s))))))
    ] in
    let b : Bool = leb 8 now in
    let m : ℕ = e / 64 in
    let marks : List ℕ = c.loop-i.marks in
    let below : m < length marks = omega (arith, inside, c.requires.room, inv.room) in
    let bit : List ℕ = set marks m (bit_or (get_or marks m 0) (1 * 2 ^ (e % 64) % 2 ^ 64)) in
    let marked : set marks m c.if-old-ge-UNTAKEN.marks ≡ cond b bit marks = elim c.if-old-ge-UNTAKEN.branch [
      | then-old-ge-UNTAKEN w ↦ ap (set marks m) w.marks-is ∙ sym (cond-true _ bit marks (le-leb 8 now w.if-old-ge-UNTAKEN.true))
      | else-old-ge-UNTAKEN w ↦ ap (set marks m) w.marks-is ∙ (set-get_or marks m 0 ∙ sym (cond-false _ bit marks (lt-leb 8 now (omega (arith, w.if-old-ge-UNTAKEN.false)))))
    ] in
    let was = inv.marked in
    let done = taken_more t (take i places) q e c.if-known-i.bytes c.args.bytes.now c.loop-i.bytes (set c.loop-i.bytes e c.if-known-i.bytes) [] was.fresh (was.fresh ++ cond b (e ∷ []) []) was.taken refl inside byte refl refl in
    record {
      long = done.bytes_long;
      room = length-set _ _ _ ∙ inv.room;
      few = omega (arith, inv.few, byte_small b);
      marked = record {
        fresh = was.fresh ++ cond b (e ∷ []) [];
        taken = subst (λ (xs : List ℕ). AreTaken t xs c.args.bytes.now (set c.loop-i.bytes e c.if-known-i.bytes) [] (was.fresh ++ cond b (e ∷ []) [])) (sym (take_more places i 0 within)) done;
        marked = marked_step b c.args.marks.now marks _ was.fresh e below marked was.marked;
        many = counted b was.fresh e c.loop-i.count was.many;
      };
    }
