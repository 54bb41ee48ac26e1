use Rattle.std.proofs.Common.{◌≡◌, ◌∙◌, ℕ, ◌+◌, ◌-◌, ◌*◌, ◌/◌, ◌%◌, ◌<◌, ◌≤◌, List, length, take, drop, sym, ap, arith, length-take, length-drop}
use Rattle.std.proofs.lemmas.List.{drop-drop}
use Rattle.cm_keys_made.specs.Texts.{made_line, made_text}
use Rattle.cm_keys_made.proofs.TextLemmas.{in_text, part_more, room_after}
use Rattle.cm_keys_made.proofs.lines.fill.Goals as goal

pub loop-done-preserved : goal.loop-done-preserved
loop-done-preserved c =
    let inv = c.loop-done.invariant in
    let buf = c.loop-done.buf in
    let done = c.loop-done.done in
    let place = c.args.place in
    let at = place + done in
    let r = c.write_line-done.result in
    let left : length (take (length buf - done) (drop done buf)) ≡ length buf - done =
    length-take (length buf - done) (drop done buf) ∙ omega (arith, length-drop done buf) in
    let room = room_after buf c.write_line-done.new.buf done inv.inside c.write_line-done.auto.buf in
    let part = drop (at % 15) (made_line (at / 15)) in
    let fits : r ≤ 15 - at % 15 = omega (arith, c.write_line-done.ensures.count) in
    let short : r ≤ length part = omega (arith, fits, length-drop (at % 15) (made_line (at / 15))) in
    record {
      size = room ∙ inv.size;
      inside = omega (arith, room, c.write_line-done.ensures.count, left, inv.inside);
      bytes = λ keys few.
          let all : place + length buf ≤ 15 * keys = omega (arith, few, room) in
          let line : at / 15 < keys = omega (arith, all, c.loop-done-test.true) in
          let there : at ≡ 15 * (at / 15) + at % 15 = omega arith in
          let skip : at % 15 ≤ 15 = omega arith in
          let same = in_text keys (at / 15) (at % 15) r at line skip fits there ∙ ap (λ (l : List ℕ). take r l) (sym (drop-drop done place (made_text keys))) in
          rw c.write_line-done.ensures.bytes
          (part_more (drop place (made_text keys)) buf part _ _ done r inv.inside (inv.bytes keys all) short same);
    }
