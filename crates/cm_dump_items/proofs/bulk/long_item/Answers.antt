use Rattle.std.proofs.Common.{◌≡◌, ◌∙◌, ℕ, ◌+◌, ◌-◌, List, ◌++◌, replicate, length, take, drop, ap, sym, arith, refl, rules, length-append, length-drop, length-take}
use Rattle.std.proofs.lemmas.List.{length-replicate, take_at}
use Rattle.cm_dump_items.specs.Reading.{item_at}
use Rattle.cm_dump_items.proofs.ChunkLemmas.{chunk_fault, chunk_more, chunk_all, put_end}
use Rattle.cm_dump_items.proofs.bulk.long_item.Goals as goal

-- `want` zeros more
longer : (all slice : List ℕ) (done want : ℕ) → length all ≡ done → slice ≡ all ++ replicate (done + want - length all) 0 → length slice ≡ done + want
longer all slice done want size is = ap length is ∙ length-append all (replicate (done + want - length all) 0) ∙ omega (arith, size, length-replicate {A = ℕ} (done + want - length all) 0)

pub loop-done-init : goal.loop-done-init
loop-done-init g c = record {
  same = refl;
  quiet = refl;
  inside = omega arith;
  size = ap length c.in-Ok.ensures.items;
  at = λ x is. (omega (arith, (c.requires.at x is).0), omega (arith, (c.requires.at x is).1));
  bytes = λ x is. c.in-Ok.ensures.items;
}

pub returns-in-Err-item-clause-exact : goal.returns-in-Err-item-clause-exact
returns-in-Err-item-clause-exact g c = λ x is.
    let inv = c.loop-done.invariant in
    let long : length c.deref_mut.result.now ≡ c.loop-done.done + c.min-want.result = longer c.loop-done.all.items c.deref_mut.result.now c.loop-done.done c.min-want.result inv.size (c.deref_mut.ensures.value ∙ c.in-Ok-room_for.ensures.items) in
    let room : length (drop c.loop-done.done c.deref_mut.result.now) ≡ c.min-want.result = length-drop c.loop-done.done c.deref_mut.result.now ∙ omega (arith, long) in
    chunk_fault x c.args.at c.loop-done.done _ c.args.n c.in-Err-item.fault (c.in-Err-item.ensures.exact x (inv.same ∙ is))
    (omega (arith, inv.inside, c.loop-done-test.true, c.min-want.ensures, long, room, length-take (length c.deref_mut.result.now - c.loop-done.done) (drop c.loop-done.done c.deref_mut.result.now)))

pub loop-done-preserved : goal.loop-done-preserved
loop-done-preserved g c =
    let inv = c.loop-done.invariant in
    let want = c.min-want.result in
    let done = c.loop-done.done in
    let all = c.loop-done.all.items in
    let slice = c.deref_mut.result.now in
    let zeros = replicate {A = ℕ} (done + want - length all) 0 in
    let is : slice ≡ all ++ zeros = c.deref_mut.ensures.value ∙ c.in-Ok-room_for.ensures.items in
    let kept : take done slice ≡ all = ap (λ (l : List ℕ). take done l) is ∙ take_at all zeros done inv.size in
    let long : length slice ≡ done + want = longer all slice done want inv.size is in
    let room : length (take (length slice - done) (drop done slice)) ≡ want = length-take (length slice - done) (drop done slice) ∙ omega (arith, long, length-drop done slice) in
    let size : length c.item.new.buf ≡ want = omega (arith, c.item.auto.buf, room) in
    let items = put_end c.room_for.new.all.len done slice c.room_for.new.all.items c.item.new.buf (search rules) (omega (arith, long, size)) in
    record {
      same = c.in-Ok-item.ensures.told ∙ inv.same;
      quiet = c.in-Ok-item.ensures.cause ∙ inv.quiet;
      inside = omega (arith, inv.inside, c.loop-done-test.true, c.min-want.ensures);
      size = ap length items ∙ length-append (take done slice) c.item.new.buf ∙ omega (arith, ap length kept, inv.size, size);
      at = λ x is. let at = c.in-Ok-item.ensures.at x is in (omega (arith, at.0, room), omega (arith, at.1, room));
      bytes = λ x is.
          let before = sym c.in-Ok-item.ensures.told ∙ is in
          items ∙ ap (λ (l : List ℕ). l ++ c.item.new.buf) kept ∙ chunk_more x all c.item.new.buf c.args.at done want (inv.bytes x before) (ap (item_at x (c.args.at + done)) (sym room) ∙ c.in-Ok-item.ensures.exact x before);
    }

pub returns-clause-at : goal.returns-clause-at
returns-clause-at g c = λ x is.
    let inv = c.loop-done.invariant in
    let at = inv.at x is in
    let all : c.loop-done.done ≡ c.args.n = omega (arith, inv.inside, c.loop-done-test.false) in
    (omega (arith, at.0, all), omega (arith, at.1, all))

pub returns-clause-exact : goal.returns-clause-exact
returns-clause-exact g c = λ x is.
    let inv = c.loop-done.invariant in
    let is_now = inv.same ∙ is in
    let all : c.loop-done.done ≡ c.args.n = omega (arith, inv.inside, c.loop-done-test.false) in
    chunk_all x c.loop-done.all.items c.args.at c.args.n (inv.bytes x is_now ∙ ap (λ (k : ℕ). take k (drop c.args.at x)) all) (omega (arith, (inv.at x is_now).1, all))
