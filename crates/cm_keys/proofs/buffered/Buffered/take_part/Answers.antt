use Rattle.std.proofs.Common.{[], drop, take, ◌-◌, sym, arith, append-nil, length-take, length-drop, take-append-drop}
use Rattle.cm_keys.proofs.PieceLemmas.{no_end, no_end_before, ready_split}
use Rattle.cm_keys.specs.Buffering.{ready_in}
use Rattle.cm_keys.proofs.buffered.Buffered.take_part.Goals as goal

pub returns-then-not-put-clause-takes : goal.returns-then-not-put-clause-takes
returns-then-not-put-clause-takes g c =
    let m = c.in-Some.ensures in
    let hay = ready_in c.args.self.now.buf c.args.self.now.start c.args.self.now.until in
    let n = c.in-Some.n in
    (take n hay, drop n hay, no_end_before _ hay n m.0.high m.0.before, sym (take-append-drop n hay), c.put.ensures.full c.if-not-put.true)

pub returns-then-not-put-2-clause-takes : goal.returns-then-not-put-2-clause-takes
returns-then-not-put-2-clause-takes g c =
    let hay = ready_in c.args.self.now.buf c.args.self.now.start c.args.self.now.until in
    (hay, [], no_end _ hay c.in-None.ensures, sym (append-nil hay), c.put-in-None.ensures.full c.if-not-put-2.true)

pub returns-else-not-put-clause-takes : goal.returns-else-not-put-clause-takes
returns-else-not-put-clause-takes g c =
    let m = c.in-Some.ensures in
    let buf = c.args.self.now.buf in
    let hay = ready_in buf c.args.self.now.start c.args.self.now.until in
    let n = c.in-Some.n in
    (take n hay, no_end_before _ hay n m.0.high m.0.before, c.put.ensures.fits c.if-not-put.false, ready_split _ buf c.args.self.now.start c.args.self.now.until n m.0.high m.1, c.put.ensures.room c.if-not-put.false)

pub returns-else-not-put-2-clause-takes : goal.returns-else-not-put-2-clause-takes
returns-else-not-put-2-clause-takes g c =
    let hay = ready_in c.args.self.now.buf c.args.self.now.start c.args.self.now.until in
    (no_end _ hay c.in-None.ensures, c.put-in-None.ensures.fits c.if-not-put-2.false, grind arith, omega (arith, length-take (c.args.self.now.until - c.args.self.now.start) (drop c.args.self.now.start c.args.self.now.buf), length-drop c.args.self.now.start c.args.self.now.buf, c.args.self.now.size, c.args.self.now.in_buf, c.requires), c.put-in-None.ensures.room c.if-not-put-2.false)
