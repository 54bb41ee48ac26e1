use Rattle.std.proofs.Common.{◌≡◌, ◌∙◌, ℕ, suc, ◌+◌, ◌-◌, ◌*◌, ◌<◌, ◌≤◌, List, [], ◌++◌, length, take, drop, get_or, replicate, sym, ap, subst, arith, rules, length-append, length-drop}
use Rattle.std.proofs.Math.Seq.{drop-append_seam, take-append-add}
use Rattle.std.proofs.lemmas.List.{get_or-replicate, length-replicate, length-take-le, take_all}
use Rattle.cm_spec.specs.Core.{IsCore}
use Rattle.cm_spec.specs.Rounds.{left_after, removed_after, order_upto}
use Rattle.cm_peel.specs.AtRound.{AreFresh, IsSmall}
use Rattle.cm_peel.specs.CoreLaws.{no_length}
use Rattle.cm_peel.specs.RoundLaws.{length-order}
use Rattle.cm_peel.specs.CoreLaws as core
use Rattle.cm_peel.proofs.Incident.{linked_all}
use Rattle.cm_peel.proofs.Ending.{ended, levels_ended, untaken_many, steps_next, steps_end}
use Rattle.cm_peel.proofs.NextRound.{round_early}
use Rattle.cm_peel.proofs.Pieces.{written_back}
use Rattle.cm_peel.proofs.peeled.peel_noting.Goals as goal

-- a table whose bytes are all 8
all_untaken : (bytes : List ℕ) (m : ℕ) → bytes ≡ replicate m 8 → (length bytes ≡ m) × ((e : ℕ) → e < length bytes → get_or bytes e 0 ≡ 8)
all_untaken bytes m is = rw is (length-replicate m 8, λ e h. get_or-replicate m e 8 0 (omega (arith, length-replicate {A = ℕ} m 8)))

pub begin-end-requires : goal.begin-end-requires
begin-end-requires g c =
    let levels = sym c.deref_mut.ensures.value in
    let kept = subst (λ (xs : List ℕ). 0 < length xs → length xs ≡ length c.args.edges.now.edges) levels c.requires.kept in
    let zero = subst (λ (xs : List ℕ). (e : ℕ) → e < length xs → get_or xs e 0 ≡ 0) levels c.requires.levels in
    let read = c.deref_mut-2.ensures.value in
    let bytes = c.in_ok-bytes.ensures.items_if_clones_equal (λ y same. same) in
    let untaken = all_untaken _ c.len-m.result (read ∙ bytes) in
    let graph : IsSmall g.row.K c.args.edges.now = record { ends = c.len-m.ensures.width.1; fits = omega (arith, c.len-m.ensures.count); edges = c.len-m.ensures.edges } in
    let fresh : AreFresh c.args.edges.now c.deref_mut.result.now c.deref_mut-2.result.now = record { levels_kept = kept; level = zero; bytes_long = untaken.0 ∙ c.len-m.ensures.count; byte = untaken.1 } in
    (search rules, (graph, (linked_all c.args.edges.now _ c.in_ok-incidence.ensures.links, (fresh, omega (arith, ap length c.deref_mut-3.ensures.value, c.in_ok-order.ensures.len, c.in_ok-order.order.ok.0, c.len-m.ensures.count)))))

-- the round that stands at the end of the order
round_is : (edges : List (List ℕ)) (t start end : ℕ) (items seen done : List ℕ) → take end items ≡ order_upto edges (suc t) → start ≡ length (order_upto edges t) → done ≡ take end seen → seen ≡ items → take (length done - start) (drop start done) ≡ removed_after edges t
round_is edges t start end items seen done order from front read =
    let upto : List ℕ = order_upto edges t in
    let whole : done ≡ upto ++ removed_after edges t = front ∙ (ap (take end) read ∙ order) in
    take_all (length done - start) (drop start done) (omega (arith, length-drop start done)) ∙ (ap (drop start) whole ∙ (ap (λ n. drop n (upto ++ removed_after edges t)) from ∙ drop-append_seam upto (removed_after edges t)))

-- how long it is
round_long : (edges : List (List ℕ)) (t start end : ℕ) → start ≡ length (order_upto edges t) → end ≡ length (order_upto edges (suc t)) → end ≡ start + length (removed_after edges t)
round_long edges t start end from to = omega (arith, from, to, length-append (order_upto edges t) (removed_after edges t))

pub advance-count-requires : goal.advance-count-requires
advance-count-requires g c =
    let inv = c.rounds.invariant in
    let edges : List (List ℕ) = c.args.edges.now.edges in
    let t : ℕ = c.rounds.rounds in
    let split = c.split_at_mut-done.ensures in
    let round = round_is edges t c.rounds.start c.rounds.end c.rounds.order.items _ _ inv.order_is inv.start_is split.front c.deref_mut-in-rounds.ensures.value in
    let early : t < length edges = round_early edges t (omega (arith, c.rounds-test.true, round_long edges t c.rounds.start c.rounds.end inv.start_is inv.end_is)) in
    let room : length (left_after edges (suc t)) + 192 ≤ length c.split_at_mut-done.result.1.now = omega (arith, split.back_len, ap length c.deref_mut-in-rounds.ensures.value, c.rounds.order.ok.0, inv.room, inv.end_is, length-order edges (suc t)) in
    let graph : IsSmall g.row.K c.args.edges.now = record { ends = c.len-m.ensures.width.1; fits = inv.fits; edges = c.len-m.ensures.edges } in
    let few : length c.split_at_mut-done.result.1.now ≤ 67109056 = omega (arith, split.back_len, ap length c.deref_mut-in-rounds.ensures.value, c.rounds.order.ok.0, inv.room, inv.fits) in
    (search rules, (search rules, (graph, (inv.tables, (round, (early, (room, (few, inv.state))))))))

pub rounds-smaller : goal.rounds-smaller
rounds-smaller g c =
    let inv = c.rounds.invariant in
    omega (arith, c.rounds-test.true, inv.end_is, length-order c.args.edges.now.edges (suc c.rounds.rounds))

-- the order after one more round
order_next : (edges : List (List ℕ)) (t end count : ℕ) (items seen done list written : List ℕ) → take end items ≡ order_upto edges (suc t) → end ≡ length (order_upto edges (suc t)) → done ≡ take end seen → seen ≡ items → written ≡ done ++ list → take count list ≡ removed_after edges (suc t) → count ≤ length list
    → (take (end + count) written ≡ order_upto edges (suc (suc t))) × (end + count ≡ length (order_upto edges (suc (suc t))))
order_next edges t end count items seen done list written order to front read back listed within =
    let upto : List ℕ = order_upto edges (suc t) in
    let whole : done ≡ upto = front ∙ (ap (take end) read ∙ order) in
    let long : length (take count list) ≡ count = length-take-le count list within in (
      ap (take (end + count)) (back ∙ ap (λ (xs : List ℕ). xs ++ list) whole) ∙ (ap (λ n. take (n + count) (upto ++ list)) to ∙ (take-append-add upto list count ∙ ap (λ (xs : List ℕ). upto ++ xs) listed)),
      omega (arith, to, long, ap length listed, length-append upto (removed_after edges (suc t))),
    )

pub rounds-preserved : goal.rounds-preserved
rounds-preserved g c =
    let inv = c.rounds.invariant in
    let edges : List (List ℕ) = c.args.edges.now.edges in
    let t : ℕ = c.rounds.rounds in
    let z : t + 1 ≡ suc t = omega arith in
    let split = c.split_at_mut-done.ensures in
    let whole : List ℕ = c.split_at_mut-done.result.0.now ++ c.advance-count.new.list in
    let order = written_back whole c.rounds.order.items c.rounds.order.len c.rounds.order.ok.0 (omega (arith, length-append c.split_at_mut-done.result.0.now c.advance-count.new.list, c.advance-count.auto.list, split.front_len, split.back_len, ap length c.deref_mut-in-rounds.ensures.value)) in
    let next = order_next edges t c.rounds.end c.advance-count.result c.rounds.order.items _ _ c.advance-count.new.list _ inv.order_is inv.end_is split.front c.deref_mut-in-rounds.ensures.value order c.advance-count.ensures.list c.advance-count.ensures.within in
    let round = round_is edges t c.rounds.start c.rounds.end c.rounds.order.items _ _ inv.order_is inv.start_is split.front c.deref_mut-in-rounds.ensures.value in
    let long = round_long edges t c.rounds.start c.rounds.end inv.start_is inv.end_is in
    let many : length (removed_after edges t) ≡ c.rounds.end - c.rounds.start = omega (arith, long) in
    let steps = subst (λ (n : ℕ). c.advance-count.new.steps ≤ c.rounds.steps + 3 * (g.row.K * n)) (ap length round ∙ many) c.advance-count.ensures.steps in
    record {
      state = rw z c.advance-count.ensures.state;
      few = omega (arith, round_early edges t (omega (arith, c.rounds-test.true, long)));
      room = inv.room;
      order_is = rw z next.0;
      start_is = rw z inv.end_is;
      end_is = rw z next.1;
      long = c.advance-count.ensures.levels ∙ inv.long;
      fits = inv.fits;
      tables = c.advance-count.ensures.tables;
      steps = steps_next g.row.K c.args.steps.now c.rounds.steps c.advance-count.new.steps (length edges) c.rounds.start c.rounds.end inv.steps steps (omega (arith, long));
    }

pub overflow_sub-m : goal.overflow_sub-m
overflow_sub-m g c =
    let inv = c.rounds.invariant in
    omega (arith, inv.end_is, length-order c.args.edges.now.edges (suc c.rounds.rounds), c.len-m.ensures.count)

pub untaken-requires-clause-many : goal.untaken-requires-clause-many
untaken-requires-clause-many g c =
    let inv = c.rounds.invariant in
    omega (arith, inv.end_is, untaken_many _ _ _ _ _ inv.state, c.len-m.ensures.count)

pub returns-in_err-rest-clause-steps : goal.returns-in_err-rest-clause-steps
returns-in_err-rest-clause-steps g c =
    let inv = c.rounds.invariant in
    steps_end g.row.K c.args.steps.now c.rounds.steps (length c.args.edges.now.edges) c.rounds.start inv.steps (omega (arith, inv.start_is, length-order c.args.edges.now.edges c.rounds.rounds))

-- a round that removes nothing
none_left : (edges : List (List ℕ)) (t start end : ℕ) → start ≡ length (order_upto edges t) → end ≡ length (order_upto edges (suc t)) → end ≤ start → removed_after edges t ≡ []
none_left edges t start end from to past = no_length (removed_after edges t) (omega (arith, round_long edges t start end from to))

pub returns-clause-peeling : goal.returns-clause-peeling
returns-clause-peeling g c =
    let inv = c.rounds.invariant in
    let none = none_left c.args.edges.now.edges c.rounds.rounds c.rounds.start c.rounds.end inv.start_is inv.end_is (omega (arith, c.rounds-test.false)) in
    ended g.row.K c.args.edges.now c.rounds.rounds _ c.truncate.new.self.items c.rounds.tables.levels.items c.rounds.tables.bytes.items c.in_ok-rest.rest.items c.len-m.ensures.width.1 c.len-m.ensures.edges inv.state inv.few none (c.truncate.ensures.items ∙ inv.order_is) c.in_ok-rest.ensures

pub returns-clause-levels : goal.returns-clause-levels
returns-clause-levels g c =
    let inv = c.rounds.invariant in
    let none = none_left c.args.edges.now.edges c.rounds.rounds c.rounds.start c.rounds.end inv.start_is inv.end_is (omega (arith, c.rounds-test.false)) in
    (inv.long, λ e h. levels_ended c.args.edges.now c.rounds.rounds _ c.rounds.tables.levels.items c.rounds.tables.bytes.items inv.state inv.few none e (omega (arith, inv.long)))

pub returns-clause-core : goal.returns-clause-core
returns-clause-core g c = subst (λ (r : List ℕ). IsCore c.args.edges.now.edges r) (sym (returns-clause-peeling g c).rest) (core.rest_is_core c.args.edges.now.edges)

pub returns-clause-steps : goal.returns-clause-steps
returns-clause-steps g c =
    let inv = c.rounds.invariant in
    steps_end g.row.K c.args.steps.now c.rounds.steps (length c.args.edges.now.edges) c.rounds.start inv.steps (omega (arith, inv.start_is, length-order c.args.edges.now.edges c.rounds.rounds))
