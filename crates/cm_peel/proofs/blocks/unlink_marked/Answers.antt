use Rattle.std.proofs.Common.{◌∙◌, ◌+◌, ◌<◌, subst, arith, rules}
use Rattle.cm_peel.specs.declared.freed.Plan.{Plan}
use Rattle.cm_peel.specs.AtRound.{InRound, other_places}
use Rattle.cm_peel.specs.Waiting.{marked_of}
use Rattle.cm_peel.proofs.ByBlocks.{all_counted, blocks_ended, sum_none, taking_ended}
use Rattle.cm_peel.proofs.Same.{taking_then}
use Rattle.cm_peel.proofs.Settling.{marked_few}
use Rattle.cm_peel.proofs.blocks.unlink_marked.Goals as goal

pub wait_round-before-requires : goal.wait_round-before-requires
wait_round-before-requires g c =
    (search rules, (c.requires.round, ((λ b m. omega (arith, c.requires.empty b m, c.requires.state.positive)), c.requires.state)))

pub empty_all-last-requires : goal.empty_all-last-requires
empty_all-last-requires g c = record { state = (c.args.edges.now, _, c.wait_round-before.ensures.state) }

pub overflow_add-result : goal.overflow_add-result
overflow_add-result g c =
    let r = blocks_ended _ _ _ _ _ _ _ _ _ _ _ _ (c.empty_all-last.ensures.state _ _ c.wait_round-before.ensures.state).state c.empty_all-last.ensures.none in
    let small : c.wait_round-before.result + c.empty_all-last.result < 67108865 = omega (arith, marked_few c.empty_all-last.new.taking.marks.now, r.leads.few_marks, c.empty_all-last.ensures.count, c.wait_round-before.ensures.count) in
    search rules

pub take_all-requires-clause-state : goal.take_all-requires-clause-state
take_all-requires-clause-state g c =
    let r = blocks_ended _ _ _ _ _ _ _ _ _ _ _ _ (c.empty_all-last.ensures.state _ _ c.wait_round-before.ensures.state).state c.empty_all-last.ensures.none in
    (r.after, r.next, r.leads)

pub overflow_add-result-2 : goal.overflow_add-result-2
overflow_add-result-2 g c =
    let r = blocks_ended _ _ _ _ _ _ _ _ _ _ _ _ (c.empty_all-last.ensures.state _ _ c.wait_round-before.ensures.state).state c.empty_all-last.ensures.none in
    let e = c.take_all.ensures.state r.after r.next r.leads in
    let small : c.wait_round-before.result + c.empty_all-last.result + c.take_all.result < 67108865 = omega (arith, marked_few c.take_all.new.marks, e.few_marks, c.take_all.ensures.count, c.empty_all-last.ensures.count, c.wait_round-before.ensures.count) in
    search rules

pub returns-clause-state : goal.returns-clause-state
returns-clause-state g c =
    let r = blocks_ended _ _ _ _ _ _ _ _ _ _ _ _ (c.empty_all-last.ensures.state _ _ c.wait_round-before.ensures.state).state c.empty_all-last.ensures.none in
    subst (λ (q : Plan). InRound c.args.edges.now q.rounds (other_places c.args.edges.now.edges c.args.round.now) (g.I.Incidence.links c.empty_all-last.new.incidence) (marked_of c.take_all.new.marks) c.take_all.new.bytes) (c.empty_all-last.ensures.taking.plan ∙ c.wait_round-before.ensures.taking.plan) (taking_ended _ _ _ _ _ _ c.take_all.new.marks c.take_all.new.bytes c.take_all.new.freed r.after r.next (c.take_all.ensures.state r.after r.next r.leads) c.take_all.ensures.none r.round)

pub returns-clause-taking : goal.returns-clause-taking
returns-clause-taking g c =
    let last = taking_then c.empty_all-last.new.taking c.wait_round-before.new.taking c.args.taking.now c.empty_all-last.ensures.taking c.wait_round-before.ensures.taking in
    record {
      plan = last.plan;
      bytes = last.bytes;
      freed = last.freed;
      marks = last.marks;
      counts = last.counts;
      bytes_long = c.take_all.auto.bytes ∙ last.bytes_long;
      freed_long = c.take_all.auto.freed ∙ last.freed_long;
      marks_long = c.take_all.auto.marks ∙ last.marks_long;
      counts_long = last.counts_long;
    }

pub returns-clause-count : goal.returns-clause-count
returns-clause-count g c = all_counted c.args.taking.now.marks.now c.wait_round-before.new.taking.marks.now c.empty_all-last.new.taking.marks.now c.take_all.new.marks c.wait_round-before.result c.empty_all-last.result c.take_all.result c.requires.marks.clear c.wait_round-before.ensures.count c.empty_all-last.ensures.count c.take_all.ensures.count

pub returns-clause-steps : goal.returns-clause-steps
returns-clause-steps g c = omega (arith, c.empty_all-last.ensures.steps, c.wait_round-before.ensures.steps, sum_none c.args.taking.now.counts.now c.requires.empty)
