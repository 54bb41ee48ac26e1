use Rattle.std.proofs.Common.{◌/◌, ◌<◌, ℕ, List, length, sym, subst}
use Rattle.std.specs.List.{All}
use Rattle.cm_peel.specs.Waiting.{AreMarked, edge_tags}
use Rattle.cm_peel.proofs.Settling.{block_inside, block_read, leads_block, marked_count}
use Rattle.cm_peel.proofs.freed.take_block.Goals as goal

pub look_up_places-requires-clause-places : goal.look_up_places-requires-clause-places
look_up_places-requires-clause-places c =
    let st = c.requires.state.2 in
    subst (λ (xs : List ℕ). All (λ q. q / 4 < length c.args.bytes.now) xs) (sym (block_read c.args.plan.blocks c.args.plan.each c.args.freed.now c.args.b c.requires.there)) (block_inside _ c.args.plan.blocks c.args.plan.each c.args.freed.now st.waiting c.args.b st.waits c.requires.there)

pub mark_listed-requires-clause-places : goal.mark_listed-requires-clause-places
mark_listed-requires-clause-places c =
    let st = c.requires.state.2 in
    subst (λ (xs : List ℕ). All (λ q. q / 4 < length c.args.bytes.now) xs) (sym (block_read c.args.plan.blocks c.args.plan.each c.args.freed.now c.args.b c.requires.there)) (block_inside _ c.args.plan.blocks c.args.plan.each c.args.freed.now st.waiting c.args.b st.waits c.requires.there)

pub returns-clause-state : goal.returns-clause-state
returns-clause-state c = λ after next r.
    let marked = subst (λ (xs : List ℕ). AreMarked (edge_tags c.args.bytes.now c.args.marks.now) (edge_tags c.mark_listed.new.bytes c.mark_listed.new.marks) c.args.plan.rounds xs c.mark_listed.result) (block_read c.args.plan.blocks c.args.plan.each c.args.freed.now c.args.b c.requires.there) c.mark_listed.ensures.marked in
    leads_block c.args.plan.rounds c.args.plan.blocks c.args.plan.each c.args.b c.mark_listed.result c.args.marks.now c.mark_listed.new.marks c.args.bytes.now c.mark_listed.new.bytes c.args.freed.now after next c.requires.there c.mark_listed.auto.marks marked r

pub returns-clause-count : goal.returns-clause-count
returns-clause-count c =
    let marked = subst (λ (xs : List ℕ). AreMarked (edge_tags c.args.bytes.now c.args.marks.now) (edge_tags c.mark_listed.new.bytes c.mark_listed.new.marks) c.args.plan.rounds xs c.mark_listed.result) (block_read c.args.plan.blocks c.args.plan.each c.args.freed.now c.args.b c.requires.there) c.mark_listed.ensures.marked in
    marked_count c.args.plan.rounds c.args.plan.blocks c.args.plan.each c.args.b c.mark_listed.result c.args.marks.now c.mark_listed.new.marks c.args.bytes.now c.mark_listed.new.bytes c.args.freed.now _ _ c.requires.there c.mark_listed.auto.marks marked c.requires.state.2
