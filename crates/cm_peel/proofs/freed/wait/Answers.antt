use Rattle.std.proofs.Common.{◌≡◌, ◌∙◌, ℕ, List, ◌++◌, ◌+◌, ◌/◌, ◌<◌, length, get_or, take, sym, refl, subst, arith, rules}
use Rattle.std.proofs.lemmas.List.{take_all, take_more}
use Rattle.cm_peel.specs.AtRound.{AreTaken}
use Rattle.cm_peel.specs.Waiting.{Leads, edge_blocks, put_freed}
use Rattle.cm_peel.proofs.Leading.{byte_set, fresh_one, leads_put, taken_none, taken_one}
use Rattle.cm_peel.proofs.Settling.{marked_few}
use Rattle.cm_peel.proofs.freed.wait.Goals as goal

pub loop-place-init : goal.loop-place-init
loop-place-init c = record {
  long = refl;
  free = c.requires.free;
  state = λ after next r. (after, next, taken_none c.args.plan.rounds after next, r);
  count = omega arith;
}

-- one more place waits, and the edges of those before are taken
record Reached (t blocks each : ℕ) (places marks bytes freed after next : List ℕ) : Type 0 where
  pub after' : List ℕ
  pub next' : List ℕ
  pub taken : AreTaken t places after after' next next'
  pub leads : Leads (edge_blocks t blocks each marks bytes freed) after' next'

reached : (t blocks each : ℕ) (places : List ℕ) (i : ℕ) (marks bytes freed freed' after next after' next' : List ℕ) → i < length places → get_or places i 0 / 4 < length bytes → get_or freed (get_or places i 0 / 524288) 0 < each → freed' ≡ put_freed blocks each freed (get_or places i 0 / 524288) (get_or freed (get_or places i 0 / 524288) 0) (get_or places i 0)
    → AreTaken t (take i places) after after' next next' → Leads (edge_blocks t blocks each marks bytes freed) after' next' → Reached t blocks each (take (i + 1) places) marks bytes freed' after next
reached t blocks each places i marks bytes freed freed' after next after' next' low inside free is taken r =
    let q : ℕ = get_or places i 0 in
    record {
      after' = byte_set t after' q;
      next' = next' ++ fresh_one after' q;
      taken = subst (λ (xs : List ℕ). AreTaken t xs after (byte_set t after' q) next (next' ++ fresh_one after' q)) (sym (take_more places i 0 low)) (taken_one t (take i places) q after after' next next' taken (omega (arith, inside, taken.bytes_long, r.taken.bytes_long)));
      leads = subst (λ (xs : List ℕ). Leads (edge_blocks t blocks each marks bytes xs) (byte_set t after' q) (next' ++ fresh_one after' q)) (sym is) (leads_put t blocks each marks bytes freed after' next' q r inside free);
    }

pub settle-count-requires-clause-state : goal.settle-count-requires-clause-state
settle-count-requires-clause-state c =
    let inv = c.loop-place.invariant in
    let i : ℕ = c.loop-place.place-index in
    let s = inv.state _ _ c.requires.state.2 in
    let q : ℕ = get_or c.args.places.now i 0 in
    let inside = c.requires.places i 0 c.loop-place-test.true in
    let p = reached c.args.plan.rounds c.args.plan.blocks c.args.plan.each c.args.places.now i c.loop-place.marks c.loop-place.bytes c.loop-place.freed c.put_place-b.new.freed _ _ s.0 s.1 c.loop-place-test.true (omega (arith, inside, inv.long)) (inv.free (q / 524288) (omega (arith, inside, inv.long, s.3.waits.all))) c.put_place-b.ensures.room s.2 s.3 in
    (p.after', p.next', p.leads)

pub overflow_add-count : goal.overflow_add-count
overflow_add-count c =
    let inv = c.loop-place.invariant in
    let i : ℕ = c.loop-place.place-index in
    let s = inv.state _ _ c.requires.state.2 in
    let q : ℕ = get_or c.args.places.now i 0 in
    let inside = c.requires.places i 0 c.loop-place-test.true in
    let p = reached c.args.plan.rounds c.args.plan.blocks c.args.plan.each c.args.places.now i c.loop-place.marks c.loop-place.bytes c.loop-place.freed c.put_place-b.new.freed _ _ s.0 s.1 c.loop-place-test.true (omega (arith, inside, inv.long)) (inv.free (q / 524288) (omega (arith, inside, inv.long, s.3.waits.all))) c.put_place-b.ensures.room s.2 s.3 in
    let r = c.settle-count.ensures.state p.after' p.next' p.leads in
    let small : c.loop-place.count + c.settle-count.result < 67108865 = omega (arith, marked_few c.settle-count.new.marks, r.few_marks, c.settle-count.ensures.count, inv.count) in
    search rules

pub loop-place-preserved : goal.loop-place-preserved
loop-place-preserved c =
    let inv = c.loop-place.invariant in
    let i : ℕ = c.loop-place.place-index in
    let q : ℕ = get_or c.args.places.now i 0 in
    let inside = c.requires.places i 0 c.loop-place-test.true in
    record {
      long = c.settle-count.auto.bytes ∙ inv.long;
      free = c.settle-count.ensures.free;
      state = λ after next st.
          let s = inv.state after next st in
          let p = reached c.args.plan.rounds c.args.plan.blocks c.args.plan.each c.args.places.now i c.loop-place.marks c.loop-place.bytes c.loop-place.freed c.put_place-b.new.freed after next s.0 s.1 c.loop-place-test.true (omega (arith, inside, inv.long)) (inv.free (q / 524288) (omega (arith, inside, inv.long, s.3.waits.all))) c.put_place-b.ensures.room s.2 s.3 in
          (p.after', p.next', p.taken, c.settle-count.ensures.state p.after' p.next' p.leads);
      count = omega (arith, c.settle-count.ensures.count, inv.count);
    }

pub returns-clause-state : goal.returns-clause-state
returns-clause-state c = λ after next st.
    let s = c.loop-place.invariant.state after next st in
    let all : take c.loop-place.place-index c.args.places.now ≡ c.args.places.now = take_all c.loop-place.place-index c.args.places.now (omega (arith, c.loop-place-test.false)) in
    (s.0, s.1, subst (λ (xs : List ℕ). AreTaken c.args.plan.rounds xs after s.0 next s.1) all s.2, s.3)
