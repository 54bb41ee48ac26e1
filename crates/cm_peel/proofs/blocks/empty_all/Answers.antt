use Rattle.std.proofs.Common.{◌≡◌, ◌∙◌, ℕ, List, ◌+◌, ◌<◌, length, get_or, set, sum, ap, inl, inr, arith, rules, get_or-set_other}
use Rattle.std.proofs.lemmas.Bool.{cases_lt}
use Rattle.std.proofs.lemmas.List.{get_or-set_same}
use Rattle.std.proofs.lemmas.List.Sums.{sum_by-set}
use Rattle.cm_peel.proofs.Same.{taking_then}
use Rattle.cm_peel.proofs.Settling.{marked_few}
use Rattle.cm_peel.proofs.blocks.empty_all.Goals as goal

pub empty_block-count-requires-clause-state : goal.empty_block-count-requires-clause-state
empty_block-count-requires-clause-state g c = (c.requires.state.0, c.requires.state.1, c.each.invariant.state c.requires.state.0 c.requires.state.1 c.requires.state.2)

pub overflow_add-count : goal.overflow_add-count
overflow_add-count g c =
    let inv = c.each.invariant in
    let r = c.empty_block-count.ensures.state _ _ (inv.state _ _ c.requires.state.2) in
    let small : c.each.count + c.empty_block-count.result < 67108865 = omega (arith, marked_few c.empty_block-count.new.taking.marks.now, r.state.round.leads.few_marks, c.empty_block-count.ensures.count, inv.count) in
    search rules

-- one more block is empty
none_next : (counts counts' : List ℕ) (b k : ℕ) → b < length counts → counts' ≡ set counts b 0 → ((j : ℕ) → j < b → get_or counts j 0 ≡ 0) → k < b + 1 → get_or counts' k 0 ≡ 0
none_next counts counts' b k low is none h = ap (λ (xs : List ℕ). get_or xs k 0) is ∙ elim (cases_lt k b) [
  | inl less ↦ get_or-set_other counts b k 0 0 (λ s. omega (arith, s, less)) ∙ none k less
  | inr more ↦ let same : k ≡ b = omega arith in ap (λ j. get_or (set counts b 0) j 0) same ∙ get_or-set_same counts b 0 0 low
]

pub each-preserved : goal.each-preserved
each-preserved g c =
    let inv = c.each.invariant in
    record {
      high = omega (arith, c.each-test.true, c.empty_block-count.ensures.taking.counts_long);
      none = λ k h. none_next c.each.taking.counts.now _ c.each.b k (omega (arith, c.each-test.true)) c.empty_block-count.ensures.counts inv.none h;
      taking = taking_then c.empty_block-count.new.taking c.each.taking c.args.taking.now c.empty_block-count.ensures.taking inv.taking;
      state = λ graph done r. c.empty_block-count.ensures.state graph done (inv.state graph done r);
      count = omega (arith, c.empty_block-count.ensures.count, inv.count);
      steps = omega (arith, c.empty_block-count.ensures.steps, inv.steps, ap sum c.empty_block-count.ensures.counts, sum_by-set (λ (n : ℕ). n) c.each.taking.counts.now c.each.b 0 0 (omega (arith, c.each-test.true)));
    }
