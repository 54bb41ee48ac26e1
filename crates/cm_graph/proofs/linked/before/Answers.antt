use Rattle.std.proofs.Common.{◌≡◌, ◌+◌, ◌-◌, ◌<◌, ℕ, suc, arith, ap, sym, ◌∙◌, subst, List, length, get_or}
use Rattle.std.specs.List.{All}
use Rattle.cm_graph.specs.Chained.{chain_of, before_in}
use Rattle.cm_graph.proofs.Chains.{before_same, before_other}
use Rattle.cm_graph.proofs.linked.before.Goals as goal

pub loop-init : goal.loop-init
loop-init c =
    let next : List ℕ = c.args.next.now in
    let first : ℕ = c.args.chain.first in
    let some : c.args.chain.degree ≡ suc (c.args.chain.degree - 1) = omega (arith, c.requires.some) in
    record {
      within = subst (λ n. All (λ q. q < length next) (chain_of next first n)) some c.requires.within;
      before = ap (λ n. before_in c.args.place (chain_of next first n)) (sym some);
    }

pub bounds-next-at : goal.bounds-next-at
bounds-next-at c = c.loop.invariant.within 0 0 (omega arith)

pub returns-then-after-place : goal.returns-then-after-place
returns-then-after-place c =
    let next : List ℕ = c.args.next.now in
    let at : ℕ = c.loop.at in
    let after : ℕ = get_or next at 0 in
    let more : suc (c.args.chain.degree - (c.loop.counter + 1)) ≡ c.args.chain.degree - c.loop.counter = omega (arith, c.loop-test.true) in
    sym (before_same c.args.place at after _ c.if-after-place.true) ∙ (ap (λ n. before_in c.args.place (chain_of next at (suc n))) more ∙ c.loop.invariant.before)

pub loop-preserved : goal.loop-preserved
loop-preserved c =
    let next : List ℕ = c.args.next.now in
    let at : ℕ = c.loop.at in
    let after : ℕ = get_or next at 0 in
    let more : suc (c.args.chain.degree - (c.loop.counter + 1)) ≡ c.args.chain.degree - c.loop.counter = omega (arith, c.loop-test.true) in
    let within : All (λ q. q < length next) (chain_of next at (suc (suc (c.args.chain.degree - (c.loop.counter + 1))))) = subst (λ n. All (λ q. q < length next) (chain_of next at (suc n))) (sym more) c.loop.invariant.within in
    record {
      within = λ k d h. within (suc k) d (omega (arith, h));
      before = sym (before_other c.args.place at after _ c.if-after-place.false) ∙ (ap (λ n. before_in c.args.place (chain_of next at (suc n))) more ∙ c.loop.invariant.before);
    }

pub returns : goal.returns
returns c =
    let last : c.args.chain.degree - c.loop.counter ≡ 0 = omega (arith, c.loop-test.false) in
    ap (λ n. before_in c.args.place (chain_of c.args.next.now c.loop.at (suc n))) (sym last) ∙ c.loop.invariant.before
