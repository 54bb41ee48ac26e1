use Rattle.std.proofs.Common.{◌≡◌, ◌-◌, ◌<◌, ℕ, suc, arith, sym, subst, List, length, get_or}
use Rattle.std.specs.List.{All}
use Rattle.cm_graph.specs.Chained.{chain_of, before_in}
use Rattle.cm_graph.proofs.Chains.{before_passes}
use Rattle.cm_graph.proofs.linked.cut.Goals as goal

pub bounds-next-at : goal.bounds-next-at
bounds-next-at c =
    let next : List ℕ = c.args.next.now in
    let first : ℕ = c.args.chain.first in
    let some : c.args.chain.degree ≡ suc (c.args.chain.degree - 1) = omega (arith, c.requires.some) in
    let within : All (λ q. q < length next) (chain_of next first (suc (c.args.chain.degree - 1))) = subst (λ n. All (λ q. q < length next) (chain_of next first n)) some c.requires.within in
    let before : before_in c.args.place (chain_of next first (suc (c.args.chain.degree - 1))) < length next = before_passes (λ q. q < length next) c.args.place first (chain_of next (get_or next first 0) (c.args.chain.degree - 1)) within in
    rw c.before-at.ensures (subst (λ n. before_in c.args.place (chain_of next first n) < length next) (sym some) before)
