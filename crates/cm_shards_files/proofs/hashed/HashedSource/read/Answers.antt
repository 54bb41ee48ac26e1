use Rattle.std.proofs.Common.{◌∙◌, ◌≤◌, length, take, sym, subst, arith}
use Rattle.sha2.specs.Hashers.{Holds256}
use Rattle.cm_shards_files.proofs.HashLemmas.{take_further}
use Rattle.cm_shards_files.proofs.hashed.HashedSource.read.Goals as goal

pub invariant_of-self-2 : goal.invariant_of-self-2
invariant_of-self-2 g c = λ quiet x is.
    let S = g.S.Source in
    let ok = c.in_ok-n.ensures in
    let is_now = sym ok.told ∙ is in
    let has = c.self.invariant (sym ok.cause.fine ∙ quiet) x is_now in
    let gives = ok.gives x is_now in
    let few : c.in_ok-n.n ≤ length c.read.new.buf = omega (arith, ok.bound, c.read.auto.buf) in
    let before = S.place c.self.inside.source in
    let more = take_further x c.read.new.buf before (S.place c.read.new.self) _ c.in_ok-n.n gives few in
    record {
      holds = subst (Holds256 c.update.new.self) (sym more) (c.update.ensures (take before x) has.holds);
      inside = gives.inside;
      counted = omega (arith, gives.moved, has.counted, c.saturating_add-self-inside.ensures);
    }

pub returns-clause-gives : goal.returns-clause-gives
returns-clause-gives g c = rw (← c.self.view_is) (λ x is. c.in_ok-n.ensures.gives x is)
