use Rattle.std.proofs.Common.{◌≡◌, List, length, ap, sym, subst, arith}
use Rattle.cm_store.proofs.NumberLemmas.{numbered_more, numbered_none}
use Rattle.cm_store.proofs.numbering.number_some.Goals as goal
use Rattle.cm_store.specs.Numbers.{AreNumbered}
use Rattle.cm_store.specs.declared.numbering.Numbered.{Numbered}

pub records-init : goal.records-init
records-init c = record {
  inside = c.requires.inside;
  count_is = ap length c.clear.ensures;
  numbered = rw c.clear.ensures (numbered_none c.args.index.now c.args.bytes.now c.args.at);
}

-- the first that is missing begins at the given offset if it is the first of all
pub returns-in_default-clause-none : goal.returns-in_default-clause-none
unfolding AreNumbered
returns-in_default-clause-none c empty some =
    let here : c.records.next ≡ c.args.at = subst (λ (ns : List Numbered). AreNumbered c.args.index.now c.args.bytes.now c.args.at ns c.records.next) empty c.records.invariant.numbered in
    rw (sym here) c.in_default.ensures.none

pub records-preserved : goal.records-preserved
records-preserved c =
    let l = c.records in
    record {
      inside = c.in-Some.ensures.some.inside;
      count_is = omega (arith, c.push.ensures.len, l.invariant.count_is);
      numbered = rw c.push.ensures.items (numbered_more c.args.index.now c.args.bytes.now c.args.at l.next l.some.items c.in-Some.numbered l.invariant.numbered c.in-Some.ensures.some);
    }
