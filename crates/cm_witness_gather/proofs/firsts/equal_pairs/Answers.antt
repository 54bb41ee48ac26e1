use Rattle.std.proofs.Common.{◌∙◌, ℕ, List, [], ◌∷◌, ◌++◌, get_or, take, subst, sym, ap}
use Rattle.cm_witness_gather.specs.Noted.{AreNoted, with_lines}
use Rattle.cm_witness_gather.specs.Pairs.{pairs}
use Rattle.cm_witness_gather.proofs.NotedLemmas.{with_lines-all, with_lines-more}
use Rattle.cm_witness_gather.proofs.firsts.equal_pairs.Goals as goal

pub loop-i-preserved : goal.loop-i-preserved
loop-i-preserved c =
    let i = c.loop-i.i in
    let earlier = take i (with_lines c.args.lines.now c.args.keys.now) in
    let more = with_lines-more c.args.lines.now c.args.keys.now i c.index-keys-i.result c.requires.long c.loop-i-test.true c.index-keys-i.is in
    let is = ap (λ (l : List ℕ). earlier ++ (get_or c.args.lines.now i 0, l) ∷ []) c.deref.ensures.value in
    subst (λ (l : List (ℕ × List ℕ)). AreNoted l c.note.new.self.firsts c.note.new.self.pairs.items) (is ∙ sym more) (c.in_ok-note.ensures earlier c.loop-i.invariant)

pub returns : goal.returns
returns c = record {
  pairs = c.loop-i.invariant.paired ∙ ap pairs (with_lines-all c.args.lines.now c.args.keys.now c.loop-i.i c.loop-i-test.false);
}
