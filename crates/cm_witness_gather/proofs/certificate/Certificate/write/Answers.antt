use Rattle.std.proofs.Common.{ℕ, List, ◌++◌, length, map}
use Rattle.cm_io.specs.Writing.{joined}
use Rattle.cm_io.specs.WritingLaws.{writes_then}
use Rattle.cm_witness_gather.specs.Reports.{edge_line, head_line, pair_line}
use Rattle.cm_witness_gather.specs.declared.certificate.Certificate.{Certificate}
use Rattle.cm_witness_gather.proofs.LineLemmas.{first_failed, part_failed}
use Rattle.cm_witness_gather.proofs.certificate.Certificate.write.Goals as goal

-- the first line of the text
abbrev head : Certificate → List ℕ
head shown = head_line shown.algorithm shown.place shown.seed (length shown.edges.items)

-- the lines of the edges
abbrev edges : Certificate → List ℕ
edges shown = joined (map edge_line shown.edges.items)

-- the lines of the pairs
abbrev pairs : Certificate → List ℕ
pairs shown = joined (map pair_line shown.equal.items)

pub returns-in_err-write_head-clause-text : goal.returns-in_err-write_head-clause-text
returns-in_err-write_head-clause-text g c =
    let shown : Certificate = c.args.self.now in
    first_failed _ _ (head shown) (edges shown ++ pairs shown) _ c.from_residual.ensures.0 c.in_err-write_head.ensures.line

pub returns-in_err-write_edges-clause-text : goal.returns-in_err-write_edges-clause-text
returns-in_err-write_edges-clause-text g c =
    let shown : Certificate = c.args.self.now in
    part_failed _ _ _ (head shown) (edges shown) (pairs shown) _ c.from_residual-in_err-write_edges.ensures.0 c.in_ok-write_head.ensures.line (rw c.deref.ensures.value at c.in_err-write_edges.ensures.lines)

pub returns-clause-text : goal.returns-clause-text
returns-clause-text g c =
    let shown : Certificate = c.args.self.now in
    let later = writes_then _ _ _ (edges shown) (pairs shown) _ (rw c.deref.ensures.value at c.in_ok-write_edges.ensures.lines) (rw c.deref-2.ensures.value at c.write_pairs.ensures.lines) in
    writes_then _ _ _ (head shown) (edges shown ++ pairs shown) _ c.in_ok-write_head.ensures.line later
