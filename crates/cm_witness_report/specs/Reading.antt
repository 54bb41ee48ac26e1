-- The report that some bytes are the text of, or the first line that no report has there.
use Rattle.std.specs.Prelude.{◌≡◌, ◌≤◌, ◌+◌, ℕ, zero, suc, List, [], ◌∷◌, Bool, Result, Ok, Err}
use Rattle.std.specs.Option.{ok_or}
use Rattle.cm_io.specs.Causes.{Rose}
use Rattle.cm_spec.specs.declared.limits.TheConstants.{MAX_EDGES}
use Rattle.cm_witness_gather.specs.Gathers.{has_third}
use Rattle.cm_witness_gather.specs.declared.certificate.CoreEdge.{CoreEdge}
use Rattle.cm_witness_gather.specs.declared.certificate.Pair.{Pair}
use Rattle.cm_witness_report.specs.Lines.{lines_in}
use Rattle.cm_witness_report.specs.Parts.{head_at, next_edge, next_pair}
use Rattle.cm_witness_report.specs.Reports.{Said, core_said, overfull_said}
use Rattle.cm_witness_report.specs.declared.parts.Head.{Head}
use Rattle.cm_witness_report.specs.declared.parts.Head.TheVariants.{Core, Overfull}
use Rattle.cm_witness_report.specs.declared.report.Report.{Report}
use Rattle.cm_witness_report.specs.declared.report.Report.TheVariants as report
use Rattle.cm_witness_report.specs.declared.report.ReportFault.{ReportFault}
use Rattle.cm_witness_report.specs.declared.report.ReportFault.TheVariants as faults

-- one part, and then what is read after it; the first bad line is the answer
infixl 10 ◌>>=◌
abbrev pub ◌>>=◌ : {A B : Type 0} → Result A ℕ → (A → Result B ℕ) → Result B ℕ
(Ok x) >>= f = f x
(Err n) >>= f = Err n

-- as many edges as are left, after one of the line `last`, and the lines after theirs; the first line here is the n-th of the text
unfoldable pub edges_from : Bool → ℕ → ℕ → ℕ → List (List ℕ) → Result (List CoreEdge × List (List ℕ)) ℕ
edges_from third last n zero lines = Ok ([], lines)
edges_from third last n (suc left) [] = Err n
edges_from third last n (suc left) (l ∷ lines) = do
  edge ← ok_or (next_edge third last left l) n
  more ← edges_from third edge.line (n + 1) left lines
  Ok (edge ∷ more.0, more.1)

-- the pairs of all these lines, after one with the later line `last`; there may be as many as there is room for
unfoldable pub pairs_from : ℕ → ℕ → ℕ → List (List ℕ) → Result (List Pair) ℕ
pairs_from last n room [] = Ok []
pairs_from last n zero (l ∷ lines) = Err n
pairs_from last n (suc room) (l ∷ lines) = do
  pair ← ok_or (next_pair last l) n
  more ← pairs_from pair.again (n + 1) room lines
  Ok (pair ∷ more)

-- what comes after the first line
unfoldable pub rest_from : Head → List (List ℕ) → Result Said ℕ
rest_from (Core algorithm place seed count) lines = do
  edges ← edges_from (has_third algorithm) 0 2 count lines
  equal ← pairs_from 0 (2 + count) MAX_EDGES edges.1
  Ok (core_said algorithm place seed edges.0 equal)
rest_from (Overfull seed bucket count) lines = do
  equal ← pairs_from 0 2 MAX_EDGES lines
  Ok (overfull_said seed bucket count equal)

-- all lines
unfoldable pub report_from : List (List ℕ) → Result Said ℕ
report_from [] = Err 1
report_from (l ∷ lines) = do
  head ← ok_or (head_at l) 1
  rest_from head lines

-- what the bytes say as a report; or the number of the first line, from 1, at which they are none: that after the lines with which some
-- report begins
abbrev pub reading_of : List ℕ → Result Said ℕ
reading_of bytes = report_from (lines_in bytes)

-- what a report says
abbrev pub said_of : Report → Said
said_of (report.Core shown) = core_said shown.algorithm shown.place shown.seed shown.edges.items shown.equal.items
said_of (report.Overfull seed bucket count equal) = overfull_said seed bucket count equal.items

-- What a call returned, seen by view, is what the lines say. Memory may run out, and a source may fail, at any time.
abbrev pub Tells : {X Y : Type 0} → (X → Y) → Result X ReportFault → Result Y ℕ → Type 0
Tells view (Ok x) said = said ≡ Ok (view x)
Tells view (Err faults.Memory) said = Unit {0}
Tells view (Err faults.Read) said = Unit {0}
Tells view (Err (faults.Bad line)) said = said ≡ Err line

-- The count never falls, and a call returns `Read` exactly if it rose.
abbrev pub HasReportCause : {T : Type 0} → ℕ → ℕ → Result T ReportFault → Type 0
HasReportCause before now (Ok x) = now ≡ before
HasReportCause before now (Err faults.Memory) = now ≡ before
HasReportCause before now (Err faults.Read) = (before ≤ now) × Rose before now
HasReportCause before now (Err (faults.Bad line)) = now ≡ before
