-- What stays the same from step to step of a round by blocks.
use Rattle.std.proofs.Common.{◌≡◌, ◌∙◌, ℕ, List, subst}
use Rattle.cm_graph_edges.specs.declared.incidence.Half.{Half}
use Rattle.cm_graph_edges.specs.Graph.{Graph, Links}
use Rattle.cm_peel.specs.declared.freed.Plan.{Plan}
use Rattle.cm_peel.specs.declared.freed.Taking.{Taking}
use Rattle.cm_peel.specs.Waiting.{AtBlocks, AtPart, CanWait, InTaking, IsOpen, IsSameTaking, by_plan, vertex_blocks}

pub taking_then : (a b c : Taking) → IsSameTaking a b → IsSameTaking b c → IsSameTaking a c
taking_then a b c p q = record {
  plan = p.plan ∙ q.plan;
  bytes = p.bytes ∙ q.bytes;
  freed = p.freed ∙ q.freed;
  marks = p.marks ∙ q.marks;
  counts = p.counts ∙ q.counts;
  bytes_long = p.bytes_long ∙ q.bytes_long;
  freed_long = p.freed_long ∙ q.freed_long;
  marks_long = p.marks_long ∙ q.marks_long;
  counts_long = p.counts_long ∙ q.counts_long;
}

-- the same states by an equal plan
pub at_plan : (k : ℕ) (graph : Graph) (plan plan' : Plan) (room counts : List ℕ) (l : Links) (marks bytes freed done : List ℕ) → plan ≡ plan' → AtBlocks k graph (vertex_blocks plan.size room counts) l (by_plan plan marks bytes freed) done → AtBlocks k graph (vertex_blocks plan'.size room counts) l (by_plan plan' marks bytes freed) done
at_plan k graph plan plan' room counts l marks bytes freed done same r = subst (λ (p : Plan). AtBlocks k graph (vertex_blocks p.size room counts) l (by_plan p marks bytes freed) done) same r

pub part_plan : (k : ℕ) (graph : Graph) (plan plan' : Plan) (gone : List ℕ) (l : Links) (marks bytes freed : List ℕ) (halves : List Half) → plan ≡ plan' → AtPart k graph gone l (by_plan plan marks bytes freed) halves → AtPart k graph gone l (by_plan plan' marks bytes freed) halves
part_plan k graph plan plan' gone l marks bytes freed halves same r = subst (λ (p : Plan). AtPart k graph gone l (by_plan p marks bytes freed) halves) same r

pub taking_plan : (graph : Graph) (plan plan' : Plan) (gone : List ℕ) (l : Links) (marks bytes freed : List ℕ) → plan ≡ plan' → InTaking graph gone l (by_plan plan marks bytes freed) → InTaking graph gone l (by_plan plan' marks bytes freed)
taking_plan graph plan plan' gone l marks bytes freed same r = subst (λ (p : Plan). InTaking graph gone l (by_plan p marks bytes freed)) same r

pub wait_plan : (edges : List (List ℕ)) (plan plan' : Plan) (done : List ℕ) (halves : List Half) → plan ≡ plan' → CanWait edges plan.rounds done halves → CanWait edges plan'.rounds done halves
wait_plan edges plan plan' done halves same w = subst (λ (p : Plan). CanWait edges p.rounds done halves) same w

pub open_plan : (plan plan' : Plan) (counts : List ℕ) → plan ≡ plan' → IsOpen plan.size counts → IsOpen plan'.size counts
open_plan plan plan' counts same free = subst (λ (p : Plan). IsOpen p.size counts) same free
