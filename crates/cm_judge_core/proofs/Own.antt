-- What is seen of a report by the edges that the keys have for its lines.
use Rattle.std.proofs.Common.{◌≡◌, ◌⊎◌, ℕ, suc, ◌≤◌, List, [], ◌∷◌, length, map, sym, refl, ap, ◌∙◌, subst, inl, inr, arith, Option, None, Some}
use Rattle.std.specs.List.{All}
use Rattle.std.specs.Option.{ForSome, option_map, option_or}
use Rattle.std.proofs.lemmas.Bool.{cases_eq}
use Rattle.cm_io.specs.Passes.{Told}
use Rattle.cm_judge_verdict.specs.Judged.{edge_over}
use Rattle.cm_judge_verdict.specs.Rising.{RisesBy}
use Rattle.cm_judge_verdict.specs.Verdicts.{edge_reason, ends_of, least, lines_lacking, lines_other, lines_unknown, lone_vertices, lowest, same_edge}
use Rattle.cm_judge_core.specs.Walks.{AreOwn}
use Rattle.cm_judge_verdict.specs.declared.verdict.Reason.{Reason}
use Rattle.cm_judge_verdict.specs.declared.verdict.Reason.TheVariants.{Ends, NoKey, Once}
use Rattle.cm_judge_core.specs.declared.walking.Sizes.{Sizes}
use Rattle.cm_judge_verdict.specs.LackingLaws.{all_there, edge_equality, map_none}
use Rattle.cm_judge_verdict.specs.MemberLaws.{All-from_In, Comes, In, In-map_back, RisesBy-filter}
use Rattle.cm_judge_core.proofs.Passing.{lines_same, no_least, other_is, unknown_is}
use Rattle.cm_judge_verdict.specs.PlaceLaws.{ends_kept}
use Rattle.cm_spec.specs.Graph.{IsEdge}
use Rattle.cm_spec.specs.Lookup2.{words}
use Rattle.cm_spec.specs.Rule.{IsRule, IsSize, Rule}
use Rattle.cm_witness_gather.specs.declared.certificate.CoreEdge.{CoreEdge}

-- all edges of some keys
abbrev pub all_of : Rule → Sizes → List (ℕ × List ℕ) → List CoreEdge
all_of r sizes keys = map (edge_over r sizes.vertices sizes.seed) keys

pub all_of_rise : (r : Rule) (sizes : Sizes) (low : ℕ) (keys : List (ℕ × List ℕ)) → RisesBy (λ k. k.0) low keys → RisesBy (λ e. e.line) low (all_of r sizes keys)
all_of_rise r sizes low [] h = tt
all_of_rise r sizes low (k ∷ keys) h = (h.0, all_of_rise r sizes (suc k.0) keys h.1)

pub own_rise : (told : Option Told) (r : Rule) (sizes : Sizes) (edges own : List CoreEdge) → AreOwn told r sizes edges own → RisesBy (λ e. e.line) 0 own
own_rise told r sizes edges own are = subst (λ (es : List CoreEdge). RisesBy (λ e. e.line) 0 es) (sym are.own_are) (RisesBy-filter (λ (e : CoreEdge). e.line) _ 0 (all_of r sizes are.keys) (all_of_rise r sizes 0 are.keys are.rise))

pub own_lines : (told : Option Told) (r : Rule) (sizes : Sizes) (edges own : List CoreEdge) → AreOwn told r sizes edges own → RisesBy (λ e. e.line) 0 edges → least (lines_lacking own edges) ≡ None → map (λ e. e.line) own ≡ map (λ e. e.line) edges
own_lines told r sizes edges own are rise none =
    let all : List CoreEdge = all_of r sizes are.keys in
    ap (map (λ (e : CoreEdge). e.line)) are.own_are
    ∙ lines_same edges all rise (all_of_rise r sizes 0 are.keys are.rise) (subst (λ (es : List CoreEdge). least (lines_lacking es edges) ≡ None) are.own_are none)

two_three : (l : ℕ) → 2 ≤ l → l ≤ 3 → (l ≡ 2) ⊎ (l ≡ 3)
two_three l low high = elim (cases_eq l 2) [ inl e ↦ inl e | inr ne ↦ inr (omega arith) ]

-- edges of the graph have ends over its vertices
pub edges_over : (k : ℕ) (told : Option Told) (r : Rule) (sizes : Sizes) (edges own : List CoreEdge) → IsRule k r → IsSize r sizes.vertices → AreOwn told r sizes edges own → least (lines_other own edges) ≡ None → All (λ e. IsEdge sizes.vertices (ends_of e)) edges
edges_over k told r sizes edges own law size are none =
    let n : ℕ = sizes.vertices in
    let all : List CoreEdge = all_of r sizes are.keys in
    let same : lines_other own edges ≡ lines_other all edges = ap (λ (es : List CoreEdge). lines_other es edges) are.own_are ∙ other_is edges all in
    let there : (x : CoreEdge) → In edges x → In all x = all_there same_edge edge_equality all edges (map_none (λ (e : CoreEdge). e.line) _ (sym same ∙ no_least (lines_other own edges) none)) in
    All-from_In (λ e. IsEdge n (ends_of e)) edges (λ x m.
    let c : Comes (edge_over r n sizes.seed) are.keys x = In-map_back (edge_over r n sizes.seed) are.keys x (there x m) in
    let w : List ℕ = words c.from.1 sizes.seed in
    let edge = law.ends w n size in
    let kept : ends_of (edge_over r n sizes.seed c.from) ≡ r.edge w n = ends_kept c.from (r.edge w n) (shape (length (r.edge w n)) edge.0) in
    subst (λ (y : CoreEdge). IsEdge n (ends_of y)) c.is (subst (IsEdge n) (sym kept) edge.1))
  where
    shape : (l : ℕ) → l ≡ k → (l ≡ 2) ⊎ (l ≡ 3)
    shape l e = two_three l (let low : 2 ≤ k = law.two_or_three.0 in omega arith) (let high : k ≤ 3 = law.two_or_three.1 in omega arith)

-- each reason, over known keys
no_key_at : (reason : ℕ → Reason) (ns : List ℕ) (o : Option ℕ) → o ≡ least ns → lowest reason ns ≡ option_map reason o
no_key_at reason ns o e = ap (option_map reason) (sym e)

pub reason_no_key : (told : Option Told) (r : Rule) (sizes : Sizes) (edges own : List CoreEdge) (line : ℕ) → AreOwn told r sizes edges own → Some line ≡ least (lines_lacking own edges) → ForSome told (λ t. Some (NoKey line) ≡ edge_reason t.keys (all_of r sizes t.keys) edges)
reason_no_key told r sizes edges own line are e t is =
    let keys : t.keys ≡ are.keys = (are.known t is).0 in
    let unknown : lines_lacking own edges ≡ lines_unknown are.keys edges = ap (λ (es : List CoreEdge). lines_lacking es edges) are.own_are ∙ unknown_is edges are.keys r sizes.vertices sizes.seed in
    let first : lowest NoKey (lines_unknown are.keys edges) ≡ Some (NoKey line) = ap (lowest NoKey) (sym unknown) ∙ no_key_at NoKey (lines_lacking own edges) (Some line) e in
    subst (λ (ks : List (ℕ × List ℕ)). Some (NoKey line) ≡ edge_reason ks (all_of r sizes ks) edges) (sym keys) (sym (ap (λ (o : Option Reason). option_or o (option_or (lowest Ends (lines_other (all_of r sizes are.keys) edges)) (lowest Once (lone_vertices edges)))) first))

pub reason_after : (told : Option Told) (r : Rule) (sizes : Sizes) (edges own : List CoreEdge) (o p : Option ℕ) → AreOwn told r sizes edges own → None ≡ least (lines_lacking own edges) → o ≡ least (lines_other own edges) → p ≡ least (lone_vertices edges) → ForSome told (λ t. option_or (option_map Ends o) (option_map Once p) ≡ edge_reason t.keys (all_of r sizes t.keys) edges)
reason_after told r sizes edges own o p are none e f t is =
    let all : List CoreEdge = all_of r sizes are.keys in
    let keys : t.keys ≡ are.keys = (are.known t is).0 in
    let unknown : lines_lacking own edges ≡ lines_unknown are.keys edges = ap (λ (es : List CoreEdge). lines_lacking es edges) are.own_are ∙ unknown_is edges are.keys r sizes.vertices sizes.seed in
    let other : lines_other own edges ≡ lines_other all edges = ap (λ (es : List CoreEdge). lines_other es edges) are.own_are ∙ other_is edges all in
    let first : lowest NoKey (lines_unknown are.keys edges) ≡ None = ap (lowest NoKey) (sym unknown) ∙ no_key_at NoKey (lines_lacking own edges) None none in
    let second : lowest Ends (lines_other all edges) ≡ option_map Ends o = ap (lowest Ends) (sym other) ∙ no_key_at Ends (lines_other own edges) o e in
    let third : lowest Once (lone_vertices edges) ≡ option_map Once p = no_key_at Once (lone_vertices edges) p f in
    subst (λ (ks : List (ℕ × List ℕ)). option_or (option_map Ends o) (option_map Once p) ≡ edge_reason ks (all_of r sizes ks) edges) (sym keys)
    (sym (ap (λ (x : Option Reason). option_or x (option_or (lowest Ends (lines_other all edges)) (lowest Once (lone_vertices edges)))) first
    ∙ (ap (λ (x : Option Reason). option_or x (lowest Once (lone_vertices edges))) second ∙ ap (λ (x : Option Reason). option_or (option_map Ends o) x) third)))

pub reason_ends : (told : Option Told) (r : Rule) (sizes : Sizes) (edges own : List CoreEdge) (line : ℕ) → AreOwn told r sizes edges own → None ≡ least (lines_lacking own edges) → Some line ≡ least (lines_other own edges) → ForSome told (λ t. Some (Ends line) ≡ edge_reason t.keys (all_of r sizes t.keys) edges)
reason_ends told r sizes edges own line are none e = reason_after told r sizes edges own (Some line) (least (lone_vertices edges)) are none e refl
