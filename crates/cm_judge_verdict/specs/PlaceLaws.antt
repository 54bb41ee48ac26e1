-- The edges at places of the graph of some keys, as edges with lines.
use Rattle.std.proofs.Common.{◌≡◌, ◌⊎◌, ℕ, ◌+◌, ◌<◌, Bool, cond, List, [], ◌∷◌, map, length, get_or, sym, refl, ap, ◌∙◌, subst, inl, inr, arith, None}
use Rattle.std.proofs.lemmas.List.{ext_get_or, get_or-map, length-map}
use Rattle.cm_algo_names.specs.declared.algorithm.Algorithm.{Algorithm}
use Rattle.cm_algo_names.specs.declared.algorithm.Algorithm.TheVariants.{Chm, Bdz, BdzPh, Brz}
use Rattle.cm_judge_verdict.specs.Judged.{Judged, edge_over, edges_in, graph_in, rule_of}
use Rattle.cm_judge_verdict.specs.Truth.{HaveRisingLines}
use Rattle.cm_judge_verdict.specs.Verdicts.{ends_of, touching}
use Rattle.cm_judge_verdict.specs.MemberLaws.{In, RisesBy-from_map, later_at, rises_at}
use Rattle.cm_judge_verdict.specs.Rising.{RisesBy}
use Rattle.cm_peel.specs.SetLaws.{Rises, Rises-from_increasing, count_by-cons, get_or-numbers, length-numbers}
use Rattle.cm_spec.specs.Built.{edge_of}
use Rattle.cm_spec.specs.Graph.{degree_in, ends_at, places, touches}
use Rattle.cm_spec.specs.Rule.{Rule}
use Rattle.cm_witness_gather.specs.Cores.{core_edge}
use Rattle.cm_witness_gather.specs.declared.certificate.CoreEdge.{CoreEdge}

-- two ends, or three
abbrev pub IsShaped : List ℕ → Type 0
IsShaped ends = (length ends ≡ 2) ⊎ (length ends ≡ 3)

-- the edges of a rule are so
abbrev pub Shapes : Rule → Type 0
Shapes r = (w : List ℕ) (n : ℕ) → IsShaped (r.edge w n)

pub rules_shape : (algorithm : Algorithm) → Shapes (rule_of algorithm)
rules_shape Chm w n = inl refl
rules_shape Bdz w n = inr refl
rules_shape BdzPh w n = inr refl
rules_shape Brz w n = inr refl

-- an edge with a line keeps its ends
pub ends_kept : (key : ℕ × List ℕ) (ends : List ℕ) → IsShaped ends → ends_of (core_edge key ends) ≡ ends
ends_kept key [] (inl e) = absurd (omega arith)
ends_kept key [] (inr e) = absurd (omega arith)
ends_kept key (a ∷ []) (inl e) = absurd (omega arith)
ends_kept key (a ∷ []) (inr e) = absurd (omega arith)
ends_kept key (a ∷ b ∷ []) h = refl
ends_kept key (a ∷ b ∷ c ∷ []) h = refl
ends_kept key (a ∷ b ∷ c ∷ d ∷ ends) (inl e) = absurd (omega arith)
ends_kept key (a ∷ b ∷ c ∷ d ∷ ends) (inr e) = absurd (omega arith)

-- a key at a place, and the edge there with its line
abbrev pub key_in : Judged → ℕ → ℕ × List ℕ
key_in j e = get_or j.keys e (0, [])

abbrev pub edge_in : Judged → ℕ → CoreEdge
edge_in j e = core_edge (key_in j e) (ends_at (graph_in j) e)

pub graph_length : (j : Judged) → length (graph_in j) ≡ length j.keys
graph_length j = length-map j.keys (edge_of j.rule (j.rule.size (length j.keys) j.ratio) j.seed)

pub shaped_at : (j : Judged) → Shapes j.rule → (e : ℕ) → e < length j.keys → IsShaped (ends_at (graph_in j) e)
shaped_at j shapes e h =
    let f : ℕ × List ℕ → List ℕ = edge_of j.rule (j.rule.size (length j.keys) j.ratio) j.seed in
    let is : ends_at (graph_in j) e ≡ f (key_in j e) = get_or-map f j.keys e (0, []) [] h in
    subst IsShaped (sym is) (shapes _ _)

pub ends_in : (j : Judged) → Shapes j.rule → (e : ℕ) → e < length j.keys → ends_of (edge_in j e) ≡ ends_at (graph_in j) e
ends_in j shapes e h = ends_kept (key_in j e) (ends_at (graph_in j) e) (shaped_at j shapes e h)

-- the degree of a vertex among places is how many of their edges touch it
pub touching_is : (j : Judged) → Shapes j.rule → (these : List ℕ) → ((e : ℕ) → In these e → e < length j.keys) → (v : ℕ) → touching (map (edge_in j) these) v ≡ degree_in (graph_in j) these v
touching_is j shapes [] within v = refl
touching_is j shapes (e ∷ es) within v =
    let p : CoreEdge → Bool = λ x. touches v (ends_of x) in
    let q : ℕ → Bool = λ x. touches v (ends_at (graph_in j) x) in
    let same : p (edge_in j e) ≡ q e = ap (touches v) (ends_in j shapes e (within e (inl refl))) in
    let more : touching (map (edge_in j) es) v ≡ degree_in (graph_in j) es v = touching_is j shapes es (λ x m. within x (inr m)) v in
    count_by-cons p (edge_in j e) (map (edge_in j) es)
    ∙ (ap (λ (b : Bool). cond {A = ℕ} b 1 0 + touching (map (edge_in j) es) v) same
    ∙ (ap (λ (n : ℕ). cond {A = ℕ} (q e) 1 0 + n) more ∙ sym (count_by-cons q e es)))

-- lines that rise, by recursion
pub lines_rise : (keys : List (ℕ × List ℕ)) → HaveRisingLines keys → RisesBy (λ k. k.0) 0 keys
lines_rise keys h = RisesBy-from_map (λ k. k.0) 0 keys (Rises-from_increasing 0 (map (λ k. k.0) keys) h (λ _. omega arith))

abbrev pub KeysRise : Judged → Type 0
KeysRise j = RisesBy (λ k. k.0) 0 j.keys

pub edges_rise : (j : Judged) → KeysRise j → (these : List ℕ) → Rises 0 these → ((e : ℕ) → In these e → e < length j.keys) → RisesBy (λ x. x.line) 0 (map (edge_in j) these)
edges_rise j rise these r within =
    rises_at (λ (x : CoreEdge). x.line) (edge_in j) (length j.keys) 0 0 these
    (λ a b h g. later_at (λ (k : ℕ × List ℕ). k.0) 0 j.keys a b (0, []) rise h g) r within (λ e h g. omega arith)

pub keys_rise : (j : Judged) → KeysRise j → (these : List ℕ) → Rises 0 these → ((e : ℕ) → In these e → e < length j.keys) → RisesBy (λ k. k.0) 0 (map (key_in j) these)
keys_rise j rise these r within =
    rises_at (λ (k : ℕ × List ℕ). k.0) (key_in j) (length j.keys) 0 0 these
    (λ a b h g. later_at (λ (k : ℕ × List ℕ). k.0) 0 j.keys a b (0, []) rise h g) r within (λ e h g. omega arith)

-- an edge for places that a list does not have
abbrev pub edge_or : CoreEdge
edge_or = record { line = 0; first = 0; second = 0; third = None }

-- the edges of the keys are those of their graph
pub edges_of_keys : (j : Judged) → edges_in j ≡ map (edge_over j.rule (j.rule.size (length j.keys) j.ratio) j.seed) j.keys
edges_of_keys j =
    let f : ℕ × List ℕ → List ℕ = edge_of j.rule (j.rule.size (length j.keys) j.ratio) j.seed in
    let g : ℕ × List ℕ → CoreEdge = edge_over j.rule (j.rule.size (length j.keys) j.ratio) j.seed in
    let ns : List ℕ = places (graph_in j) in
    let long : length (graph_in j) ≡ length j.keys = graph_length j in
    let count : length ns ≡ length (graph_in j) = length-numbers 0 (length (graph_in j)) in
    let left : length (edges_in j) ≡ length ns = length-map ns (edge_in j) in
    let right : length (map g j.keys) ≡ length j.keys = length-map j.keys g in
    ext_get_or edge_or (edges_in j) (map g j.keys) (left ∙ (count ∙ (long ∙ sym right))) (λ k h.
    let inside : k < length j.keys = omega arith in
    let place : k < length ns = omega arith in
    let at : get_or ns k 0 ≡ 0 + k = get_or-numbers 0 (length (graph_in j)) k (omega arith) in
    let number : get_or ns k 0 ≡ k = omega arith in
    let ends : ends_at (graph_in j) k ≡ f (key_in j k) = get_or-map f j.keys k (0, []) [] inside in
    get_or-map (edge_in j) ns k 0 edge_or place
    ∙ (ap (edge_in j) number
    ∙ (ap (core_edge (key_in j k)) ends
    ∙ sym (get_or-map g j.keys k (0, []) edge_or inside))))
