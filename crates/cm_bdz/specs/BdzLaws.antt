-- Lemmas about the rules of BDZ and BDZ_PH: they keep the laws of a rule. Of the definitions, contracts need `triple_rule` alone.
use Rattle.std.specs.Prelude.{◌≡◌, ◌≢◌, ℕ, zero, suc, ◌+◌, ◌*◌, ◌/◌, ◌%◌, ◌<◌, ◌≤◌, List, [], ◌∷◌, length, slice_index, refl, All, AllPairs}
use Rattle.std.proofs.Common.{arith, ap, sym, subst, ◌∙◌, ◌⊎◌, inl, inr, cond, eqb, true, false, Bool}
use Rattle.std.proofs.Math.Nat.{mul-div_cancel_left, mul-le-mul_left, mul_comm}
use Rattle.std.proofs.lemmas.Bool.{cases_eq, eq-eqb, ne_eqb}
use Rattle.std.proofs.lemmas.Nat.{div_below, mod_below}
use Rattle.cm_bdz.specs.Functions.{IsThirds}
use Rattle.cm_spec.specs.Bdz.{bdz_edge, bdz_rule, bdz_ph_rule, bdz_size, made_odd, third_of}
use Rattle.cm_spec.specs.Graph.{IsEdge}
use Rattle.cm_spec.specs.Rule.{IsCount, IsRatio, IsRule, Rule}
use Rattle.cm_spec.specs.declared.limits.TheConstants.{MAX_EDGES, MAX_VERTICES}

odd_most : (q : ℕ) → q ≤ 223696214 → made_odd q ≤ 223696215
odd_most q few = go (cases_eq (q % 2) 0) where
  go : (q % 2 ≡ 0) ⊎ (q % 2 ≡ 0 → ⊥) → made_odd q ≤ 223696215
  go (inl even) = let is : eqb (q % 2) 0 ≡ true = eq-eqb _ _ even in rw is (omega arith)
  go (inr odd) = let is : eqb (q % 2) 0 ≡ false = ne_eqb _ _ odd in rw is (omega arith)

odd_least : (q : ℕ) → 1 ≤ made_odd q
odd_least q = go (cases_eq (q % 2) 0) where
  not_zero : (n : ℕ) → (n % 2 ≡ 0 → ⊥) → 1 ≤ n
  not_zero zero odd = absurd (odd refl)
  not_zero (suc n) odd = omega arith

  go : (q % 2 ≡ 0) ⊎ (q % 2 ≡ 0 → ⊥) → 1 ≤ made_odd q
  go (inl even) = let is : eqb (q % 2) 0 ≡ true = eq-eqb _ _ even in rw is (omega arith)
  go (inr odd) = let is : eqb (q % 2) 0 ≡ false = ne_eqb _ _ odd in rw is (not_zero q odd)

third_within : (q : ℕ) → q ≤ 223696214 → (1 ≤ third_of q) × (third_of q ≤ 223696215)
third_within q few = go (eqb (made_odd q) 1) where
  go : (b : Bool) → (1 ≤ cond {A = ℕ} b 3 (made_odd q)) × (cond {A = ℕ} b 3 (made_odd q) ≤ 223696215)
  go true = (omega arith, omega arith)
  go false = (odd_least q, odd_most q few)

quotient_few : (m c : ℕ) → IsCount m → IsRatio c → (c * m + 2999999) / 3000000 ≤ 223696214
quotient_few m c many ratio =
    let most : c * m ≤ 671088640000000 = go (products c m ratio.1 many.1) in
    let few : (c * m + 2999999) / 3000000 < 223696215 = div_below (c * m + 2999999) 3000000 223696215 (omega arith) (omega arith) in
    omega arith where
      go : {x : ℕ} → x ≤ 10000000 * MAX_EDGES → x ≤ 671088640000000
      go h = omega arith

      products : (a b : ℕ) → a ≤ 10000000 → b ≤ MAX_EDGES → a * b ≤ 10000000 * MAX_EDGES
      products a b l m = omega (arith, mul-le-mul_left a m, mul-le-mul_left MAX_EDGES l, mul_comm a MAX_EDGES)

-- a size is three thirds
pub record HasThirds (n : ℕ) : Type 0 where
  pub is : n ≡ 3 * (n / 3)
  pub some : 1 ≤ n / 3
  pub few : n / 3 ≤ 223696215

pub thirds : (m c n : ℕ) → IsCount m → IsRatio c → n ≡ bdz_size m c → HasThirds n
thirds m c n many ratio is =
    let q : ℕ = (c * m + 2999999) / 3000000 in
    let within = third_within q (quotient_few m c many ratio) in
    let third : n / 3 ≡ third_of q = ap (λ (x : ℕ). x / 3) is ∙ mul-div_cancel_left (third_of q) (omega arith) in
    record { is = is ∙ ap (λ (x : ℕ). 3 * x) (sym third); some = subst (λ (x : ℕ). 1 ≤ x) (sym third) within.0; few = subst (λ (x : ℕ). x ≤ 223696215) (sym third) within.1 }

-- and so three times a number
pub is_thirds : (m c n : ℕ) → IsCount m → IsRatio c → n ≡ bdz_size m c → IsThirds n
is_thirds m c n many ratio is = let t = thirds m c n many ratio is in record { third = n / 3; some = t.some; is = t.is }

-- there are no more vertices than a table may have cells
pub few_cells : (n m c : ℕ) → n ≡ bdz_size m c → IsCount m → IsRatio c → n ≤ MAX_VERTICES
few_cells n m c is many ratio = let t = thirds m c n many ratio is in omega (arith, t.is, t.few)

-- one end in each third
triple_is_edge : (r a b c : ℕ) → a < r → b < r → c < r → IsEdge (3 * r) (a ∷ (r + b) ∷ (2 * r + c) ∷ [])
triple_is_edge r a b c l k m = (in_triple, distinct) where
  in_triple : All (λ v. v < 3 * r) (a ∷ (r + b) ∷ (2 * r + c) ∷ [])
  in_triple zero d h = omega arith
  in_triple (suc zero) d h = omega arith
  in_triple (suc (suc zero)) d h = omega arith
  in_triple (suc (suc (suc i))) d h = absurd (omega arith)

  distinct : AllPairs (λ u v. u ≢ v) (a ∷ (r + b) ∷ (2 * r + c) ∷ [])
  distinct zero zero d i j e = absurd (omega arith)
  distinct zero (suc zero) d i j e = absurd (omega arith)
  distinct zero (suc (suc zero)) d i j e = absurd (omega arith)
  distinct zero (suc (suc (suc k))) d i j e = absurd (omega arith)
  distinct (suc zero) zero d i j e = absurd (omega arith)
  distinct (suc zero) (suc zero) d i j e = absurd (omega arith)
  distinct (suc zero) (suc (suc zero)) d i j e = absurd (omega arith)
  distinct (suc zero) (suc (suc (suc k))) d i j e = absurd (omega arith)
  distinct (suc (suc i)) j d h l e = absurd (omega arith)

pub bdz_ends : (w : List ℕ) (n : ℕ) → HasThirds n → (length (bdz_edge w n) ≡ 3) × IsEdge n (bdz_edge w n)
bdz_ends w n t =
    let a : slice_index w 0 % (n / 3) < n / 3 = mod_below _ _ (omega (arith, t.some)) in
    let b : slice_index w 1 % (n / 3) < n / 3 = mod_below _ _ (omega (arith, t.some)) in
    let c : slice_index w 2 % (n / 3) < n / 3 = mod_below _ _ (omega (arith, t.some)) in
    (refl, subst (λ (k : ℕ). IsEdge k (bdz_edge w n)) (sym t.is) (triple_is_edge (n / 3) _ _ _ a b c))

-- a rule of such edges whose cells are below a bound of at least 3; an untouched one counts as 0, modulo 3
abbrev pub triple_rule : ℕ → ℕ → Rule
triple_rule bound idle = record { size = bdz_size; edge = bdz_edge; tag = λ _. 0; modulus = λ _. 3; bound = λ _. bound; idle = idle; target = λ i p t. p }

is_rule : (bound idle : ℕ) → 3 ≤ bound → idle < bound → idle % 3 ≡ 0 → IsRule 3 (triple_rule bound idle)
is_rule bound idle high below none = record {
  two_or_three = (omega arith, omega arith);
  few = λ n s. let t = thirds s.keys s.ratio n s.many s.within s.is in omega (arith, t.is, t.few);
  ends = λ w n s. bdz_ends w n (thirds s.keys s.ratio n s.many s.within s.is);
  target_below = λ m i p t many l k. k;
  modulus_within = λ m many. high;
  idle_below = λ m many. below;
  idle_none = λ m many. none;
}

pub bdz_is_rule : IsRule 3 bdz_rule
bdz_is_rule = is_rule 4 3 (omega arith) (omega arith) refl

pub bdz_ph_is_rule : IsRule 3 bdz_ph_rule
bdz_ph_is_rule = is_rule 3 0 (omega arith) (omega arith) refl
