-- What it says that no item is lacking, and that there is no reason.
use Rattle.std.proofs.Common.{◌≡◌, ℕ, Bool, true, false, not, eqb, List, [], ◌∷◌, ◌++◌, map, sym, refl, ap, ◌∙◌, subst, inl, inr, Option, None, Some}
use Rattle.std.specs.List.{list_any}
use Rattle.std.specs.Option.{option_eq}
use Rattle.std.proofs.lemmas.Bool.{and_from, and_parts, eqb-true, eq-eqb, false≢true, or_cases, or_left, or_right}
use Rattle.cm_judge_verdict.specs.Verdicts.{first_reason, lacking, lowest, reason_if, same_edge, same_pair}
use Rattle.cm_judge_verdict.specs.declared.verdict.Reason.{Reason}
use Rattle.cm_judge_verdict.specs.declared.verdict.Verdict.TheVariants.{Holds}
use Rattle.cm_judge_verdict.specs.MemberLaws.{In, In-filter}
use Rattle.cm_witness_gather.specs.declared.certificate.CoreEdge.{CoreEdge}
use Rattle.cm_witness_gather.specs.declared.certificate.Pair.{Pair}

-- a test is true of equal things alone
pub record IsEquality {X : Type 0} (same : X → X → Bool) : Type 0 where
  pub to : (x y : X) → same x y ≡ true → x ≡ y
  pub itself : (x : X) → same x x ≡ true

pub number_equality : IsEquality eqb
number_equality = record { to = eqb-true; itself = λ x. eq-eqb x x refl }

third_to : (x y : Option ℕ) → option_eq eqb x y ≡ true → x ≡ y
third_to None None h = refl
third_to None (Some y) h = absurd (false≢true h)
third_to (Some x) None h = absurd (false≢true h)
third_to (Some x) (Some y) h = ap (λ z. Some z) (eqb-true x y h)

third_itself : (x : Option ℕ) → option_eq eqb x x ≡ true
third_itself None = refl
third_itself (Some x) = eq-eqb x x refl

pub option_equality : IsEquality (option_eq eqb)
option_equality = record { to = third_to; itself = third_itself }

pub edge_equality : IsEquality same_edge
edge_equality = record {
  to = λ x y h.
      let a = and_parts _ _ h in
      let b = and_parts _ _ a.1 in
      let c = and_parts _ _ b.1 in
      let line : x.line ≡ y.line = eqb-true _ _ a.0 in
      let first : x.first ≡ y.first = eqb-true _ _ b.0 in
      let second : x.second ≡ y.second = eqb-true _ _ c.0 in
      let third : x.third ≡ y.third = third_to _ _ c.1 in
      ap (λ z. let e : CoreEdge = record { line = z; first = x.first; second = x.second; third = x.third } in e) line
      ∙ (ap (λ z. let e : CoreEdge = record { line = y.line; first = z; second = x.second; third = x.third } in e) first
      ∙ (ap (λ z. let e : CoreEdge = record { line = y.line; first = y.first; second = z; third = x.third } in e) second
      ∙ ap (λ z. let e : CoreEdge = record { line = y.line; first = y.first; second = y.second; third = z } in e) third));
  itself = λ x. and_from _ _ (eq-eqb x.line x.line refl) (and_from _ _ (eq-eqb x.first x.first refl) (and_from _ _ (eq-eqb x.second x.second refl) (third_itself x.third)));
}

pub pair_equality : IsEquality same_pair
pair_equality = record {
  to = λ x y h.
      let a = and_parts _ _ h in
      let first : x.first ≡ y.first = eqb-true _ _ a.0 in
      let again : x.again ≡ y.again = eqb-true _ _ a.1 in
      ap (λ z. let p : Pair = record { first = z; again = x.again } in p) first
      ∙ ap (λ z. let p : Pair = record { first = y.first; again = z } in p) again;
  itself = λ x. and_from _ _ (eq-eqb x.first x.first refl) (eq-eqb x.again x.again refl);
}

pub any_in : {X : Type 0} (same : X → X → Bool) → IsEquality same → (ys : List X) (x : X) → list_any (same x) ys ≡ true → In ys x
any_in same eq [] x h = absurd (false≢true h)
any_in same eq (y ∷ ys) x h = elim (or_cases _ _ h) [ inl s ↦ inl (sym (eq.to x y s)) | inr m ↦ inr (any_in same eq ys x m) ]

pub in_any : {X : Type 0} (same : X → X → Bool) → IsEquality same → (ys : List X) (x : X) → In ys x → list_any (same x) ys ≡ true
in_any same eq [] x h = absurd h
in_any same eq (y ∷ ys) x (inl e) = or_left _ _ (subst (λ z. same x z ≡ true) (sym e) (eq.itself x))
in_any same eq (y ∷ ys) x (inr m) = or_right _ _ (in_any same eq ys x m)

pub no_member : {X : Type 0} (xs : List X) (x : X) → xs ≡ [] → In xs x → ⊥
no_member [] x e h = h
no_member (y ∷ ys) x e h = absurd (cc)

-- none is lacking: each item is one of the others
pub none_lacking : {X : Type 0} (same : X → X → Bool) → IsEquality same → (others items : List X) → ((x : X) → In items x → In others x) → lacking same others items ≡ []
none_lacking same eq others [] h = refl
none_lacking same eq others (y ∷ ys) h =
    let e : list_any (same y) others ≡ true = in_any same eq others y (h y (inl refl)) in
    rw e (none_lacking same eq others ys (λ x m. h x (inr m)))

pub all_there : {X : Type 0} (same : X → X → Bool) → IsEquality same → (others items : List X) → lacking same others items ≡ [] → (x : X) → In items x → In others x
all_there same eq others items none x m = go (list_any (same x) others) refl where
  go : (b : Bool) → list_any (same x) others ≡ b → In others x
  go true is = any_in same eq others x is
  go false is = absurd (no_member (lacking same others items) x none (In-filter _ items x m (ap not is)))

-- there is no reason if there is no number
pub lowest_none : (reason : ℕ → Reason) (ns : List ℕ) → lowest reason ns ≡ None → ns ≡ []
lowest_none reason [] h = refl
lowest_none reason (n ∷ ns) h = absurd (cc)

pub none_lowest : (reason : ℕ → Reason) (ns : List ℕ) → ns ≡ [] → lowest reason ns ≡ None
none_lowest reason ns e = ap (lowest reason) e

pub map_none : {X Y : Type 0} (f : X → Y) (xs : List X) → map f xs ≡ [] → xs ≡ []
map_none f [] h = refl
map_none f (x ∷ xs) h = absurd (cc)

pub append_none : {X : Type 0} (xs ys : List X) → xs ++ ys ≡ [] → (xs ≡ []) × (ys ≡ [])
append_none [] ys h = (refl, h)
append_none (x ∷ xs) ys h = absurd (cc)

pub if_none : (so : Bool) (reason : Reason) → reason_if so reason ≡ None → so ≡ false
if_none true reason h = absurd (cc)
if_none false reason h = refl

pub none_if : (so : Bool) (reason : Reason) → so ≡ false → reason_if so reason ≡ None
none_if so reason e = ap (λ b. reason_if b reason) e

-- a report holds if there is none of its reasons
pub first_holds : (r : Option Reason) (rs : List (Option Reason)) → first_reason (r ∷ rs) ≡ Holds → (r ≡ None) × (first_reason rs ≡ Holds)
first_holds None rs h = (refl, h)
first_holds (Some r) rs h = absurd (cc)

pub holds_first : (r : Option Reason) (rs : List (Option Reason)) → r ≡ None → first_reason rs ≡ Holds → first_reason (r ∷ rs) ≡ Holds
holds_first None rs e h = h
holds_first (Some r) rs e h = absurd (cc)
