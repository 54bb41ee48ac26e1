-- Keys that pass, and the edges of a report with their lines.
use Rattle.std.proofs.Common.{◌≡◌, ◌⊎◌, ℕ, suc, ◌+◌, ◌<◌, ◌≤◌, Bool, true, false, cond, eqb, ltb, not, List, [], ◌∷◌, ◌++◌, map, length, drop, take, get_or, get_or-drop, add-zero, append-nil, sym, refl, ap, ◌∙◌, subst, inl, inr, arith, Option, None, Some, Result, Ok, Err, IfErr, IsErrAnd}
use Rattle.std.specs.List.{Contains, filter, list_any}
use Rattle.std.proofs.lemmas.Bool.{cases_eq, cases_lt, eq-eqb, false≢true, le-ltb, ne_eqb}
use Rattle.std.proofs.lemmas.List.{drop_all, get_or_default, map-append, take_more}
use Rattle.std.proofs.lemmas.List.Elements.{filter-append}
use Rattle.cm_judge_verdict.specs.Judged.{edge_over, with_lines_of}
use Rattle.cm_judge_verdict.specs.Rising.{RisesBy}
use Rattle.cm_judge_verdict.specs.LackingLaws.{all_there, any_in, edge_equality, in_any, number_equality}
use Rattle.cm_judge_verdict.specs.MemberLaws.{Comes, In, In-append_cases, In-filter, In-filter_back, In-get_or, In-map, In-map_back, RisesBy-filter, later_at, rising_equal}
use Rattle.cm_judge_core.proofs.Merging.{keeps_same, not_in}
use Rattle.cm_judge_verdict.specs.Verdicts.{least, lines_lacking, lines_other, lines_unknown, same_edge}
use Rattle.cm_io.specs.Passes.{Told}
use Rattle.cm_judge_core.specs.Walks.{HasLessBefore, has_line, hashed_if_listed}
use Rattle.cm_judge_core.specs.declared.walking.Sizes.{Sizes}
use Rattle.std.specs.Option.{ForSome}
use Rattle.cm_spec.specs.Lookup2.{words}
use Rattle.cm_spec.specs.Rule.{Rule}
use Rattle.cm_witness_gather.specs.Cores.{core_edge}
use Rattle.cm_witness_gather.specs.declared.certificate.CoreEdge.{CoreEdge}

pub handed_on : {T E : Type 0} (result : Result T E) (fault : E) (F : E → Type 0) → IsErrAnd result (λ e. e ≡ fault) → F fault → IfErr result F
handed_on (Ok x) fault F is holds = absurd is
handed_on (Err e) fault F is holds = subst F (sym is) holds

-- the key that a pass gives at a place
pub given_at : (keys later : List (ℕ × List ℕ)) (e line : ℕ) (key : List ℕ) → drop e keys ≡ (line, key) ∷ later → get_or keys e (0, []) ≡ (line, key)
given_at keys later e line key is =
    ap (λ (i : ℕ). get_or keys i (0, [])) (sym (add-zero e))
    ∙ sym (get_or-drop e keys 0 (0, []))
    ∙ ap (λ (l : List (ℕ × List ℕ)). get_or l 0 (0, [])) is

pub given_within : (keys later : List (ℕ × List ℕ)) (e line : ℕ) (key : List ℕ) → drop e keys ≡ (line, key) ∷ later → e < length keys
given_within keys later e line key is = go (cases_lt e (length keys)) where
  go : (e < length keys) ⊎ (length keys ≤ e) → e < length keys
  go (inl less) = less
  go (inr more) =
      let none : length (drop e keys) ≡ 0 = ap length (drop_all e keys more) in
      let some : length (drop e keys) ≡ suc (length later) = ap length is in
      absurd (omega arith)

-- where an item stands
pub Contains-from_In : {X : Type 0} (xs : List X) (x : X) → In xs x → Contains xs x
Contains-from_In [] x m = absurd m
Contains-from_In (y ∷ ys) x (inl e) = (0, omega arith, e)
Contains-from_In (y ∷ ys) x (inr m) = let r = Contains-from_In ys x m in (suc r.0, omega (arith, r.1), r.2)

-- whether one of some edges has a line, by the first place whose edge has at least this line
pub line_found : (edges : List CoreEdge) (i line : ℕ) (d : CoreEdge) → i < length edges → (get_or edges i d).line ≡ line → has_line edges line ≡ true
line_found edges i line d h is = in_any eqb number_equality (map (λ (x : CoreEdge). x.line) edges) line (subst (In (map (λ (x : CoreEdge). x.line) edges)) is (In-map (λ (x : CoreEdge). x.line) edges (get_or edges i d) (In-get_or edges i d h)))

pub line_not_found : (edges : List CoreEdge) (i line : ℕ) → RisesBy (λ e. e.line) 0 edges → ((k : ℕ) (d : CoreEdge) → k < i → (get_or edges k d).line < line) → (length edges ≤ i) ⊎ ((d : CoreEdge) → line < (get_or edges i d).line) → has_line edges line ≡ false
line_not_found edges i line rise below above = not_in eqb number_equality line (map (λ (x : CoreEdge). x.line) edges) (λ m.
    let c : Comes (λ (x : CoreEdge). x.line) edges line = In-map_back (λ (x : CoreEdge). x.line) edges line m in
    let at = Contains-from_In edges c.from c.member in
    let is : (get_or edges at.0 c.from).line ≡ line = ap (λ (x : CoreEdge). x.line) at.2 ∙ c.is in
    elsewhere at.0 c.from at.1 is (cases_lt at.0 i) above)
  where
    elsewhere : (k : ℕ) (d : CoreEdge) → k < length edges → (get_or edges k d).line ≡ line → (k < i) ⊎ (i ≤ k) → (length edges ≤ i) ⊎ ((d : CoreEdge) → line < (get_or edges i d).line) → ⊥
    elsewhere k d h is (inl less) a = let g : (get_or edges k d).line < line = below k d less in omega arith
    elsewhere k d h is (inr more) (inl none) = omega arith
    elsewhere k d h is (inr more) (inr over) = go (cases_eq i k) where
      go : (i ≡ k) ⊎ (i ≡ k → ⊥) → ⊥
      go (inl e) =
          let g : line < (get_or edges i d).line = over d in
          let f : (get_or edges i d).line ≡ (get_or edges k d).line = ap (λ (n : ℕ). (get_or edges n d).line) e in
          omega arith
      go (inr ne) =
          let g : line < (get_or edges i d).line = over d in
          let f : (get_or edges i d).line < (get_or edges k d).line = later_at (λ (x : CoreEdge). x.line) 0 edges i k d rise (omega arith) h in
          omega arith

-- what is seen at that place, after the edges that were before it and those that were skipped
pub skipped : (edges : List CoreEdge) (from place line : ℕ) → HasLessBefore edges line from → ((k : ℕ) (d : CoreEdge) → from ≤ k → k < place → (get_or edges k d).line < line) → (k : ℕ) (d : CoreEdge) → k < place → (get_or edges k d).line < line
skipped edges from place line before after k d h = go (cases_lt k from) where
  go : (k < from) ⊎ (from ≤ k) → (get_or edges k d).line < line
  go (inl early) = before.below k d early
  go (inr late) = after k d late h

pub line_there : (edges : List CoreEdge) (i line : ℕ) (d : CoreEdge) → RisesBy (λ e. e.line) 0 edges → ((k : ℕ) (d : CoreEdge) → k < i → (get_or edges k d).line < line) → i < length edges → ((d : CoreEdge) → i < length edges → line ≤ (get_or edges i d).line) → eqb (get_or edges i d).line line ≡ has_line edges line
line_there edges i line d rise below within above = go (cases_eq (get_or edges i d).line line) where
  more : ((get_or edges i d).line ≡ line → ⊥) → (e : CoreEdge) → line < (get_or edges i e).line
  more ne e = let same : (get_or edges i d).line ≡ (get_or edges i e).line = ap (λ (x : CoreEdge). x.line) (get_or_default edges i d e within) in omega (arith, above e within)

  go : ((get_or edges i d).line ≡ line) ⊎ ((get_or edges i d).line ≡ line → ⊥) → eqb (get_or edges i d).line line ≡ has_line edges line
  go (inl e) = eq-eqb _ _ e ∙ sym (line_found edges i line d within e)
  go (inr ne) = ne_eqb _ _ ne ∙ sym (line_not_found edges i line rise below (inr (more ne)))

pub line_nowhere : (edges : List CoreEdge) (i line : ℕ) → RisesBy (λ e. e.line) 0 edges → ((k : ℕ) (d : CoreEdge) → k < i → (get_or edges k d).line < line) → length edges ≤ i → ltb i (length edges) ≡ has_line edges line
line_nowhere edges i line rise below none = le-ltb i (length edges) none ∙ sym (line_not_found edges i line rise below (inl none))

-- the hash values of a key whose line was looked for
pub hashed_found : (edges : List CoreEdge) (seed line : ℕ) (key hashed : List ℕ) → has_line edges line ≡ true → hashed ≡ words key seed → Some hashed ≡ hashed_if_listed edges seed line key
hashed_found edges seed line key hashed is e = ap (λ w. Some w) e ∙ ap (λ (b : Bool). cond b (Some (words key seed)) None) (sym is)

pub hashed_not_found : (edges : List CoreEdge) (seed line : ℕ) (key : List ℕ) → has_line edges line ≡ false → None ≡ hashed_if_listed edges seed line key
hashed_not_found edges seed line key is = ap (λ (b : Bool). cond b (Some (words key seed)) None) (sym is)

-- the edges of one key more
pub own_more : (edges : List CoreEdge) (r : Rule) (n seed : ℕ) (keys : List (ℕ × List ℕ)) (line : ℕ) (key : List ℕ) (found : Bool) → has_line edges line ≡ found
    → with_lines_of edges (map (edge_over r n seed) (keys ++ (line, key) ∷ [])) ≡ with_lines_of edges (map (edge_over r n seed) keys) ++ cond found (edge_over r n seed (line, key) ∷ []) []
own_more edges r n seed keys line key found has =
    let f : ℕ × List ℕ → CoreEdge = edge_over r n seed in
    let p : CoreEdge → Bool = λ e. has_line edges e.line in
    ap (filter p) (map-append f keys ((line, key) ∷ []))
    ∙ (filter-append p (map f keys) (f (line, key) ∷ [])
    ∙ ap (λ (b : Bool). filter p (map f keys) ++ cond b (f (line, key) ∷ []) []) has)

listed : (b : Bool) (hashed found : List ℕ) → Some hashed ≡ cond b (Some found) None → (b ≡ true) × (hashed ≡ found)
listed true hashed found e = (refl, cc)
listed false hashed found e = absurd (cc)

unlisted : (b : Bool) (found : List ℕ) → None ≡ cond b (Some found) None → b ≡ false
unlisted true found e = absurd (cc)
unlisted false found e = refl

-- one of the edges has the line of the key
pub own_found : (edges : List CoreEdge) (r : Rule) (n seed : ℕ) (keys : List (ℕ × List ℕ)) (line : ℕ) (key hashed ends : List ℕ) (edge : CoreEdge) (own own' : List CoreEdge)
    → Some hashed ≡ hashed_if_listed edges seed line key → ends ≡ r.edge hashed n → edge ≡ core_edge (line, key) ends
    → own ≡ with_lines_of edges (map (edge_over r n seed) keys) → own' ≡ own ++ edge ∷ []
    → own' ≡ with_lines_of edges (map (edge_over r n seed) (keys ++ (line, key) ∷ []))
own_found edges r n seed keys line key hashed ends edge own own' h e made before more =
    let found = listed (has_line edges line) hashed (words key seed) h in
    let same : edge ≡ edge_over r n seed (line, key) = made ∙ ap (core_edge (line, key)) (e ∙ ap (λ (w : List ℕ). r.edge w n) found.1) in
    more
    ∙ (ap (λ (xs : List CoreEdge). xs ++ edge ∷ []) before
    ∙ (ap (λ (x : CoreEdge). with_lines_of edges (map (edge_over r n seed) keys) ++ x ∷ []) same
    ∙ sym (own_more edges r n seed keys line key true found.0)))

-- none has
pub own_not_found : (edges : List CoreEdge) (r : Rule) (n seed : ℕ) (keys : List (ℕ × List ℕ)) (line : ℕ) (key : List ℕ) (own own' : List CoreEdge)
    → None ≡ hashed_if_listed edges seed line key → own ≡ with_lines_of edges (map (edge_over r n seed) keys) → own' ≡ own
    → own' ≡ with_lines_of edges (map (edge_over r n seed) (keys ++ (line, key) ∷ []))
own_not_found edges r n seed keys line key own own' h before same =
    same ∙ (before ∙ (sym (append-nil _) ∙ sym (own_more edges r n seed keys line key false (unlisted (has_line edges line) (words key seed) h))))

-- edges with lines below one have lines below a later one
pub less_before : (edges : List CoreEdge) (line later place : ℕ) → line ≤ later → HasLessBefore edges line place → HasLessBefore edges later place
less_before edges line later place more h = record { within = h.within; below = λ k d i. let b : (get_or edges k d).line < line = h.below k d i in omega arith }

-- what the keys' own edges say of a report
same_any : (l : ℕ) (xs ys : List ℕ) → (In xs l → In ys l) → (In ys l → In xs l) → list_any (eqb l) xs ≡ list_any (eqb l) ys
same_any l xs ys to from = go (list_any (eqb l) xs) refl where
  go : (b : Bool) → list_any (eqb l) xs ≡ b → list_any (eqb l) xs ≡ list_any (eqb l) ys
  go true is = is ∙ sym (in_any eqb number_equality ys l (to (any_in eqb number_equality xs l is)))
  go false is = is ∙ sym (not_in eqb number_equality l ys (λ m. false≢true (sym is ∙ in_any eqb number_equality xs l (from m))))

same_edge_any : (x : CoreEdge) (xs ys : List CoreEdge) → (In xs x → In ys x) → (In ys x → In xs x) → list_any (same_edge x) xs ≡ list_any (same_edge x) ys
same_edge_any x xs ys to from = go (list_any (same_edge x) xs) refl where
  go : (b : Bool) → list_any (same_edge x) xs ≡ b → list_any (same_edge x) xs ≡ list_any (same_edge x) ys
  go true is = is ∙ sym (in_any same_edge edge_equality ys x (to (any_in same_edge edge_equality xs x is)))
  go false is = is ∙ sym (not_in same_edge edge_equality x ys (λ m. false≢true (sym is ∙ in_any same_edge edge_equality xs x (from m))))

-- an edge of the keys whose line the report has is one of their own
own_in : (edges all : List CoreEdge) (x : CoreEdge) → In all x → In (map (λ e. e.line) edges) x.line → In (with_lines_of edges all) x
own_in edges all x m l = In-filter (λ e. has_line edges e.line) all x m (in_any eqb number_equality (map (λ (e : CoreEdge). e.line) edges) x.line l)

-- the lines that no key has are those that the own edges lack
pub unknown_is : (edges : List CoreEdge) (keys : List (ℕ × List ℕ)) (r : Rule) (n seed : ℕ) → lines_lacking (with_lines_of edges (map (edge_over r n seed) keys)) edges ≡ lines_unknown keys edges
unknown_is edges keys r n seed =
    let g : ℕ × List ℕ → CoreEdge = edge_over r n seed in
    let own : List CoreEdge = with_lines_of edges (map g keys) in
    keeps_same _ _ (map (λ (e : CoreEdge). e.line) edges) (λ l m. ap not (same_any l (map (λ (e : CoreEdge). e.line) own) (map (λ (k : ℕ × List ℕ). k.0) keys)
    (λ a.
    let c : Comes (λ (e : CoreEdge). e.line) own l = In-map_back (λ (e : CoreEdge). e.line) own l a in
    let d : Comes g keys c.from = In-map_back g keys c.from (In-filter_back (λ e. has_line edges e.line) (map g keys) c.from c.member).0 in
    let is : d.from.0 ≡ l = ap (λ (e : CoreEdge). e.line) d.is ∙ c.is in
    subst (In (map (λ (k : ℕ × List ℕ). k.0) keys)) is (In-map (λ (k : ℕ × List ℕ). k.0) keys d.from d.member))
    (λ a.
    let c : Comes (λ (k : ℕ × List ℕ). k.0) keys l = In-map_back (λ (k : ℕ × List ℕ). k.0) keys l a in
    let x : CoreEdge = g c.from in
    let line : In (map (λ (e : CoreEdge). e.line) edges) x.line = subst (In (map (λ (e : CoreEdge). e.line) edges)) (sym c.is) m in
    subst (In (map (λ (e : CoreEdge). e.line) own)) c.is (In-map (λ (e : CoreEdge). e.line) own x (own_in edges (map g keys) x (In-map g keys c.from c.member) line)))))

-- the edges of the report that are none of the keys' are those that are none of their own
pub other_is : (edges all : List CoreEdge) → lines_other (with_lines_of edges all) edges ≡ lines_other all edges
other_is edges all = ap (map (λ (e : CoreEdge). e.line)) (keeps_same _ _ edges (λ x m. ap not (same_edge_any x (with_lines_of edges all) all
    (λ a. (In-filter_back (λ e. has_line edges e.line) all x a).0)
    (λ a. own_in edges all x a (In-map (λ (e : CoreEdge). e.line) edges x m)))))

lines_rise_in : (low : ℕ) (es : List CoreEdge) → RisesBy (λ e. e.line) low es → RisesBy (λ x. x) low (map (λ e. e.line) es)
lines_rise_in low [] r = tt
lines_rise_in low (e ∷ es) r = (r.0, lines_rise_in (suc e.line) es r.1)

pub no_least : (ns : List ℕ) → least ns ≡ None → ns ≡ []
no_least [] h = refl
no_least (n ∷ ns) h = absurd (cc)

-- if no line is unknown, the own edges have the same lines
pub lines_same : (edges all : List CoreEdge) → RisesBy (λ e. e.line) 0 edges → RisesBy (λ e. e.line) 0 all → least (lines_lacking (with_lines_of edges all) edges) ≡ None → map (λ e. e.line) (with_lines_of edges all) ≡ map (λ e. e.line) edges
lines_same edges all r s none =
    let own : List CoreEdge = with_lines_of edges all in
    rising_equal (λ x. x) 0 0 (map (λ (e : CoreEdge). e.line) own) (map (λ (e : CoreEdge). e.line) edges) (lines_rise_in 0 own (RisesBy-filter (λ (e : CoreEdge). e.line) _ 0 all s)) (lines_rise_in 0 edges r)
    (λ l m.
    let c : Comes (λ (e : CoreEdge). e.line) own l = In-map_back (λ (e : CoreEdge). e.line) own l m in
    subst (In (map (λ (e : CoreEdge). e.line) edges)) c.is (any_in eqb number_equality (map (λ (e : CoreEdge). e.line) edges) c.from.line (In-filter_back (λ e. has_line edges e.line) all c.from c.member).1))
    (all_there eqb number_equality (map (λ (e : CoreEdge). e.line) own) (map (λ (e : CoreEdge). e.line) edges) (no_least (lines_lacking own edges) none))

-- keys whose lines rise up to this one
pub record RisesUpTo (last : ℕ) (keys : List (ℕ × List ℕ)) : Type 0 where
  pub rise : RisesBy (λ k. k.0) 0 keys
  pub most : (k : ℕ × List ℕ) → In keys k → k.0 ≤ last

pub rises_none : (last : ℕ) → RisesUpTo last []
rises_none last = record { rise = tt; most = λ k m. absurd m }

rises_push : (low : ℕ) (keys : List (ℕ × List ℕ)) (k : ℕ × List ℕ) → RisesBy (λ k. k.0) low keys → low ≤ k.0 → ((x : ℕ × List ℕ) → In keys x → x.0 < k.0) → RisesBy (λ k. k.0) low (keys ++ k ∷ [])
rises_push low [] k r h below = (h, tt)
rises_push low (x ∷ xs) k r h below = (r.0, rises_push (suc x.0) xs k r.1 (omega (arith, below x (inl refl))) (λ y m. below y (inr m)))

pub rises_more : (last now line : ℕ) (keys : List (ℕ × List ℕ)) (key : List ℕ) → last < line → now ≡ line → RisesUpTo last keys → RisesUpTo now (keys ++ (line, key) ∷ [])
rises_more last now line keys key less at before = record {
  rise = rises_push 0 keys (line, key) before.rise (omega arith) (λ x m. let h : x.0 ≤ last = before.most x m in omega arith);
  most = λ k m. among k (In-append_cases keys ((line, key) ∷ []) k m);
}
  where
    among : (k : ℕ × List ℕ) → In keys k ⊎ In ((line, key) ∷ []) k → k.0 ≤ now
    among k (inl m) = let h : k.0 ≤ last = before.most k m in omega arith
    among k (inr (inl e)) = let h : line ≡ k.0 = ap (λ (x : ℕ × List ℕ). x.0) e in omega arith
    among k (inr (inr m)) = absurd m

pub take_given : (keys later passed : List (ℕ × List ℕ)) (count line : ℕ) (key : List ℕ) → drop count keys ≡ (line, key) ∷ later → passed ≡ take count keys → passed ++ (line, key) ∷ [] ≡ take (count + 1) keys
take_given keys later passed count line key is before =
    ap (λ (ks : List (ℕ × List ℕ)). ks ++ (line, key) ∷ []) before
    ∙ sym (take_more keys count (0, []) (given_within keys later count line key is) ∙ ap (λ k. take count keys ++ k ∷ []) (given_at keys later count line key is))

-- the keys that have passed, and the own edges of these
pub record AreTaken (told : Option Told) (r : Rule) (sizes : Sizes) (count last : ℕ) (edges own : List CoreEdge) : Type 0 where
  pub keys : List (ℕ × List ℕ)
  pub many : length keys ≡ count
  pub rise : RisesUpTo last keys
  pub own_are : own ≡ with_lines_of edges (map (edge_over r sizes.vertices sizes.seed) keys)
  pub known : ForSome told (λ t. keys ≡ take count t.keys)
