-- Marks of the answers of keys that come one by one.
use Rattle.std.proofs.Common.{◌≡◌, ◌≢◌, ◌∙◌, ℕ, ◌+◌, ◌<◌, ◌||◌, List, [], ◌∷◌, ◌++◌, length, replicate, set, take, get_or, append_assoc, length-append, subst, Option, None, Some, Bool, true, false, refl, ap, sym, arith}
use Rattle.std.specs.Prelude.{◌==◌, IfSome}
use Rattle.std.proofs.lemmas.Bool.{eq-eqb, eqb-true, false≢true}
use Rattle.std.proofs.lemmas.List.{take_all, take_more, get_or-replicate, get_or-set_other, get_or-set_same, length-replicate}
use Rattle.std.proofs.lemmas.List.Folds.{list_any-append}
use Rattle.std.proofs.Math.ListN.{length-set}
use Rattle.cm_query.specs.Marks.{AreMarks, Marked, is_marked, marked}
use Rattle.cm_query.specs.Repeats.{is_number, is_repeated, repeats_after}
use Rattle.cm_query_batch.specs.EarlierLaws.{with_earlier-more}

-- the cells are those of the answers of these keys
abbrev CellsOf : (List ℕ → Option ℕ) → List (ℕ × List ℕ) → List ℕ → Type 0
CellsOf f keys cells = (v : ℕ) → v < length cells → is_marked cells (Some v) ≡ is_repeated f keys (Some v)

is_marked-same : (f : List ℕ → Option ℕ) (keys : List (ℕ × List ℕ)) (cells : List ℕ) (a : Option ℕ) → CellsOf f keys cells → IfSome a (λ v. v < length cells) → is_marked cells a ≡ is_repeated f keys a
is_marked-same f keys cells None are inside = refl
is_marked-same f keys cells (Some v) are inside = are v inside

or_false : (t : Bool) → (t || (false || false)) ≡ t
or_false true = refl
or_false false = refl

or_true : (t : Bool) → (t || (true || false)) ≡ true
or_true true = refl
or_true false = refl

mark_set : (marks : List ℕ) (v w : ℕ) (b t : Bool) → (v == w) ≡ t → v < length marks → is_marked marks (Some w) ≡ b → is_marked (set marks v 1) (Some w) ≡ (b || (t || false))
mark_set marks v w b true is inside old =
    sym (ap (λ (k : ℕ). is_marked (set marks v 1) (Some k)) (eqb-true v w is)) ∙ ap (λ (x : ℕ). x == 1) (get_or-set_same marks v 1 0 inside) ∙ sym (or_true b)
mark_set marks v w b false is inside old =
    let ne : w ≢ v = λ e. false≢true (sym is ∙ eq-eqb v w (sym e)) in ap (λ (x : ℕ). x == 1) (get_or-set_other marks v w 1 0 ne) ∙ old ∙ sym (or_false b)

repeated-more : (f : List ℕ → Option ℕ) (keys : List (ℕ × List ℕ)) (k : ℕ × List ℕ) (a : Option ℕ) (w : ℕ) → f k.1 ≡ a → (is_repeated f keys (Some w) || (is_number w a || false)) ≡ is_repeated f (keys ++ k ∷ []) (Some w)
repeated-more f keys k a w is =
    ap (λ (o : Option ℕ). is_repeated f keys (Some w) || (is_number w o || false)) (sym is) ∙ sym (list_any-append (λ (k : ℕ × List ℕ). is_number w (f k.1)) keys (k ∷ []))

cells_more : (f : List ℕ → Option ℕ) (keys : List (ℕ × List ℕ)) (cells : List ℕ) (k : ℕ × List ℕ) (a : Option ℕ) → f k.1 ≡ a → CellsOf f keys cells → IfSome a (λ v. v < length cells) → CellsOf f (keys ++ k ∷ []) (marked cells a)
cells_more f keys cells k None is are inside w within = are w within ∙ sym (or_false (is_repeated f keys (Some w))) ∙ repeated-more f keys k None w is
cells_more f keys cells k (Some v) is are inside w within =
    mark_set cells v w (is_repeated f keys (Some w)) (v == w) refl inside (are w (omega (arith, within, length-set cells v 1))) ∙ repeated-more f keys k (Some v) w is

pub length-marked : (cells : List ℕ) (a : Option ℕ) → length (marked cells a) ≡ length cells
length-marked cells None = refl
length-marked cells (Some v) = length-set cells v 1

-- no key was reached, and none is marked
pub none_marked : (f : List ℕ → Option ℕ) (waiting : List (ℕ × List ℕ)) (n : ℕ) (m : Marked) → m.cells ≡ replicate n 0 → m.repeated ≡ [] → AreMarks f [] waiting m
none_marked f waiting n m is none =
    let no_flags : take (length m.repeated) waiting ≡ [] = ap (λ (l : List Bool). take (length l) waiting) none in
    record {
      cells = λ v within.
          let here : v < n = omega (arith, within, ap length is, length-replicate {A = ℕ} n 0) in
          ap (λ (l : List ℕ). is_marked l (Some v)) is ∙ ap (λ (x : ℕ). x == 1) (get_or-replicate n v 0 0 here) ∙ sym (ap (λ (l : List (ℕ × List ℕ)). is_repeated f l (Some v)) no_flags);
      repeated = none ∙ sym (ap (repeats_after f []) no_flags);
    }

-- If none of those that wait is marked, others may wait.
pub others_wait : (f : List ℕ → Option ℕ) (reached old new : List (ℕ × List ℕ)) (m : Marked) → m.repeated ≡ [] → AreMarks f reached old m → AreMarks f reached new m
others_wait f reached old new m none are =
    let same : take (length m.repeated) old ≡ take (length m.repeated) new = ap (λ (l : List Bool). take (length l) old) none ∙ sym (ap (λ (l : List Bool). take (length l) new) none) in
    record {
      cells = λ v within. are.cells v within ∙ ap (λ (l : List (ℕ × List ℕ)). is_repeated f (reached ++ l) (Some v)) same;
      repeated = are.repeated ∙ ap (repeats_after f reached) same;
    }

-- Other keys wait, if none waited.
pub next_wait : (f : List ℕ → Option ℕ) (reached old new : List (ℕ × List ℕ)) (m : Marked) → (0 < length old → new ≡ old) → AreMarks f reached old m → AreMarks f reached new m
next_wait f reached [] new m same are = others_wait f reached [] new m (are.repeated ∙ ap (repeats_after f reached) (take_all (length m.repeated) [] (omega arith))) are
next_wait f reached (k ∷ old) new m same are = subst (λ (l : List (ℕ × List ℕ)). AreMarks f reached l m) (sym (same (omega arith))) are

-- one more of the keys that wait is marked
pub marks_more : (f : List ℕ → Option ℕ) (reached waiting : List (ℕ × List ℕ)) (m m' : Marked) (a : Option ℕ) (i : ℕ) → length m.repeated ≡ i → i < length waiting → ((d : ℕ × List ℕ) → f (get_or waiting i d).1 ≡ a)
    → IfSome a (λ v. v < length m.cells) → m'.cells ≡ marked m.cells a → m'.repeated ≡ m.repeated ++ is_marked m.cells a ∷ [] → AreMarks f reached waiting m → AreMarks f reached waiting m'
marks_more f reached waiting m m' a i long there answer inside set flagged are =
    let none : ℕ × List ℕ = (0, []) in
    let k = get_or waiting i none in
    let before = take (length m.repeated) waiting in
    let one_more : take (length m'.repeated) waiting ≡ before ++ k ∷ [] =
    ap (λ (n : ℕ). take n waiting) (let n : length m'.repeated ≡ i + 1 = omega (arith, long, ap length flagged, length-append m.repeated (is_marked m.cells a ∷ [])) in n)
    ∙ take_more waiting i none there ∙ ap (λ (n : ℕ). take n waiting ++ k ∷ []) (sym long) in
    let all : reached ++ take (length m'.repeated) waiting ≡ (reached ++ before) ++ k ∷ [] = ap (λ (l : List (ℕ × List ℕ)). reached ++ l) one_more ∙ sym (append_assoc reached before (k ∷ [])) in
    let seen : is_marked m.cells a ≡ is_repeated f (reached ++ before) (f k.1) = is_marked-same f (reached ++ before) m.cells a are.cells inside ∙ ap (is_repeated f (reached ++ before)) (sym (answer none)) in
    record {
      cells = subst (λ (l : List (ℕ × List ℕ)). CellsOf f l m'.cells) (sym all) (subst (CellsOf f ((reached ++ before) ++ k ∷ [])) (sym set) (cells_more f (reached ++ before) m.cells k a (answer none) are.cells inside));
      repeated =
          flagged ∙ ap (λ (l : List Bool). l ++ is_marked m.cells a ∷ []) are.repeated ∙ ap (λ (b : Bool). repeats_after f reached before ++ b ∷ []) seen
          ∙ sym (ap (repeats_after f reached) one_more ∙ with_earlier-more (λ earlier k. is_repeated f earlier (f k.1)) reached before k);
    }

-- the first of the keys that wait is reached
pub first_reached : (f : List ℕ → Option ℕ) (reached later : List (ℕ × List ℕ)) (k : ℕ × List ℕ) (m : Marked) (b : Bool) (rest : List Bool) → m.repeated ≡ b ∷ rest → AreMarks f reached (k ∷ later) m
    → (b ≡ is_repeated f reached (f k.1)) × AreMarks f (reached ++ k ∷ []) later (record { cells = m.cells; repeated = rest })
first_reached f reached later k m b rest flags are =
    let before = take (length rest) later in
    let ahead : take (length m.repeated) (k ∷ later) ≡ k ∷ before = ap (λ (l : List Bool). take (length l) (k ∷ later)) flags in
    let both : b ∷ rest ≡ is_repeated f reached (f k.1) ∷ repeats_after f (reached ++ k ∷ []) before = sym flags ∙ are.repeated ∙ ap (repeats_after f reached) ahead in
    let all : reached ++ take (length m.repeated) (k ∷ later) ≡ (reached ++ k ∷ []) ++ before = ap (λ (l : List (ℕ × List ℕ)). reached ++ l) ahead ∙ sym (append_assoc reached (k ∷ []) before) in
    (cc, record { cells = subst (λ (l : List (ℕ × List ℕ)). CellsOf f l m.cells) all are.cells; repeated = cc })
