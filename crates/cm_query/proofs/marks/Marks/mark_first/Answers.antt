use Rattle.std.proofs.Common.{◌≡◌, ◌∙◌, ◌++◌, ℕ, List, [], ◌∷◌, arith, ap, sym, subst}
use Rattle.std.proofs.lemmas.List.{drop_all}
use Rattle.cm_query.specs.Marks.{AreMarks, Marked}
use Rattle.cm_query.proofs.MarkLemmas.{first_reached, others_wait}
use Rattle.cm_query.proofs.marks.Marks.mark_first.Goals as goal
use Rattle.cm_query.proofs.marks.Marks.mark_first.Goals.{then-self-len, else-self-len}

pub returns-clause-marks : goal.returns-clause-marks
returns-clause-marks c = λ f reached k later are marks.
    let mid : AreMarks f reached (k ∷ later) c.if-self-len.self =
    elim c.if-self-len.branch [
      | then-self-len w ↦
          let none : c.args.self.now.repeated ≡ [] = sym (ap (λ (m : Marked). m.repeated) c.self.view_is) ∙ drop_all c.self.inside.next c.self.inside.repeated.items (omega (arith, w.if-self-len.true, c.len.ensures.value)) in
          subst (AreMarks f reached (k ∷ later)) (sym w.self-is) (w.mark_all.ensures.marks f reached (k ∷ later) are (others_wait f reached (k ∷ later) [] c.args.self.now none marks))
      | else-self-len w ↦ subst (AreMarks f reached (k ∷ later)) (sym w.self-is) marks
    ] in
    let both = first_reached f reached later k c.if-self-len.self c.take_first.result c.take_first.new.self.repeated c.take_first.ensures.first mid in
    (both.0, subst (λ (cells : List ℕ). AreMarks f (reached ++ k ∷ []) later (record { cells = cells; repeated = c.take_first.new.self.repeated })) (sym c.take_first.ensures.cells) both.1)
