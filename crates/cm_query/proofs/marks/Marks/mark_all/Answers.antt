use Rattle.std.proofs.Common.{rules, ◌≡◌, ◌∙◌, ◌<◌, ℕ, List, Option, None, length, drop, get_or, ap, arith, sym, subst}
use Rattle.std.specs.Prelude.{IfSome}
use Rattle.std.proofs.lemmas.List.{get_or-map, length-map}
use Rattle.cm_bits.specs.Held.{packed_cells}
use Rattle.cm_query.specs.Marks.{AreMarks, Marked}
use Rattle.cm_query.proofs.MarkLemmas.{length-marked, marks_more}
use Rattle.cm_query.proofs.marks.Marks.mark_all.Goals as goal

pub loop-i-preserved : goal.loop-i-preserved
loop-i-preserved c =
    let inv = c.loop-i.invariant in
    let i = c.loop-i.i in
    let a = get_or c.args.answers.now i None in
    let cells = packed_cells 2 8 c.loop-i.self-inside.cells.n c.loop-i.self-inside.cells.bytes.items in
    let there : i < length c.args.answers.now = omega (arith, c.loop-i-test.true) in
    let inside : IfSome a (λ v. v < length cells) = subst (λ (n : ℕ). IfSome a (λ v. v < n)) (sym inv.size) (c.requires.inside i None there) in
    record {
      start = inv.start;
      long = search rules;
      size = ap length c.mark-repeated.ensures.marked ∙ length-marked cells a ∙ inv.size;
      marks = λ f reached waiting are marks.
          let g = λ (k : ℕ × List ℕ). f k.1 in
          let among : i < length waiting = omega (arith, there, ap length are, length-map waiting g) in
          let answer : (d : ℕ × List ℕ) → f (get_or waiting i d).1 ≡ a = λ d. sym (ap (λ (l : List (Option ℕ)). get_or l i None) are ∙ get_or-map g waiting i d None among) in
          marks_more f reached waiting (record { cells = cells; repeated = c.loop-i.self-inside.repeated.items }) _ a i inv.long among answer inside c.mark-repeated.ensures.marked (search rules) (inv.marks f reached waiting are marks);
    }

pub returns-clause-marks : goal.returns-clause-marks
returns-clause-marks c = λ f reached waiting are marks.
    let inv = c.loop-i.invariant in
    let here = c.loop-i.self-inside in
    let m = λ (n : ℕ). let m : Marked = record { cells = packed_cells 2 8 here.cells.n here.cells.bytes.items; repeated = drop n here.repeated.items } in m in
    subst (λ (n : ℕ). AreMarks f reached waiting (m n)) (sym inv.start) (inv.marks f reached waiting are marks)
