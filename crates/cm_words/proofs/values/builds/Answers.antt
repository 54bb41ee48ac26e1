use Rattle.std.proofs.Common.{◌≡◌, ◌∙◌, Bool, Option, None, Some, ap, codes, is_none, is_some, sym, true, false}
use Rattle.std.specs.Prelude.{not, option_map}
use Rattle.clap.specs.Words.{first_of, found_of, rows_of}
use Rattle.cm_words_arguments.specs.Options.{is_set}
use Rattle.cm_words.proofs.values.builds.Goals as goal
use Rattle.cm_words.proofs.values.builds.Goals.{then-flag, else-flag}

none_of : {A B : Type 0} (f : A → B) {found : Option B} (given : Option A) (none : Bool) → is_some given ≡ not none → option_map f given ≡ found → none ≡ is_none found
none_of f None true is same = ap is_none same
none_of f None false is same = absurd (cc)
none_of f (Some a) true is same = absurd (cc)
none_of f (Some a) false is same = ap is_none same

pub returns-then-is_none : goal.returns-then-is_none
returns-then-is_none c =
    let rows = rows_of (found_of c.args.matches.now) in
    elim c.if-flag.branch [
      | then-flag w ↦
          let set : is_set (codes "generate") rows ≡ true = sym c.flag.ensures ∙ w.if-flag.true in
          let none : is_none (first_of (codes "test") rows) ≡ true = sym (none_of (λ s. s.now) w.text.result w.is_none.result w.is_none.ensures w.text.ensures) ∙ sym w.value-is ∙ c.if-is_none.true in
          rw (set, none) (ap not c.flag-then-is_none.ensures)
      | else-flag w ↦ absurd (cc)
    ]

pub returns-else-is_none : goal.returns-else-is_none
returns-else-is_none c =
    let rows = rows_of (found_of c.args.matches.now) in
    elim c.if-flag.branch [
      | then-flag w ↦
          let set : is_set (codes "generate") rows ≡ true = sym c.flag.ensures ∙ w.if-flag.true in
          let none : is_none (first_of (codes "test") rows) ≡ false = sym (none_of (λ s. s.now) w.text.result w.is_none.result w.is_none.ensures w.text.ensures) ∙ sym w.value-is ∙ c.if-is_none.false in
          rw (set, none) c.if-is_none.false
      | else-flag w ↦
          let unset : is_set (codes "generate") rows ≡ false = sym c.flag.ensures ∙ w.if-flag.false in
          rw unset c.if-is_none.false
    ]
