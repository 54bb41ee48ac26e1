use Rattle.std.proofs.Common.{◌≡◌, ◌∙◌, Ok, ap, codes, refl, sym, true}
use Rattle.clap.specs.Words.{first_of, found_of, rows_of}
use Rattle.cm_algo_names.specs.declared.algorithm.Algorithm.TheVariants.{Brz}
use Rattle.cm_judge_words.proofs.values.all_values.Goals as goal
use Rattle.cm_judge_words.specs.Options.{ratio_option}
use Rattle.cm_words_values.specs.Options.{bits_value, first_value}

pub returns-clause-values : goal.returns-clause-values
returns-clause-values c =
    let rows = rows_of (found_of c.args.matches.now) in
    let b : bits_value true Brz (first_of (codes "width") rows) ≡ Ok c.in_ok-b.b = ap (bits_value true Brz) (sym c.text.ensures) ∙ sym c.bits.ensures.value ∙ c.in_ok-b.was in
    let r : ratio_option (first_of (codes "ratio") rows) ≡ Ok c.in_ok-c.c = ap ratio_option (sym c.text-2.ensures) ∙ sym c.given_ratio.ensures.value ∙ c.in_ok-c.was in
    let first : first_value (first_of (codes "first") rows) ≡ Ok c.in_ok-first.first = ap first_value (sym c.text-3.ensures) ∙ sym c.first.ensures.value ∙ c.in_ok-first.was in
    rw (b, r, first) refl
