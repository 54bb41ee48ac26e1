use Rattle.std.proofs.Common.{◌≡◌, ◌∙◌, Ok, ap, codes, refl, sym}
use Rattle.clap.specs.Words.{first_of, found_of, rows_of}
use Rattle.cm_algo_names.specs.declared.algorithm.Algorithm.TheVariants.{Bdz}
use Rattle.cm_words_arguments.proofs.builds.build_values.Goals as goal
use Rattle.cm_words_values.specs.Options.{count_value, first_value, ratio_value, seed_value}

pub returns-clause-values : goal.returns-clause-values
returns-clause-values c =
    let rows = rows_of (found_of c.args.matches.now) in
    let r : ratio_value Bdz (first_of (codes "ratio") rows) ≡ Ok c.in_ok-c.c = ap (ratio_value Bdz) (sym c.text.ensures) ∙ sym c.ratio.ensures.value ∙ c.in_ok-c.was in
    let first : first_value (first_of (codes "first") rows) ≡ Ok c.in_ok-first.first = ap first_value (sym c.text-2.ensures) ∙ sym c.first.ensures.value ∙ c.in_ok-first.was in
    let count : count_value (first_of (codes "count") rows) ≡ Ok c.in_ok-count.count = ap count_value (sym c.text-3.ensures) ∙ sym c.count.ensures.value ∙ c.in_ok-count.was in
    let seed : seed_value (first_of (codes "seed") rows) ≡ Ok c.in_ok-seed.seed = ap seed_value (sym c.text-4.ensures) ∙ sym c.seed.ensures.value ∙ c.in_ok-seed.was in
    rw (r, first, count, seed) refl
