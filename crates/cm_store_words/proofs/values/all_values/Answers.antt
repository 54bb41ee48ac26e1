use Rattle.std.proofs.Common.{◌≡◌, ◌∙◌, Ok, ap, codes, refl, sym, true}
use Rattle.clap.specs.Words.{first_of, found_of, rows_of}
use Rattle.cm_algo_names.specs.declared.algorithm.Algorithm.TheVariants.{Bdz}
use Rattle.cm_store_words.proofs.values.all_values.Goals as goal
use Rattle.cm_words_arguments.specs.Builds.{build_values_of}
use Rattle.cm_words_values.specs.Options.{bits_value}

pub returns-clause-values : goal.returns-clause-values
returns-clause-values c =
    let rows = rows_of (found_of c.args.matches.now) in
    let b : bits_value true Bdz (first_of (codes "bits") rows) ≡ Ok c.in_ok-b.b = ap (bits_value true Bdz) (sym c.text.ensures) ∙ sym c.bits.ensures.value ∙ c.in_ok-b.was in
    let build : build_values_of rows ≡ Ok c.in_ok-build.build = sym c.build_values.ensures.values ∙ c.in_ok-build.was in
    rw (b, build) refl
