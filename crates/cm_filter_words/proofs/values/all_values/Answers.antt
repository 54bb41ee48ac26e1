use Rattle.std.proofs.Common.{◌≡◌, ◌∙◌, Ok, ap, codes, refl, sym}
use Rattle.clap.specs.Words.{first_of, found_of, rows_of}
use Rattle.cm_filter_words.proofs.values.all_values.Goals as goal
use Rattle.cm_filter_words.specs.Options.{width_value}
use Rattle.cm_words_arguments.specs.Builds.{build_values_of}

pub returns-clause-values : goal.returns-clause-values
returns-clause-values c =
    let rows = rows_of (found_of c.args.matches.now) in
    let build : build_values_of rows ≡ Ok c.in_ok-build.build = sym c.build_values.ensures.values ∙ c.in_ok-build.was in
    let w : width_value (first_of (codes "width") rows) ≡ Ok c.in_ok-w.w = ap width_value (sym c.text.ensures) ∙ sym c.width.ensures.value ∙ c.in_ok-w.was in
    rw (build, w) refl
