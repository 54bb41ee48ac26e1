use Rattle.std.proofs.Common.{◌≡◌, ◌∙◌, true, codes, refl, sym}
use Rattle.clap.specs.Words.{found_of, rows_of}
use Rattle.cm_words_arguments.specs.Options.{is_set}
use Rattle.cm_words.proofs.reading.CmphReaderReader.job.Goals as goal

pub returns-then-flag-clause-job : goal.returns-then-flag-clause-job
returns-then-flag-clause-job c =
    let help : is_set (codes "help") (rows_of (found_of c.args.matches.now)) ≡ true = sym c.flag.ensures ∙ c.if-flag.true in
    rw help refl
