use Rattle.std.proofs.Common.{◌≡◌, ◌∙◌, true, Bool, false, arith, codes, is_none, is_some, refl, sym, subst}
use Rattle.clap.specs.Words.{first_of, found_of, rows_of}
use Rattle.cm_words.specs.Limits.{AreValues}
use Rattle.cm_words_arguments.specs.Options.{is_set}
use Rattle.cm_words.specs.Options.{is_build}
use Rattle.cm_words.proofs.reading.file_job.Goals as goal

pub build_job-requires : goal.build_job-requires
build_job-requires c =
    let rows = rows_of (found_of c.args.matches.now) in
    let set : is_set (codes "generate") rows ≡ true = sym c.flag.ensures ∙ c.if-flag.true in
    let missing : is_some (first_of (codes "test") rows) ≡ false = c.requires.no_test in
    let none : is_none (first_of (codes "test") rows) ≡ true = grind (arith, missing) in
    let plain : is_set (codes "upgrade") rows ≡ false = c.requires.no_upgrade in
    let builds : is_build rows ≡ true = rw (set, none, plain) refl in
    subst (λ (b : Bool). AreValues b c.args.values) builds c.requires.values

pub returns-in_default-clause-memory : goal.returns-in_default-clause-memory
returns-in_default-clause-memory c = λ is. absurd (cc)

pub returns-in_ok-query_job-clause-fault : goal.returns-in_ok-query_job-clause-fault
returns-in_ok-query_job-clause-fault c = tt
