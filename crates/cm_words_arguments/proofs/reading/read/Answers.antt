use Rattle.std.proofs.Common.{map}
use Rattle.std.specs.Prelude.{string_bytes}
use Rattle.clap.specs.Words.{app_of, found_of, rows_of}
use Rattle.cm_words_arguments.proofs.ReadingLemmas.{err_along, err_of, ok_along, read_by-err, read_by-ok}
use Rattle.cm_words_arguments.specs.Refusals.{read_by}
use Rattle.cm_words_arguments.proofs.reading.read.Goals as goal

pub returns-in_err-matches-clause-fault : goal.returns-in_err-matches-clause-fault
returns-in_err-matches-clause-fault o c =
    let reader = o.R.Reader in
    err_of _ _ _ c.from_residual-in_err-matches.ensures.1
    (λ u made. read_by-err reader.meaning (app_of c.in_ok-command.command) reader.app (map (λ s. string_bytes s) c.args.words.now) c.in_err-matches.field-0.0
    c.in_ok-command.ensures.app reader.free c.in_err-matches.ensures.kinds u made)

pub returns-clause-job : goal.returns-clause-job
returns-clause-job o c =
    let reader = o.R.Reader in
    let m = c.in_ok-matches.matches in
    let words = map (λ s. string_bytes s) c.args.words.now in
    ok_along c.job.result (reader.meaning (rows_of (found_of m))) (read_by reader.app reader.meaning words)
    (read_by-ok reader.meaning (app_of c.in_ok-command.command) reader.app words m c.in_ok-command.ensures.app reader.simple reader.free c.in_ok-matches.ensures.matches c.in_ok-matches.ensures.kinds)
    c.job.ensures.job

pub returns-clause-fault : goal.returns-clause-fault
returns-clause-fault o c =
    let reader = o.R.Reader in
    let m = c.in_ok-matches.matches in
    let words = map (λ s. string_bytes s) c.args.words.now in
    err_along c.job.result (reader.meaning (rows_of (found_of m))) (read_by reader.app reader.meaning words)
    (read_by-ok reader.meaning (app_of c.in_ok-command.command) reader.app words m c.in_ok-command.ensures.app reader.simple reader.free c.in_ok-matches.ensures.matches c.in_ok-matches.ensures.kinds)
    c.job.ensures.fault
