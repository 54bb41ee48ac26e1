use Rattle.std.proofs.Common.{map, ap, sym, ◌≡◌, ◌∙◌, Ok}
use Rattle.std.specs.Prelude.{string_bytes}
use Rattle.cm_tool.specs.Texts.{help_text, version_text}
use Rattle.cm_tool.proofs.Printing.{prints}
use Rattle.cm_tool.proofs.Usage.{refused}
use Rattle.cm_words.specs.Meaning.{job_of}
use Rattle.cm_words.specs.declared.jobs.Job.{Job}
use Rattle.cm_words_arguments.specs.Options.{Read}
use Rattle.cm_tool.proofs.top.run.Goals as goal

-- the job that was read is what the arguments ask for
asks : (asked : Read Job) (read job : Job) → Ok read ≡ asked → read ≡ job → asked ≡ Ok job
asks asked read job is same = sym is ∙ ap (λ (j : Job). Ok j) same

pub returns-in-Ok-Help : goal.returns-in-Ok-Help
returns-in-Ok-Help g c =
    let end = c.end_of_text.ensures in
    let printed = c.print_help-printed.ensures in
    let asked = asks _ _ _ c.in-Ok-Help.ensures.job c.in-Ok-Help.field-0-is in
    record {
      runs = rw asked (prints help_text _ _ _ _ _ _ (record {
        is = end.status;
        front = end.front help_text _ printed.text;
        whole = λ zero. end.whole zero help_text _ printed.text;
        cause = λ low. end.cause _ low printed.cause;
        sent = end.sent (g.O.Sink.state c.args.out.now) printed.cause;
        err_sent = end.err_sent;
        done = λ zero. (end.done zero).0;
        said = end.err;
      }));
    }

pub returns-in-Ok-Version : goal.returns-in-Ok-Version
returns-in-Ok-Version g c =
    let end = c.end_of_text-in-Ok-Version.ensures in
    let printed = c.print_version-printed.ensures in
    let asked = asks _ _ _ c.in-Ok-Version.ensures.job c.in-Ok-Version.field-0-is in
    record {
      runs = rw asked (prints version_text _ _ _ _ _ _ (record {
        is = end.status;
        front = end.front version_text _ printed.text;
        whole = λ zero. end.whole zero version_text _ printed.text;
        cause = λ low. end.cause _ low printed.cause;
        sent = end.sent (g.O.Sink.state c.args.out.now) printed.cause;
        err_sent = end.err_sent;
        done = λ zero. (end.done zero).0;
        said = end.err;
      }));
    }

pub returns-in-Ok-Upgrade : goal.returns-in-Ok-Upgrade
returns-in-Ok-Upgrade g c =
    let asked = asks _ _ _ c.in-Ok-Upgrade.ensures.job c.in-Ok-Upgrade.field-0-is in
    record { runs = rw asked (c.run_upgrade.ensures.upgrades (g.O.Sink.state c.args.out.now)) }

pub returns-in-Err : goal.returns-in-Err
returns-in-Err g c =
    let said = c.report_usage.ensures in
    record { runs = refused (job_of (map string_bytes c.args.words.now)) c.in-Err.fault _ _ _ _ _ c.in-Err.ensures.fault said.status said.says said.sent }
