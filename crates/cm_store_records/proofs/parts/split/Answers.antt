use Rattle.std.proofs.Common.{◌+◌, ◌-◌, drop, length, length-drop, arith, refl}
use Rattle.std.proofs.Math.ListN.{drop_of_length-le}
use Rattle.std.proofs.lemmas.List.{take_all}
use Rattle.cm_store_records.proofs.TabLemmas.{at_tab, no_tab}
use Rattle.cm_store_records.proofs.parts.split.Goals as goal
use Rattle.cm_store_records.specs.declared.limits.TheConstants.{TAB}

pub returns-in-Some-clause-record : goal.returns-in-Some-clause-record
returns-in-Some-clause-record c =
    let line = c.args.line.now in
    let i = c.in-Some.i in
    let found = c.in-Some.ensures in
    rw (at_tab TAB line i found.0.high found.0.before found.1, take_all (length line - (i + 1)) (drop (i + 1) line) (omega (arith, length-drop (i + 1) line))) refl

pub returns-in-None-clause-record : goal.returns-in-None-clause-record
returns-in-None-clause-record c =
    let line = c.args.line.now in
    rw (no_tab TAB line c.in-None.ensures, take_all (length line) line (omega arith), drop_of_length-le line {i = length line + 1} (omega arith)) refl
