use Rattle.std.proofs.Common.{refl, rules}
use Rattle.cm_outer.proofs.MemFileLemmas.{not_there, on_err, written_after, written_again}
use Rattle.cm_outer.proofs.mem_file.extend_bytes.Goals as goal

pub unreachable-requires : goal.unreachable-requires
unreachable-requires c = not_there _ _ (search rules) c.requires.there

pub returns-in_err-extend_from_slice-in-Some-clause-err : goal.returns-in_err-extend_from_slice-in-Some-clause-err
returns-in_err-extend_from_slice-in-Some-clause-err c = on_err _ (written_again c.args.path.now c.args.files.now c.in-Some.i c.index-files-i.result _ (search rules) refl c.in_err-extend_from_slice-in-Some.ensures.items)

pub returns-clause-ok : goal.returns-clause-ok
returns-clause-ok c = written_after _ _ _ c.index-files-i.result _ _ (search rules) refl c.in_ok-extend_from_slice-in-Some.ensures.items
