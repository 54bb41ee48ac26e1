use Rattle.std.proofs.Common.{◌≡◌, ◌∙◌, ap, sym, rules, position, Some, None}
use Rattle.cm_outer.proofs.MemFileLemmas.{at_path, found_there, not_found}
use Rattle.cm_outer.proofs.mem_file.bytes_at.Goals as goal

pub returns-in-Some : goal.returns-in-Some
returns-in-Some c =
    let found : position (at_path c.args.path.now) c.args.files.now ≡ Some c.in-Some.i = search rules in
    record {
      bytes = ap Some c.deref.ensures.value
          ∙ sym (found_there c.args.path.now c.args.files.now c.in-Some.i c.index-files-i.result found);
    }

pub returns-in-None : goal.returns-in-None
returns-in-None c =
    let none : position (at_path c.args.path.now) c.args.files.now ≡ None = search rules in
    record { bytes = sym (not_found c.args.path.now c.args.files.now none) }
