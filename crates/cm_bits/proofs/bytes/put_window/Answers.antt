use Rattle.std.proofs.Common.{arith, ◌∙◌, ◌≡◌, length}
use Rattle.cm_bits.proofs.WindowLemmas.{puts_back}
use Rattle.cm_bits.proofs.bytes.put_window.Goals as goal

pub returns : goal.returns
returns c =
    let same = c.deref_mut.ensures.value in
    let long : c.args.bytes.now.len ≡ length c.args.bytes.now.items = omega arith in
    rw same (puts_back c.args.at c.args.number c.args.bytes.now.len c.args.bytes.now.items c.copy_from_slice.new.self c.requires long (c.copy_from_slice.ensures.after ∙ c.to_le_bytes.ensures))
