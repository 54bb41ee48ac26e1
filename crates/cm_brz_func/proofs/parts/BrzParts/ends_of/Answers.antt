use Rattle.std.proofs.Common.{◌∙◌, ap, sym}
use Rattle.cm_bits.specs.Held.{packed_cells}
use Rattle.cm_brz_func.specs.Functions.{Bucket}
use Rattle.cm_brz_func.specs.Places.{ends_in}
use Rattle.cm_brz_func.proofs.KeptLemmas.{kept_at, sized_at}
use Rattle.cm_spec.specs.Lookup2.{words}
use Rattle.cm_brz_func.proofs.parts.BrzParts.ends_of.Goals as goal

pub held_at-requires-clause-sized : goal.held_at-requires-clause-sized
held_at-requires-clause-sized c = rw c.deref.ensures.value (sized_at c.self.inside.kept.items c.args.j c.self.invariant c.self.view_is c.requires.inside)

pub ends-requires : goal.ends-requires
ends-requires c =
    let known = kept_at c.self.inside.kept.items c.self.invariant c.self.view_is c.requires.inside (rw c.deref.ensures.value at c.held_at.ensures.held) in
    record { thirds = known.some }

pub returns : goal.returns
returns c =
    let p = c.self.inside in
    let table = packed_cells 4 4 p.cells.n p.cells.bytes.items in
    let known = kept_at c.self.inside.kept.items c.self.invariant c.self.view_is c.requires.inside (rw c.deref.ensures.value at c.held_at.ensures.held) in
    record { ends = λ key are. c.ends.ensures.ends table key (are ∙ ap (λ (b : Bucket). words key b.seed) (sym known.bucket)) known.lies ∙ ap (λ (b : Bucket). ends_in b key) known.bucket }
