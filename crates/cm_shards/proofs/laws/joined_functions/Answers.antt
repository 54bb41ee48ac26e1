use Rattle.std.proofs.Common.{refl}
use Rattle.cm_shards.proofs.JoinedLemmas.{asked, joined_elsewhere, not_replaced}
use Rattle.cm_shards.proofs.laws.joined_functions.Goals as goal

pub returns : goal.returns
returns c = record {
  asked = λ job old new joins files known.
      let saved = (joins.functions (not_replaced job old new joins)).saved refl files known in
      (saved.m, saved.saved, asked job files saved.m saved.joined.joined (c.files_spell.ensures.spelling saved.m saved.joined.valid) (joined_elsewhere job old new joins));
}
