use Rattle.std.proofs.Common.{◌≡◌, map, take}
use Rattle.cm_shards_words.proofs.texts.copy_all.Given as goal

abbrev pub invariant-loop-text : goal.invariant-loop-text
invariant-loop-text l = l.copies.items ≡ map (λ s. s.now) (take l.text-index l.texts)
