-- Bytes in a buffer, before those of a source.
use Rattle.std.specs.Prelude.{◌≡◌, ◌-◌, ◌+◌, ◌<◌, ◌≤◌, ◌++◌, ◌∷◌, [], ℕ, List, length, slice_index, All, Option, Some, drop, take, Result, Ok, Err}
use Rattle.std.specs.Int.{bit_at}
use Rattle.std.specs.Option.{option_map}
use Rattle.cm_io.specs.declared.fault.Failed.{Failed}
use Rattle.cm_keys.specs.Lines.{push_first, pieces}
use Rattle.cm_keys.specs.declared.buffered.Part.{Part}
use Rattle.cm_keys.specs.declared.buffered.Part.TheVariants.{Whole, More, Long}
use Rattle.cm_keys.specs.declared.buffered.Line.{Line}
use Rattle.cm_keys.specs.declared.buffered.Line.TheVariants as lines

-- the buffered bytes
abbrev pub ready_in : List ℕ → ℕ → ℕ → List ℕ
ready_in buf start until = take (until - start) (drop start buf)

-- what is left: the buffered bytes, and those that were not read from the source yet
abbrev pub left_bytes : Option (List ℕ) → ℕ → List ℕ → Option (List ℕ)
left_bytes told place ready = option_map (λ bytes. ready ++ drop place bytes) told

-- bytes without an end, before the first piece
abbrev pub with_front : List ℕ → List (List ℕ) → List (List ℕ)
with_front [] ps = ps
with_front (b ∷ bs) ps = push_first b (with_front bs ps)

-- The bytes have no end of a line: they stand before the first piece of what follows.
abbrev pub HasNoEnd : ℕ → List ℕ → Type 0
HasNoEnd end part = (more : List ℕ) → pieces end (part ++ more) ≡ with_front part (pieces end more)

-- There is a first piece, and it is longer.
abbrev pub IsLong : ℕ → List (List ℕ) → Type 0
IsLong longest [] = ⊥
IsLong longest (p ∷ ps) = longest < length p

-- Up to its last bit that is set, the bits of `marks` say which of the bytes end a line: bit i says it of byte i.
pub record MarksEnds (end : ℕ) (bytes : List ℕ) (marks : ℕ) : Type 0 where
  pub ends : (i : ℕ) → bit_at marks i ≡ 1 → (i < length bytes) × (slice_index bytes i ≡ end)
  pub all : (i j : ℕ) → i < j → bit_at marks j ≡ 1 → slice_index bytes i ≡ end → bit_at marks i ≡ 1

-- what a line is: the most bytes that it has, and the byte that ends it
pub record LineRule : Type 0 where
  pub longest : ℕ
  pub end : ℕ

abbrev pub line_rule : ℕ → ℕ → LineRule
line_rule longest end = record { longest = longest; end = end }

-- What a key took of the buffered bytes: all up to the end of its line, all of them, or not all of its line.
abbrev pub TakesPart : LineRule → List ℕ → List ℕ → List ℕ → List ℕ → Part → Type 0
TakesPart rule ready left old new Whole = (part : List ℕ) × HasNoEnd rule.end part × (new ≡ old ++ part) × (ready ≡ part ++ rule.end ∷ left) × (length new ≤ rule.longest)
TakesPart rule ready left old new More = HasNoEnd rule.end ready × (new ≡ old ++ ready) × (left ≡ []) × (0 < length ready) × (length new ≤ rule.longest)
TakesPart rule ready left old new Long = (part : List ℕ) × (rest : List ℕ) × HasNoEnd rule.end part × (ready ≡ part ++ rest) × (rule.longest < length old + length part)

-- The bytes begin with these lines, each with its end.
abbrev pub BeginsWith : LineRule → List ℕ → List (List ℕ) → Type 0
BeginsWith rule ready [] = Unit {0}
BeginsWith rule ready (line ∷ lines) = (left : List ℕ) × TakesPart rule ready left [] line Whole × BeginsWith rule left lines

-- The bytes don't begin with this many lines, each with its end.
abbrev pub HasFewer : LineRule → ℕ → List ℕ → Type 0
HasFewer rule count ready = (lines : List (List ℕ)) → length lines ≡ count → BeginsWith rule ready lines → ⊥

-- This many whole lines in the buffer pass with their ends.
pub record TakesLines (rule : LineRule) (ready left : List ℕ) (count : ℕ) : Type 0 where
  pub lines : List (List ℕ)
  pub many : length lines ≡ count
  pub short : All (λ line. length line ≤ rule.longest) lines
  pub front : (more : List ℕ) → pieces rule.end (ready ++ more) ≡ lines ++ pieces rule.end (left ++ more)

-- What was read of the pieces that were left.
abbrev pub ReadsLine : LineRule → Option (List ℕ) → Option (List ℕ) → List ℕ → Result Line Failed → Type 0
ReadsLine rule old new key (Ok lines.Key) = (option_map (pieces rule.end) old ≡ option_map (λ rest. key ∷ pieces rule.end rest) new) × (length key ≤ rule.longest)
ReadsLine rule old new key (Ok lines.End) = (option_map (pieces rule.end) old ≡ option_map (λ rest. []) new) × (option_map (pieces rule.end) new ≡ option_map (λ rest. []) new)
ReadsLine rule old new key (Ok lines.TooLong) = (rest : List ℕ) → old ≡ Some rest → IsLong rule.longest (pieces rule.end rest)
ReadsLine rule old new key (Err f) = Unit {0}
