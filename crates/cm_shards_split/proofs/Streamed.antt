-- One line more of those that are read.
use Rattle.std.proofs.Common.{◌≡◌, ◌∙◌, ℕ, ◌+◌, List, [], ◌∷◌, ◌++◌, map, drop, Option, Some, ap, sym, subst, arith, append_assoc}
use Rattle.std.specs.Option.{ForSome}
use Rattle.std.proofs.lemmas.List.{length_push}
use Rattle.cm_io.specs.Files.{Files}
use Rattle.cm_io.specs.Passes.{Told}
use Rattle.cm_keys.specs.Streams.{LineStream, told_by}
use Rattle.cm_shards_split.specs.Outcomes.{lines_of}
use Rattle.cm_shards_split.specs.Parts.{HasPrefixes, Stands}
use Rattle.cm_shards_split.specs.Plans.{Plan}
use Rattle.cm_shards_split.specs.Streaming.{HasPrefixesOf, IsStreaming}
use Rattle.cm_shards_split.specs.declared.part.Part.{Part}
use Rattle.cm_shards_split.proofs.Putting.{prefixes_more, prefixes_of}

-- a line was read of those that are left
abbrev pub HasRead : LineStream → ℕ → List ℕ → Type 0
HasRead stream now key = ForSome (told_by stream) (λ told. (drop stream.count told.keys ≡ (stream.count + 1, key) ∷ drop now told.keys) × (now ≡ stream.count + 1))

-- the lines without their numbers
abbrev pub plain : List (ℕ × List ℕ) → List (List ℕ)
plain keys = map (λ line. line.1) keys

left_after : {p : Plan} {stream : LineStream} {parts : List Part} {files : Option Files} (now : ℕ) (key : List ℕ) (s : IsStreaming p stream parts files) → HasRead stream now key → (told : Told) → told_by stream ≡ Some told
    → lines_of told ≡ (s.lines ++ key ∷ []) ++ plain (drop now told.keys)
left_after now key s read told is =
    s.left told is ∙ ap (λ (l : List (ℕ × List ℕ)). s.lines ++ plain l) (read told is).0 ∙ sym (append_assoc s.lines (key ∷ []) (plain (drop now told.keys)))

-- it was put into its shard
pub line_streamed : {p : Plan} {stream next : LineStream} {parts now : List Part} {old new : Option Files} (key : List ℕ) (s : IsStreaming p stream parts old) → told_by next ≡ told_by stream → next.count ≡ stream.count + 1 → HasRead stream next.count key
    → Stands p (s.lines ++ key ∷ []) now new → IsStreaming p next now new
line_streamed {next = next} key s told count read stands = record {
  lines = s.lines ++ key ∷ [];
  stands = stands;
  long = omega (arith, length_push s.lines key, s.long, count);
  left = λ t is. left_after next.count key s read t (sym told ∙ is);
}

-- it was not, and neither are those after it
pub line_stopped : {p : Plan} {stream : LineStream} {parts : List Part} {old new : Option Files} (told : Option Told) (now : ℕ) (key : List ℕ) (s : IsStreaming p stream parts old) → told ≡ told_by stream → HasRead stream now key
    → HasPrefixes p (s.lines ++ key ∷ []) new → HasPrefixesOf p told new
line_stopped {p = p} {new = new} told now key s same read has = λ t is.
    subst (λ (l : List (List ℕ)). HasPrefixes p l new) (sym (left_after now key s read t (sym same ∙ is))) (prefixes_more (plain (drop now t.keys)) has)

-- none was read
pub read_stopped : {p : Plan} {stream : LineStream} {parts : List Part} {files : Option Files} (told : Option Told) (s : IsStreaming p stream parts files) → told ≡ told_by stream → HasPrefixesOf p told files
read_stopped {p = p} {stream = stream} {files = files} told s same = λ t is.
    subst (λ (l : List (List ℕ)). HasPrefixes p l files) (sym (s.left t (sym same ∙ is))) (prefixes_more (plain (drop stream.count t.keys)) (prefixes_of s.stands))
