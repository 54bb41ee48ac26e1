-- The keys of a text.
use Rattle.std.specs.Prelude.{◌==◌, ◌+◌, ℕ, List, length, Option, None, Some, [], ◌∷◌, take, if◌then◌else◌, nat_lt}
use Rattle.cm_io.specs.Passes.{Told}
use Rattle.cm_io.specs.declared.key_pass.KeyFault.TheVariants.{TooLong, TooMany}
use Rattle.cm_io.specs.declared.key_pass.TheConstants.{MAX_KEY_LEN}
use Rattle.cm_spec.specs.declared.limits.TheConstants.{MAX_KEYS}

-- a byte before the first piece; if there is none, the byte is a piece
abbrev pub push_first : ℕ → List (List ℕ) → List (List ℕ)
push_first b [] = (b ∷ []) ∷ []
push_first b (p ∷ ps) = (b ∷ p) ∷ ps

-- the bytes split at each byte `end`; the last piece counts only if it isn't empty
abbrev pub pieces : ℕ → List ℕ → List (List ℕ)
pieces end [] = []
pieces end (b ∷ bs) = if b == end then [] ∷ pieces end bs else push_first b (pieces end bs)

-- the lines to read: the first ones, or all
abbrev pub looked_at : Option ℕ → List (List ℕ) → List (List ℕ)
looked_at None lines = lines
looked_at (Some first) lines = take first lines

-- one more key at the start
abbrev pub with_key : ℕ × List ℕ → Told → Told
with_key key told = record { keys = key ∷ told.keys; fault = told.fault }

-- the lines as keys, numbered from `line` on, up to the first that is at fault: its number is above `max`, or it has more than `longest`
-- bytes
abbrev pub keys_from : ℕ → ℕ → ℕ → List (List ℕ) → Told
keys_from max longest line [] = record { keys = []; fault = None }
keys_from max longest line (p ∷ ps) =
    if nat_lt max line then record { keys = []; fault = Some TooMany }
    else if nat_lt longest (length p) then record { keys = []; fault = Some (TooLong line) }
    else with_key (line, p) (keys_from max longest (line + 1) ps)

-- The numbered keys of a text, and the fault at their end.
unfoldable pub lines_of : ℕ → ℕ → ℕ → Option ℕ → List ℕ → Told
lines_of max longest end first bytes = keys_from max longest 1 (looked_at first (pieces end bytes))

-- the keys in the bytes of a keys file: its lines without their ends, the first ones or all, at most `MAX_KEYS` of them, of at most
-- `MAX_KEY_LEN` bytes each
abbrev pub keys_in : Option ℕ → ℕ → List ℕ → Told
keys_in first end bytes = lines_of MAX_KEYS MAX_KEY_LEN end first bytes
