-- How a query ends.
use Rattle.std.specs.Prelude.{◌≡◌, ◌<◌, ◌≤◌, ◌-◌, ◌++◌, [], ℕ, List, length, take, drop, Option, Some, Bool, true, false, Result, Ok, Err}
use Rattle.cm_io.specs.Causes.{Rose}
use Rattle.cm_io.specs.Passes.{Told, Ends, HasKeyCause}
use Rattle.cm_io.specs.Writing.{then_bytes}
use Rattle.cm_io.specs.declared.key_pass.KeyFault.{KeyFault}
use Rattle.cm_io.specs.declared.key_pass.KeyFault.TheVariants.{Read, TooLong, TooMany}
use Rattle.cm_query_batch.specs.declared.fault.QueryFault.{QueryFault}
use Rattle.cm_query_batch.specs.declared.fault.QueryFault.TheVariants.{Memory, Key, Write}

-- `Key Read` exactly if the count of the pass rose, and `Write` exactly if that of out did
abbrev pub HasQueryCause : {T : Type 0} → ℕ → ℕ → ℕ → ℕ → Result T QueryFault → Type 0
HasQueryCause keys keys' out out' (Ok x) = (keys' ≡ keys) × (out' ≡ out)
HasQueryCause keys keys' out out' (Err Memory) = (keys' ≡ keys) × (out' ≡ out)
HasQueryCause keys keys' out out' (Err (Key fault)) = HasKeyCause {T = Unit {0}} keys keys' (Err fault) × (out' ≡ out)
HasQueryCause keys keys' out out' (Err Write) = (keys' ≡ keys) × (out ≤ out') × Rose out out'

-- `Key` has the fault that the pass failed with last
abbrev pub HasQueryFailure : Option KeyFault → QueryFault → Type 0
HasQueryFailure failure (Key fault) = failure ≡ Some fault
HasQueryFailure failure fault = Unit {0}

-- whether the pass is usable after a query: unless it was the pass that failed
abbrev pub is_usable_after : {T : Type 0} → Result T QueryFault → Bool
is_usable_after (Ok x) = true
is_usable_after (Err Memory) = true
is_usable_after (Err (Key fault)) = false
is_usable_after (Err Write) = true

-- where a failure comes, by how many of the known keys were yielded: the fault at the keys' end after all of them
abbrev pub StopsAt : Told → ℕ → QueryFault → Type 0
StopsAt told given Memory = given ≡ 0
StopsAt told given (Key Read) = given ≤ length told.keys
StopsAt told given (Key (TooLong line)) = Ends told given (Some (TooLong line))
StopsAt told given (Key TooMany) = Ends told given (Some TooMany)
StopsAt told given Write = (0 < given) × (given ≤ length told.keys)

-- how many of the keys yielded were reached at a failure: all; after `Write` those up to the one whose line failed
abbrev pub IsReached : ℕ → ℕ → QueryFault → Type 0
IsReached given reached Memory = reached ≡ 0
IsReached given reached (Key fault) = reached ≡ given
IsReached given reached Write = (0 < reached) × (reached ≤ given)

-- what out has after a failure: the text of the keys that were reached; after `Write` that of all except the last, and a prefix of the
-- last one's
abbrev pub TextAfter : (List (ℕ × List ℕ) → List ℕ) → List (ℕ × List ℕ) → ℕ → Option (List ℕ) → Option (List ℕ) → QueryFault → Type 0
TextAfter text keys reached old new Memory = new ≡ old
TextAfter text keys reached old new (Key fault) = new ≡ then_bytes old (text (take reached keys))
TextAfter text keys reached old new Write =
    (n : ℕ) × (new ≡ then_bytes old (text (take (reached - 1) keys) ++ take n (text (take 1 (drop (reached - 1) keys)))))

-- the keys whose notes err has after a failure: those that were reached; after `Write` all except the last
abbrev pub noted_keys : List (ℕ × List ℕ) → ℕ → QueryFault → List (ℕ × List ℕ)
noted_keys keys reached Memory = []
noted_keys keys reached (Key fault) = take reached keys
noted_keys keys reached Write = take (reached - 1) keys
