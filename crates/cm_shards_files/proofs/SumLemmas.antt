-- A function that was loaded from a file, with the sum of its bytes.
use Rattle.std.proofs.Common.{◌≡◌, ◌∙◌, ℕ, ◌≤◌, List, length, take, ap, sym, arith, Bool, true, false, Option, Result, Ok, Err, refl}
use Rattle.std.specs.Prelude.{◌==◌, IfOk, OnOk, if◌then◌else◌}
use Rattle.std.specs.Option.{ForSome}
use Rattle.std.proofs.lemmas.List.{take_all}
use Rattle.sha2.specs.Sha256.{sha256}
use Rattle.cm_dump.specs.Spelling.{spelling_of}
use Rattle.cm_dump_items.specs.declared.fault.LoadFault.{LoadFault}
use Rattle.cm_func.specs.Functions.{IsFunction}
use Rattle.cm_func.specs.declared.function.Func.{Func}
use Rattle.cm_io.specs.Causes.{Collects}
use Rattle.cm_io.specs.Files.{Files, Opens}
use Rattle.cm_shards_files.specs.FunctionFiles.{function_file_in, with_digest}
use Rattle.cm_shards_files.specs.Hashing.{HasSum, most_counted}
use Rattle.cm_shards_files.specs.Sums.{with_sum}
use Rattle.cm_shards_files.specs.declared.file.FunctionFile.{FunctionFile}
use Rattle.cm_shards_files.specs.declared.hashed.Sum.{Sum}
use Rattle.cm_tool_asking.specs.Loads.{HasLoadCause, IsSpelled, Loads, Spells}
use Rattle.cm_tool_asking.specs.declared.unloaded.Unloaded.{Unloaded}
use Rattle.cm_tool_asking.specs.declared.unloaded.Unloaded.TheVariants.{Memory, Read, Bad}

-- the function file of bytes that were all read
file_of : (bytes : List ℕ) (f : Func) (place : ℕ) (sum : Sum) → spelling_of bytes ≡ Ok f → length bytes ≤ place → HasSum bytes place sum → (sum.len == most_counted) ≡ false → function_file_in bytes ≡ Ok (record { function = f; len = sum.len; digest = sum.digest })
file_of bytes f place sum spells end has few =
    let all : take place bytes ≡ bytes = take_all place bytes end in
    let long : length bytes ≡ sum.len = grind (arith, few, has.len, has.inside, end) in
    let digest : sha256 bytes ≡ sum.digest = ap sha256 (sym all) ∙ sym has.digest in
    let file : ℕ → List ℕ → Result FunctionFile LoadFault = λ n d. Ok (record { function = f; len = n; digest = d }) in
    ap (with_digest bytes) spells ∙ ap (λ (n : ℕ). file n (sha256 bytes)) long ∙ ap (λ (d : List ℕ). file sum.len d) digest

file_or : (files : Files) (path : List ℕ) (b : Bool) (x : FunctionFile) → (b ≡ false → Spells function_file_in files path x) → Loads function_file_in files path (if b then (let r : Result FunctionFile (Unloaded LoadFault) = Err Memory in r) else Ok x)
file_or files path true x spells = tt
file_or files path false x spells = spells refl

-- what was loaded from a file, by all bytes of its reader
pub loads_from : (known : Option Files) (path : List ℕ) (told : Option (List ℕ)) (start place before now : ℕ) (loaded : Result Func (Unloaded LoadFault)) (sum : Sum) → ForSome known (λ files. Opens files path told start)
    → ForSome told (λ bytes. IsSpelled spelling_of bytes loaded) → OnOk loaded (ForSome told (λ bytes. length bytes ≤ place)) → before ≡ 0 → HasLoadCause before now loaded → (now ≡ 0 → ForSome told (λ bytes. HasSum bytes place sum))
    → ForSome known (λ files. Loads function_file_in files path (with_sum loaded sum))
loads_from known path told start place before now (Ok f) sum opens spelled end fresh cause has = λ files is.
    let opened = opens files is in
    let bytes = opened.bytes in
    file_or files path (sum.len == most_counted) _ (λ few. (bytes, opened.there, file_of bytes f place sum (spelled bytes opened.tells) (end bytes opened.tells) (has (cause ∙ fresh) bytes opened.tells) few))
loads_from known path told start place before now (Err Memory) sum opens spelled end fresh cause has = λ files is. tt
loads_from known path told start place before now (Err Read) sum opens spelled end fresh cause has = λ files is. tt
loads_from known path told start place before now (Err (Bad fault)) sum opens spelled end fresh cause has = λ files is.
    let opened = opens files is in
    (opened.bytes, opened.there, ap (with_digest opened.bytes) (spelled opened.bytes opened.tells))

-- how the count of a disk changes that takes the reader back
either : (b : Bool) (r r' : ℕ) (x : FunctionFile) → r' ≡ r → HasLoadCause r r' (if b then (let e : Result FunctionFile (Unloaded LoadFault) = Err Memory in e) else Ok x)
either true r r' x is = is
either false r r' x is = is

pub shut_cause : (loaded : Result Func (Unloaded LoadFault)) (sum : Sum) (before count r r' : ℕ) → before ≡ 0 → HasLoadCause before count loaded → Collects count r r' → HasLoadCause r r' (with_sum loaded sum)
shut_cause (Ok f) sum before count r r' fresh cause collects = either (sum.len == most_counted) r r' _ (collects.none (cause ∙ fresh))
shut_cause (Err Memory) sum before count r r' fresh cause collects = collects.none (cause ∙ fresh)
shut_cause (Err Read) sum before count r r' fresh cause collects = (collects.later, collects.some (omega (arith, fresh, cause.1 (omega (arith, fresh)))))
shut_cause (Err (Bad fault)) sum before count r r' fresh cause collects = collects.none (cause ∙ fresh)

-- the function of the file is the one that was loaded
function_or : (b : Bool) (x : FunctionFile) → IsFunction x.function → IfOk (if b then (let e : Result FunctionFile (Unloaded LoadFault) = Err Memory in e) else Ok x) (λ file. IsFunction file.function)
function_or true x is = tt
function_or false x is = is

pub valid_with : (loaded : Result Func (Unloaded LoadFault)) (sum : Sum) → IfOk loaded IsFunction → IfOk (with_sum loaded sum) (λ file. IsFunction file.function)
valid_with (Ok f) sum is = function_or (sum.len == most_counted) _ is
valid_with (Err fault) sum is = tt
