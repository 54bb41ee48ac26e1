-- Lemmas about the outcome of a query, for those who know what the file that is asked spells.
use Rattle.std.proofs.Common.{◌≡◌, ◌∙◌, ℕ, List, Option, Some, ap}
use Rattle.std.specs.Option.{option_map}
use Rattle.cm_io.specs.Files.{Files, file_at}
use Rattle.cm_io.specs.declared.key_pass.KeyFault.{KeyFault}
use Rattle.cm_tool_asking.specs.Asking as outcomes
use Rattle.cm_tool_asking.specs.Asking.{Asking, answering, keys_of, outcome_by, outcome_in, outcome_of, replies_of}
use Rattle.cm_tool_asking.specs.Loads.{IsBad, Spells}
use Rattle.cm_tool_stops.specs.Ending.{Outcome, refusal}

-- the outcome of a query whose file spells something and whose keys file is there
pub asked_outcome : {L F : Type 0} (a : Asking L F) (files : Files) (x : L) (bytes : List ℕ) (fault : Option KeyFault) (o : Outcome) → Spells a.meaning.spelling files a.named.function x → file_at files a.named.keys ≡ Some bytes → (keys_of a bytes).fault ≡ fault
    → answering a files (replies_of a x) (keys_of a bytes).keys fault ≡ o → outcome_of a files ≡ Some o
unfolding outcomes.outcome_over
asked_outcome a files x bytes fault o spells there fault_is is =
    ap (outcome_in a files) spells.1
    ∙ ap (outcome_by a files) spells.2
    ∙ ap (option_map (outcomes.outcome_over a files x)) there
    ∙ ap (λ (e : Option KeyFault). Some (answering a files (replies_of a x) (keys_of a bytes).keys e)) fault_is
    ∙ ap Some is

-- and that of one whose file spells nothing
pub bad_outcome : {L F : Type 0} (a : Asking L F) (files : Files) (fault : F) → IsBad a.meaning.spelling files a.named.function fault → outcome_of a files ≡ Some (refusal 3 (a.message fault a.named) files)
bad_outcome a files fault bad = ap (outcome_in a files) bad.1 ∙ ap (outcome_by a files) bad.2
