-- What comes of records and of lines, from what a result shows.
use Rattle.std.proofs.Common.{◌≡◌, ◌∙◌, ℕ, List, [], length, ap, refl, sym, arith, Option, None, Some, Result, Ok, Err}
use Rattle.std.specs.Prelude.{IfErr, IfOk}
use Rattle.std.proofs.lemmas.Option.{none-some, same_Some}
use Rattle.cm_io.specs.Passes.{Told}
use Rattle.cm_io.specs.declared.key_pass.KeyFault.{KeyFault}
use Rattle.cm_io.specs.declared.key_pass.KeyFault.TheVariants as key_fault
use Rattle.cm_store.specs.Builds.{AnswersKeys, AnswersLines, FailsKeys, FailsLines, IsFirstStore, IsStoreOfLines}
use Rattle.cm_store.specs.Stores.{Store}
use Rattle.cm_store.specs.declared.building.StoreBuildFault.{StoreBuildFault}
use Rattle.cm_store.specs.declared.building.StoreBuildFault.TheVariants.{Memory, NoKeys, Cored, Key, TooLarge}
use Rattle.cm_store.specs.declared.building.StorePlan.{StorePlan}
use Rattle.cm_store_records.specs.Records.{keys_of_lines}

none_is : {A : Type 0} {x : Option A} {y : A} → x ≡ None → x ≡ Some y → ⊥
none_is none some = none-some _ (sym none ∙ some)

pub answers_keys : (keys : List (ℕ × List ℕ)) (c : ℕ) (seeds : List ℕ) (under : ℕ → Store) (result : Result Store StoreBuildFault) → IfOk result (IsFirstStore keys c seeds under) → IfErr result (FailsKeys keys c seeds) → AnswersKeys keys c seeds result
answers_keys keys c seeds under (Ok s) made fails = record {
  no_keys = λ none. absurd (omega (arith, made.many.0, ap length none));
  no_seed = λ some none. absurd (none_is none made.chosen);
  made = λ some seed is. tt;
}
answers_keys keys c seeds under (Err Memory) made fails = record { no_keys = λ none. tt; no_seed = λ some none. tt; made = λ some seed is. tt }
answers_keys keys c seeds under (Err NoKeys) made fails = record {
  no_keys = λ none. refl;
  no_seed = λ some none. absurd (omega (arith, some, ap length fails));
  made = λ some seed is. absurd (omega (arith, some, ap length fails));
}
answers_keys keys c seeds under (Err (Cored shown)) made fails = record {
  no_keys = λ none. absurd (omega (arith, fails.some, ap length none));
  no_seed = λ some none. tt;
  made = λ some seed is. absurd (none_is fails.none is);
}
answers_keys keys c seeds under (Err (Key fault)) made fails = absurd fails
answers_keys keys c seeds under (Err (TooLarge line)) made fails = absurd fails

-- no line was read to its end
unread : (lines : Told) (c : ℕ) (seeds : List ℕ) (at_end : KeyFault) → FailsLines lines c seeds (Key at_end) → AnswersLines lines c seeds (Err (Key at_end))
unread lines c seeds key_fault.Read fails = record { too_large = λ line is. tt; key = λ fault fit is. tt; keys = λ fit none. record { no_keys = λ none. tt; no_seed = λ some none. tt; made = λ some seed is. tt } }
unread lines c seeds (key_fault.TooLong at) fails = record { too_large = λ line is. absurd (none_is fails.0 is); key = λ fault fit is. ap Key (same_Some _ _ (sym fails.1 ∙ is)); keys = λ fit none. absurd (none_is none fails.1) }
unread lines c seeds key_fault.TooMany fails = record { too_large = λ line is. absurd (none_is fails.0 is); key = λ fault fit is. ap Key (same_Some _ _ (sym fails.1 ∙ is)); keys = λ fit none. absurd (none_is none fails.1) }

pub answers_lines : (plan : StorePlan) (seeds : List ℕ) (lines : Told) (result : Result Store StoreBuildFault) → IfOk result (IsStoreOfLines plan seeds lines) → IfErr result (FailsLines lines plan.c seeds) → AnswersLines lines plan.c seeds result
answers_lines plan seeds lines (Ok s) made fails = record {
  too_large = λ line is. absurd (none_is made.fit is);
  key = λ fault fit is. absurd (none_is made.no_fault is);
  keys = λ fit none. answers_keys (keys_of_lines lines.keys) plan.c seeds _ (Ok s) made.made tt;
}
answers_lines plan seeds lines (Err Memory) made fails = record { too_large = λ line is. tt; key = λ fault fit is. tt; keys = λ fit none. record { no_keys = λ none. tt; no_seed = λ some none. tt; made = λ some seed is. tt } }
answers_lines plan seeds lines (Err NoKeys) made fails = record {
  too_large = λ line is. absurd (none_is fails.0 is);
  key = λ fault fit is. absurd (none_is fails.1 is);
  keys = λ fit none. answers_keys (keys_of_lines lines.keys) plan.c seeds (λ _. record { index = record { keys = 0; ratio = 0; seed = 0; shift = 0; cells = [] }; places = []; bytes = [] }) (Err NoKeys) tt (ap keys_of_lines fails.2);
}
answers_lines plan seeds lines (Err (Cored shown)) made fails = record {
  too_large = λ line is. absurd (none_is fails.0 is);
  key = λ fault fit is. absurd (none_is fails.1 is);
  keys = λ fit none. record { no_keys = λ none. absurd (omega (arith, fails.2.some, ap length none)); no_seed = λ some none. tt; made = λ some seed is. absurd (none_is fails.2.none is) };
}
answers_lines plan seeds lines (Err (Key fault)) made fails = unread lines plan.c seeds fault fails
answers_lines plan seeds lines (Err (TooLarge large)) made fails = record {
  too_large = λ line is. ap TooLarge (same_Some _ _ (sym fails ∙ is));
  key = λ fault fit is. absurd (none_is fit fails);
  keys = λ fit none. absurd (none_is fit fails);
}
