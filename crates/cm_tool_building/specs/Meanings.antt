-- What a builder makes of keys.
use Rattle.std.specs.Prelude.{ℕ, List, Option, Result}
use Rattle.cm_io.specs.Passes.{Told}
use Rattle.cm_tool_stops.specs.declared.stop.Stop.{Stop}

-- why nothing is made of known keys, and the report on them, if there is one
pub record Refusal : Type 0 where
  pub stop : Stop
  pub report : List ℕ

-- What a builder makes, and what is known of that. It may be asked; what it makes of known keys with a fault at their end, or with none;
-- what more is known of what it made, with the last spill before and after, and of keys on which it has a report; how it may stop,
-- whatever the keys are; whether it uses a spill; what it says of what it made.
pub record Meaning (M : Type 0) : Type 1 where
  pub ready : Type 0
  pub verdict : Told → Result M Refusal
  pub makes : Told → M → Option (List ℕ) → Option (List ℕ) → Type 0
  pub reports : Told → Type 0
  pub may_stop : Stop → Type 0
  pub uses_spill : Type 0
  pub said : M → List ℕ
