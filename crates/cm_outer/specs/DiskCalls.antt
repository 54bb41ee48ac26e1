-- The calls that fail in a disk in memory, and those that it had.
use Rattle.std.specs.Prelude.{ℕ, Bool, List, [], map, refl}
use Rattle.std.specs.List.{filter}
use Rattle.std.specs.Coded.{Coded, code_by, coded×, coded_list, coded_ℕ}
use denote.Enum.Bare.{sameb}
use Rattle.cm_outer.specs.declared.disk_call.DiskCall.{DiskCall}
use Rattle.cm_outer.specs.contracts.disk_call.DiskCall.{the_row, the_type}

-- the calls that fail, each by its kind and its number among the calls of that kind, from 0; and how many calls of its own a disk had, by
-- kind
pub record DiskCalls : Type 0 where
  pub listed : List (DiskCall × ℕ)
  pub opens : ℕ
  pub creates : ℕ
  pub closes : ℕ
  pub extends : ℕ
  pub checks : ℕ
  pub spills : ℕ

-- nothing is listed, and nothing was called
abbrev pub no_calls : DiskCalls
no_calls = record { listed = []; opens = 0; creates = 0; closes = 0; extends = 0; checks = 0; spills = 0 }

-- `==` on kinds
abbrev pub same_kind : DiskCall → DiskCall → Bool
same_kind = sameb the_type

-- the numbers that are listed for a kind
abbrev pub numbers : DiskCall → List (DiskCall × ℕ) → List ℕ
numbers kind listed = map (λ call. call.1) (filter (λ call. same_kind call.0 kind) listed)

-- the calls are stored as the tuple of their fields
abbrev pub calls_code : Coded DiskCalls
calls_code =
    code_by (List (DiskCall × ℕ) × (ℕ × (ℕ × (ℕ × (ℕ × (ℕ × ℕ)))))) (coded× (coded_list (coded× the_row.coded coded_ℕ)) (coded× coded_ℕ (coded× coded_ℕ (coded× coded_ℕ (coded× coded_ℕ (coded× coded_ℕ coded_ℕ))))))
    (λ c. (c.listed, (c.opens, (c.creates, (c.closes, (c.extends, (c.checks, c.spills)))))))
    (λ p. record { listed = p.0; opens = p.1.0; creates = p.1.1.0; closes = p.1.1.1.0; extends = p.1.1.1.1.0; checks = p.1.1.1.1.1.0; spills = p.1.1.1.1.1.1 }) (λ _. refl)
