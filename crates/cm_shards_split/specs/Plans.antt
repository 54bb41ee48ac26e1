-- Where lines are split to.
use Rattle.std.specs.Prelude.{ℕ, List, Option}
use Rattle.cm_io.specs.Files.{Files}
use Rattle.cm_route.specs.Routes.{Route}

-- a folder, the files before, the route, and the byte that ends a line
pub record Plan : Type 0 where
  pub dir : List ℕ
  pub base : Option Files
  pub route : Route
  pub end : ℕ

abbrev pub plan : List ℕ → Option Files → Route → ℕ → Plan
plan dir base route end = record { dir = dir; base = base; route = route; end = end }
