use Rattle.std.proofs.Common.{subst, sym, List, Option, Ok}
use Rattle.cm_spill.specs.Records.{Record}
use Rattle.cm_spill.specs.Reading.{IsPassed, Peeks}
use Rattle.cm_spill.specs.declared.header.Header.{Header}
use Rattle.cm_spill.proofs.Leaving.{below_bucket, below_line, finds_fault, next_by, passed_by}
use Rattle.cm_spill.proofs.run.Run.is_at.Goals as goal

pub returns-in-Ok-None-clause-finds : goal.returns-in-Ok-None-clause-finds
returns-in-Ok-None-clause-finds g c = λ x told records left.
    let none = subst (λ (o : Option Header). Peeks records (Ok o)) c.in-Ok-None.field-0-is (c.in-Ok-None.ensures.peeks x told records left) in
    subst (λ (l : List Record). IsPassed c.args.bucket l) (sym none) tt

pub returns-in-Err-clause-finds : goal.returns-in-Err-clause-finds
returns-in-Err-clause-finds g c = λ x told records left. finds_fault c.args.bucket c.args.least records c.in-Err.fault (c.in-Err.ensures.peeks x told records left)

pub returns-then-header-bucket-clause-finds : goal.returns-then-header-bucket-clause-finds
returns-then-header-bucket-clause-finds g c = λ x told records left.
    let of = subst (λ (o : Option Header). Peeks records (Ok o)) c.in-Ok-Some.field-0-is (c.in-Ok-Some.ensures.peeks x told records left) in
    passed_by c.args.bucket records c.in-Ok-Some.header of c.if-header-bucket.true

pub returns-then-header-bucket-2-clause-finds : goal.returns-then-header-bucket-2-clause-finds
returns-then-header-bucket-2-clause-finds g c = λ x told records left.
    let of = subst (λ (o : Option Header). Peeks records (Ok o)) c.in-Ok-Some.field-0-is (c.in-Ok-Some.ensures.peeks x told records left) in
    below_bucket c.args.bucket c.args.least records c.in-Ok-Some.header of c.if-header-bucket-2.true

pub returns-then-header-least-clause-finds : goal.returns-then-header-least-clause-finds
returns-then-header-least-clause-finds g c = λ x told records left.
    let of = subst (λ (o : Option Header). Peeks records (Ok o)) c.in-Ok-Some.field-0-is (c.in-Ok-Some.ensures.peeks x told records left) in
    below_line c.args.bucket c.args.least records c.in-Ok-Some.header of c.if-header-bucket.false c.if-header-bucket-2.false c.if-header-least.true

pub returns-clause-finds : goal.returns-clause-finds
returns-clause-finds g c = λ x told records left.
    let of = subst (λ (o : Option Header). Peeks records (Ok o)) c.in-Ok-Some.field-0-is (c.in-Ok-Some.ensures.peeks x told records left) in
    next_by c.args.bucket c.args.least records c.in-Ok-Some.header of c.if-header-bucket.false c.if-header-bucket-2.false c.if-header-least.false
