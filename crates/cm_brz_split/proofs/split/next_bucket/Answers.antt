use Rattle.std.proofs.Common.{refl}
use Rattle.cm_brz_split.proofs.split.next_bucket.Goals as goal

pub returns-clause-gives : goal.returns-clause-gives
returns-clause-gives g c = λ told is. (
  (g.P.KeyPass.last c.pass.new.self, c.in-Some.next.now),
  c.pass.ensures.gives c.in-Some.next.now c.in-Some.ensures.stands refl told is,
  c.bucket_of.ensures.bucket,
)

pub returns-clause-gave : goal.returns-clause-gave
returns-clause-gave g c = λ before given. record {
  key = (g.P.KeyPass.last c.pass.new.self, c.in-Some.next.now);
  given = c.pass.ensures.gave before c.in-Some.next.now given c.in-Some.ensures.stands refl;
  bucket_is = c.bucket_of.ensures.bucket;
}
