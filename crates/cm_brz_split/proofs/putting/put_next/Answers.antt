use Rattle.std.proofs.Common.{◌∙◌, ℕ, List, ap, refl, sym}
use Rattle.cm_brz_func.specs.Functions.{bucket_of}
use Rattle.cm_brz_split.specs.Records.{Record}
use Rattle.cm_brz_split.proofs.putting.put_next.Goals as goal

pub returns-clause-gives : goal.returns-clause-gives
returns-clause-gives g c = λ told is. (
  (g.P.KeyPass.last c.pass.new.self, c.in-Some.next.now),
  c.pass.ensures.gives c.in-Some.next.now c.in-Some.ensures.stands refl told is,
  c.bucket_of-bucket.ensures.bucket,
)

pub returns-clause-puts : goal.returns-clause-puts
returns-clause-puts g c = λ records held.
    let key : List ℕ = c.in-Some.next.now in
    record {
      put = record { bucket = c.bucket_of-bucket.result; line = c.in-Some.line; key = key };
      held = c.in_ok-put-in-Some.ensures.holds records held;
      here = refl;
      next = λ told is. record {
        key = (g.P.KeyPass.last c.pass.new.self, key);
        is = c.pass.ensures.gives key c.in-Some.ensures.stands refl told is;
        put_is = ap (λ (b : ℕ). let r : Record = record { bucket = b; line = c.in-Some.line; key = key } in r) c.bucket_of-bucket.ensures.bucket
            ∙ ap (λ (l : ℕ). let r : Record = record { bucket = bucket_of key c.args.split.now.seed c.args.split.now.buckets; line = l; key = key } in r) (c.in-Some.ensures.line.0 ∙ sym c.pass.ensures.line);
      };
    }

pub returns-clause-gave : goal.returns-clause-gave
returns-clause-gave g c = λ before given. record {
  key = (g.P.KeyPass.last c.pass.new.self, c.in-Some.next.now);
  given = c.pass.ensures.gave before c.in-Some.next.now given c.in-Some.ensures.stands refl;
  bucket_is = c.bucket_of-bucket.ensures.bucket;
}
