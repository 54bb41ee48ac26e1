use Rattle.std.proofs.Common.{◌≡◌, ◌∙◌, ◌*◌, ◌^◌, ℕ, List, ap, arith, length}
use Rattle.std.specs.Int.{div_ceil}
use Rattle.cm_bits.specs.Held.{packed_cells}
use Rattle.cm_rank.specs.RankLaws.{stands_in_bytes}
use Rattle.cm_dump_lent.proofs.RankLemmas.{IsFrom, all, cut, wrong}
use Rattle.cm_dump_lent.proofs.ranks.open_ranks.Goals as goal

pub returns-in-Some-clause-exact : goal.returns-in-Some-clause-exact
returns-in-Some-clause-exact c =
    let cells : List ℕ = packed_cells 4 4 c.args.cells.now.n c.args.cells.now.bytes.now in
    let part : List ℕ = c.bytes_from-bytes.result.now in
    let b : ℕ = c.args.b in
    let from : IsFrom c.args.dump.now c.args.at part = record { given = c.bytes_from-bytes.ensures.bytes; inside = c.bytes_from-bytes.ensures.inside } in
    let count : c.ranks_len-most.result ≡ 4 * div_ceil (length cells) (2 ^ b) = c.ranks_len-most.ensures ∙ ap (λ (n : ℕ). 4 * div_ceil n (2 ^ b)) c.len.ensures in
    let first = c.in-Some.ensures.first in
    wrong c.args.dump.now part cells c.args.at b c.in-Some.i from (omega (arith, c.bytes_from-bytes.ensures.few, count)) first.0 first.1 first.2

pub returns-then-bytes-most-clause-exact : goal.returns-then-bytes-most-clause-exact
returns-then-bytes-most-clause-exact c =
    let cells : List ℕ = packed_cells 4 4 c.args.cells.now.n c.args.cells.now.bytes.now in
    let part : List ℕ = c.bytes_from-bytes.result.now in
    let b : ℕ = c.args.b in
    let from : IsFrom c.args.dump.now c.args.at part = record { given = c.bytes_from-bytes.ensures.bytes; inside = c.bytes_from-bytes.ensures.inside } in
    let count : c.ranks_len-most.result ≡ 4 * div_ceil (length cells) (2 ^ b) = c.ranks_len-most.ensures ∙ ap (λ (n : ℕ). 4 * div_ceil n (2 ^ b)) c.len.ensures in
    cut c.args.dump.now part cells c.args.at b from (omega (arith, c.if-bytes-most.true, count)) (c.bytes_from-bytes.ensures.all c.if-bytes-most.true) c.in-None.ensures.first

pub returns-else-bytes-most-clause-len : goal.returns-else-bytes-most-clause-len
returns-else-bytes-most-clause-len c =
    let cells : List ℕ = packed_cells 4 4 c.args.cells.now.n c.args.cells.now.bytes.now in
    let part : List ℕ = c.bytes_from-bytes.result.now in
    let b : ℕ = c.args.b in
    let count : c.ranks_len-most.result ≡ 4 * div_ceil (length cells) (2 ^ b) = c.ranks_len-most.ensures ∙ ap (λ (n : ℕ). 4 * div_ceil n (2 ^ b)) c.len.ensures in
    omega (arith, c.bytes_from-bytes.ensures.few, c.if-bytes-most.false, count)

pub returns-else-bytes-most-clause-stands : goal.returns-else-bytes-most-clause-stands
returns-else-bytes-most-clause-stands c =
    let cells : List ℕ = packed_cells 4 4 c.args.cells.now.n c.args.cells.now.bytes.now in
    let part : List ℕ = c.bytes_from-bytes.result.now in
    let b : ℕ = c.args.b in
    let count : c.ranks_len-most.result ≡ 4 * div_ceil (length cells) (2 ^ b) = c.ranks_len-most.ensures ∙ ap (λ (n : ℕ). 4 * div_ceil n (2 ^ b)) c.len.ensures in
    let long : length part ≡ 4 * div_ceil (length cells) (2 ^ b) = omega (arith, c.bytes_from-bytes.ensures.few, c.if-bytes-most.false, count) in
    stands_in_bytes 3 b cells part (omega (arith, c.requires.n)) c.in-None.ensures.first long

pub returns-else-bytes-most-clause-exact : goal.returns-else-bytes-most-clause-exact
returns-else-bytes-most-clause-exact c =
    let cells : List ℕ = packed_cells 4 4 c.args.cells.now.n c.args.cells.now.bytes.now in
    let part : List ℕ = c.bytes_from-bytes.result.now in
    let b : ℕ = c.args.b in
    let from : IsFrom c.args.dump.now c.args.at part = record { given = c.bytes_from-bytes.ensures.bytes; inside = c.bytes_from-bytes.ensures.inside } in
    let count : c.ranks_len-most.result ≡ 4 * div_ceil (length cells) (2 ^ b) = c.ranks_len-most.ensures ∙ ap (λ (n : ℕ). 4 * div_ceil n (2 ^ b)) c.len.ensures in
    let long : length part ≡ 4 * div_ceil (length cells) (2 ^ b) = omega (arith, c.bytes_from-bytes.ensures.few, c.if-bytes-most.false, count) in
    all c.args.dump.now part cells c.args.at b from long c.in-None.ensures.first
