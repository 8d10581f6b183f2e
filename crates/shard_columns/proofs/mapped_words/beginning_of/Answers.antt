use Rattle.std.proofs.Common.{◌≡◌, ℕ, List, ◌++◌, ◌<◌, length, drop, take, replicate, ◌∙◌, ap, arith}
use Rattle.std.specs.Int.{w128, from_be_bytes}
use Rattle.shard_columns.proofs.Beginnings.{beginning-long, beginning-short}
use Rattle.shard_columns.proofs.mapped_words.beginning_of.Goals as goal

pub returns-in-Some : goal.returns-in-Some
returns-in-Some c =
    let first : List ℕ = c.in-Some.first.now in
    let result : c.from_be_bytes.result ≡ from_be_bytes w128 first = c.from_be_bytes.ensures in
    let value = c.as_bytes-bytes.ensures.value in
    let cases = c.in-Some.ensures.cases in
    result ∙ beginning-long c.args.word.now first (omega (arith, cases.enough, ap length value)) (cases.same ∙ ap (take 16) value)

pub returns : goal.returns
returns c =
    let bytes = c.as_bytes-bytes.result.now in
    let value = c.as_bytes-bytes.ensures.value in
    let result : c.from_be_bytes-2.result ≡ from_be_bytes w128 (c.copy_from_slice.new.self ++ drop (length bytes) (replicate 16 0)) = c.from_be_bytes-2.ensures in
    let short : length bytes < 16 = c.in_default.ensures.cases in
    result ∙ beginning-short c.args.word.now (c.copy_from_slice.new.self ++ drop (length bytes) (replicate 16 0)) (omega (arith, short, ap length value)) (λ i. (c.copy_from_slice.ensures.after ∙ value) i ++ drop (length (value i)) (replicate 16 0))
