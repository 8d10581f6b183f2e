use Rattle.std.proofs.Common.{ltb, Some, rules, sym, ◌∙◌, ap}
use Rattle.std.proofs.lemmas.List.Sorted.{IsPartitionPoint-from_clause, IsPartitionedBy-ltb}
use Rattle.shard_columns.specs.declared.values.Held.{Held}
use Rattle.shard_columns.proofs.Searching.{IsNonDecreasingBy-rising, not-past, not-at, is-at}
use Rattle.shard_columns.proofs.search.find_held.Goals as goal

pub returns-in_err-one : goal.returns-in_err-one
returns-in_err-one c =
    let hs = c.args.held.now in
    let point = IsPartitionPoint-from_clause (λ (h : Held). ltb h.row c.args.row) hs _ c.partition_point-place.ensures.partitioned (IsPartitionedBy-ltb (λ (h : Held). h.row) hs c.args.row (IsNonDecreasingBy-rising (λ (h : Held). h.row) hs c.requires)) (λ a r f k. search rules) in
    rw (not-past hs c.args.row c.partition_point-place.result (record { row = 0; span = record { start = 0; end = 0 } }) point c.in_err-one.ensures.lookup.3) (search rules)

pub returns-then-one-row : goal.returns-then-one-row
returns-then-one-row c =
    let hs = c.args.held.now in
    let point = IsPartitionPoint-from_clause (λ (h : Held). ltb h.row c.args.row) hs _ c.partition_point-place.ensures.partitioned (IsPartitionedBy-ltb (λ (h : Held). h.row) hs c.args.row (IsNonDecreasingBy-rising (λ (h : Held). h.row) hs c.requires)) (λ a r f k. search rules) in
    let l = c.in_ok-one.ensures.lookup in
    let d = c.in_ok-one.field-0.now in
    ap Some l.1 ∙ sym (is-at hs c.args.row c.partition_point-place.result d point l.3.0 (ap (λ (h : Held). h.row) (sym l.1) ∙ c.if-one-row.true))

pub returns-else-one-row : goal.returns-else-one-row
returns-else-one-row c =
    let hs = c.args.held.now in
    let point = IsPartitionPoint-from_clause (λ (h : Held). ltb h.row c.args.row) hs _ c.partition_point-place.ensures.partitioned (IsPartitionedBy-ltb (λ (h : Held). h.row) hs c.args.row (IsNonDecreasingBy-rising (λ (h : Held). h.row) hs c.requires)) (λ a r f k. search rules) in
    let l = c.in_ok-one.ensures.lookup in
    let d = c.in_ok-one.field-0.now in
    sym (not-at hs c.args.row c.partition_point-place.result d c.requires point l.3.0 (λ same. c.if-one-row.false (ap (λ (h : Held). h.row) l.1 ∙ same)))
