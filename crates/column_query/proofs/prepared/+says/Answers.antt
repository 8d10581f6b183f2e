use Rattle.std.proofs.Common.{ℕ, Bool, length, get_or, sym, ◌∙◌, ap, arith}
use Rattle.std.specs.List.{list_all, list_any}
use Rattle.std.proofs.lemmas.Option.{slice_get-get_or}
use Rattle.agg_evaluation.specs.Rows.{row_of}
use denote.Param.Weighed.{most}
use Rattle.column_query.specs.declared.prepared.Prepared.{Prepared, size-Prepared}
use Rattle.column_query.specs.Prepared.{says, reads_below}
use Rattle.column_query.proofs.Lists.{any_mapped, none_more, none_at_all, one_is_enough, count_at_most}
use Rattle.column_query.proofs.PreparedCases.{without_must, with_must_not, by_should, by_beneath, by_value, parts-read, inner-reads, all_at}
use Rattle.column_query.proofs.Sizes.{parts-less, inner-less, item-most}
use Rattle.column_query.proofs.prepared.+says.Goals as goal

pub count_matching-overflow_add-count : goal.count_matching-overflow_add-count
count_matching-overflow_add-count t c =
    let few = count_at_most (λ (q : Prepared). says c.args.shard.now.rows q (row_of c.args.shard.now.rows c.args.row)) c.as_slice-query-items.result.now c.loop-query.query-index in
    omega (arith, few, c.loop-query.invariant)

pub is_match-all_match-requires : goal.is_match-all_match-requires
is_match-all_match-requires t c =
    let deeper = parts-less c.args.query.now c.in-Bool.must c.in-Bool.must_not c.in-Bool.should c.in-Bool.minimum c.in-Bool.is in
    (omega (arith, c.decreases, deeper.0), ((parts-read (length c.args.shard.now.kinds) c.args.query.now c.in-Bool.must c.in-Bool.must_not c.in-Bool.should c.in-Bool.minimum c.in-Bool.is c.requires.fields).0, c.requires.in_range))

pub is_match-any_matches-requires : goal.is_match-any_matches-requires
is_match-any_matches-requires t c =
    let deeper = parts-less c.args.query.now c.in-Bool.must c.in-Bool.must_not c.in-Bool.should c.in-Bool.minimum c.in-Bool.is in
    (omega (arith, c.decreases, deeper.1), ((parts-read (length c.args.shard.now.kinds) c.args.query.now c.in-Bool.must c.in-Bool.must_not c.in-Bool.should c.in-Bool.minimum c.in-Bool.is c.requires.fields).1, c.requires.in_range))

pub is_match-count_matching-requires : goal.is_match-count_matching-requires
is_match-count_matching-requires t c =
    let deeper = parts-less c.args.query.now c.in-Bool.must c.in-Bool.must_not c.in-Bool.should c.in-Bool.minimum c.in-Bool.is in
    (omega (arith, c.decreases, deeper.2), ((parts-read (length c.args.shard.now.kinds) c.args.query.now c.in-Bool.must c.in-Bool.must_not c.in-Bool.should c.in-Bool.minimum c.in-Bool.is c.requires.fields).2, c.requires.in_range))

pub is_match-is_match-requires : goal.is_match-is_match-requires
is_match-is_match-requires t c =
    let deeper = inner-less c.args.query.now c.in-Nested.path c.in-Nested.query c.in-Nested.is in (
      omega (arith, c.decreases, deeper, ap size-Prepared c.get.ensures),
      (
        rw c.get.ensures (inner-reads (length c.args.shard.now.kinds) c.args.query.now c.in-Nested.path c.in-Nested.query c.in-Nested.is c.requires.fields),
        c.children-child-items.ensures.numbers c.loop-child.child-index c.loop-child-test.true,
      ),
    )

pub all_match-is_match-requires : goal.all_match-is_match-requires
all_match-is_match-requires t c =
    let items = c.as_slice-query-items.result.now in (
      omega (arith, c.decreases, item-most items c.loop-query.query-index c.query-item.result c.loop-query-test.true c.query-item.is, ap (most size-Prepared) c.as_slice-query-items.ensures),
      (all_at (reads_below (length c.args.shard.now.kinds)) items c.loop-query.query-index c.query-item.result c.loop-query-test.true c.query-item.is (ap (list_all (reads_below (length c.args.shard.now.kinds))) c.as_slice-query-items.ensures ∙ c.requires.fields), c.requires.in_range),
    )

pub any_matches-is_match-requires : goal.any_matches-is_match-requires
any_matches-is_match-requires t c =
    let items = c.as_slice-query-items.result.now in (
      omega (arith, c.decreases, item-most items c.loop-query.query-index c.query-item.result c.loop-query-test.true c.query-item.is, ap (most size-Prepared) c.as_slice-query-items.ensures),
      (all_at (reads_below (length c.args.shard.now.kinds)) items c.loop-query.query-index c.query-item.result c.loop-query-test.true c.query-item.is (ap (list_all (reads_below (length c.args.shard.now.kinds))) c.as_slice-query-items.ensures ∙ c.requires.fields), c.requires.in_range),
    )

pub count_matching-is_match-requires : goal.count_matching-is_match-requires
count_matching-is_match-requires t c =
    let items = c.as_slice-query-items.result.now in (
      omega (arith, c.decreases, item-most items c.loop-query.query-index c.query-item.result c.loop-query-test.true c.query-item.is, ap (most size-Prepared) c.as_slice-query-items.ensures),
      (all_at (reads_below (length c.args.shard.now.kinds)) items c.loop-query.query-index c.query-item.result c.loop-query-test.true c.query-item.is (ap (list_all (reads_below (length c.args.shard.now.kinds))) c.as_slice-query-items.ensures ∙ c.requires.fields), c.requires.in_range),
    )

pub is_match-returns-then-is_match : goal.is_match-returns-then-is_match
is_match-returns-then-is_match t c =
    let rows = c.args.shard.now.rows in
    let children = c.children-child-items.result.now in
    let says_of : ℕ → Bool = λ n. says rows c.in-Nested.query (row_of rows n) in
    sym (by_beneath rows (row_of rows c.args.row) c.args.query.now c.in-Nested.path c.in-Nested.query c.in-Nested.is
    ∙ (ap (list_any (says rows c.in-Nested.query)) (sym c.children-child-items.ensures.rows) ∙ (any_mapped (says rows c.in-Nested.query) (row_of rows) children
    ∙ one_is_enough says_of children c.loop-child.child-index (get_or children c.loop-child.child-index 0) (slice_get-get_or children c.loop-child.child-index 0 c.loop-child-test.true)
    (ap (λ (q : Prepared). says rows q (row_of rows (get_or children c.loop-child.child-index 0))) (sym c.get.ensures) ∙ (sym c.is_match.ensures ∙ c.if-is_match.true)))))

pub is_match-loop-child-preserved : goal.is_match-loop-child-preserved
is_match-loop-child-preserved t c =
    let rows = c.args.shard.now.rows in
    let children = c.children-child-items.result.now in
    let says_of : ℕ → Bool = λ n. says rows c.in-Nested.query (row_of rows n) in
    none_more says_of children c.loop-child.child-index (get_or children c.loop-child.child-index 0) (slice_get-get_or children c.loop-child.child-index 0 c.loop-child-test.true) c.loop-child.invariant
    (ap (λ (q : Prepared). says rows q (row_of rows (get_or children c.loop-child.child-index 0))) (sym c.get.ensures) ∙ (sym c.is_match.ensures ∙ c.if-is_match.false))

pub is_match-returns-after-loop-child : goal.is_match-returns-after-loop-child
is_match-returns-after-loop-child t c =
    let rows = c.args.shard.now.rows in
    let children = c.children-child-items.result.now in
    let says_of : ℕ → Bool = λ n. says rows c.in-Nested.query (row_of rows n) in
    sym (by_beneath rows (row_of rows c.args.row) c.args.query.now c.in-Nested.path c.in-Nested.query c.in-Nested.is
    ∙ (ap (list_any (says rows c.in-Nested.query)) (sym c.children-child-items.ensures.rows) ∙ (any_mapped (says rows c.in-Nested.query) (row_of rows) children
    ∙ none_at_all says_of children c.loop-child.child-index c.loop-child-test.false c.loop-child.invariant)))

pub is_match-returns-in-Exists : goal.is_match-returns-in-Exists
is_match-returns-in-Exists t c =
    let rows = c.args.shard.now.rows in
    rw c.value_count.ensures (by_value rows (row_of rows c.args.row) c.args.query.now c.in-Exists.field c.in-Exists.is)

pub is_match-returns-then-not-all_match : goal.is_match-returns-then-not-all_match
is_match-returns-then-not-all_match t c =
    let rows = c.args.shard.now.rows in
    sym (without_must rows (row_of rows c.args.row) c.args.query.now c.in-Bool.must c.in-Bool.must_not c.in-Bool.should c.in-Bool.minimum c.in-Bool.is (sym c.all_match.ensures ∙ c.if-not-all_match.true))

pub is_match-returns-then-any_matches : goal.is_match-returns-then-any_matches
is_match-returns-then-any_matches t c =
    let rows = c.args.shard.now.rows in
    sym (with_must_not rows (row_of rows c.args.row) c.args.query.now c.in-Bool.must c.in-Bool.must_not c.in-Bool.should c.in-Bool.minimum c.in-Bool.is (sym c.all_match.ensures ∙ c.if-not-all_match.false) (sym c.any_matches.ensures ∙ c.if-any_matches.true))

pub is_match-returns-else-any_matches : goal.is_match-returns-else-any_matches
is_match-returns-else-any_matches t c =
    let rows = c.args.shard.now.rows in
    rw c.count_matching.ensures
    (sym (by_should rows (row_of rows c.args.row) c.args.query.now c.in-Bool.must c.in-Bool.must_not c.in-Bool.should c.in-Bool.minimum c.in-Bool.is (sym c.all_match.ensures ∙ c.if-not-all_match.false) (sym c.any_matches.ensures ∙ c.if-any_matches.false)))
