use Rattle.std.proofs.Common.{◌+◌, sym, ◌∙◌, ap, arith}
use Rattle.agg_model.specs.declared.query.Query.{Query}
use Rattle.agg_evaluation.specs.Rows.{beneath, row_of}
use Rattle.agg_evaluation.specs.Matching.{matches}
use Rattle.column_query.proofs.Lists.{none_more, none_at_all, one_is_enough, count_at_most}
use Rattle.column_query.proofs.Cases.{without_must, with_must_not, by_should, by_beneath, by_terms, by_value}
use Rattle.column_query.proofs.matching.+matches.Goals as goal

pub count_matching-overflow_add-count : goal.count_matching-overflow_add-count
count_matching-overflow_add-count t c =
    let few = count_at_most (λ (q : Query). matches c.args.shard.now.rows q (row_of c.args.shard.now.rows c.args.row)) c.as_slice-query-items.result.now c.loop-query.query-index in
    omega (arith, few, c.loop-query.invariant)

pub matches-returns-then-matches : goal.matches-returns-then-matches
matches-returns-then-matches t c =
    let rows = c.args.shard.now.rows in
    sym (by_beneath rows (row_of rows c.args.row) c.args.query.now c.in-Nested.path c.in-Nested.query c.in-Nested.is
    ∙ one_is_enough (matches rows c.in-Nested.query) (beneath rows (c.in-Nested.path + 1) (row_of rows c.args.row)) c.loop-place.place (row_of rows c.child.result) c.child.ensures.row
    (ap (λ (q : Query). matches rows q (row_of rows c.child.result)) (sym c.get.ensures) ∙ (sym c.matches.ensures ∙ c.if-matches.true)))

pub matches-loop-place-preserved : goal.matches-loop-place-preserved
matches-loop-place-preserved t c =
    let rows = c.args.shard.now.rows in
    none_more (matches rows c.in-Nested.query) (beneath rows (c.in-Nested.path + 1) (row_of rows c.args.row)) c.loop-place.place (row_of rows c.child.result) c.child.ensures.row c.loop-place.invariant
    (ap (λ (q : Query). matches rows q (row_of rows c.child.result)) (sym c.get.ensures) ∙ (sym c.matches.ensures ∙ c.if-matches.false))

pub matches-returns-after-loop-place : goal.matches-returns-after-loop-place
matches-returns-after-loop-place t c =
    let rows = c.args.shard.now.rows in
    sym (by_beneath rows (row_of rows c.args.row) c.args.query.now c.in-Nested.path c.in-Nested.query c.in-Nested.is
    ∙ none_at_all (matches rows c.in-Nested.query) (beneath rows (c.in-Nested.path + 1) (row_of rows c.args.row)) c.loop-place.place (omega (arith, c.child_count-place-end.ensures, c.loop-place-test.false)) c.loop-place.invariant)

pub matches-returns-in-Terms : goal.matches-returns-in-Terms
matches-returns-in-Terms t c =
    let rows = c.args.shard.now.rows in
    rw c.as_slice.ensures at c.has_wanted-in-Terms.ensures ∙ sym (by_terms rows (row_of rows c.args.row) c.args.query.now c.in-Terms.field c.in-Terms.values c.in-Terms.is)

pub matches-returns-in-Exists : goal.matches-returns-in-Exists
matches-returns-in-Exists t c =
    let rows = c.args.shard.now.rows in
    rw c.value_count.ensures (by_value rows (row_of rows c.args.row) c.args.query.now c.in-Exists.field c.in-Exists.is)

pub matches-returns-then-not-matches_all : goal.matches-returns-then-not-matches_all
matches-returns-then-not-matches_all t c =
    let rows = c.args.shard.now.rows in
    sym (without_must rows (row_of rows c.args.row) c.args.query.now c.in-Bool.must c.in-Bool.must_not c.in-Bool.should c.in-Bool.minimum c.in-Bool.is (sym c.matches_all.ensures ∙ c.if-not-matches_all.true))

pub matches-returns-then-matches_any : goal.matches-returns-then-matches_any
matches-returns-then-matches_any t c =
    let rows = c.args.shard.now.rows in
    sym (with_must_not rows (row_of rows c.args.row) c.args.query.now c.in-Bool.must c.in-Bool.must_not c.in-Bool.should c.in-Bool.minimum c.in-Bool.is (sym c.matches_all.ensures ∙ c.if-not-matches_all.false) (sym c.matches_any.ensures ∙ c.if-matches_any.true))

pub matches-returns-else-matches_any : goal.matches-returns-else-matches_any
matches-returns-else-matches_any t c =
    let rows = c.args.shard.now.rows in
    rw c.count_matching.ensures
    (sym (by_should rows (row_of rows c.args.row) c.args.query.now c.in-Bool.must c.in-Bool.must_not c.in-Bool.should c.in-Bool.minimum c.in-Bool.is (sym c.matches_all.ensures ∙ c.if-not-matches_all.false) (sym c.matches_any.ensures ∙ c.if-matches_any.false)))
