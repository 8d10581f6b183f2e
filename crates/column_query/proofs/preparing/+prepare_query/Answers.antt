use Rattle.std.proofs.Common.{length, sym, ap, arith, subst, List}
use Rattle.agg_model.specs.declared.query.Probe.{Probe}
use Rattle.agg_model.specs.declared.query.RangeTest.{RangeTest}
use Rattle.agg_model.specs.declared.query.Query.{Query, size-Query}
use Rattle.column_query.specs.Prepared.{TestsFor, BoundAsAll, HasIds, IsReady}
use Rattle.column_query.specs.declared.prepared.Prepared.{Prepared}
use Rattle.column_query.specs.declared.prepared.Prepared.TheVariants as prepared
use Rattle.column_query.proofs.Ready.{ready-Term, ready-Terms, ready-Range, ready-Ids, ready-Bool, ready-Nested, parts-look, inner-looks}
use Rattle.column_query.proofs.QuerySizes.{parts-less, inner-less}
use Rattle.column_query.proofs.preparing.+prepare_query.Goals as goal

pub prepare_query-prepare_all-requires : goal.prepare_query-prepare_all-requires
prepare_query-prepare_all-requires t c =
    let deeper = parts-less c.args.query.now c.in-Bool.must c.in-Bool.must_not c.in-Bool.should c.in-Bool.minimum c.in-Bool.is in
    (omega (arith, c.decreases, deeper.0), (c.requires.built, (parts-look (length c.args.shard.now.kinds) c.args.query.now c.in-Bool.must c.in-Bool.must_not c.in-Bool.should c.in-Bool.minimum c.in-Bool.is c.requires.looks).0))

pub prepare_query-prepare_all-requires-in-Bool : goal.prepare_query-prepare_all-requires-in-Bool
prepare_query-prepare_all-requires-in-Bool t c =
    let deeper = parts-less c.args.query.now c.in-Bool.must c.in-Bool.must_not c.in-Bool.should c.in-Bool.minimum c.in-Bool.is in
    (omega (arith, c.decreases, deeper.1), (c.requires.built, (parts-look (length c.args.shard.now.kinds) c.args.query.now c.in-Bool.must c.in-Bool.must_not c.in-Bool.should c.in-Bool.minimum c.in-Bool.is c.requires.looks).1))

pub prepare_query-prepare_all-requires-in-Bool-2 : goal.prepare_query-prepare_all-requires-in-Bool-2
prepare_query-prepare_all-requires-in-Bool-2 t c =
    let deeper = parts-less c.args.query.now c.in-Bool.must c.in-Bool.must_not c.in-Bool.should c.in-Bool.minimum c.in-Bool.is in
    (omega (arith, c.decreases, deeper.2), (c.requires.built, (parts-look (length c.args.shard.now.kinds) c.args.query.now c.in-Bool.must c.in-Bool.must_not c.in-Bool.should c.in-Bool.minimum c.in-Bool.is c.requires.looks).2))

pub prepare_query-prepare_query-requires : goal.prepare_query-prepare_query-requires
prepare_query-prepare_query-requires t c =
    let deeper = inner-less c.args.query.now c.in-Nested.path c.in-Nested.query c.in-Nested.is in
    (omega (arith, c.decreases, deeper, ap size-Query c.get.ensures), (c.requires.built, rw c.get.ensures (inner-looks (length c.args.shard.now.kinds) c.args.query.now c.in-Nested.path c.in-Nested.query c.in-Nested.is c.requires.looks)))

pub prepare_query-returns-in-Term : goal.prepare_query-returns-in-Term
prepare_query-returns-in-Term t c = ready-Term c.args.shard.now c.args.query.now c.in-Term.field c.in-Term.value c.number_of_probe.result c.in-Term.is c.requires.looks c.number_of_probe.ensures

pub prepare_query-returns-in_ok-list_test-in-Terms : goal.prepare_query-returns-in_ok-list_test-in-Terms
prepare_query-returns-in_ok-list_test-in-Terms t c =
    ready-Terms c.args.shard.now c.args.query.now c.in-Terms.field c.in-Terms.values c.in_ok-list_test-in-Terms.field-0 c.in-Terms.is c.requires.looks
    (subst (λ (ps : List Probe). TestsFor c.args.shard.now.rows c.in-Terms.field ps c.in_ok-list_test-in-Terms.field-0) c.as_slice.ensures c.in_ok-list_test-in-Terms.ensures)

pub prepare_query-returns-in_ok-bounds_of-in-Range : goal.prepare_query-returns-in_ok-bounds_of-in-Range
prepare_query-returns-in_ok-bounds_of-in-Range t c =
    ready-Range c.args.shard.now c.args.query.now c.in-Range.field c.in-Range.tests c.in_ok-bounds_of-in-Range.field-0 c.in-Range.is c.requires.looks
    (subst (λ (ts : List RangeTest). BoundAsAll c.args.shard.now.rows c.in-Range.field ts c.in_ok-bounds_of-in-Range.field-0.items) c.as_slice-in-Range.ensures c.in_ok-bounds_of-in-Range.ensures)

pub prepare_query-returns-in_ok-ids_of-in-Ids : goal.prepare_query-returns-in_ok-ids_of-in-Ids
prepare_query-returns-in_ok-ids_of-in-Ids t c =
    ready-Ids c.args.shard.now c.args.query.now c.in-Ids.values c.in_ok-ids_of-in-Ids.field-0 c.in-Ids.is
    (subst (λ (vs : List _). HasIds vs c.in_ok-ids_of-in-Ids.field-0.keys) c.as_slice-in-Ids.ensures c.in_ok-ids_of-in-Ids.ensures)

pub prepare_query-returns-in_ok-prepare_all-in-Bool-3 : goal.prepare_query-returns-in_ok-prepare_all-in-Bool-3
prepare_query-returns-in_ok-prepare_all-in-Bool-3 t c =
    ready-Bool c.args.shard.now c.args.query.now c.in-Bool.must c.in-Bool.must_not c.in-Bool.should c.in-Bool.minimum c.in_ok-prepare_all-in-Bool.field-0 c.in_ok-prepare_all-in-Bool-2.field-0 c.in_ok-prepare_all-in-Bool-3.field-0 c.in-Bool.is
    c.in_ok-prepare_all-in-Bool.ensures c.in_ok-prepare_all-in-Bool-2.ensures c.in_ok-prepare_all-in-Bool-3.ensures

pub prepare_query-returns-in_ok-new-in-Nested : goal.prepare_query-returns-in_ok-new-in-Nested
prepare_query-returns-in_ok-new-in-Nested t c =
    subst (λ (p : Prepared). IsReady c.args.shard.now c.args.query.now (prepared.Nested c.in-Nested.path p)) (sym c.in_ok-new-in-Nested.ensures)
    (ready-Nested c.args.shard.now c.args.query.now c.in-Nested.path c.in-Nested.query c.in_ok-prepare_query-in-Nested.field-0 c.in-Nested.is
    (subst (λ (q : Query). IsReady c.args.shard.now q c.in_ok-prepare_query-in-Nested.field-0) c.get.ensures c.in_ok-prepare_query-in-Nested.ensures))
