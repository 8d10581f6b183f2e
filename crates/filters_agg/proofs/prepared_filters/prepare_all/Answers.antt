use Rattle.std.proofs.Common.{subst}
use Rattle.filters_agg.proofs.Making.{made-one}
use Rattle.filters_agg.specs.Filtering.{AreMadeFor}
use Rattle.std.proofs.Common.{sym}
use Rattle.filters_agg.proofs.prepared_filters.prepare_all.Goals as goal

pub prepare-requires : goal.prepare-requires
prepare-requires c =
    let items = c.as_slice-query-items.result.now in
    made-one c.args.shard.now items c.loop-query.query-index c.query-item.result (subst (AreMadeFor c.args.shard.now) (sym c.as_slice-query-items.ensures) c.requires) c.loop-query-test.true c.query-item.is
