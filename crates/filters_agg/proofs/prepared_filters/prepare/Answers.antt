use Rattle.filters_agg.proofs.Making.{made-filters, made-filter, ready-Filters, ready-Filter, ready-Missing}
use Rattle.filters_agg.proofs.prepared_filters.prepare.Goals as goal

pub prepare_all-requires : goal.prepare_all-requires
prepare_all-requires c = made-filters c.args.shard.now c.args.kind.now c.in-Filters.names c.in-Filters.filters c.in-Filters.other c.in-Filters.is c.requires.made

pub prepare-requires : goal.prepare-requires
prepare-requires c = made-filter c.args.shard.now c.args.kind.now c.in-Filter.query c.in-Filter.is c.requires.made

pub returns-in_ok-prepare_all-in-Filters : goal.returns-in_ok-prepare_all-in-Filters
returns-in_ok-prepare_all-in-Filters c =
    ready-Filters c.args.shard.now c.args.kind.now c.in-Filters.names c.in-Filters.filters c.in-Filters.other c.in_ok-prepare_all-in-Filters.field-0 c.is_some.result c.in-Filters.is c.requires.filtering c.in_ok-prepare_all-in-Filters.ensures c.is_some.ensures

pub returns-in_ok-only-in-Filter : goal.returns-in_ok-only-in-Filter
returns-in_ok-only-in-Filter c =
    ready-Filter c.args.shard.now c.args.kind.now c.in-Filter.query c.in_ok-prepare-in-Filter.field-0 c.in_ok-only-in-Filter.field-0 c.in-Filter.is c.requires.filtering c.in_ok-prepare-in-Filter.ensures c.in_ok-only-in-Filter.ensures

pub returns-in_ok-only-in-Missing : goal.returns-in_ok-only-in-Missing
returns-in_ok-only-in-Missing c =
    ready-Missing c.args.shard.now c.args.kind.now c.in-Missing.field c.in_ok-without_value-in-Missing.field-0 c.in_ok-only-in-Missing.field-0 c.in-Missing.is c.requires.filtering c.in_ok-without_value-in-Missing.ensures c.in_ok-only-in-Missing.ensures
