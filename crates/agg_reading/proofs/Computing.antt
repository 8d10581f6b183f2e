-- All that unfolds when a definition runs on input that is written out.
use Rattle.serde_json.proofs.OnLiterals.{serde_json_on_literals}
use Rattle.std.specs.Str.{chars, is_utf8}

unfoldable pub computing : Unit {0}
unfolding
    serde_json_on_literals chars is_utf8 Rattle.std.specs.Fmt.digits
    Rattle.agg_reading.specs.Json.reading Rattle.agg_reading.specs.Json.json_at Rattle.agg_reading.specs.Json.object_at
    Rattle.agg_reading.specs.Json.list_at Rattle.agg_reading.specs.Json.text_at Rattle.agg_reading.specs.Json.required
    Rattle.agg_reading.specs.Json.known Rattle.agg_reading.specs.Json.sole_besides Rattle.agg_reading.specs.Json.sole_at
    Rattle.agg_reading.specs.Scalars.decimal_of Rattle.agg_reading.specs.Scalars.whole Rattle.agg_reading.specs.Scalars.word
    Rattle.date_spec.proofs.Computing.computing Rattle.agg_reading.specs.Scalars.instant Rattle.agg_reading.specs.Properties.format_at
    Rattle.agg_reading.specs.Scalars.flag Rattle.agg_reading.specs.Scalars.probe_of Rattle.agg_reading.specs.Numbers.number_at
    Rattle.agg_reading.specs.Numbers.whole_at Rattle.agg_reading.specs.Numbers.signed_at Rattle.agg_reading.specs.Numbers.truth_at
    Rattle.agg_reading.specs.Numbers.choice_at Rattle.agg_reading.specs.Fields.field_from Rattle.agg_reading.specs.Fields.nested_from
    Rattle.agg_reading.specs.Fields.field_at Rattle.agg_model.specs.Contexts.is_in_context Rattle.agg_model.specs.Contexts.encloses
    Rattle.agg_reading.specs.Properties.place Rattle.agg_reading.specs.Properties.is_field_name Rattle.agg_reading.specs.Properties.type_named
    Rattle.agg_reading.specs.Properties.type_at Rattle.agg_reading.specs.Properties.type_in Rattle.agg_reading.specs.Properties.bound_at
    Rattle.agg_reading.specs.Properties.leaf_at Rattle.agg_reading.specs.Properties.fields_from Rattle.agg_reading.specs.Properties.properties_at
    Rattle.agg_reading.specs.Properties.inner_at Rattle.agg_reading.specs.Properties.property_at Rattle.agg_reading.specs.Mapping.found_from
    Rattle.agg_reading.specs.Mapping.context_of Rattle.agg_reading.specs.Mapping.numbered_field Rattle.agg_reading.specs.Mapping.numbered_path
    Rattle.agg_reading.specs.Mapping.numbered Rattle.agg_reading.specs.Mapping.dynamic_at Rattle.agg_reading.specs.Mapping.found_in
    Rattle.agg_reading.specs.Mapping.mapping_at Rattle.agg_reading.specs.IndexLine.shards_at Rattle.agg_reading.specs.IndexLine.shards_named
    Rattle.agg_reading.specs.IndexLine.inner_shards Rattle.agg_reading.specs.IndexLine.agreed Rattle.agg_reading.specs.IndexLine.agreed_all
    Rattle.agg_reading.specs.IndexLine.settings_at Rattle.agg_reading.specs.IndexLine.index_name_at Rattle.agg_reading.specs.IndexLine.index_value_at
    Rattle.agg_reading.specs.IndexLine.index_line_at Rattle.agg_reading.specs.Action.action_named Rattle.agg_reading.specs.Action.set_member
    Rattle.agg_reading.specs.Action.is_plain Rattle.agg_reading.specs.Action.label_in Rattle.agg_reading.specs.Action.heading_at
    Rattle.agg_reading.specs.Action.action_value_at Rattle.agg_reading.specs.Action.action_at Rattle.agg_reading.specs.Rows.insert_value
    Rattle.agg_reading.specs.Rows.finished_values Rattle.agg_reading.specs.Rows.finished_field Rattle.agg_reading.specs.Rows.finished
    Rattle.agg_reading.specs.Rows.count_in Rattle.agg_reading.specs.Rows.with_value Rattle.agg_reading.specs.Rows.with_row
    Rattle.agg_reading.specs.Document.leads_deeper Rattle.agg_reading.specs.Document.role_of Rattle.agg_reading.specs.Document.scalar_at
    Rattle.agg_reading.specs.Document.with_scalar Rattle.agg_reading.specs.Document.leaf_at Rattle.agg_reading.specs.Document.around
    Rattle.agg_reading.specs.Document.document_value_at Rattle.agg_reading.specs.Document.document_at Rattle.agg_reading.specs.Routing.hash_of
    Rattle.agg_reading.specs.Routing.shard_of Rattle.agg_reading.specs.Store.live_at Rattle.agg_reading.specs.Store.with_document
    Rattle.agg_reading.specs.Store.live_documents Rattle.agg_reading.specs.Store.store_weight Rattle.agg_reading.specs.Store.put_row
    Rattle.agg_reading.specs.Store.deleted Rattle.agg_reading.specs.Store.applied Rattle.agg_reading.specs.Store.shards_of
    Rattle.agg_model.specs.Lines.lines Rattle.agg_reading.specs.Lines.is_empty_line Rattle.agg_reading.specs.Lines.line_fault
    Rattle.agg_reading.specs.Lines.checked Rattle.agg_reading.specs.Script.with_action Rattle.agg_reading.specs.Script.heading_of
    Rattle.agg_reading.specs.Script.actions Rattle.agg_reading.specs.Script.source_of
    Rattle.agg_reading.specs.Script.sections Rattle.agg_reading.specs.Script.loaded Rattle.agg_reading.specs.Entries.header_members
    Rattle.agg_reading.specs.Entries.entries Rattle.agg_reading.specs.Entries.body_of Rattle.agg_reading.specs.SettingsLines.scope_of Rattle.agg_reading.specs.Leaves.value_at Rattle.agg_reading.specs.Leaves.field_in
    Rattle.agg_reading.specs.Leaves.about Rattle.agg_reading.specs.Leaves.match_all_at Rattle.agg_reading.specs.Leaves.boxed_value
    Rattle.agg_reading.specs.Leaves.term_at Rattle.agg_reading.specs.Leaves.values_from Rattle.agg_reading.specs.Leaves.values_at
    Rattle.agg_reading.specs.Leaves.terms_at Rattle.agg_reading.specs.Leaves.test_at Rattle.agg_reading.specs.Leaves.tests_at
    Rattle.agg_reading.specs.Leaves.range_at Rattle.agg_reading.specs.Leaves.exists_at Rattle.agg_reading.specs.Leaves.ids_from
    Rattle.agg_reading.specs.Leaves.ids_at Rattle.agg_reading.specs.Query.query_name Rattle.agg_reading.specs.Query.queries_from
    Rattle.agg_reading.specs.Query.clause_at Rattle.agg_reading.specs.Query.all_at Rattle.agg_reading.specs.Query.clauses_at
    Rattle.agg_reading.specs.Query.bool_at Rattle.agg_reading.specs.Query.nested_at Rattle.agg_reading.specs.Query.path_in
    Rattle.agg_reading.specs.Query.within_at Rattle.agg_reading.specs.Query.named_at Rattle.agg_reading.specs.Query.query_at
    Rattle.agg_reading.specs.Query.top_query_at Rattle.agg_reading.specs.Query.query_from Rattle.agg_reading.specs.Orders.direction_at
    Rattle.agg_reading.specs.Orders.order_at Rattle.agg_reading.specs.Orders.orders_from Rattle.agg_reading.specs.Orders.item_count
    Rattle.agg_reading.specs.Orders.orders_at Rattle.agg_reading.specs.Orders.child_from Rattle.agg_reading.specs.Orders.child_named
    Rattle.agg_reading.specs.Orders.compared_by Rattle.agg_reading.specs.Orders.resolved Rattle.agg_reading.specs.Orders.with_order
    Rattle.agg_reading.specs.Pipelines.pipe_name Rattle.agg_reading.specs.Pipelines.path_at Rattle.agg_reading.specs.Pipelines.sort_order_at
    Rattle.agg_reading.specs.Pipelines.sort_orders_from Rattle.agg_reading.specs.Pipelines.sort_orders_at Rattle.agg_reading.specs.Pipelines.bucket_sort_at
    Rattle.agg_reading.specs.Pipelines.pipe_kind_at Rattle.agg_reading.specs.PipePaths.value_path Rattle.agg_reading.specs.PipePaths.begins_with
    Rattle.agg_reading.specs.PipePaths.sibling_from Rattle.agg_reading.specs.PipePaths.sibling_path Rattle.agg_reading.specs.PipePaths.sort_paths
    Rattle.agg_reading.specs.PipePaths.resolved_kind Rattle.agg_reading.specs.PipePaths.resolved_pipes
    Rattle.agg_reading.specs.PipePaths.placed_pipes Rattle.agg_reading.specs.PipePaths.fitted_pipes
    Rattle.agg_reading.specs.Terms.missing_at Rattle.agg_reading.specs.Terms.term_lists_in Rattle.agg_reading.specs.Terms.term_counts_in
    Rattle.agg_reading.specs.Terms.term_sizes_in Rattle.agg_reading.specs.Terms.terms_in Rattle.agg_reading.specs.Terms.terms_at
    Rattle.agg_reading.specs.Histogram.whole_field_in Rattle.agg_reading.specs.Histogram.bounds_at Rattle.agg_reading.specs.Histogram.histogram_ranges_in
    Rattle.agg_reading.specs.Histogram.histogram_counts_in Rattle.agg_reading.specs.Histogram.histogram_rules Rattle.agg_reading.specs.Histogram.histogram_in
    Rattle.agg_reading.specs.DateHistogram.date_field_in Rattle.agg_reading.specs.DateHistogram.instant_at Rattle.agg_reading.specs.DateHistogram.calendar_period
    Rattle.agg_reading.specs.DateHistogram.unit_millis Rattle.agg_reading.specs.DateHistogram.is_amount Rattle.agg_reading.specs.DateHistogram.fixed_of
    Rattle.agg_reading.specs.DateHistogram.fixed_period Rattle.agg_reading.specs.DateHistogram.zone_of Rattle.agg_reading.specs.DateHistogram.said_at
    Rattle.agg_reading.specs.DateHistogram.date_ranges_in Rattle.agg_reading.specs.DateHistogram.date_counts_in
    Rattle.agg_reading.specs.DateHistogram.date_histogram_in Rattle.agg_reading.specs.DateHistogram.date_histogram_at
    Rattle.agg_reading.specs.Histogram.histogram_at Rattle.agg_reading.specs.Filters.name_at Rattle.agg_reading.specs.Filters.listed_from
    Rattle.agg_reading.specs.Filters.named_from Rattle.agg_reading.specs.Filters.filter_list_at Rattle.agg_reading.specs.Filters.other_of
    Rattle.agg_reading.specs.Filters.filters_in Rattle.agg_reading.specs.Filters.filters_at Rattle.agg_reading.specs.Composite.source_named
    Rattle.agg_reading.specs.Composite.terms_source_at Rattle.agg_reading.specs.Composite.histogram_source_at Rattle.agg_reading.specs.Composite.source_at
    Rattle.agg_reading.specs.Composite.named_source_at Rattle.agg_reading.specs.Composite.sources_from Rattle.agg_reading.specs.Composite.sources_at
    Rattle.agg_reading.specs.After.part_at Rattle.agg_reading.specs.After.source_of Rattle.agg_reading.specs.After.parts_from
    Rattle.agg_reading.specs.After.has_names Rattle.agg_reading.specs.After.after_at Rattle.agg_reading.specs.After.after_rule
    Rattle.agg_reading.specs.After.distinct_from Rattle.agg_reading.specs.After.after_key Rattle.agg_reading.specs.After.composite_in
    Rattle.agg_reading.specs.After.composite_at Rattle.agg_reading.specs.Metrics.metered_in Rattle.agg_reading.specs.Metrics.number_metric_at
    Rattle.agg_reading.specs.Metrics.number_field_in Rattle.agg_reading.specs.Metrics.extreme_at
    Rattle.agg_reading.specs.Metrics.any_metric_at Rattle.agg_reading.specs.Metrics.missing_kind_at Rattle.agg_reading.specs.Metrics.global_at
    Rattle.agg_reading.specs.Metrics.nested_context_at Rattle.agg_reading.specs.Metrics.enclosing_at Rattle.agg_reading.specs.Metrics.outer_context_at
    Rattle.agg_reading.specs.Aggregations.kind_name Rattle.agg_reading.specs.Aggregations.kind_at Rattle.agg_reading.specs.Aggregations.is_aggregation_name
    Rattle.agg_reading.specs.Aggregations.kind_member Rattle.agg_reading.specs.Request.aggregations_from Rattle.agg_reading.specs.Request.aggregations_at
    Rattle.agg_reading.specs.Request.children_in Rattle.agg_reading.specs.Request.placed Rattle.agg_reading.specs.Request.assembled
    Rattle.agg_reading.specs.Request.assembled_pipe Rattle.agg_reading.specs.Request.kind_of Rattle.agg_reading.specs.Request.pipe_of Rattle.agg_reading.specs.Request.item_of
    Rattle.agg_reading.specs.Request.aggregation_of Rattle.agg_reading.specs.Request.aggregation_at Rattle.agg_reading.specs.Request.search_in
    Rattle.agg_reading.specs.Request.search_value_at Rattle.agg_reading.specs.Request.search_of
    Rattle.agg_model.specs.declared.row.Children.TheViews.roll-Row Rattle.agg_model.specs.declared.row.Children.TheViews.roll-Children
    Rattle.agg_model.specs.declared.row.Children.TheViews.out-Children Rattle.agg_model.specs.declared.aggregation.Agg.TheViews.roll-Agg
    Rattle.agg_model.specs.declared.aggregation.Agg.TheViews.out-Agg Rattle.agg_model.specs.declared.key.Key.TheViews.out-Key
    Rattle.agg_model.specs.declared.key.Key.TheViews.roll-Key Rattle.agg_model.specs.declared.row.Children.TheBlock.hidden-the_row-Children-1
    Rattle.agg_model.specs.declared.row.Children.TheBlock.shown-the_row-Children-1
    Rattle.agg_model.specs.declared.aggregation.Agg.TheBlock.hidden-the_row-Agg-0
    Rattle.agg_model.specs.declared.aggregation.Agg.TheBlock.shown-the_row-Agg-0 Rattle.agg_model.specs.declared.key.Key.TheBlock.hidden-the_row-Key-0
    Rattle.agg_model.specs.declared.key.Key.TheBlock.shown-the_row-Key-0 denote.Hole.Carrier.out
    denote.Hole.Carrier.roll denote.Hole.Carrier.shown
    denote.Hole.Carrier.hidden
computing = tt
