-- All that unfolds when a definition runs on a value that is written out.
use Rattle.std.specs.Fmt.{digits}
use Rattle.serde_json.proofs.OnLiterals.{serde_json_on_literals}

unfoldable pub computing : Unit {0}
unfolding
    Rattle.agg_model.specs.declared.row.Children.TheViews.roll-Row Rattle.agg_model.specs.declared.row.Children.TheViews.roll-Children
    Rattle.agg_model.specs.declared.answer.BucketAnswer.TheViews.roll-NodeAnswer Rattle.agg_model.specs.declared.answer.BucketAnswer.TheViews.roll-BucketAnswer
    Rattle.agg_model.specs.declared.aggregation.Agg.TheViews.roll-Agg Rattle.agg_model.specs.declared.aggregation.Agg.TheViews.out-Agg
    Rattle.agg_model.specs.declared.partial.Node.TheViews.out-Node Rattle.agg_model.specs.declared.partial.Node.TheViews.roll-Node
    Rattle.agg_model.specs.declared.query.Query.TheViews.out-Query Rattle.agg_model.specs.declared.query.Query.TheViews.roll-Query
    Rattle.agg_model.specs.declared.query.Query.TheBlock.hidden-the_row-Query-0 Rattle.agg_model.specs.declared.query.Query.TheBlock.hidden-the_row-Query-1
    Rattle.agg_model.specs.declared.key.Key.TheViews.out-Key Rattle.agg_model.specs.declared.key.Key.TheViews.roll-Key
    Rattle.agg_model.specs.declared.row.Children.TheBlock.hidden-the_row-Children-1
    Rattle.agg_model.specs.declared.answer.BucketAnswer.TheBlock.hidden-the_row-BucketAnswer-1
    Rattle.agg_model.specs.declared.partial.Node.TheBlock.shown-the_row-Bucket-1
    Rattle.agg_model.specs.declared.aggregation.Agg.TheBlock.hidden-the_row-Agg-0 Rattle.agg_model.specs.declared.aggregation.Agg.TheBlock.shown-the_row-Agg-0
    Rattle.agg_model.specs.declared.key.Key.TheBlock.hidden-the_row-Key-0 Rattle.agg_model.specs.declared.key.Key.TheBlock.shown-the_row-Key-0
    Rattle.agg_model.specs.declared.answer.BucketAnswer.TheViews.out-NodeAnswer Rattle.agg_model.specs.declared.answer.BucketAnswer.TheViews.out-BucketAnswer
    Rattle.agg_model.specs.declared.answer.BucketAnswer.TheBlock.shown-the_row-BucketAnswer-1
    Rattle.agg_reading.specs.Entries.entries Rattle.agg_reading.specs.Entries.body_of Rattle.agg_reading.specs.Entries.header_members Rattle.agg_reading.specs.SettingsLines.scope_of
    digits serde_json_on_literals Rattle.date_spec.proofs.Computing.computing
    denote.Hole.Carrier.out denote.Hole.Carrier.roll denote.Hole.Carrier.shown denote.Hole.Carrier.hidden
computing = tt
