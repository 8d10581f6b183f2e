-- All that unfolds when a settings line is written out.
use Rattle.std.specs.Str.{chars, is_utf8}
use Rattle.serde_json.proofs.OnLiterals.{serde_json_on_literals}

unfoldable pub computing : Unit {0}
unfolding
    serde_json_on_literals chars is_utf8 Rattle.agg_reading.specs.Json.reading Rattle.agg_reading.specs.Scalars.decimal_of
    Rattle.agg_reading.specs.Scalars.whole Rattle.agg_settings.specs.Numbers.number_of Rattle.agg_settings.specs.Numbers.number_in
    Rattle.agg_settings.specs.Sizes.bytes_of_unit Rattle.agg_settings.specs.Sizes.size_from
    Rattle.agg_settings.specs.Limits.amount_of Rattle.agg_reading.specs.SettingsLines.scope_of
    Rattle.agg_settings.specs.Changes.limit_in Rattle.agg_settings.specs.Changes.count_in
    Rattle.agg_settings.specs.Changes.is_taken Rattle.agg_settings.specs.Changes.first_refused
    Rattle.agg_settings.specs.Changes.limit_after Rattle.agg_settings.specs.Changes.limits_after
    Rattle.agg_settings.specs.Changes.batch_after Rattle.agg_settings.specs.Changes.buckets_after
    Rattle.agg_settings.specs.Changes.settings_after Rattle.agg_settings.specs.Changes.changed
computing = tt
