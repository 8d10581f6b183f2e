-- All that unfolds when the words of a command line are written out.
use Rattle.clap.proofs.OnLiterals.{clap_on_literals}

unfoldable pub computing : Unit {0}
unfolding
    clap_on_literals Rattle.agg_settings.specs.Numbers.number_of Rattle.agg_settings.specs.Numbers.number_in
    Rattle.agg_settings.specs.Sizes.bytes_of_unit Rattle.agg_settings.specs.Sizes.size_from
    Rattle.agg_settings.specs.Limits.amount_of Rattle.agg_settings.specs.Entries.is_taken
    Rattle.agg_settings.specs.Entries.last_value Rattle.agg_settings.specs.Entries.heap_in
    Rattle.agg_settings.specs.Entries.max_buckets_in Rattle.agg_settings.specs.Entries.limit_in
    Rattle.agg_settings.specs.Entries.limits_in Rattle.agg_settings.specs.Words.command
    Rattle.agg_settings.specs.Words.is_command Rattle.agg_settings.specs.Words.rows_in
    Rattle.agg_settings.specs.Generating.generate_of Rattle.agg_settings.specs.Options.number_at
    Rattle.agg_settings.specs.Options.entries_at Rattle.agg_settings.specs.Options.is_given
    Rattle.agg_settings.specs.Options.scan_at Rattle.agg_settings.specs.Options.generate_at
    Rattle.agg_settings.specs.Settings.settings_at Rattle.agg_settings.specs.Settings.settings_of
computing = tt
