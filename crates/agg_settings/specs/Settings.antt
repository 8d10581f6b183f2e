-- The settings that words give, or the first key that fails in the order of the options: workers, batched-reduce-size,
-- concurrent-searches, the entries of `-E`, scan, generate.
use Rattle.std.specs.Prelude.{ℕ, Bool, List, [], Ok, if◌then◌else◌, codes}
use Rattle.clap.specs.Walk.{Row, Text}
use Rattle.agg_model.specs.declared.limits.TheConstants.{DEFAULT_BATCH, MAX_AT_ONCE, MAX_BATCH, MIN_BATCH}
use Rattle.agg_model.specs.declared.settings.Settings.{Settings}
use Rattle.agg_settings.specs.Usages.{Reading, ◌>>=◌, refuse}
use Rattle.agg_settings.specs.Entries.{heap_in, limits_in, max_buckets_in}
use Rattle.agg_settings.specs.Options.{number_at, entries_at, scan_at, generate_at}
use Rattle.agg_settings.specs.Words.{is_command, rows_in}

-- `most` is the greatest number of workers, and of searches at a time
unfoldable pub settings_at : ℕ → List Row → Reading Settings
settings_at most rows =
    number_at (codes "workers") 1 most 1 rows >>= λ workers.
    number_at (codes "batched-reduce-size") MIN_BATCH MAX_BATCH DEFAULT_BATCH rows >>= λ batch.
    number_at (codes "concurrent-searches") 1 most 1 rows >>= λ width.
    entries_at rows >>= λ entries.
    scan_at width rows >>= λ scan.
    generate_at rows >>= λ generate.
    Ok (record {
      workers = workers;
      batch = batch;
      width = width;
      limits = limits_in entries;
      heap = heap_in entries;
      max_buckets = max_buckets_in entries;
      scan = scan;
      generate = generate;
    })

-- MAX_AT_ONCE, or 1 where several are not answered yet
abbrev pub most_at_once : Bool → ℕ
most_at_once several = if several then MAX_AT_ONCE else 1

-- words that the command does not take are refused with empty texts
unfoldable pub settings_of : Bool → List Text → Reading Settings
settings_of several words =
    if is_command words then settings_at (most_at_once several) (rows_in words) else refuse [] []
