-- What holds of all settings that words give (Elasticsearch Reference 8, 'Circuit breaker settings', 'Search settings').
use Rattle.std.specs.Prelude.{◌≡◌, ◌≤◌, true}
use Rattle.agg_model.specs.declared.limits.TheConstants.{GREATEST_MAX_BUCKETS, MAX_AT_ONCE, MAX_BATCH, MAX_BYTE_SIZE}
use Rattle.agg_model.specs.declared.breaker.Limits.{Limits}
use Rattle.agg_model.specs.declared.settings.Settings.{Settings}

-- each limit is at most 1pb
pub record AreLimits (limits : Limits) : Type 0 where
  pub request : limits.request ≤ MAX_BYTE_SIZE
  pub fielddata : limits.fielddata ≤ MAX_BYTE_SIZE
  pub inflight : limits.inflight ≤ MAX_BYTE_SIZE
  pub parent : limits.parent ≤ MAX_BYTE_SIZE

pub record AreInRange (settings : Settings) : Type 0 where
  pub some_worker : 1 ≤ settings.workers
  pub workers : settings.workers ≤ MAX_AT_ONCE
  pub some_batch : 2 ≤ settings.batch
  pub batch : settings.batch ≤ MAX_BATCH
  pub some_search : 1 ≤ settings.width
  pub width : settings.width ≤ MAX_AT_ONCE
  pub limits : AreLimits settings.limits
  pub heap : settings.heap ≤ MAX_BYTE_SIZE
  pub some_bucket : 1 ≤ settings.max_buckets
  pub max_buckets : settings.max_buckets ≤ GREATEST_MAX_BUCKETS
  pub one_scan : settings.scan ≡ true → settings.width ≡ 1
