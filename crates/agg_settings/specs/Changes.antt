-- The settings after a settings line (Elasticsearch Reference 8, 'Cluster update settings API'): it may name the four
-- limits, `search.max_buckets` and `batched_reduce_size`. `null` gives back what the program's words gave.
use Rattle.std.specs.Prelude.{ℕ, ℤ, pos, negsuc, List, [], ◌∷◌, Option, Some, None, Result, Ok, Err, Bool, ◌&&◌, ◌||◌, is_some, if◌then◌else◌, codes, unwrap_or}
use Rattle.std.specs.Str.{bytes_eq}
use Rattle.serde_json.specs.Data.{Data, null, string, object, Members, no_members, member}
use Rattle.serde_json.specs.Find.{as_null, get_member}
use Rattle.agg_model.specs.declared.limits.TheConstants.{GREATEST_MAX_BUCKETS, MAX_BATCH, MIN_BATCH}
use Rattle.agg_model.specs.declared.breaker.Limits.{Limits}
use Rattle.agg_model.specs.declared.settings.Settings.{Settings}
use Rattle.agg_reading.specs.Json.{is_among}
use Rattle.agg_reading.specs.Scalars.{whole}
use Rattle.agg_settings.specs.Numbers.{between}
use Rattle.agg_settings.specs.Limits.{limit_of}
use Rattle.agg_reading.specs.SettingsLines.{scope_of}

-- ---- what a value says

-- the bytes of a limit, in a text as for `-E`; a percentage is of this heap
unfoldable pub limit_in : ℕ → Data → Option ℕ
limit_in heap (string s) = limit_of heap s
limit_in heap _ = None

abbrev pub within : ℕ → ℕ → Option ℤ → Option ℕ
within least most (Some (pos n)) = between least most (Some n)
within least most (Some (negsuc n)) = None
within least most None = None

-- a whole number or a decimal text, from least to most
unfoldable pub count_in : ℕ → ℕ → Data → Option ℕ
count_in least most value = within least most (whole value)

abbrev pub batch_in : Data → Option ℕ
batch_in value = count_in MIN_BATCH MAX_BATCH value

abbrev pub buckets_in : Data → Option ℕ
buckets_in value = count_in 1 GREATEST_MAX_BUCKETS value

-- ---- what is refused

abbrev pub is_limit : List ℕ → Bool
is_limit name = is_among (codes "indices.breaker.fielddata.limit" ∷ codes "indices.breaker.request.limit"
    ∷ codes "indices.breaker.total.limit" ∷ codes "network.breaker.inflight_requests.limit" ∷ []) name

-- a line may give this value to the setting of this name; `null` is for each
unfoldable pub is_taken : ℕ → List ℕ → Data → Bool
is_taken heap name value =
    if bytes_eq name (codes "batched_reduce_size") then is_some (as_null value) || is_some (batch_in value) else (
    if bytes_eq name (codes "search.max_buckets") then is_some (as_null value) || is_some (buckets_in value) else
    is_limit name && (is_some (as_null value) || is_some (limit_in heap value)))

-- the first name, in byte order, that is unknown or has a bad value
unfoldable pub first_refused : ℕ → Members → Option (List ℕ)
first_refused heap no_members = None
first_refused heap (member name value rest) = if is_taken heap name value then first_refused heap rest else Some name

-- ---- what is changed

-- a setting after the line: what the words gave at `null`, and what was in force where the line does not name it
abbrev pub after : (Data → Option ℕ) → ℕ → ℕ → Option Data → ℕ
after read start now None = now
after read start now (Some null) = start
after read start now (Some value) = unwrap_or (read value) now

unfoldable pub limit_after : List ℕ → ℕ → ℕ → ℕ → Members → ℕ
limit_after name heap start now ms = after (limit_in heap) start now (get_member name ms)

unfoldable pub limits_after : ℕ → Limits → Limits → Members → Limits
limits_after heap start now ms = record {
  request = limit_after (codes "indices.breaker.request.limit") heap start.request now.request ms;
  fielddata = limit_after (codes "indices.breaker.fielddata.limit") heap start.fielddata now.fielddata ms;
  inflight = limit_after (codes "network.breaker.inflight_requests.limit") heap start.inflight now.inflight ms;
  parent = limit_after (codes "indices.breaker.total.limit") heap start.parent now.parent ms;
}

unfoldable pub batch_after : ℕ → ℕ → Members → ℕ
batch_after start now ms = after batch_in start now (get_member (codes "batched_reduce_size") ms)

unfoldable pub buckets_after : ℕ → ℕ → Members → ℕ
buckets_after start now ms = after buckets_in start now (get_member (codes "search.max_buckets") ms)

-- The settings in force after these members, by the settings of the words (start) and those in force before (now).
-- Percentages are of the heap of the words.
unfoldable pub settings_after : Settings → Settings → Members → Settings
settings_after now start ms = record now {
  batch = batch_after start.batch now.batch ms;
  limits = limits_after start.heap start.limits now.limits ms;
  max_buckets = buckets_after start.max_buckets now.max_buckets ms;
}

-- the settings after a change, or the name that is refused; then nothing is changed
abbrev pub Change : Type 0
Change = Result Settings (List ℕ)

abbrev pub unless_refused : Option (List ℕ) → Settings → Change
unless_refused None settings = Ok settings
unless_refused (Some name) settings = Err name

abbrev pub changed_by : Settings → Settings → Option (List ℕ × Data) → Change
changed_by now start None = Ok now
changed_by now start (Some (scope, object ms)) = unless_refused (first_refused start.heap ms) (settings_after now start ms)
changed_by now start (Some (scope, _)) = Err scope

-- What a settings line makes of the settings in force (now), by those that the words gave (start). Its `persistent` or
-- `transient` is refused where it is no object, else the first name that is unknown or has a bad value.
unfoldable pub changed : Settings → Settings → Data → Change
changed now start line = changed_by now start (scope_of line)
