-- What the walk of `properties` has collected, in the order of the walk, as it stands in byte order of the paths.
use Rattle.std.specs.Prelude.{◌+◌, ◌≤◌, length}
use Rattle.list_laws.specs.Sorting.{sorted}
use Rattle.agg_model.specs.declared.limits.TheConstants.{MAX_PATHS}
use Rattle.agg_reading.specs.declared.parts.Found.{Found}
use Rattle.agg_reading.specs.Properties.{by_path}
use Rattle.agg_model.specs.MappingOrder.{AscendsBy}
use Rattle.agg_mapping.specs.declared.collected.Collected.{Collected}

-- all of it sorted by path
unfoldable pub arranged : Collected → Found
arranged c = record {
  fields = sorted (by_path (λ f. f.path)) c.fields;
  nested = sorted (by_path (λ p. p.path)) c.nested;
  objects = sorted (by_path (λ p. p)) c.objects;
}

-- the paths ascend, and there are at most 1,000 fields and nested paths
pub record IsArranged (found : Found) : Type 0 where
  pub fields : AscendsBy (λ f. f.path) found.fields
  pub nested : AscendsBy (λ p. p.path) found.nested
  pub objects : AscendsBy (λ p. p) found.objects
  pub few : length found.fields + length found.nested ≤ MAX_PATHS
