-- What every mapping keeps that is read: its paths stand in byte order, and there are few (Elasticsearch Reference 8, 'Mapping', 'Mapping limit settings').
use Rattle.std.specs.Prelude.{ℕ, ◌+◌, ◌≤◌, List, length}
use Rattle.std.specs.Ordering.{nat_cmp}
use Rattle.std.specs.Cmp.Lexicographic.{slice_cmp}
use Rattle.std.specs.List.Sorted.{IsSortedByKey}
use Rattle.agg_model.specs.declared.limits.TheConstants.{MAX_PATHS}
use Rattle.agg_model.specs.declared.mapping.Mapping.{Mapping}

-- no item's path is below the path before it
abbrev pub AscendsBy : {A : Type 0} → (A → List ℕ) → List A → Type 0
AscendsBy path_of xs = IsSortedByKey path_of (slice_cmp nat_cmp) xs

-- its paths ascend, and there are at most MAX_PATHS fields and nested paths
pub record IsOrdered (m : Mapping) : Type 0 where
  pub fields : AscendsBy (λ f. f.path) m.fields
  pub nested : AscendsBy (λ p. p.path) m.nested
  pub objects : AscendsBy (λ p. p) m.objects
  pub few : length m.fields + length m.nested ≤ MAX_PATHS
