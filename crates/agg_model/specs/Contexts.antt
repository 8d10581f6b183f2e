-- Contexts: the root of a document, and the rows of each nested path (Elasticsearch Reference 8, 'Nested field type').
use Rattle.std.specs.Prelude.{ℕ, zero, suc, ◌+◌, List, [], ◌∷◌, ◌++◌, Bool, true, false, ◌&&◌, slice_get, nat_eq, nat_le}
use Rattle.std.specs.List.{starts_with}
use Rattle.std.specs.Option.{option_map_or}
use Rattle.agg_model.specs.declared.mapping.Mapping.{Mapping}
use Rattle.agg_model.specs.declared.mapping.NestedPath.{NestedPath}

-- a path lies strictly beneath another: the names of the other come first, and more follow
abbrev pub is_beneath : List ℕ → List ℕ → Bool
is_beneath outer path = starts_with nat_eq path (outer ++ 46 ∷ [])

-- a path lies strictly beneath a context: 0 is the root, i + 1 the i-th nested path
unfoldable pub is_in_context : List NestedPath → ℕ → List ℕ → Bool
is_in_context nested zero path = true
is_in_context nested (suc i) path = option_map_or (λ p. is_beneath p.path path) (slice_get nested i) false

-- a context is strictly beneath a path
unfoldable pub encloses : List NestedPath → List ℕ → ℕ → Bool
encloses nested path zero = false
encloses nested path (suc i) = option_map_or (λ p. is_beneath path p.path) (slice_get nested i) false

-- the n-th path and those after it: the context around each stands before its own
abbrev pub parents_before_from : ℕ → List NestedPath → Bool
parents_before_from n [] = true
parents_before_from n (p ∷ ps) = nat_le p.parent n && parents_before_from (n + 1) ps

-- each nested path stands behind the one around it
abbrev pub parents_before : Mapping → Bool
parents_before m = parents_before_from 0 m.nested
