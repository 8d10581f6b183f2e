-- Two mappings that the examples use.
use Rattle.std.specs.Prelude.{[], ◌∷◌, None, false, codes}
use Rattle.agg_model.specs.declared.mapping.Mapping.{Mapping}
use Rattle.agg_model.specs.declared.mapping.FieldKind.TheVariants.{Long, Keyword, Boolean}

-- `b` is a boolean, `n` a long, `t` a keyword
abbrev pub plain : Mapping
plain = record {
  fields = record { path = codes "b"; kind = Boolean; ignore_above = None; context = 0 } ∷ record { path = codes "n"; kind = Long; ignore_above = None; context = 0 } ∷ record { path = codes "t"; kind = Keyword; ignore_above = None; context = 0 } ∷ [];
  nested = [];
  objects = [];
  strict = false;
}

-- nested objects `items`, each with a keyword `items.s`
abbrev pub nested_orders : Mapping
nested_orders = record {
  fields = record { path = codes "items.s"; kind = Keyword; ignore_above = None; context = 1 } ∷ [];
  nested = record { path = codes "items"; parent = 0 } ∷ [];
  objects = [];
  strict = false;
}
