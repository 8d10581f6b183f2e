-- The mapping that the searches of the tests are made for.
use Rattle.std.specs.Prelude.{ℕ, List, [], ◌∷◌, false, None, codes}
use Rattle.agg_model.specs.declared.mapping.Field.{Field}
use Rattle.agg_model.specs.declared.mapping.FieldKind.{FieldKind}
use Rattle.agg_model.specs.declared.mapping.FieldKind.TheVariants.{Keyword, Long}
use Rattle.agg_model.specs.declared.mapping.Mapping.{Mapping}

abbrev root_field : List ℕ → FieldKind → Field
root_field path kind = record { path = path; kind = kind; ignore_above = None; context = 0 }

-- a keyword and a number at the root
abbrev pub sample_mapping : Mapping
sample_mapping = record { fields = root_field (codes "k") Keyword ∷ root_field (codes "n") Long ∷ []; nested = []; objects = []; strict = false }
