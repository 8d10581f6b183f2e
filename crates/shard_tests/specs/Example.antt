-- The worked example of the tests: a root with three nested items, of one word each.
use Rattle.std.specs.Prelude.{ℕ, List, [], ◌∷◌, None, false, true, codes}
use Rattle.agg_model.specs.declared.aggregation.Agg.{Agg, roll-Agg}
use Rattle.agg_model.specs.declared.aggregation.Kind.TheVariants as kind
use Rattle.agg_model.specs.declared.aggregation.OrderBy.TheVariants as by
use Rattle.agg_model.specs.declared.mapping.FieldKind.TheVariants.{Keyword}
use Rattle.agg_model.specs.declared.mapping.Mapping.{Mapping}
use Rattle.agg_model.specs.declared.row.Document.{Document}
use Rattle.agg_model.specs.declared.row.Row.{Row, roll-Row}
use Rattle.agg_model.specs.declared.row.Children.{roll-Children}
use Rattle.agg_model.specs.declared.row.Scalar.TheVariants.{Word}

abbrev pub item_of : List ℕ → Row
item_of word = roll-Row (record { values = record { field = 0; values = Word word ∷ [] } ∷ []; children = [] })

abbrev pub example_root : Row
example_root = roll-Row (record {
  values = [];
  children = roll-Children (record { path = 0; rows = item_of (107 ∷ []) ∷ item_of (109 ∷ 109 ∷ []) ∷ item_of (107 ∷ []) ∷ [] }) ∷ [];
})

-- a keyword `s` in the nested path `items`
abbrev pub example_mapping : Mapping
example_mapping = record {
  fields = record { path = codes "items.s"; kind = Keyword; ignore_above = None; context = 1 } ∷ [];
  nested = record { path = codes "items"; parent = 0 } ∷ [];
  objects = [];
  strict = false;
}

abbrev pub example_documents : List Document
example_documents = record { id = codes "1"; routing = codes "1"; root = example_root } ∷ []

-- the number of values
abbrev pub example_values : Agg
example_values = roll-Agg (record { name = codes "values"; kind = kind.ValueCount 0 None; children = [] })

-- the most frequent word
abbrev pub example_words : Agg
example_words = roll-Agg (record {
  name = codes "words";
  kind = kind.Terms 0 1 1 1 (record { by = by.Count; descending = true } ∷ []) None [] None true;
  children = example_values ∷ [];
})

-- of the nested items
abbrev pub example_agg : Agg
example_agg = roll-Agg (record { name = codes "items"; kind = kind.Nested 1; children = example_words ∷ [] })
