-- The nested paths beneath each row of a document ascend, as the reader of documents leaves them.
use Rattle.std.specs.Prelude.{ℕ, ◌+◌, Bool, true, ◌&&◌, nat_le, List}
use Rattle.std.specs.List.{list_all}
use Rattle.agg_model.specs.declared.row.Row.{Row, Row', Row_of-Children, end_of-Children, more_of-Children}
use Rattle.agg_model.specs.declared.row.Children.{Children, Children', Row_of-Row, end_of-Row, more_of-Row}
use Rattle.agg_model.specs.declared.row.Document.{Document}
use Rattle.agg_evaluation.specs.DocumentFits.{path_of}

abbrev mutual
  pub paths_rise : Row → Bool
  paths_rise (Row' values n children) = rise_from 0 children

  -- these paths ascend from this number on, and so do all beneath
  pub rise_from : {n : _} → ℕ → Row_of-Children n → Bool
  rise_from least end_of-Children = true
  rise_from least (more_of-Children c rest) = nat_le least (path_of c) && (children_rise c && rise_from (path_of c + 1) rest)

  pub children_rise : Children → Bool
  children_rise (Children' path n rows) = all_rise rows

  pub all_rise : {n : _} → Row_of-Row n → Bool
  all_rise end_of-Row = true
  all_rise (more_of-Row r rest) = paths_rise r && all_rise rest

abbrev pub documents_rise : List Document → Bool
documents_rise documents = list_all (λ d. paths_rise d.root) documents
