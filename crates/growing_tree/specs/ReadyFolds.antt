-- A prepared aggregation, level by level (Elasticsearch Reference 8, 'Aggregations').
use Rattle.std.specs.Prelude.{List, [], ◌∷◌}
use Rattle.growing_tree.specs.declared.ready.Ready.{Ready, Ready', Row_of-Ready, end_of-Ready, more_of-Ready}
use Rattle.growing_tree.specs.declared.ready.Ready.TheOpen.{Ready-F}

module _ {A : Type 0} (step : Ready-F A → A) where
  abbrev mutual
    pub fold_ready : Ready → A
    fold_ready (Ready' kind table child_bytes n children) =
        step (record { kind = kind; table = table; child_bytes = child_bytes; children = fold_readies children })

    pub fold_readies : {n : _} → Row_of-Ready n → List A
    fold_readies end_of-Ready = []
    fold_readies (more_of-Ready r rest) = fold_ready r ∷ fold_readies rest
