use Rattle.std.proofs.Common.{◌≡◌, ◌+◌, ◌∙◌, List, sym, ap, arith, map, [], ◌∷◌, ◌++◌}
use Rattle.std.specs.Prelude.{Option, flat_map, option_to_list}
use Rattle.std.specs.Ordering.{ordering_reverse}
use Rattle.agg_model.specs.declared.key.Key.{Key}
use Rattle.agg_model.specs.declared.key.Key.TheVariants.{Null}
use Rattle.agg_evaluation.specs.KeyOrder.{directed, key_cmp}
use Rattle.agg_evaluation.specs.Keys.{distinct_keys, source_keys}
use Rattle.agg_evaluation.specs.Rows.{values_of, row_of}
use Rattle.agg_model.specs.declared.row.Scalar.{Scalar}
use Rattle.composite_agg.specs.Parts.{key_of_part}
use Rattle.composite_agg.specs.Sources.{part_keys}
use Rattle.composite_agg.specs.declared.parts.Part.{Part}
use Rattle.composite_agg.proofs.Steps.{take-whole}
use Rattle.composite_agg.proofs.ValueParts.{source-is, no_items, with_null, with_keys}
use Rattle.composite_agg.proofs.behind.compare_only_part.Goals as goal
use Rattle.composite_agg.proofs.behind.compare_only_part.Goals.{in-0, in-1, in-Some, in-None}

pub returns-then-source-2 : goal.returns-then-source-2
returns-then-source-2 c =
    let s = c.args.source.now in
    let row = row_of c.args.shard.now.rows c.args.row in
    let values = values_of s.field row in
    let ks = distinct_keys (flat_map (part_keys s) values) in
    let parts_of = (λ (o : Option Part). map key_of_part (option_to_list o)) in
    let alike : ks ≡ parts_of c.match-value_count.own = elim c.match-value_count.branch [
      | in-0 w ↦ ap (λ (vs : List Scalar). distinct_keys (flat_map (part_keys s) vs)) (no_items values (sym c.value_count.ensures ∙ w.in-0.is)) ∙ sym (ap parts_of w.own-is)
      | in-1 w ↦
          let one = sym c.value_count.ensures ∙ w.in-1.is in
          ap (λ (vs : List Scalar). distinct_keys (flat_map (part_keys s) vs)) (sym (take-whole values (0 + 1) (omega (arith, one)))) ∙ w.new_part-own.ensures ∙ sym (ap parts_of w.own-is)
    ] in
    let part : (j : Key) × (source_keys row s ≡ j ∷ []) × (c.match-own.ordering ≡ key_cmp c.args.part.now j) = elim c.match-own.branch [
      | in-Some w ↦
          let is = alike ∙ ap parts_of w.in-Some.is in
          (key_of_part w.in-Some.own, source-is row s ∙ with_keys s.missing_bucket ks (λ none. cc (sym none ∙ is)) ∙ is, w.ordering-is ∙ w.compare_part-ordering.ensures)
      | in-None w ↦
          let none = alike ∙ ap parts_of w.in-None.is in
          (Null, source-is row s ∙ with_null s.missing_bucket ks w.if-source.true none ∙ ap (λ (js : List Key). js ++ Null ∷ []) none, w.ordering-is ∙ w.compare_keys-ordering.ensures)
    ] in
    record { part = part.0; only = part.1; order = c.reverse.ensures ∙ ap ordering_reverse part.2 ∙ sym (ap (λ b. directed b (key_cmp c.args.part.now part.0)) c.if-source-2.true) }

pub returns-else-source-2 : goal.returns-else-source-2
returns-else-source-2 c =
    let s = c.args.source.now in
    let row = row_of c.args.shard.now.rows c.args.row in
    let values = values_of s.field row in
    let ks = distinct_keys (flat_map (part_keys s) values) in
    let parts_of = (λ (o : Option Part). map key_of_part (option_to_list o)) in
    let alike : ks ≡ parts_of c.match-value_count.own = elim c.match-value_count.branch [
      | in-0 w ↦ ap (λ (vs : List Scalar). distinct_keys (flat_map (part_keys s) vs)) (no_items values (sym c.value_count.ensures ∙ w.in-0.is)) ∙ sym (ap parts_of w.own-is)
      | in-1 w ↦
          let one = sym c.value_count.ensures ∙ w.in-1.is in
          ap (λ (vs : List Scalar). distinct_keys (flat_map (part_keys s) vs)) (sym (take-whole values (0 + 1) (omega (arith, one)))) ∙ w.new_part-own.ensures ∙ sym (ap parts_of w.own-is)
    ] in
    let part : (j : Key) × (source_keys row s ≡ j ∷ []) × (c.match-own.ordering ≡ key_cmp c.args.part.now j) = elim c.match-own.branch [
      | in-Some w ↦
          let is = alike ∙ ap parts_of w.in-Some.is in
          (key_of_part w.in-Some.own, source-is row s ∙ with_keys s.missing_bucket ks (λ none. cc (sym none ∙ is)) ∙ is, w.ordering-is ∙ w.compare_part-ordering.ensures)
      | in-None w ↦
          let none = alike ∙ ap parts_of w.in-None.is in
          (Null, source-is row s ∙ with_null s.missing_bucket ks w.if-source.true none ∙ ap (λ (js : List Key). js ++ Null ∷ []) none, w.ordering-is ∙ w.compare_keys-ordering.ensures)
    ] in
    record { part = part.0; only = part.1; order = part.2 ∙ sym (ap (λ b. directed b (key_cmp c.args.part.now part.0)) c.if-source-2.false) }
