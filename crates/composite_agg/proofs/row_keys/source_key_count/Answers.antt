use Rattle.std.proofs.Common.{◌≡◌, ◌∙◌, sym, ap, length, [], ◌∷◌, ◌++◌}
use Rattle.std.specs.Prelude.{flat_map}
use Rattle.agg_model.specs.declared.key.Key.TheVariants.{Null}
use Rattle.agg_evaluation.specs.Keys.{distinct_keys}
use Rattle.agg_evaluation.specs.Rows.{values_of, row_of}
use Rattle.composite_agg.specs.Sources.{part_keys}
use Rattle.composite_agg.proofs.ValueParts.{source-is, no_items, with_null, without_null, with_keys}
use Rattle.composite_agg.proofs.row_keys.source_key_count.Goals as goal
use Rattle.composite_agg.proofs.row_keys.source_key_count.Goals.{else-count-eq0-via-then-count-eq0+else-source, else-count-eq0-via-else-count-eq0}

pub returns-then-source : goal.returns-then-source
returns-then-source c =
    let s = c.args.source.now in
    let row = row_of c.args.shard.now.rows c.args.row in
    let ks = distinct_keys (flat_map (part_keys s) (values_of s.field row)) in
    let none = no_items ks (sym c.value_key_count-count.ensures ∙ c.if-count-eq0.true) in
    sym (ap length (source-is row s ∙ with_null s.missing_bucket ks c.if-source.true none ∙ ap (λ js. js ++ Null ∷ []) none))

pub returns-else-count-eq0 : goal.returns-else-count-eq0
returns-else-count-eq0 c =
    let s = c.args.source.now in
    let row = row_of c.args.shard.now.rows c.args.row in
    let ks = distinct_keys (flat_map (part_keys s) (values_of s.field row)) in
    elim c.else-count-eq0.branch [
      | else-count-eq0-via-then-count-eq0+else-source w ↦ c.value_key_count-count.ensures ∙ sym (ap length (source-is row s ∙ without_null s.missing_bucket ks w.if-source.false))
      | else-count-eq0-via-else-count-eq0 w ↦ c.value_key_count-count.ensures ∙ sym (ap length (source-is row s ∙ with_keys s.missing_bucket ks (λ e.
          let none : length ks ≡ 0 = ap length e in w.if-count-eq0.false (c.value_key_count-count.ensures ∙ none))))
    ]
