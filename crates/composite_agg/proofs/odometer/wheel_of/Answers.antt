use Rattle.std.proofs.Common.{◌≡◌, ◌∙◌, sym, ap, map, [], ◌∷◌, ◌++◌, List}
use Rattle.std.specs.Prelude.{flat_map}
use Rattle.agg_model.specs.declared.key.Key.{Key}
use Rattle.agg_model.specs.declared.key.Key.TheVariants.{Null}
use Rattle.agg_evaluation.specs.Keys.{distinct_keys}
use Rattle.agg_evaluation.specs.Rows.{values_of, row_of}
use Rattle.composite_agg.specs.Parts.{key_of_part}
use Rattle.composite_agg.specs.Sources.{part_keys}
use Rattle.composite_agg.specs.declared.parts.Part.{Part}
use Rattle.composite_agg.proofs.ValueParts.{source-is, with_keys, with_null, without_null}
use Rattle.composite_agg.proofs.odometer.wheel_of.Goals as goal

pub returns-in_ok-wheel-in-Some-clause-keys : goal.returns-in_ok-wheel-in-Some-clause-keys
returns-in_ok-wheel-in-Some-clause-keys c =
    let s = c.args.source.now in
    let row = row_of c.args.shard.now.rows c.args.row in
    let ks = distinct_keys (flat_map (part_keys s) (values_of s.field row)) in
    source-is row s ∙ with_keys s.missing_bucket ks (λ none. cc (c.in_ok-wheel-in-Some.ensures.keys ∙ none)) ∙ sym c.in_ok-wheel-in-Some.ensures.keys

-- no part, and null stands for it
pub returns-in-None-clause-keys : goal.returns-in-None-clause-keys
returns-in-None-clause-keys c =
    let s = c.args.source.now in
    let row = row_of c.args.shard.now.rows c.args.row in
    let ks = distinct_keys (flat_map (part_keys s) (values_of s.field row)) in
    let none : ks ≡ [] = c.first_part.ensures.none c.in-None.is in
    source-is row s ∙ with_null s.missing_bucket ks c.if-source.true none ∙ ap (λ (js : List Key). js ++ Null ∷ []) none
    ∙ sym (ap (λ (ps : List Part). Null ∷ map key_of_part ps) c.new.ensures.items)

pub returns-in-None-2-clause-keys : goal.returns-in-None-2-clause-keys
returns-in-None-2-clause-keys c =
    let s = c.args.source.now in
    let row = row_of c.args.shard.now.rows c.args.row in
    let ks = distinct_keys (flat_map (part_keys s) (values_of s.field row)) in
    let none : ks ≡ [] = c.first_part.ensures.none c.in-None-2.is in
    source-is row s ∙ without_null s.missing_bucket ks c.if-source.false ∙ none
