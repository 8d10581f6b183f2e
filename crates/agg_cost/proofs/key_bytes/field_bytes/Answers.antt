use Rattle.std.proofs.Common.{◌≡◌, sym, ◌∙◌, ap, ⊎_elim}
use Rattle.std.specs.Prelude.{◌++◌, flat_map, max, option_to_list, Option, Some}
use Rattle.agg_model.specs.declared.mapping.FieldKind.{FieldKind}
use Rattle.agg_evaluation.specs.Ceiling.{least_bytes, value_bytes}
use Rattle.agg_evaluation.specs.Rows.{values_of}
use Rattle.agg_cost.proofs.KeyBytes.{of_words, of_numbers}
use Rattle.agg_cost.proofs.key_bytes.field_bytes.Goals as goal

pub returns-in-Keyword : goal.returns-in-Keyword
returns-in-Keyword c =
    let rows = c.args.shard.now.rows in
    let field = c.args.field in
    let missing = c.args.missing.now in
    let known = c.in-Keyword.ensures in
    c.max.ensures
    ∙ sym (ap (λ (k : Option FieldKind). value_bytes k (option_to_list missing ++ flat_map (values_of field) rows)) known.kind
    ∙ (of_words field missing rows (c.requires.missing_fits _ known.kind) known.values
    ∙ (λ i. max (sym c.longest.ensures i) (sym c.word_bytes.ensures i))))

pub returns-in-Boolean : goal.returns-in-Boolean
returns-in-Boolean c =
    let rows = c.args.shard.now.rows in
    let field = c.args.field in
    let missing = c.args.missing.now in
    let least = λ (k : FieldKind). least_bytes (Some k) in
    let eight : least_bytes (Some c.kind.result) ≡ 8 = ⊎_elim (λ h. ap least h) (⊎_elim (λ h. ap least h) (⊎_elim (λ h. ap least h) (⊎_elim (λ h. ap least h) (⊎_elim (λ h. ap least h) (λ h. ap least h))))) c.in-Boolean.is in
    sym (ap (λ (k : Option FieldKind). value_bytes k (option_to_list missing ++ flat_map (values_of field) rows)) c.kind.ensures.kind
    ∙ of_numbers field missing rows c.kind.result eight (c.requires.missing_fits _ c.kind.ensures.kind) c.kind.ensures.values)
