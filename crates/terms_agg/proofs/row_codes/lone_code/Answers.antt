use Rattle.std.proofs.Common.{◌≡◌, refl, ◌∙◌, ◌++◌, ◌+◌, sym, ap, arith, List, [], ◌∷◌, length, map, take}
use Rattle.std.specs.Prelude.{option_to_list}
use Rattle.std.proofs.lemmas.List.{length-map}
use Rattle.agg_model.specs.Options.{TermsOptions}
use Rattle.agg_model.specs.ValueKeys.{scalar_key}
use Rattle.agg_model.specs.declared.key.Key.{Key}
use Rattle.agg_model.specs.declared.row.Scalar.{Scalar}
use Rattle.agg_evaluation.specs.Rows.{row_of, values_of}
use Rattle.shard_columns.specs.Dictionary.{words_of}
use Rattle.terms_agg.specs.Codes.{content_in, key_at, key_of}
use Rattle.terms_agg.specs.Lent.{codes_in}
use Rattle.terms_agg.specs.Prepared.{keys_of_values}
use Rattle.terms_agg.proofs.Readiness.{keys-all}
use Rattle.terms_agg.proofs.row_codes.lone_code.Goals as goal

no-key-yet : (t : TermsOptions) (vs : List Scalar) → keys_of_values t (take 0 vs) ≡ []
no-key-yet t [] = refl
no-key-yet t (v ∷ vs) = refl

pub returns-in-1-clause-keys : goal.returns-in-1-clause-keys
returns-in-1-clause-keys c kind r =
    let shard = c.args.shard.now in
    let p = c.args.prepared.now in
    let row = row_of shard.rows c.args.row in
    let values = values_of p.field row in
    let lent = c.row_values-values.ensures in
    let codes = codes_in c.row_values-values.result in
    let code = map (key_of shard p) (option_to_list c.next_code.result) in
    let same = ap (λ (ks : List Key). length ks) lent.keys in
    let coded = length-map codes (key_at (content_in shard p.field) (words_of p.field shard.rows)) in
    let keyed = length-map values scalar_key in
    let one : length values ≡ 1 = omega (arith, c.value_count.ensures, c.in-1.is) in
    sym (c.next_code.ensures.keys shard c.args.row c.requires.built lent r.options r.ready ∙ ap (λ (ks : List Key). ks ++ code) (no-key-yet r.options values))
    ∙ keys-all shard kind p r row (0 + 1) (omega arith) (omega arith)
