use Rattle.std.proofs.Common.{◌≡◌, ◌+◌, Bool, true, false, cond, List, [], ◌∷◌, ◌++◌, length, Some, sym, ◌∙◌, ap, arith, rules, to_z, of_z, length-append}
use Rattle.std.specs.Prelude.{option_map}
use mir.Syntax.{w64}
use Rattle.std.proofs.lemmas.Int.{to_z-of_z}
use Rattle.agg_model.specs.declared.key.Key.{Key}
use Rattle.agg_model.specs.ValueKeys.{scalar_key}
use Rattle.agg_evaluation.specs.Keys.{is_included}
use Rattle.agg_evaluation.specs.Rows.{values_of, row_of}
use Rattle.shard_columns.specs.Cell.{scalar_of}
use Rattle.shard_columns.specs.Dictionary.{words_of}
use Rattle.terms_agg.specs.Codes.{content_in, key_at}
use Rattle.terms_agg.proofs.Ascending.{values_ascend}
use Rattle.terms_agg.proofs.Coding.{own-apart}
use Rattle.terms_agg.proofs.Lending.{lent-code, lent-key}
use Rattle.terms_agg.proofs.Values.{key_there, step_same, step_first, step_other}
use Rattle.terms_agg.proofs.row_keys.adds_key.Goals as goal
use Rattle.terms_agg.proofs.row_keys.adds_key.Goals.{else-place-gt0-via-then-place-gt0+else-code_at-code, else-place-gt0-via-else-place-gt0}

one_more : (ks : List Key) (b : Bool) (k : Key) → length (ks ++ cond b (k ∷ []) []) ≡ length ks + cond b 1 0
one_more ks true k = length-append ks (k ∷ [])
one_more ks false k = length-append ks []

pub returns-then-code_at-code : goal.returns-then-code_at-code
returns-then-code_at-code c t included excluded =
    let shard = c.args.shard.now in
    let values = values_of c.args.field (row_of shard.rows c.args.row) in
    let same : c.code_at.result ≡ c.code_at-code.result = sym (to_z-of_z w64 c.code_at.result (search rules)) ∙ (ap (to_z w64) c.if-code_at-code.true ∙ to_z-of_z w64 c.code_at-code.result (search rules)) in
    ap length (step_same t values (values_ascend shard c.requires.built c.args.field c.args.row) c.args.place _ _ c.if-place-gt0.true (lent-key shard c.args.field c.args.row c.args.values c.requires.lent _ _ c.code_at.ensures) (lent-key shard c.args.field c.args.row c.args.values c.requires.lent _ _ c.code_at-code.ensures) (ap (key_at (content_in shard c.args.field) (words_of c.args.field shard.rows)) same))
    ∙ length-append _ []

pub returns : goal.returns
returns c t included excluded =
    let shard = c.args.shard.now in
    let content = content_in shard c.args.field in
    let words = words_of c.args.field shard.rows in
    let values = values_of c.args.field (row_of shard.rows c.args.row) in
    let ascends = values_ascend shard c.requires.built c.args.field c.args.row in
    let entry = c.args.values in
    let k = scalar_key (scalar_of c.value.result) in
    let is : key_there values c.args.place ≡ Some k = ap (option_map scalar_key) c.value.ensures in
    let coded : k ≡ key_at content words c.code_at-code.result = (let both : Some k ≡ Some (key_at content words c.code_at-code.result) = sym is ∙ lent-key shard c.args.field c.args.row entry c.requires.lent _ _ c.code_at-code.ensures in cc both) in
    let asked = (λ i. is_included (included i) (excluded i) k) ∙ sym c.is_included.ensures in
    elim c.else-place-gt0.branch [
      | else-place-gt0-via-then-place-gt0+else-code_at-code w ↦ ap length (step_other t values ascends c.args.place (key_at content words w.code_at.result) k c.is_included.result w.if-place-gt0.true (lent-key shard c.args.field c.args.row entry c.requires.lent _ _ w.code_at.ensures) is
          (λ e. w.if-code_at-code.false (ap (of_z w64) (own-apart content c.args.field shard.rows w.code_at.result c.code_at-code.result (lent-code shard c.args.field c.args.row entry c.requires.lent _ _ w.code_at.ensures) (lent-code shard c.args.field c.args.row entry c.requires.lent _ _ c.code_at-code.ensures) (e ∙ coded)))) asked)
          ∙ one_more _ c.is_included.result k
      | else-place-gt0-via-else-place-gt0 w ↦ ap length (step_first t values ascends c.args.place k c.is_included.result (omega (arith, w.if-place-gt0.false)) is asked) ∙ one_more _ c.is_included.result k
    ]
