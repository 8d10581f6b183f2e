use Rattle.std.proofs.Common.{◌≡◌, refl, true, false, sym, ◌∙◌, ap, arith, rules, to_z, of_z, Some}
use Rattle.std.specs.Prelude.{option_to_list}
use mir.Syntax.{w64}
use Rattle.std.proofs.lemmas.Bool.{and_from}
use Rattle.std.proofs.lemmas.Int.{to_z-of_z}
use Rattle.agg_evaluation.specs.Rows.{values_of, row_of}
use Rattle.shard_columns.specs.Dictionary.{words_of}
use Rattle.terms_agg.specs.Codes.{content_in, is_code}
use Rattle.terms_agg.proofs.Ascending.{values_ascend}
use Rattle.terms_agg.proofs.Coding.{code-kept}
use Rattle.terms_agg.proofs.Lending.{lent-code, lent-key}
use Rattle.terms_agg.proofs.NextCode.{same-code, first-code, other-code}
use Rattle.terms_agg.proofs.row_codes.next_code.Goals as goal
use Rattle.terms_agg.proofs.row_codes.next_code.Goals.{else-place-gt0-via-then-place-gt0+else-code_at-code, else-place-gt0-via-else-place-gt0}

pub returns-then-code_at-code-clause-keys : goal.returns-then-code_at-code-clause-keys
returns-then-code_at-code-clause-keys c shard row built lent t r =
    let p = c.args.prepared.now in
    let values = c.args.values in
    let same : c.code_at.result ≡ c.code_at-code.result = sym (to_z-of_z w64 c.code_at.result (search rules)) ∙ (ap (to_z w64) c.if-code_at-code.true ∙ to_z-of_z w64 c.code_at-code.result (search rules)) in
    same-code shard p (values_of p.field (row_of shard.rows row)) (values_ascend shard built p.field row) t r
    c.args.place c.code_at.result c.code_at-code.result c.if-place-gt0.true (lent-key shard p.field row values lent _ _ c.code_at.ensures) (lent-key shard p.field row values lent _ _ c.code_at-code.ensures) same

pub returns-then-is_allowed-clause-code : goal.returns-then-is_allowed-clause-code
returns-then-is_allowed-clause-code c shard row lent =
    let p = c.args.prepared.now in
    let code = to_z w64 (of_z w64 c.code_at-code.result) in
    let is = c.code_at-code.ensures ∙ ap Some (sym (to_z-of_z w64 c.code_at-code.result (search rules))) in
    and_from (is_code shard p code) true
    (code-kept (content_in shard p.field) (words_of p.field shard.rows) (option_to_list p.other) code (lent-code shard p.field row c.args.values lent c.args.place code is)) refl

pub returns-then-is_allowed-clause-keys : goal.returns-then-is_allowed-clause-keys
returns-then-is_allowed-clause-keys c shard row built lent t r =
    let p = c.args.prepared.now in
    let entry = c.args.values in
    let values = values_of p.field (row_of shard.rows row) in
    let ascends = values_ascend shard built p.field row in
    let code = to_z w64 (of_z w64 c.code_at-code.result) in
    let plain : code ≡ c.code_at-code.result = to_z-of_z w64 c.code_at-code.result (search rules) in
    let there = c.code_at-code.ensures ∙ ap Some (sym plain) in
    let is_code = lent-code shard p.field row entry lent c.args.place code there in
    let is = lent-key shard p.field row entry lent c.args.place code there in
    let allowed = sym c.if-is_allowed.true ∙ c.is_allowed.ensures in
    elim c.else-place-gt0.branch [
      | else-place-gt0-via-then-place-gt0+else-code_at-code w ↦ other-code shard p values ascends t r c.args.place w.code_at.result code true
          w.if-place-gt0.true (lent-key shard p.field row entry lent _ _ w.code_at.ensures) (lent-code shard p.field row entry lent _ _ w.code_at.ensures) is is_code
          (λ e. w.if-code_at-code.false (ap (of_z w64) (e ∙ plain))) allowed
      | else-place-gt0-via-else-place-gt0 w ↦ first-code shard p values ascends t r c.args.place code true (omega (arith, w.if-place-gt0.false)) is is_code allowed
    ]

pub returns-else-is_allowed-clause-keys : goal.returns-else-is_allowed-clause-keys
returns-else-is_allowed-clause-keys c shard row built lent t r =
    let p = c.args.prepared.now in
    let entry = c.args.values in
    let values = values_of p.field (row_of shard.rows row) in
    let ascends = values_ascend shard built p.field row in
    let code = to_z w64 (of_z w64 c.code_at-code.result) in
    let plain : code ≡ c.code_at-code.result = to_z-of_z w64 c.code_at-code.result (search rules) in
    let there = c.code_at-code.ensures ∙ ap Some (sym plain) in
    let is_code = lent-code shard p.field row entry lent c.args.place code there in
    let is = lent-key shard p.field row entry lent c.args.place code there in
    let refused = sym c.if-is_allowed.false ∙ c.is_allowed.ensures in
    elim c.else-place-gt0.branch [
      | else-place-gt0-via-then-place-gt0+else-code_at-code w ↦ other-code shard p values ascends t r c.args.place w.code_at.result code false
          w.if-place-gt0.true (lent-key shard p.field row entry lent _ _ w.code_at.ensures) (lent-code shard p.field row entry lent _ _ w.code_at.ensures) is is_code
          (λ e. w.if-code_at-code.false (ap (of_z w64) (e ∙ plain))) refused
      | else-place-gt0-via-else-place-gt0 w ↦ first-code shard p values ascends t r c.args.place code false (omega (arith, w.if-place-gt0.false)) is is_code refused
    ]
