use Rattle.std.proofs.Common.{◌∙◌, sym, ap, refl, ◌⊎◌, ⊎_elim, w64, to_z, of_z, rules, ◌≡◌, ℤ}
use Rattle.std.proofs.lemmas.Int.{to_z-of_z}
use Rattle.agg_evaluation.specs.Cost.{key_bytes}
use Rattle.terms_agg.specs.Codes.{is_code, key_of}
use Rattle.filters_agg.specs.declared.prepared_filters.PreparedFilters.{PreparedFilters}
use Rattle.shard_columns.specs.Columns.{Columns}
use Rattle.growing_tree.specs.Codes.{HasFixedKeys, code_key}
use Rattle.growing_tree.specs.declared.ready.ReadyKind.{ReadyKind}
use Rattle.growing_tree.specs.declared.ready.ReadyKind.TheVariants.{Single, Metric, Filters, Composite}
use Rattle.growing_tree.proofs.Codes.{fixed-bytes, where-bytes}
use Rattle.growing_tree.proofs.kinds.code_bytes.Goals as goal

pub returns-in-Terms : goal.returns-in-Terms
returns-in-Terms c =
    let shard = c.args.shard.now in
    let same : to_z w64 (of_z w64 c.args.code) ≡ c.args.code = to_z-of_z w64 c.args.code (search rules) in
    c.key_bytes.ensures ∙ ap (λ x. key_bytes (key_of shard c.in-Terms.terms x)) same
    ∙ sym (where-bytes (is_code shard c.in-Terms.terms c.args.code) c.args.code (key_of shard c.in-Terms.terms c.args.code)) ∙ ap (λ r. key_bytes (code_key shard r c.args.code)) (sym c.in-Terms.is)

-- keys of buckets that exist from the start cost nothing
module _ (shard : Columns) (ready : ReadyKind) (code : ℤ) where
  costs-none : (kind : ReadyKind) → HasFixedKeys shard kind → ready ≡ kind → 0 ≡ key_bytes (code_key shard ready code)
  costs-none kind fixed is = sym (ap (λ r. key_bytes (code_key shard r code)) is ∙ ap key_bytes (fixed code) ∙ fixed-bytes code)

  free : (ready ≡ Single) ⊎ ((ready ≡ Metric) ⊎ (((p : PreparedFilters) × ready ≡ Filters p) ⊎ (ready ≡ Composite))) → 0 ≡ key_bytes (code_key shard ready code)
  free = ⊎_elim (costs-none Single (λ x. refl)) (⊎_elim (costs-none Metric (λ x. refl)) (⊎_elim (λ h. costs-none (Filters h.0) (λ x. refl) h.1) (costs-none Composite (λ x. refl))))

pub returns-in-Single : goal.returns-in-Single
returns-in-Single c = free c.args.shard.now c.args.ready.now c.args.code c.in-Single.is

pub returns-in-Single-2 : goal.returns-in-Single-2
returns-in-Single-2 c = free c.args.shard.now c.args.ready.now c.args.code c.in-Single.is

pub returns-in-Single-3 : goal.returns-in-Single-3
returns-in-Single-3 c = free c.args.shard.now c.args.ready.now c.args.code c.in-Single.is

pub returns-in-Single-4 : goal.returns-in-Single-4
returns-in-Single-4 c = free c.args.shard.now c.args.ready.now c.args.code c.in-Single.is
