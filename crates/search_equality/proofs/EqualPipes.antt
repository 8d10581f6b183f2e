-- The derived test of pipelines says that what passes is one and the same.
use Rattle.std.specs.Prelude.{refl}
use Rattle.std.specs.Cmp.{first_so, second_so}
use Rattle.agg_model.specs.contracts.pipeline.PipeKind as kind_type
use Rattle.agg_model.specs.contracts.pipeline.PipeKindPartialEq.TheImpl as kind_eq
use Rattle.agg_model.specs.contracts.pipeline.PipeOrderPartialEq.TheImpl as order_eq
use Rattle.agg_model.specs.contracts.pipeline.PipePartialEq.TheImpl as pipe_eq
use Rattle.agg_model.specs.contracts.pipeline.PipePath as path_type
use Rattle.agg_model.specs.contracts.pipeline.PipePathPartialEq.TheImpl as path_eq
use Rattle.search_equality.proofs.EqualParts.{AreOne, field, flag-one, items-one, last, no_field, number-one, option-one, text-one, variants-one}

path-one : AreOne (path_eq.ghosts).eq
path-one = variants-one path_type.the_type _ (λ a. refl) _ (no_field, (last number-one, tt))

order-one : AreOne (order_eq.ghosts).eq
order-one a b e =
    let path = path-one a.path b.path (first_so _ _ e) in
    let descending = flag-one a.descending b.descending (second_so _ _ e) in
    λ i. record { path = path i; descending = descending i }

pub kind-one : AreOne (kind_eq.ghosts).eq
kind-one =
    variants-one kind_type.the_type _ (λ a. refl) _ (
      last path-one,
      (
        last path-one,
        (
          field number-one (last path-one),
          (
            field number-one (last path-one),
            (
              field number-one (last path-one),
              (field (items-one order-one) (field number-one (last (option-one number-one))), tt),
            ),
          ),
        ),
      ),
    )

pub pipe-one : AreOne (pipe_eq.ghosts).eq
pipe-one a b e =
    let rest = second_so _ _ e in
    let at' = items-one number-one a.at b.at (first_so _ _ e) in
    let name = text-one a.name b.name (first_so _ _ rest) in
    let kind = kind-one a.kind b.kind (second_so _ _ rest) in
    λ i. record { at = at' i; name = name i; kind = kind i }
