use Rattle.std.proofs.Common.{◌≡◌, Option, None, Some, option_map, sym, ap, ◌∙◌, refl}
use Rattle.std.specs.Prelude.{is_some}
use Rattle.agg_mapping.proofs.Finding.{among_is}
use Rattle.agg_mapping.proofs.ordered.OrderedMapping.is_object.Goals as goal

is_some-map : {A B : Type 0} (f : A → B) (o : Option A) → is_some (option_map f o) ≡ is_some o
is_some-map f None = refl
is_some-map f (Some x) = refl

pub returns : goal.returns
returns c =
    let found = rw c.as_slice.ensures at c.first.ensures.value in
    rw (← c.self.view_is) (c.is_some.ensures ∙ sym (is_some-map _ c.first.result) ∙ ap is_some found ∙ among_is 0 c.self.inside.mapping.now.objects c.args.path.now)
