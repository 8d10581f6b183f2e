use Rattle.std.proofs.Common.{◌≡◌, refl, Bool, List, [], ◌∷◌, map, sym, ◌∙◌, ap}
use Rattle.std.specs.Prelude.{◌||◌}
use Rattle.std.specs.List.{list_any}
use Rattle.agg_model.specs.declared.query.Probe.{Probe}
use Rattle.agg_model.specs.ValueKeys.{scalar_key, probe_key}
use Rattle.agg_evaluation.specs.KeyOrder.{key_eq}
use Rattle.shard_columns.specs.Cell.{scalar_of}
use Rattle.terms_agg.proofs.included.is_among.Goals as goal

any-mapped : {A B : Type 0} (p : B → Bool) (f : A → B) (xs : List A) → list_any p (map f xs) ≡ list_any (λ x. p (f x)) xs
any-mapped p f [] = refl
any-mapped p f (x ∷ xs) = ap (λ (b : Bool). p (f x) || b) (any-mapped p f xs)

pub returns : goal.returns
returns c =
    let k = scalar_key (scalar_of c.args.cell) in
    c.is_one_of.ensures ∙ (ap (list_any (λ (p : Probe). key_eq k (probe_key p))) c.as_slice.ensures ∙ sym (any-mapped (key_eq k) probe_key c.args.probes.now))
