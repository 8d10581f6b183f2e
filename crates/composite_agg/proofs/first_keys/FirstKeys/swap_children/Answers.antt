use Rattle.std.proofs.Common.{◌≡◌, ◌∙◌, sym, ap, subst, false, List, length, map}
use Rattle.std.proofs.lemmas.List.{length-map}
use Rattle.agg_model.specs.declared.partial.Bucket.{Bucket}
use Rattle.agg_evaluation.specs.KeyOrder.{has_key}
use Rattle.agg_evaluation.specs.Orders.{bucket_key}
use Rattle.composite_agg.specs.FirstPages.{FirstPage, IsPage, with_buckets, with_children}
use Rattle.composite_agg.specs.Runs.{in_runs}
use Rattle.composite_agg.proofs.Swapped.{none-children, none-with, page-with}
use Rattle.composite_agg.proofs.first_keys.FirstKeys.swap_children.Goals as goal

pub invariant_of-self : goal.invariant_of-self
invariant_of-self c =
    let p : FirstPage = record { sources = c.self.inside.sources; size = c.self.inside.size; after = c.self.inside.after; buckets = in_runs c.self.inside.runs.items } in (
      subst (λ (bs : List Bucket). IsPage (with_buckets p bs)) (sym c.swap_in.ensures.buckets) (page-with p c.args.key.now c.args.children.now c.self.invariant.0),
      c.swap_in.ensures.filled,
      c.self.invariant.2 ∙ sym (ap length c.swap_in.ensures.buckets ∙ length-map p.buckets (with_children c.args.key.now c.args.children.now)),
    )

pub returns-clause-absent : goal.returns-clause-absent
returns-clause-absent c nothing =
    let p : FirstPage = record { sources = c.self.inside.sources; size = c.self.inside.size; after = c.self.inside.after; buckets = in_runs c.self.inside.runs.items } in
    let nowhere : has_key c.args.key.now (map bucket_key p.buckets) ≡ false = sym c.swap_in.ensures.held ∙ nothing in (
      ap (with_buckets p) (c.swap_in.ensures.buckets ∙ none-with c.args.key.now c.args.children.now p.buckets nowhere) ∙ c.self.view_is,
      c.swap_in.ensures.children ∙ none-children c.args.key.now c.args.children.now p.buckets nowhere,
    )
