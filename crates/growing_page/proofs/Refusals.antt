-- Rows all of whose keys come after a full page.
use Rattle.std.specs.Prelude.{◌≡◌, refl, ℕ, true, not, ◌&&◌, ◌||◌, nat_le, T, List, [], ◌∷◌, length, option_map, Option, Some, None}
use Rattle.std.specs.List.{list_all, last_or}
use Rattle.std.specs.Option.{option_map_or}
use Rattle.std.specs.Ordering.{is_lt}
use Rattle.std.proofs.Common.{sym, ◌∙◌, ap, subst}
use Rattle.std.proofs.Math.Bool.{or-true}
use Rattle.agg_model.specs.declared.aggregation.CompositeSource.{CompositeSource}
use Rattle.agg_model.specs.declared.aggregation.Kind.{Kind}
use Rattle.agg_model.specs.declared.key.Key.{Key}
use Rattle.agg_model.specs.declared.partial.Node.{Node}
use Rattle.agg_evaluation.specs.CompositeKeys.{is_composite_of}
use Rattle.agg_evaluation.specs.Rows.{PlacedRow}
use Rattle.agg_evaluation.specs.Shard.{sorted_by_key}
use Rattle.composite_agg.specs.FirstPages.{empty_page, is_composite}
use Rattle.composite_agg.specs.InOrder.{IsInOrder, all_before, is_kept_out, page_cmp}
use Rattle.composite_page.specs.Pages.{is_beyond_any}
use Rattle.composite_agg.proofs.InOrder.{last-decides}
use Rattle.growth_laws.specs.Gathering.{Gatherer, put_groups}
use Rattle.list_laws.proofs.Booleans.{and_left, and_right, both, holds, true_is}
use Rattle.list_laws.proofs.Options.{some_same}
use Rattle.growing_page.specs.GrowingPages.{AreKept, held_key, is_refused, shown_all, sources_of}
use Rattle.growing_page.specs.declared.page.Held.{Held}
use Rattle.growing_page.proofs.Moves.{refused}

module _ (ss : List CompositeSource) (size : ℕ) (after : Option Key) (hs : List Held) (last : Key) (order : IsInOrder held_key ss hs) (is_last : option_map held_key (last_or None hs) ≡ Some last) (full : nat_le size (length hs) ≡ true) where
  all-before : (q : Key) → T (is_lt (page_cmp ss last q)) → all_before held_key ss q hs ≡ true
  all-before q less = last-decides held_key ss q hs order ∙ by (last_or None hs) is_last
    where
      by : (o : Option Held) → option_map held_key o ≡ Some last → option_map_or (λ h. is_lt (page_cmp ss (held_key h) q)) o true ≡ true
      by None e = refl
      by (Some h) e = true_is _ (subst (λ k. T (is_lt (page_cmp ss k q))) (sym (some_same (held_key h) last e)) less)

  kept-out : (q : Key) → T (is_lt (page_cmp ss last q)) → T (is_kept_out held_key ss size after hs q)
  kept-out q less =
      holds _ (ap (λ t. not (is_beyond_any ss after q) || (t && all_before held_key ss q hs)) full ∙ ap (λ t. not (is_beyond_any ss after q) || t) (all-before q less) ∙ or-true (not (is_beyond_any ss after q)))

  -- all keys that come after the last of a full page
  pub all-kept-out : (qs : List Key) → T (list_all (λ q. is_lt (page_cmp ss last q)) qs) → T (list_all (is_kept_out held_key ss size after hs) qs)
  all-kept-out [] all = tt
  all-kept-out (q ∷ qs) all = both _ _ (kept-out q (and_left _ _ all)) (all-kept-out qs (and_right _ _ all))

-- keys that are refused change nothing
pub groups-refused : (k : Kind) → is_composite k ≡ true → (ds : List (Node → Node)) (gs : List Gatherer) (rows : List PlacedRow) (hs : List Held) → AreKept k ds hs
    → (qs : List Key) → T (list_all (is_composite_of (length (sources_of k))) qs) → T (list_all (is_refused (empty_page k) hs) qs)
    → put_groups (λ q. rows) gs k qs (sorted_by_key (shown_all ds hs)) ≡ sorted_by_key (shown_all ds hs)
groups-refused k composite ds gs rows hs kept [] parts all = refl
groups-refused k composite ds gs rows hs kept (q ∷ qs) parts all =
    ap (put_groups (λ j. rows) gs k qs) (sym (refused k composite ds gs rows q hs kept (true_is _ (and_left _ _ parts)) (true_is _ (and_left _ _ all))))
    ∙ groups-refused k composite ds gs rows hs kept qs (and_right _ _ parts) (and_right _ _ all)
