use Rattle.std.proofs.Common.{List, ℕ, None, sym, ◌∙◌, ap, subst, length, arith}
use Rattle.std.specs.BTreeMap.{get_by_text}
use Rattle.std.specs.List.{IsDistinct}
use Rattle.std.specs.Str.{bytes_eq}
use Rattle.agg_reading.specs.Store.{live_documents, store_weight}
use Rattle.agg_documents.specs.declared.slot.Slot.{Slot}
use Rattle.agg_documents.specs.Slots.{entries_of, ids, place_of}
use Rattle.agg_documents.proofs.store.Store.new.Goals as goal

pub invariant_of-result : goal.invariant_of-result
unfolding live_documents store_weight place_of IsDistinct
invariant_of-result c = record {
  places = λ id. rw (c.new.ensures.empty, c.new-2.ensures.items);
  distinct = subst (λ (s : List Slot). IsDistinct bytes_eq (ids (entries_of s))) (sym c.new-2.ensures.items) tt;
  live = sym (ap (λ s. length (live_documents (entries_of s))) c.new-2.ensures.items);
  weight = sym (ap (λ s. store_weight (entries_of s)) c.new-2.ensures.items);
  light = omega arith;
}
