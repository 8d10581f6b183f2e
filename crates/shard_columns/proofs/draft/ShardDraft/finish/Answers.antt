use Rattle.std.proofs.Common.{◌≡◌, ◌<◌, ◌≤◌, ◌+◌, ◌^◌, T, [], List, ℕ, map, length, get_or, sym, ◌∙◌, ap, subst, arith}
use Rattle.std.specs.Prelude.{◌%◌, sum, sum_by}
use Rattle.std.specs.List.{zip}
use Rattle.std.proofs.lemmas.List.{length-map}
use Rattle.agg_model.specs.declared.mapping.FieldKind.{FieldKind}
use Rattle.agg_model.specs.declared.mapping.Field.{Field}
use Rattle.agg_model.specs.declared.mapping.NestedPath.{NestedPath}
use Rattle.agg_evaluation.specs.Ceiling.{greatest_of}
use Rattle.agg_evaluation.specs.Rows.{PlacedRow, row_of, rows_of_documents}
use Rattle.agg_evaluation.specs.ColumnBytes.{value_count}
use Rattle.agg_evaluation.specs.RowsWeight.{rows_weight}
use Rattle.shard_columns.specs.Layout.{ids_of, placed}
use Rattle.shard_columns.specs.Words.{AllFieldsBelow, AreDictionaries}
use Rattle.shard_columns.specs.Values.{Words, row_values, by_words, total_count}
use Rattle.shard_columns.specs.Given.{RowsBelow, KindsHold}
use Rattle.shard_columns.specs.Contexts.{AreNumbered, AreEnclosed}
use Rattle.shard_columns.specs.Counts.{most_values}
use Rattle.shard_columns.specs.Dictionary.{words_of, longest_word}
use Rattle.shard_columns.specs.Ends.{each, root_ends}
use Rattle.shard_columns.specs.Built.{columns_from}
use Rattle.shard_columns.proofs.Building.{AllFieldsBelow-given, total-values}
use Rattle.shard_columns.proofs.Enclosing.{all-rows-laid}
use Rattle.shard_columns.proofs.Givens.{documents_given}
use Rattle.shard_columns.proofs.Counting.{counts-placed, longest-at}
use Rattle.shard_columns.proofs.Making.{values-laid, AreEnclosed-laid, dictionaries-are}
use Rattle.shard_columns.proofs.Pushing.{flat-draft, contexts-draft, few-draft, count-laid, rows-draft, storable-draft}
use Rattle.shard_columns.proofs.Weighing.{longest-words}
use Rattle.shard_columns.proofs.draft.ShardDraft.finish.Goals as goal

pub store-requires : goal.store-requires
store-requires c =
    let held = c.requires.1 in
    record {
      holds = record { kinds = c.args.self.kinds.items; rows = held.laid; count_is = c.in_ok-homes.ensures.sizes ∙ count-laid c.args.mapping.now c.requires.0 c.args.self held; holds = held.holds };
      apart = c.in_ok-homes.ensures.apart;
    }

pub homes_of-requires : goal.homes_of-requires
homes_of-requires c =
    let m = c.args.mapping.now in
    let documents = c.requires.0 in
    let held = c.requires.1 in
    let nested_size = ap length c.as_slice-nested.ensures in
    let few = held.few in
    record {
      contexts = contexts-draft m documents c.args.self held (length c.as_slice-nested.result.now) nested_size;
      few_contexts = omega (arith, few, nested_size);
      few_rows = few-draft m documents c.args.self held;
    }

pub numbers_by_context-requires : goal.numbers_by_context-requires
numbers_by_context-requires c =
    let m = c.args.mapping.now in
    let documents = c.requires.0 in
    let held = c.requires.1 in
    record { contexts = contexts-draft m documents c.args.self held (length c.as_slice-nested.result.now) (ap length c.as_slice-nested.ensures); few = few-draft m documents c.args.self held }

pub invariant_of-result : goal.invariant_of-result
invariant_of-result c =
    let m = c.args.mapping.now in
    let draft = c.args.self in
    let documents = c.requires.0 in
    let held = c.requires.1 in
    let stored = c.in_ok-stored.ensures.stored in
    let entries = draft.rows in
    let words = c.in_ok-stored.stored.words.items in
    let columns = c.in_ok-stored.stored.columns.items in
    let values = row_values c.in_ok-homes.homes (by_words words) columns (length entries) in
    let rows_are : placed draft.ids [] (zip entries values) ≡ rows_of_documents documents = rows-draft m documents draft c.in_ok-homes.homes words columns held c.in_ok-homes.ensures.sizes stored in
    let given = documents_given m documents held.few held.light held.fit in
    let all : List PlacedRow = rows_of_documents documents in
    let kinds_are = held.kinds_are in
    let parents_are : c.in_ok-parents.parents.items ≡ map (λ p. p.parent) m.nested = c.in_ok-parents.ensures ∙ ap (map (λ (p : NestedPath). p.parent)) c.as_slice-nested.ensures in
    let parents_size : length c.in_ok-parents.parents.items ≡ length m.nested = ap length parents_are ∙ length-map m.nested (λ (p : NestedPath). p.parent) in
    let kinds_size : length draft.kinds.items ≡ length m.fields = ap length kinds_are ∙ length-map m.fields (λ (f : Field). f.kind) in
    let nested_size = ap length c.as_slice-nested.ensures in
    let ids = ids_of documents in
    let laid = held.laid in
    let flat = flat-draft m documents draft held in
    let below : AllFieldsBelow (length draft.kinds.items) laid = AllFieldsBelow-given (length draft.kinds.items) ids laid all flat (subst (λ (n : ℕ). RowsBelow n all) (sym kinds_size) given.fields) in
    let dictionaries : AreDictionaries (length draft.kinds.items) laid words = stored.words_are draft.kinds.items laid held.holds in
    let words_are : (f : ℕ) → get_or words f [] ≡ words_of f all = dictionaries-are (length draft.kinds.items) ids laid all words flat given.rising below dictionaries in
    let storable = storable-draft m documents draft held in
    let rows_laid = all-rows-laid documents (subst T (sym given.paths) tt) in
    let enclosed : AreEnclosed all draft.ends.items =
    subst (AreEnclosed all) (sym held.roots.ends_are) (AreEnclosed-laid [] (λ q. 0 ≤ q) all (each (map root_ends documents) 0) rows_laid) in
    let contexts_are : c.in_ok-contexts.contexts.items ≡ map (λ f. f.context) m.fields = c.in_ok-contexts.ensures ∙ ap (map (λ (f : Field). f.context)) c.as_slice.ensures in
    let columns_are : record { kinds = draft.kinds.items; contexts = c.in_ok-contexts.contexts.items; parents = c.in_ok-parents.parents.items; rows = placed draft.ids [] (zip entries values) } ≡ columns_from m documents =
    λ i. record { kinds = kinds_are i; contexts = contexts_are i; parents = parents_are i; rows = rows_are i } in
    let kinds_hold : KindsHold draft.kinds.items all = subst (λ (ks : List FieldKind). KindsHold ks all) (sym kinds_are) given.kinds in
    let made = stored.columns_are draft.kinds.items laid held.holds in
    record {
      columns = made.sound;
      typed = made.typed;
      homed = c.in_ok-homes.ensures.sizes;
      column_sizes = made.sizes;
      numbered = subst (λ (n : ℕ). AreNumbered n entries c.in_ok-numbers.numbers.items) (let e : length c.as_slice-nested.result.now + 1 ≡ length c.in_ok-parents.parents.items + 1 = omega (arith, nested_size, parents_size) in e)
          c.in_ok-numbers.ensures;
      few_paths = omega (arith, parents_size, given.few_paths);
      contexts = λ n. omega (arith, ap (λ (rs : List PlacedRow). (row_of rs n).context) rows_are, given.contexts n, parents_size);
      enclosed = subst (λ (rs : List PlacedRow). AreEnclosed rs draft.ends.items) (sym rows_are) enclosed;
      odd = subst (λ (rs : List PlacedRow). (n : ℕ) → n < length rs → length (row_of rs n).place % 2 ≡ 1) (sym rows_are) rows_laid.odd;
      dictionaries = λ f. words_are f ∙ ap (words_of f) (sym rows_are);
      sizes = dictionaries.sizes;
      longest = λ f. ap (λ (xs : List ℕ). get_or xs f 0) c.in_ok-stored.ensures.longest ∙ (longest-at words f ∙ (ap (λ (ws : Words). greatest_of (map length ws)) (words_are f) ∙ (longest-words f all ∙ ap (longest_word f) (sym rows_are))));
      most = λ f. c.in_ok-stored.ensures.most draft.kinds.items laid held.holds storable f ∙ (ap greatest_of (sym (counts-placed f all laid (values-laid ids laid all flat))) ∙ ap (most_values f) (sym rows_are));
      few_fields = omega (arith, kinds_size, given.few_fields);
      kinds = subst (KindsHold draft.kinds.items) (sym rows_are) kinds_hold;
      counted = c.in_ok-stored.ensures.counted ∙ (held.holds.values.counted ∙ (ap (sum_by total_count) (sym (values-laid ids laid all flat)) ∙ (total-values all ∙ ap (λ (rs : List PlacedRow). sum (map value_count rs)) (sym rows_are))));
      light = subst (λ (rs : List PlacedRow). rows_weight rs < 2 ^ 32) (sym rows_are) given.light;
      built = ∣ (m, ∣ (documents, record { few = held.few; paths = held.paths; fit = held.fit; light = held.light; columns_are = columns_are }) ∣₁) ∣₁;
    }

pub returns : goal.returns
returns c = λ documents held.
    let m = c.args.mapping.now in
    let draft = c.args.self in
    let rows_are = rows-draft m documents draft c.in_ok-homes.homes c.in_ok-stored.stored.words.items c.in_ok-stored.stored.columns.items held c.in_ok-homes.ensures.sizes c.in_ok-stored.ensures.stored in
    let kinds_are = held.kinds_are in
    let contexts_are = c.in_ok-contexts.ensures ∙ ap (map (λ (f : _). f.context)) c.as_slice.ensures in
    let parents_are = c.in_ok-parents.ensures ∙ ap (map (λ (p : _). p.parent)) c.as_slice-nested.ensures in
    λ i. record { kinds = kinds_are i; contexts = contexts_are i; parents = parents_are i; rows = rows_are i }
