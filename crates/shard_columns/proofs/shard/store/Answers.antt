use Rattle.std.proofs.Common.{ℕ, List, length, map, get_or, sym, ◌∙◌, ap, subst}
use Rattle.agg_evaluation.specs.Ceiling.{greatest_of}
use Rattle.shard_columns.specs.Values.{by_words, most_held, ranked}
use Rattle.shard_columns.specs.Columnar.{AreFinished, AreShapedAll}
use Rattle.shard_columns.proofs.Counting.{most-made}
use Rattle.shard_columns.proofs.Ranking.{AreDictionaries-made, Shows-ranked}
use Rattle.shard_columns.proofs.Filling.{AreStored-made, AreColumns-made, few-words, below-at}
use Rattle.shard_columns.proofs.shard.store.Goals as goal

pub dictionaries-requires : goal.dictionaries-requires
dictionaries-requires c = c.requires.holds.holds.notes.sound

pub columns-requires-clause-shaped : goal.columns-requires-clause-shaped
columns-requires-clause-shaped c = subst (λ (n : ℕ). AreShapedAll n c.args.drafts.columns.items) (sym c.requires.holds.count_is) c.requires.holds.holds.values.shaped

pub returns-clause-stored : goal.returns-clause-stored
returns-clause-stored c =
    let numbers = c.args.numbers in
    let drafts = c.args.drafts in
    let words = c.in_ok-words.words.items in
    let ranks = c.in_ok-words.ranks.items in
    let finished = subst (λ (rs : List ℕ). AreFinished c.args.homes.now rs drafts.columns.items c.in_ok-columns.columns.items) c.as_slice-3.ensures.value c.in_ok-columns.ensures in
    record {
      words_are = λ kinds rows held. AreDictionaries-made (length kinds) rows held.none numbers words held.sizes held.empty held.notes c.in_ok-words.ensures.words;
      rows_are = λ kinds rows held storable counted.
          let dictionaries = AreDictionaries-made (length kinds) rows held.none numbers words held.sizes held.empty held.notes c.in_ok-words.ensures.words in
          AreStored-made c.args.homes.now kinds numbers rows drafts ranks words c.in_ok-columns.columns.items storable held.values finished counted
          (Shows-ranked numbers words ranks c.in_ok-words.ensures.ranks (few-words (length kinds) rows words dictionaries storable.few_values)) (below-at (length kinds) rows storable.below);
      columns_are = λ kinds rows held. AreColumns-made c.args.homes.now kinds numbers rows drafts ranks c.in_ok-columns.columns.items held.values finished;
    }

pub returns-clause-longest : goal.returns-clause-longest
returns-clause-longest c = c.in_ok-longest.ensures ∙ ap (map (λ ws. greatest_of (map length ws))) c.as_slice.ensures.value

pub returns-clause-most : goal.returns-clause-most
returns-clause-most c = λ kinds rows held storable f.
    let numbers = c.args.numbers in
    let drafts = c.args.drafts in
    let words = c.in_ok-words.words.items in
    let ranks = c.in_ok-words.ranks.items in
    let dictionaries = AreDictionaries-made (length kinds) rows held.none numbers words held.sizes held.empty held.notes c.in_ok-words.ensures.words in
    ap (λ (xs : List ℕ). get_or xs f 0) (c.in_ok-most.ensures ∙ ap (map most_held) c.as_slice-2.ensures.value) ∙ most-made kinds numbers rows drafts (λ f p. by_words words f (ranked ranks p)) held.values
    (Shows-ranked numbers words ranks c.in_ok-words.ensures.ranks (few-words (length kinds) rows words dictionaries storable.few_values)) storable.below f
