use Rattle.std.proofs.Common.{rules, ◌≡◌, ◌++◌, List, sym, ◌∙◌, ap, subst}
use Rattle.shard_columns.specs.declared.field_words.Numbered.{Numbered}
use Rattle.shard_columns.specs.Numbered.{Known, Entries, all_entries, later_entries, AreBegun}
use Rattle.shard_columns.proofs.Arranging.{AreSame, same-numbers, sorted-words}
use Rattle.shard_columns.proofs.field_words.FieldWords.sorted.Goals as goal

pub lend-requires : goal.lend-requires
lend-requires c = record { begun = subst AreBegun (sym c.in_ok-words.ensures.items) tt }

pub returns-clause-same : goal.returns-clause-same
returns-clause-same c =
    let mapped : Entries = c.self.inside.mapped in
    let later : Entries = later_entries c.self.inside.texts c.self.inside.numbers.items in
    let before : List Numbered = c.lend_later.new.words.items in
    let is : all_entries before ≡ mapped ++ later =
    c.in_ok-lend_later.ensures.added
    ∙ (λ i. (c.in_ok-lend.ensures.added ∙ ap (λ (ws : List Numbered). all_entries ws ++ mapped) c.in_ok-words.ensures.items) i ++ later_entries c.self.inside.texts (c.as_slice.ensures.value i)) in
    let told = same-numbers mapped later before c.sort_unstable_by.new.self.items is c.len.ensures.distinct c.sort_unstable_by.ensures.permutation in
    subst (λ (known : Known). AreSame known (all_entries c.sort_unstable_by.new.self.items)) c.self.view_is told

pub returns-clause-ascending : goal.returns-clause-ascending
returns-clause-ascending c =
    sorted-words c.lend_later.new.words.items c.sort_unstable_by.new.self.items c.in_ok-lend_later.ensures.begun c.sort_unstable_by.ensures.permutation c.sort_unstable_by.ensures.sorted (λ a r f k. search rules)
