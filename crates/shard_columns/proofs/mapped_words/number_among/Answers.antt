use Rattle.std.proofs.Common.{◌≡◌, ℕ, List, Some, cond, ◌∙◌, ap}
use Rattle.std.specs.Prelude.{string_bytes}
use Rattle.std.specs.BTreeMap.{get_by_text}
use Rattle.std.specs.Str.{bytes_eq}
use Rattle.std.proofs.lemmas.Map.Text.{btree_map_updates_text}
use Rattle.shard_columns.proofs.mapped_words.number_among.Goals as goal

pub returns-clause-after : goal.returns-clause-after
returns-clause-after c = λ w.
    let key_is : string_bytes c.in_ok-word.word ≡ c.args.word.now = c.in_ok-word.ensures.ok in
    btree_map_updates_text (string_bytes c.in_ok-word.word) c.args.numbers.now c.insert.new.self (Some c.args.next) c.in_ok-insert.ensures.updates w
    ∙ ap (λ (word : List ℕ). cond (bytes_eq word w) (Some c.args.next) (get_by_text c.args.numbers.now w)) key_is
