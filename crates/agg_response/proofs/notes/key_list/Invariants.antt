use Rattle.std.proofs.Common.{◌≡◌, ◌++◌, map, drop}
use Rattle.serde_json.specs.Data.{string}
use Rattle.serde_json.specs.View.{view}
use Rattle.agg_spec.specs.AnswerTree.{key_text}
use Rattle.agg_response.proofs.notes.key_list.Given as goal

-- the texts so far, and then those of the keys that are left
abbrev pub invariant-loop-key : goal.invariant-loop-key
invariant-loop-key l =
    map view l.texts.items.items ++ map (λ k. string (key_text l.zone k)) (drop l.key-index l.key-items)
    ≡ map (λ k. string (key_text l.zone k)) l.key-items
