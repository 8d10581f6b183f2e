-- One document of a generated script after another.
use Rattle.std.specs.Prelude.{ℕ, List, ◌++◌, codes, flat_map}
use Rattle.agg_spec.specs.Generator.{below, drawn, items_from}

-- lines, each with its newline
abbrev pub ended : List (List ℕ) → List ℕ
ended lines = flat_map (λ line. line ++ codes "\n") lines

-- the state once all numbers of a document are drawn
abbrev pub after_document : ℕ → ℕ
after_document x = let number = drawn (drawn (drawn x)) in (items_from (below 3 number) number).1
