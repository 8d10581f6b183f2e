-- The numbers of a row's buckets, by which filters match it (Elasticsearch Reference 8, 'Filters aggregation').
use Rattle.std.specs.Prelude.{ℕ, not, ◌&&◌, Bool, if◌then◌else◌, List, [], ◌∷◌, ◌++◌, length, map, filter}
use Rattle.std.specs.List.{list_any, enumerate_from}

-- the places of the answers that are true
abbrev pub true_places : List Bool → List ℕ
true_places answers = map (λ a. a.0) (filter (λ a. a.1) (enumerate_from 0 answers))

-- the places of the filters that match, given the answer of each, or where none does the place behind them, if there is an
-- other bucket
abbrev pub numbers_where : Bool → List Bool → List ℕ
numbers_where has_other answers =
    true_places answers ++ (if has_other && not (list_any (λ b. b) answers) then length answers ∷ [] else [])
