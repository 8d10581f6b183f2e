-- The script that is generated from a number (a linear congruential generator, as in Knuth, 'Seminumerical algorithms', 3.2.1).
use Rattle.std.specs.Prelude.{ℕ, zero, suc, ◌+◌, ◌*◌, ◌/◌, ◌%◌, ◌^◌, List, [], ◌∷◌, ◌++◌, decimal, codes}
use Rattle.std.specs.List.{join_with_byte}
use Rattle.agg_model.specs.declared.settings.Generate.{Generate}

-- the state after a draw
abbrev pub drawn : ℕ → ℕ
drawn x = (x * 6364136223846793005 + 1442695040888963407) % 2 ^ 64

-- what a draw answers, given the state after it, below n
abbrev pub below : ℕ → ℕ → ℕ
below n x = x / 2 ^ 33 % n

-- a text, and the state after the draws that made it
abbrev pub Draft : Type 0
Draft = List (List ℕ) × ℕ

abbrev pub item_text : ℕ → ℕ → List ℕ
item_text sku quantity = codes "{\"qty\":" ++ (decimal quantity ++ (codes ",\"sku\":\"s" ++ (decimal sku ++ codes "\"}")))

-- so many items, each of two draws
abbrev pub items_from : ℕ → ℕ → Draft
items_from zero x = ([], x)
items_from (suc n) x =
    let sku = drawn x in
    let quantity = drawn sku in
    let rest = items_from n quantity in
    (item_text (below 20 sku) (below 100 quantity) ∷ rest.0, rest.1)

abbrev pub source_text : List (List ℕ) → ℕ → ℕ → List ℕ
source_text items price tag =
    codes "{\"items\":[" ++ (join_with_byte 44 items ++ (codes "],\"price\":" ++ (decimal price ++ (codes ",\"tag\":\"t" ++ (decimal tag ++ codes "\"}")))))

abbrev pub action_text : ℕ → List ℕ
action_text id = codes "{\"index\":{\"_id\":\"" ++ (decimal id ++ codes "\"}}")

-- so many documents from an id on, two lines each
abbrev pub documents_from : ℕ → ℕ → ℕ → List (List ℕ)
documents_from zero id x = []
documents_from (suc n) id x =
    let tag = drawn x in
    let price = drawn tag in
    let number = drawn price in
    let items = items_from (below 3 number) number in
    action_text id ∷ source_text items.0 (below 10000 price) (below 50 tag) ∷ documents_from n (id + 1) items.1

abbrev pub index_text : ℕ → List ℕ
index_text shards =
    codes "{\"index\":\"generated\",\"mappings\":{\"properties\":{\"items\":{\"properties\":{\"qty\":{\"type\":\"integer\"},\"sku\":{\"type\":\"keyword\"}},\"type\":\"nested\"},\"price\":{\"type\":\"long\"},\"tag\":{\"type\":\"keyword\"}}},\"settings\":{\"number_of_shards\":"
    ++ (decimal shards ++ codes "}}")

abbrev pub body_text : List ℕ
body_text =
    codes "{\"size\":0,\"aggs\":{\"tags\":{\"terms\":{\"field\":\"tag\",\"size\":5},\"aggs\":{\"total\":{\"sum\":{\"field\":\"price\"}}}},\"items\":{\"nested\":{\"path\":\"items\"},\"aggs\":{\"skus\":{\"terms\":{\"field\":\"items.sku\",\"size\":3}}}}}}"

abbrev pub script_lines : Generate → List (List ℕ)
script_lines g = index_text g.shards ∷ [] ∷ (documents_from g.documents 0 g.number ++ [] ∷ codes "{}" ∷ body_text ∷ [])

-- the lines, each with its newline
abbrev pub generated : Generate → List ℕ
generated g = join_with_byte 10 (script_lines g) ++ codes "\n"
