-- Documents that are appended one after another.
use Rattle.std.proofs.Common.{◌≡◌, ap, subst, sym, ◌∙◌, ℕ, suc, ◌+◌, List, [], ◌++◌, append_assoc}
use Rattle.std.specs.Prelude.{codes, decimal}
use Rattle.std.specs.List.{join_with_byte}
use Rattle.list_laws.proofs.Lists.{append-nil, flat_map-append}
use Rattle.agg_spec.specs.Generator.{action_text, below, documents_from, drawn, items_from, source_text}
use Rattle.agg_generate.specs.Documents.{after_document, ended}
use Rattle.agg_generate.proofs.Lines.{four_pieces}

abbrev pub items_of : ℕ → List (List ℕ)
items_of x = let number = drawn (drawn (drawn x)) in (items_from (below 3 number) number).0

ended_both : (text : List ℕ) (lines more : List (List ℕ)) → (text ++ ended lines) ++ ended more ≡ text ++ ended (lines ++ more)
ended_both text lines more = append_assoc text (ended lines) (ended more) ∙ ap (λ (s : List ℕ). text ++ s) (sym (flat_map-append (λ (line : List ℕ). line ++ codes "\n") lines more))

pub appended : (more id : ℕ) (text : List ℕ) (x : ℕ) → (text ++ ended (documents_from 1 id x)) ++ ended (documents_from more (id + 1) (after_document x)) ≡ text ++ ended (documents_from (suc more) id x)
appended more id text x = ended_both text (documents_from 1 id x) (documents_from more (id + 1) (after_document x))

-- one more document
pub next : (before more id : ℕ) (now then : List ℕ) (x y : ℕ) (whole : List ℕ) → before ≡ suc more → then ≡ now ++ ended (documents_from 1 id x) → y ≡ after_document x → now ++ ended (documents_from before id x) ≡ whole → then ++ ended (documents_from more (id + 1) y) ≡ whole
next before more id now then x y whole counts appends draws is =
    rw (appends, draws) (appended more id now x ∙ subst (λ (n : ℕ). now ++ ended (documents_from n id x) ≡ whole) counts is)

-- after the last document
pub none_left : (more id : ℕ) (now : List ℕ) (x : ℕ) (whole : List ℕ) → more ≡ 0 → now ++ ended (documents_from more id x) ≡ whole → now ≡ whole
none_left more id now x whole none is = sym (append-nil now) ∙ subst (λ (n : ℕ). now ++ ended (documents_from n id x) ≡ whole) none is

abbrev pub behind_items : ℕ → ℕ → List ℕ
behind_items price tag = codes "],\"price\":" ++ (decimal price ++ (codes ",\"tag\":\"t" ++ (decimal tag ++ codes "\"}\n")))

source_pieces : (items : List (List ℕ)) (price tag : ℕ) → codes "{\"items\":[" ++ (join_with_byte 44 items ++ behind_items price tag) ≡ (source_text items price tag ++ codes "\n") ++ []
source_pieces items price tag = simp (append_assoc, append-nil)

-- the pieces of one document
pieces : (old b1 b2 b3 b4 : List ℕ) (id x : ℕ) →
    b1 ≡ old ++ (action_text id ++ codes "\n") →
    b2 ≡ b1 ++ codes "{\"items\":[" →
    b3 ≡ b2 ++ join_with_byte 44 (items_of x) →
    b4 ≡ b3 ++ behind_items (below 10000 (drawn (drawn x))) (below 50 (drawn x)) →
    b4 ≡ old ++ ended (documents_from 1 id x)
pieces old b1 b2 b3 b4 id x e1 e2 e3 e4 =
    four_pieces old b1 b2 b3 b4 (action_text id ++ codes "\n") (codes "{\"items\":[") (join_with_byte 44 (items_of x)) (behind_items (below 10000 (drawn (drawn x))) (below 50 (drawn x))) (ended (documents_from 1 id x)) e1 e2 e3 e4
    (ap (λ (s : List ℕ). (action_text id ++ codes "\n") ++ s) (source_pieces (items_of x) (below 10000 (drawn (drawn x))) (below 50 (drawn x))))

-- the same, from the numbers as they are drawn
pub document_pieces : (old b1 b2 b3 b4 : List ℕ) (id x x1 x2 x3 tag price count : ℕ) →
    x1 ≡ drawn x → x2 ≡ drawn x1 → x3 ≡ drawn x2 → tag ≡ below 50 x1 → price ≡ below 10000 x2 → count ≡ below 3 x3 →
    b1 ≡ old ++ (action_text id ++ codes "\n") →
    b2 ≡ b1 ++ codes "{\"items\":[" →
    b3 ≡ b2 ++ join_with_byte 44 (items_from count x3).0 →
    b4 ≡ b3 ++ behind_items price tag →
    b4 ≡ old ++ ended (documents_from 1 id x)
document_pieces old b1 b2 b3 b4 id x x1 x2 x3 tag price count is1 is2 is3 is_tag is_price is_count e1 e2 e3 e4 =
    let y2 : x2 ≡ drawn (drawn x) = is2 ∙ ap drawn is1 in
    let y3 : x3 ≡ drawn (drawn (drawn x)) = is3 ∙ ap drawn y2 in
    let same_tag : tag ≡ below 50 (drawn x) = is_tag ∙ ap (below 50) is1 in
    let same_price : price ≡ below 10000 (drawn (drawn x)) = is_price ∙ ap (below 10000) y2 in
    let same_count : count ≡ below 3 (drawn (drawn (drawn x))) = is_count ∙ ap (below 3) y3 in
    pieces old b1 b2 b3 b4 id x e1 e2
    (e3 ∙ (ap (λ (n : ℕ). b2 ++ join_with_byte 44 (items_from n x3).0) same_count ∙ ap (λ (y : ℕ). b2 ++ join_with_byte 44 (items_from (below 3 (drawn (drawn (drawn x)))) y).0) y3))
    (e4 ∙ (ap (λ (n : ℕ). b3 ++ behind_items n tag) same_price ∙ ap (λ (n : ℕ). b3 ++ behind_items (below 10000 (drawn (drawn x))) n) same_tag))
