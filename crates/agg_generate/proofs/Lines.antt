-- Lists that are joined by a byte, and lists that each have it behind or before them.
use Rattle.std.proofs.Common.{◌≡◌, ap, sym, ◌∙◌, ℕ, List, [], ◌∷◌, ◌++◌, append_assoc}
use Rattle.std.specs.Prelude.{flat_map, codes}
use Rattle.std.specs.List.{join_with_byte}
use Rattle.list_laws.proofs.Lists.{append-nil, flat_map-append}
use Rattle.agg_generate.specs.Documents.{ended}

-- all but the first have the byte before them
pub joined_cons : (byte : ℕ) (x : List ℕ) (xs : List (List ℕ)) → join_with_byte byte (x ∷ xs) ≡ x ++ flat_map (λ y. byte ∷ y) xs
joined_cons byte x [] = sym (append-nil x)
joined_cons byte x (y ∷ xs) = ap (λ (s : List ℕ). x ++ (byte ∷ s)) (joined_cons byte y xs)

ended_behind : (x : List ℕ) (xs : List (List ℕ)) → (x ++ flat_map (λ y. 10 ∷ y) xs) ++ 10 ∷ [] ≡ ended (x ∷ xs)
ended_behind x [] = append_assoc x [] (10 ∷ []) ∙ sym (append-nil (x ++ 10 ∷ []))
ended_behind x (y ∷ xs) =
    append_assoc x (10 ∷ (y ++ flat_map (λ z. 10 ∷ z) xs)) (10 ∷ [])
    ∙ (ap (λ (s : List ℕ). x ++ (10 ∷ s)) (ended_behind y xs)
    ∙ sym (append_assoc x (10 ∷ []) (ended (y ∷ xs))))

-- lines that are joined by newlines, and one behind the last
pub lines_ended : (x : List ℕ) (xs : List (List ℕ)) → join_with_byte 10 (x ∷ xs) ++ codes "\n" ≡ ended (x ∷ xs)
lines_ended x xs = ap (λ (s : List ℕ). s ++ 10 ∷ []) (joined_cons 10 x xs) ∙ ended_behind x xs

pieces : (index documents body : List ℕ) → (index ++ codes "\n") ++ (10 ∷ (documents ++ ended ([] ∷ codes "{}" ∷ body ∷ []))) ≡ ((((index ++ codes "\n\n") ++ documents) ++ codes "\n{}\n") ++ body) ++ codes "\n"
pieces index documents body = simp (append_assoc, append-nil)

-- what is written, in the order in which it is appended
pub script_ended : (index : List ℕ) (documents : List (List ℕ)) (body : List ℕ) → join_with_byte 10 (index ∷ [] ∷ (documents ++ [] ∷ codes "{}" ∷ body ∷ [])) ++ codes "\n" ≡ ((((index ++ codes "\n\n") ++ ended documents) ++ codes "\n{}\n") ++ body) ++ codes "\n"
script_ended index documents body =
    let rest = [] ∷ codes "{}" ∷ body ∷ [] in
    lines_ended index ([] ∷ (documents ++ rest)) ∙ (ap (λ (s : List ℕ). (index ++ codes "\n") ++ (10 ∷ s)) (flat_map-append (λ (line : List ℕ). line ++ codes "\n") documents rest) ∙ pieces index (ended documents) body)

-- four pieces that are appended in turn
pub four_pieces : (old b1 b2 b3 b4 t1 t2 t3 t4 whole : List ℕ) → b1 ≡ old ++ t1 → b2 ≡ b1 ++ t2 → b3 ≡ b2 ++ t3 → b4 ≡ b3 ++ t4 → t1 ++ (t2 ++ (t3 ++ t4)) ≡ whole → b4 ≡ old ++ whole
four_pieces old b1 b2 b3 b4 t1 t2 t3 t4 whole e1 e2 e3 e4 e = rw (e4, e3, e2, e1, ← e) (simp append_assoc)

-- what is appended behind what is there, and six pieces of it in turn
pub script_pieces : (index : List ℕ) (documents : List (List ℕ)) (body s0 s1 s2 s3 s4 s5 s6 : List ℕ) → s0 ≡ [] → s1 ≡ s0 ++ index → s2 ≡ s1 ++ codes "\n\n" → s3 ≡ s2 ++ ended documents → s4 ≡ s3 ++ codes "\n{}\n" → s5 ≡ s4 ++ body → s6 ≡ s5 ++ codes "\n" → s6 ≡ join_with_byte 10 (index ∷ [] ∷ (documents ++ [] ∷ codes "{}" ∷ body ∷ [])) ++ codes "\n"
script_pieces index documents body s0 s1 s2 s3 s4 s5 s6 e0 e1 e2 e3 e4 e5 e6 = rw (e6, e5, e4, e3, e2, e1, e0) (sym (script_ended index documents body))
