-- Items that are appended one after another.
use Rattle.std.proofs.Common.{◌≡◌, refl, ap, subst, sym, ◌∙◌, ℕ, suc, List, ◌∷◌, [], ◌++◌, append_assoc}
use Rattle.std.specs.Prelude.{flat_map}
use Rattle.std.specs.List.{join_with_byte}
use Rattle.list_laws.proofs.Lists.{append-nil}
use Rattle.agg_spec.specs.Generator.{below, drawn, item_text, items_from}
use Rattle.agg_generate.proofs.Lines.{joined_cons}

-- so many items that follow others, each behind a comma
abbrev pub following : ℕ → ℕ → List ℕ
following more x = flat_map (λ item. 44 ∷ item) (items_from more x).0

abbrev pub drawn_item : ℕ → List ℕ
drawn_item x = item_text (below 20 (drawn x)) (below 100 (drawn (drawn x)))

-- what this text and state come to with so many more items
pub record Going (more : ℕ) (now : List ℕ) (x : ℕ) (whole : List ℕ) (last : ℕ) : Type 0 where
  pub text : now ++ following more x ≡ whole
  pub state : (items_from more x).1 ≡ last

-- the first item
pub begun : (count more : ℕ) (old now : List ℕ) (x y : ℕ) → count ≡ suc more → y ≡ drawn (drawn x) → now ≡ old ++ drawn_item x → Going more now y (old ++ join_with_byte 44 (items_from count x).0) (items_from count x).1
begun count more old now x y counts draws appends = rw (counts, draws, appends) (record {
  text =
      append_assoc old (drawn_item x) (following more (drawn (drawn x)))
      ∙ ap (λ (s : List ℕ). old ++ s) (sym (joined_cons 44 (drawn_item x) (items_from more (drawn (drawn x))).0));
  state = refl;
})

-- one more item, behind a comma
one_more : (more : ℕ) (now : List ℕ) (x : ℕ) (whole : List ℕ) (last : ℕ) → Going (suc more) now x whole last → Going more ((now ++ 44 ∷ []) ++ drawn_item x) (drawn (drawn x)) whole last
one_more more now x whole last going = record {
  text =
      ap (λ (s : List ℕ). s ++ following more (drawn (drawn x))) (append_assoc now (44 ∷ []) (drawn_item x))
      ∙ (append_assoc now (44 ∷ drawn_item x) (following more (drawn (drawn x)))
      ∙ going.text);
  state = going.state;
}

pub next : (before more : ℕ) (now comma then : List ℕ) (x y : ℕ) (whole : List ℕ) (last : ℕ) → before ≡ suc more → comma ≡ now ++ 44 ∷ [] → then ≡ comma ++ drawn_item x → y ≡ drawn (drawn x) → Going before now x whole last → Going more then y whole last
next before more now comma then x y whole last counts separates appends draws going =
    rw (appends, separates, draws) (one_more more now x whole last (subst (λ (n : ℕ). Going n now x whole last) counts going))

-- no more item
pub ended_at : (more : ℕ) (now : List ℕ) (x : ℕ) (whole : List ℕ) (last : ℕ) → more ≡ 0 → Going more now x whole last → (now ≡ whole) × (x ≡ last)
ended_at more now x whole last none going =
    let at_end = subst (λ (n : ℕ). Going n now x whole last) none going in
    (sym (append-nil now) ∙ at_end.text, at_end.state)
