-- The starts of ranks, one after another.
use Rattle.std.proofs.Common.{◌≡◌, ◌≢◌, refl, ℕ, ◌+◌, ◌-◌, ◌<◌, ◌≤◌, Bool, true, false, cond, eqb, T, List, [], ◌∷◌, ◌++◌, length, length-append, get_or, take, drop, find, sym, ◌∙◌, ap, subst, arith, inl, inr, Option, Some, None}
use Rattle.std.specs.Prelude.{nat_lt}
use Rattle.std.specs.Option.{option_map_or}
use Rattle.std.proofs.lemmas.Bool.{cases_lt}
use Rattle.std.proofs.lemmas.Bool.Decides.{nat_tests}
use Rattle.std.proofs.Math.Facts.{eqb_yes}
use Rattle.std.proofs.lemmas.List.{get_or_append_left, get_or_push}
use Rattle.shard_columns.specs.declared.homes.Home.{Home}
use Rattle.shard_columns.specs.declared.homes.Homes.{Homes}
use Rattle.shard_columns.specs.declared.values.Held.{Held}
use Rattle.shard_columns.specs.declared.values.Span.{Span}
use Rattle.shard_columns.specs.Homes.{home_count, home_of, rank_at, rank_in, AreHomes}
use Rattle.shard_columns.specs.Ones.{one_span, one_each}
use Rattle.shard_columns.specs.Values.{no_span, cut, span_in, span_among, span_between, AreAlike, IsPart}
use Rattle.shard_columns.specs.Starts.{span_by_rank, AreStarts, AreOnes, HaveStarts}
use Rattle.shard_columns.specs.Columnar.{StandFor}
use Rattle.shard_columns.specs.declared.homes.Homes.TheVariants as homes
use Rattle.shard_columns.specs.declared.columns.Spans.TheVariants as spans
use Rattle.shard_columns.proofs.OneEach.{span-one-each}
use Rattle.shard_columns.proofs.Drafting.{same-or-other}
use Rattle.shard_columns.proofs.Storing.{find-other, find-last}

-- the same part, or none

pub alike-part : (size : ℕ) (new old : Span) → AreAlike size new old → IsPart size old → IsPart size new
alike-part size new old (inl same) part = (omega (arith, part.0, ap (λ (s : Span). s.start) same, ap (λ (s : Span). s.end) same), omega (arith, part.1, ap (λ (s : Span). s.end) same))
alike-part size new old (inr none) part = (omega (arith, none.1.0), none.1.1)

cut-none : {X : Type 0} (xs : List X) (s : Span) → s.start ≡ s.end → cut xs s ≡ []
cut-none xs s same = let none : s.end - s.start ≡ 0 = omega (arith, same) in ap (λ (k : ℕ). take k (drop s.start xs)) none

pub alike-cut : {X : Type 0} (size : ℕ) (new old : Span) (xs : List X) → AreAlike size new old → cut xs new ≡ cut xs old
alike-cut size new old xs (inl same) = ap (cut xs) same
alike-cut size new old xs (inr none) = cut-none xs new none.1.0 ∙ sym (ap (cut xs) none.0 ∙ cut-none xs no_span refl)

-- where a row has nothing, it has nothing
nothing-there : (size : ℕ) (old : Span) → AreAlike size no_span old → old ≡ no_span
nothing-there size old (inl same) = sym same
nothing-there size old (inr none) = none.0

-- the rank of a home

rank-of : (context rank : ℕ) (home : Home) → rank_at context home ≡ Some rank → home ≡ record { context = context; rank = rank }
rank-of context rank home is = pick (eqb home.context context) refl is
  where
    pick : (b : Bool) → eqb home.context context ≡ b → cond b (Some home.rank) None ≡ Some rank → home ≡ record { context = context; rank = rank }
    pick true e found =
        let same : home.context ≡ context = eqb_yes (subst T (sym e) tt) in
        let there : home.rank ≡ rank = cc found in
        λ i. record { context = same i; rank = there i }
    pick false e found = absurd (cc found)

-- one more start

between-front : (starts : List ℕ) (x rank : ℕ) → rank + 1 < length starts → span_between (starts ++ x ∷ []) rank ≡ span_between starts rank
between-front starts x rank low =
    let size = length-append starts (x ∷ []) in
    let old : nat_lt (rank + 1) (length starts) ≡ true = grind (arith, nat_tests) in
    let new : nat_lt (rank + 1) (length (starts ++ x ∷ [])) ≡ true = grind (arith, nat_tests) in
    let start = get_or_append_left starts (x ∷ []) 0 rank (omega (arith, low)) in
    let end = get_or_append_left starts (x ∷ []) 0 (rank + 1) low in
    ap (λ (b : Bool). cond b (record { start = get_or (starts ++ x ∷ []) rank 0; end = get_or (starts ++ x ∷ []) (rank + 1) 0 }) no_span) new
    ∙ ((λ i. record { start = start i; end = end i }) ∙ sym (ap (λ (b : Bool). cond b (record { start = get_or starts rank 0; end = get_or starts (rank + 1) 0 }) no_span) old))

between-past : (starts : List ℕ) (rank : ℕ) → length starts ≤ rank + 1 → span_between starts rank ≡ no_span
between-past starts rank past =
    let test : nat_lt (rank + 1) (length starts) ≡ false = grind (arith, nat_tests) in
    ap (λ (b : Bool). cond b (record { start = get_or starts rank 0; end = get_or starts (rank + 1) 0 }) no_span) test

between-last : (starts : List ℕ) (x rank : ℕ) → length starts ≡ rank + 1 → span_between (starts ++ x ∷ []) rank ≡ record { start = get_or starts rank 0; end = x }
between-last starts x rank is =
    let size = length-append starts (x ∷ []) in
    let new : nat_lt (rank + 1) (length (starts ++ x ∷ [])) ≡ true = grind (arith, nat_tests) in
    let start = get_or_append_left starts (x ∷ []) 0 rank (omega (arith, is)) in
    let end = get_or_push starts x 0 (rank + 1) is in
    ap (λ (b : Bool). cond b (record { start = get_or (starts ++ x ∷ []) rank 0; end = get_or (starts ++ x ∷ []) (rank + 1) 0 }) no_span) new
    ∙ (λ i. record { start = start i; end = end i })

pub AreStarts-none : (homes : Homes) (context size : ℕ) → AreStarts homes context size [] 0 []
AreStarts-none homes context size = record {
  last = λ k is. absurd (omega (arith, is));
  within = omega arith;
  alike = λ row low. inl (none (rank_in homes context row));
}
  where
    none : (o : Option ℕ) → option_map_or (span_between []) o no_span ≡ no_span
    none None = refl
    none (Some rank) = between-past [] rank (omega arith)

module _ (homes : Homes) (context size : ℕ) (held : List Held) (end : ℕ) (starts : List ℕ) (so_far : AreStarts homes context size held end starts) where
  -- a rank without values
  pub AreStarts-skip : AreStarts homes context size held end (starts ++ end ∷ [])
  AreStarts-skip = record {
    last = λ k is. get_or_push starts end 0 k (omega (arith, is, length-append starts (end ∷ [])));
    within = so_far.within;
    alike = λ row low. by_rank (rank_in homes context row) (span_in held row) (so_far.alike row low);
  }
    where
      by_rank : (o : Option ℕ) (old : Span) → AreAlike size (option_map_or (span_between starts) o no_span) old → AreAlike size (option_map_or (span_between (starts ++ end ∷ [])) o no_span) old
      by_rank None old alike = alike
      by_rank (Some rank) old alike = elim (cases_lt (rank + 1) (length starts)) [
        | inl before ↦ subst (λ (s : Span). AreAlike size s old) (sym (between-front starts end rank before)) alike
        | inr past ↦
            (let nothing : old ≡ no_span = nothing-there size old (subst (λ (s : Span). AreAlike size s old) (between-past starts rank past) alike) in
            elim (same-or-other (rank + 1) (length starts)) [
              | inl at ↦
                  (let last = so_far.last rank (sym at) in
                  let new = between-last starts end rank (sym at) in
                  let within = so_far.within in
                  subst (λ (s : Span). AreAlike size s old) (sym new) (inr (nothing, (last, within))))
              | inr other ↦
                  (let beyond : length (starts ++ end ∷ []) ≤ rank + 1 = behind rank past other in
                  inl (between-past (starts ++ end ∷ []) rank beyond ∙ sym nothing))
            ])
      ]
        where
          behind : (rank : ℕ) → length starts ≤ rank + 1 → rank + 1 ≢ length starts → length (starts ++ end ∷ []) ≤ rank + 1
          behind rank past other = let all = length-append starts (end ∷ []) in grind arith

  -- a rank with the values of the row that comes next
  module _ (one : Held) (rank : ℕ) (apart : AreHomes homes) (inside : one.row < home_count homes) (home_is : home_of homes one.row ≡ record { context = context; rank = rank }) (at : length starts ≡ rank + 1)
      (follows : one.span.start ≡ end) (fits : one.span.end ≤ size) (fresh : find (λ (h : Held). eqb h.row one.row) held ≡ None) where
    others : (row : ℕ) → row ≢ one.row → span_in (held ++ one ∷ []) row ≡ span_in held row
    others row other = ap (λ (o : Option Held). option_map_or (λ (h : Held). h.span) o no_span) (find-other held one row (λ same. other (sym same)))

    itself : (row : ℕ) → row ≡ one.row → span_in (held ++ one ∷ []) row ≡ one.span
    itself row same = ap (λ (k : ℕ). span_in (held ++ one ∷ []) k) same ∙ ap (λ (o : Option Held). option_map_or (λ (h : Held). h.span) o no_span) (find-last held one one.row fresh refl)

    pub AreStarts-row : AreStarts homes context size (held ++ one ∷ []) one.span.end (starts ++ one.span.end ∷ [])
    AreStarts-row = record {
      last = λ k is. get_or_push starts one.span.end 0 k (omega (arith, is, length-append starts (one.span.end ∷ [])));
      within = fits;
      alike = λ row low. elim (same-or-other row one.row) [
        | inl same ↦
            (let found : rank_in homes context row ≡ Some rank = ap (λ (k : ℕ). rank_at context (home_of homes k)) same ∙ (ap (rank_at context) home_is ∙ ranked) in
            let last = so_far.last rank at in
            let span : span_by_rank homes context (starts ++ one.span.end ∷ []) row ≡ one.span =
            ap (λ (o : Option ℕ). option_map_or (span_between (starts ++ one.span.end ∷ [])) o no_span) found
            ∙ (between-last starts one.span.end rank at ∙ ap (λ (k : ℕ). record { start = k; end = one.span.end }) (last ∙ sym follows)) in
            inl (span ∙ sym (itself row same)))
        | inr other ↦
            subst (λ (s : Span). AreAlike size (span_by_rank homes context (starts ++ one.span.end ∷ []) row) s) (sym (others row other))
            (by_rank row low other (rank_in homes context row) refl (span_in held row) (so_far.alike row low))
      ];
    }
      where
        ranked : rank_at context (record { context = context; rank = rank }) ≡ Some rank
        ranked = ap (λ (b : Bool). cond b (Some rank) None) (let yes : eqb context context ≡ true = grind (arith, nat_tests) in yes)

        behind : (r : ℕ) → length starts ≤ r + 1 → r + 1 ≢ length starts → length (starts ++ one.span.end ∷ []) ≤ r + 1
        behind r past away = let all = length-append starts (one.span.end ∷ []) in grind arith

        by_rank : (row : ℕ) → row < home_count homes → row ≢ one.row → (o : Option ℕ) → rank_in homes context row ≡ o → (old : Span) → AreAlike size (option_map_or (span_between starts) o no_span) old →
            AreAlike size (option_map_or (span_between (starts ++ one.span.end ∷ [])) o no_span) old
        by_rank row low other None is old alike = alike
        by_rank row low other (Some r) is old alike = elim (cases_lt (r + 1) (length starts)) [
          | inl before ↦ subst (λ (s : Span). AreAlike size s old) (sym (between-front starts one.span.end r before)) alike
          | inr past ↦ elim (same-or-other (r + 1) (length starts)) [
            | inl here ↦
                (let same : r ≡ rank = omega (arith, here, at) in
                let home : home_of homes row ≡ home_of homes one.row = rank-of context r (home_of homes row) is ∙ (ap (λ (k : ℕ). record { context = context; rank = k }) same ∙ sym home_is) in
                absurd (other (apart row one.row low inside home)))
            | inr away ↦
                (let nothing : old ≡ no_span = nothing-there size old (subst (λ (s : Span). AreAlike size s old) (between-past starts r past) alike) in
                inl (between-past (starts ++ one.span.end ∷ []) r (behind r past away) ∙ sym nothing))
          ]
        ]

-- where each rank has one value, at its place
pub between-ones : (starts : List ℕ) (count rank : ℕ) → AreOnes starts count → span_among count rank ≡ span_between starts rank
between-ones starts count rank ones = elim (cases_lt rank count) [
  | inl low ↦
      (let size = ones.size in
      let one : nat_lt rank count ≡ true = grind (arith, nat_tests) in
      let between : nat_lt (rank + 1) (length starts) ≡ true = grind (arith, nat_tests) in
      let start = ones.each rank (omega (arith, low, size)) in
      let end = ones.each (rank + 1) (omega (arith, low, size)) in
      ap (λ (b : Bool). cond b (one_span rank) no_span) one
      ∙ sym (ap (λ (b : Bool). cond b (record { start = get_or starts rank 0; end = get_or starts (rank + 1) 0 }) no_span) between ∙ (λ i. record { start = start i; end = end i })))
  | inr past ↦
      (let size = ones.size in
      let one : nat_lt rank count ≡ false = grind (arith, nat_tests) in
      ap (λ (b : Bool). cond b (one_span rank) no_span) one ∙ sym (between-past starts rank (omega (arith, past, size))))
]

pub by-ones : (starts : List ℕ) (count : ℕ) (o : Option ℕ) → AreOnes starts count → option_map_or (span_among count) o no_span ≡ option_map_or (span_between starts) o no_span
by-ones starts count None ones = refl
by-ones starts count (Some rank) ones = between-ones starts count rank ones

-- the spans of rows by their ranks stand for those of the rows

pub ones-stand : (homes : Homes) (context count : ℕ) (held : List Held) (starts : List ℕ) → AreOnes starts count → HaveStarts homes context held starts → StandFor homes (spans.OneEach context count) held
ones-stand homes context count held starts ones have = λ size within row low.
    subst (λ (s : Span). AreAlike size s (span_in held row)) (sym (by-ones starts count (rank_in homes context row) ones)) (have size within row low)

pub roots-stand : (roots count : ℕ) (held : List Held) → held ≡ one_each count → StandFor (homes.OfRoots roots) (spans.OneEach 0 count) held
roots-stand roots count held are = λ size within row low. inl (sym (ap (λ (hs : List Held). span_in hs row) are ∙ span-one-each count row))
