-- The depths of prepared queries.
use Rattle.std.proofs.Common.{◌≡◌, ℕ, ◌<◌, ◌≤◌, List, length, get_or, sym, subst, ap, arith}
use denote.Param.Weighed.{most, at_most}
use Rattle.column_query.specs.declared.prepared.Prepared.{Prepared, out-Prepared, out-roll-Prepared, size-Prepared}
use Rattle.column_query.specs.declared.prepared.Prepared.TheOpen.{Prepared-F}
use Rattle.column_query.specs.declared.prepared.Prepared.TheViews.{size_is-Prepared}
use Rattle.column_query.specs.declared.prepared.Prepared.TheVariants as prepared
use Rattle.column_query.proofs.PreparedLevels.{making}

out-Bool : (must must_not should : List Prepared) (minimum : ℕ) → out-Prepared (prepared.Bool must must_not should minimum) ≡ Prepared-F.Bool must must_not should minimum
unfolding making
out-Bool must must_not should minimum = out-roll-Prepared (Prepared-F.Bool must must_not should minimum)

out-Nested : (path : ℕ) (q : Prepared) → out-Prepared (prepared.Nested path q) ≡ Prepared-F.Nested path q
unfolding making
out-Nested path q = out-roll-Prepared (Prepared-F.Nested path q)

pub parts-less : (p : Prepared) (must must_not should : List Prepared) (minimum : ℕ) → p ≡ prepared.Bool must must_not should minimum →
    (most size-Prepared must < size-Prepared p) × (most size-Prepared must_not < size-Prepared p) × (most size-Prepared should < size-Prepared p)
parts-less p must must_not should minimum is =
    let h = rw (out-Bool must must_not should minimum) at (size_is-Prepared (prepared.Bool must must_not should minimum)) in
    let same : size-Prepared p ≡ size-Prepared (prepared.Bool must must_not should minimum) = ap size-Prepared is in
    (omega (arith, h, same), omega (arith, h, same), omega (arith, h, same))

pub inner-less : (p : Prepared) (path : ℕ) (q : Prepared) → p ≡ prepared.Nested path q → size-Prepared q < size-Prepared p
inner-less p path q is =
    let h = rw (out-Nested path q) at (size_is-Prepared (prepared.Nested path q)) in
    let same : size-Prepared p ≡ size-Prepared (prepared.Nested path q) = ap size-Prepared is in
    omega (arith, h, same)

pub item-most : (ps : List Prepared) (i : ℕ) (p : Prepared) → i < length ps → p ≡ get_or ps i p → size-Prepared p ≤ most size-Prepared ps
item-most ps i p within is = subst (λ x. size-Prepared x ≤ most size-Prepared ps) (sym is) (at_most size-Prepared ps i p within)
