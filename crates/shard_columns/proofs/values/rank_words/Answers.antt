use Rattle.std.proofs.Common.{◌≡◌, ◌<◌, ◌≤◌, ◌++◌, ℕ, List, map, take, length, get_or, set, ◌∙◌, ap, arith}
use Rattle.std.proofs.lemmas.List.{append-nil, take_all, drop_all}
use Rattle.std.proofs.lemmas.List.Edits.{map_over_more}
use Rattle.shard_columns.specs.Values.{ranked}
use Rattle.shard_columns.proofs.Storing.{get_or-any}
use Rattle.shard_columns.proofs.values.rank_words.Goals as goal

pub loop-one-init : goal.loop-one-init
loop-one-init c = c.deref_mut-one-items.ensures.value

pub loop-one-preserved : goal.loop-one-preserved
loop-one-preserved c =
    let xs = c.args.words.now.items in
    let ys = c.loop-one.one-items in
    let i = c.loop-one.one-index in
    let low : i < length xs = omega (arith, c.loop-one-test.true, ap length c.deref_mut-one-items.ensures.value) in
    let here : i < length ys = omega (arith, c.loop-one-test.true, c.loop-one.auto.one-items) in
    let x : ℕ = get_or ys i 0 in
    let same = get_or-any ys i 0 x here in
    let read = get_or-any ys i _ 0 here in
    ap (λ (y : ℕ). set ys i y) (c.ranked.ensures ∙ ap (ranked c.args.ranks.now) read)
    ∙ map_over_more (ranked c.args.ranks.now) xs ys i x low c.loop-one.invariant same

pub returns : goal.returns
returns c =
    let xs = c.args.words.now.items in
    let ys = c.loop-one.one-items in
    let size : length ys ≡ length xs = c.loop-one.auto.one-items ∙ ap length c.deref_mut-one-items.ensures.value in
    let end : length xs ≤ c.loop-one.one-index = omega (arith, c.loop-one-test.false, ap length c.deref_mut-one-items.ensures.value) in
    let fit = c.args.words.now.ok.0 in
    let whole : ys ≡ map (ranked c.args.ranks.now) xs =
    c.loop-one.invariant ∙ (ap (λ (zs : List ℕ). map (ranked c.args.ranks.now) (take c.loop-one.one-index xs) ++ zs) (drop_all c.loop-one.one-index xs end)
    ∙ (append-nil _ ∙ ap (map (ranked c.args.ranks.now)) (take_all c.loop-one.one-index xs end))) in
    ap (λ (zs : List ℕ). take c.args.words.now.len (ys ++ zs)) (drop_all (length ys) xs (omega (arith, size)))
    ∙ (ap (take c.args.words.now.len) (append-nil ys) ∙ (take_all c.args.words.now.len ys (omega (arith, size, fit)) ∙ whole))
