use Rattle.std.proofs.Common.{◌≡◌, ◌++◌, ◌∷◌, ℕ, List, [], set, sym, ◌∙◌, ap, subst, arith, refl, length}
use Rattle.std.proofs.lemmas.List.{map-append, append-nil, append_assoc}
use Rattle.shard_columns.specs.declared.field_words.Numbered.{Numbered}
use Rattle.shard_columns.specs.Numbered.{Entries, entry_of, all_entries, AreSorted}
use Rattle.shard_columns.specs.Values.{Words}
use Rattle.shard_columns.proofs.Arranging.{AreSame, entries-next, entry-next, not-less}
use Rattle.shard_columns.proofs.Ranking.{IsRankedSoFar, Ranked-none, Ranked-push, AreRanked-made, own-entries}
use Rattle.shard_columns.proofs.words.dictionary.Goals as goal

pub index_mut-requires : goal.index_mut-requires
index_mut-requires c =
    let all = c.into_iter-word-iterator.result.rest.items in
    let word = c.in-Some.word in
    let same : AreSame c.args.words (all_entries all) = subst (λ (ws : List Numbered). AreSame c.args.words (all_entries ws)) (sym c.into_iter-word-iterator.ensures.into_iter_gives.0) c.in_ok-sorted.ensures.same in
    let next = entries-next c.loop-word.yielded c.next.new.self.rest.items word all c.loop-word.word-iterator.rest.items c.loop-word.invariant.rest c.in-Some.ensures.steps.0 in
    let there = entry-next (all_entries all) (all_entries c.loop-word.yielded) (all_entries c.next.new.self.rest.items) word.text.now word.number next in
    let low = c.requires.below word.number word.text.now ((same word.text.now word.number).1 there) in
    let size = c.loop-word.ranks.ok.0 in
    let long = c.loop-word.invariant.ranked.sizes in
    omega (arith, low, size, long)

pub loop-word-init : goal.loop-word-init
loop-word-init c =
    let all = all_entries c.into_iter-word-iterator.result.rest.items in
    record {
      ranked = subst (λ (ws : Words). IsRankedSoFar all [] ws c.args.ranks.now.items c.args.ranks.now.items) (sym c.new-texts.ensures) (Ranked-none all c.args.ranks.now.items);
      rest = refl;
    }

pub loop-word-preserved : goal.loop-word-preserved
loop-word-preserved c =
    let all = c.into_iter-word-iterator.result.rest.items in
    let word = c.in-Some.word in
    let yielded = c.loop-word.yielded in
    let rest = c.next.new.self.rest.items in
    let old = c.args.ranks.now.items in
    let now = c.loop-word.ranks.items in
    let before : Words = c.loop-word.texts in
    let after : Words = c.place_of.new.texts in
    let place = c.in_ok-place.place in
    let given = c.into_iter-word-iterator.ensures.into_iter_gives.0 in
    let same : AreSame c.args.words (all_entries all) = subst (λ (ws : List Numbered). AreSame c.args.words (all_entries ws)) (sym given) c.in_ok-sorted.ensures.same in
    let split : all ≡ yielded ++ word ∷ rest = c.loop-word.invariant.rest ∙ ap (λ (ws : List Numbered). yielded ++ ws) c.in-Some.ensures.steps.0 in
    let up : AreSorted (yielded ++ word ∷ rest) = subst AreSorted (sym given ∙ split) c.in_ok-sorted.ensures.ascending in
    let next = entries-next yielded rest word all c.loop-word.word-iterator.rest.items c.loop-word.invariant.rest c.in-Some.ensures.steps.0 in
    let there = entry-next (all_entries all) (all_entries yielded) (all_entries rest) word.text.now word.number next in
    let low = c.requires.below word.number word.text.now ((same word.text.now word.number).1 there) in
    let own = own-entries (length old) c.args.words (all_entries all) same c.requires in
    let step = Ranked-push (all_entries all) (all_entries yielded) (all_entries rest) word.text.now word.number before after place old now own low next (not-less yielded rest word up) c.in_ok-place.ensures c.loop-word.invariant.ranked in
    record {
      ranked = subst (λ (es : Entries). IsRankedSoFar (all_entries all) es after old (set now word.number place)) (sym (map-append entry_of yielded (word ∷ []))) step;
      rest = split ∙ sym (append_assoc yielded (word ∷ []) rest);
    }

-- all of them are ranked
whole : (all yielded left : List Numbered) (words : Words) (old new : List ℕ) → all ≡ yielded ++ left → length left ≡ 0 → IsRankedSoFar (all_entries all) (all_entries yielded) words old new → IsRankedSoFar (all_entries all) (all_entries all) words old new
whole all yielded [] words old new is none ranked = subst (λ (ws : List Numbered). IsRankedSoFar (all_entries all) (all_entries ws) words old new) (sym (append-nil yielded) ∙ sym is) ranked
whole all yielded (w ∷ ws) words old new is none ranked = absurd (omega (arith, none))

pub returns : goal.returns
returns c =
    let all = c.into_iter-word-iterator.result.rest.items in
    let left = c.loop-word.word-iterator.rest in
    let same : AreSame c.args.words (all_entries all) = subst (λ (ws : List Numbered). AreSame c.args.words (all_entries ws)) (sym c.into_iter-word-iterator.ensures.into_iter_gives.0) c.in_ok-sorted.ensures.same in
    let none : length left.items ≡ 0 = omega (arith, c.in-None.ensures.steps.0, left.ok) in
    let made = AreRanked-made c.args.words (all_entries all) c.loop-word.texts c.args.ranks.now.items c.loop-word.ranks.items same
    (whole all c.loop-word.yielded left.items c.loop-word.texts c.args.ranks.now.items c.loop-word.ranks.items c.loop-word.invariant.rest none c.loop-word.invariant.ranked) in
    record { words = made.0; ranked = made.1 }
