use Rattle.std.proofs.Common.{◌≡◌, ◌+◌, ◌++◌, ◌∷◌, ℕ, List, [], length, length-append, get_or, sym, ◌∙◌, ap, subst, arith}
use Rattle.std.proofs.lemmas.List.{append_assoc}
use Rattle.std.proofs.Math.Seq.{get_or-append_seam}
use Rattle.shard_columns.specs.Numbered.{Known, none_known}
use Rattle.shard_columns.specs.Values.{Words}
use Rattle.shard_columns.proofs.Ranking.{AreMade, AreMade-none, AreMade-push, AreWords-made, apart-in}
use Rattle.shard_columns.proofs.words.dictionaries.Goals as goal

-- the words of this field
this : (all yielded left rest : List Known) (words : Known) → all ≡ yielded ++ left → left ≡ words ∷ rest → words ≡ get_or all (length yielded) none_known
this all yielded left rest words is next = sym (ap (λ (ws : List Known). get_or ws (length yielded) none_known) (is ∙ ap (λ (ws : List Known). yielded ++ ws) next) ∙ get_or-append_seam yielded words rest none_known)

pub loop-words-init : goal.loop-words-init
loop-words-init c = record {
  made = subst (λ (ws : List Words). AreMade c.args.numbers 0 ws c.args.numbers.ranks.items) (sym c.in_ok-all.ensures.items) (AreMade-none c.args.numbers);
  rest = sym c.into_iter-words-iterator.ensures.into_iter_gives.0;
}

pub dictionary-requires : goal.dictionary-requires
dictionary-requires c =
    let yielded = c.loop-words.yielded in
    apart-in c.args.numbers (length yielded) c.in-Some.words (length c.loop-words.ranks.items) c.requires
    (this c.args.numbers.by_field.items yielded c.loop-words.words-iterator.rest.items c.next.new.self.rest.items c.in-Some.words c.loop-words.invariant.rest c.in-Some.ensures.steps.0) c.loop-words.invariant.made.room

pub loop-words-preserved : goal.loop-words-preserved
loop-words-preserved c =
    let yielded = c.loop-words.yielded in
    let words = c.in-Some.words in
    let rest = c.next.new.self.rest.items in
    let left = c.loop-words.words-iterator.rest.items in
    let one = c.in_ok-dictionary.ensures in
    let count : length (yielded ++ words ∷ []) ≡ length yielded + 1 = length-append yielded (words ∷ []) in
    record {
      made =
          subst (λ (n : ℕ). AreMade c.args.numbers n c.push.new.self.items c.dictionary.new.ranks.items) (sym count)
          (subst (λ (ws : List Words). AreMade c.args.numbers (length yielded + 1) ws c.dictionary.new.ranks.items) (sym c.in_ok-push.ensures.items)
          (AreMade-push c.args.numbers (length yielded) c.loop-words.all.items c.loop-words.ranks.items c.dictionary.new.ranks.items words c.in_ok-dictionary.field-0 c.requires
          (this c.args.numbers.by_field.items yielded left rest words c.loop-words.invariant.rest c.in-Some.ensures.steps.0) c.loop-words.invariant.made one.words one.ranked));
      rest = c.loop-words.invariant.rest ∙ (ap (λ (ws : List Known). yielded ++ ws) c.in-Some.ensures.steps.0 ∙ sym (append_assoc yielded (words ∷ []) rest));
    }

-- no field is left
whole : (all yielded left : List Known) → all ≡ yielded ++ left → length left ≡ 0 → length all ≡ length yielded
whole all yielded left is none = ap length is ∙ omega (arith, length-append yielded left, none)

pub returns : goal.returns
returns c =
    let left = c.loop-words.words-iterator.rest in
    let none : length left.items ≡ 0 = omega (arith, c.in-None.ensures.steps.0, left.ok) in
    let made = AreWords-made c.args.numbers (length c.loop-words.yielded) c.loop-words.all.items c.loop-words.ranks.items (whole c.args.numbers.by_field.items c.loop-words.yielded left.items c.loop-words.invariant.rest none) c.loop-words.invariant.made in
    record { words = made.0; ranks = made.1 }
