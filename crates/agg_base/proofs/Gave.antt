-- What a source gave between two states of its reader: nothing, or what it gave up to one in the middle and from there on.
use Rattle.std.proofs.Common.{◌≡◌, ◌≤◌, ℕ, List, [], ◌++◌, Option, Some, None, drop, length, sym, ap, ◌∙◌, length-append, add-zero, arith}
use Rattle.std.proofs.Math.Seq.{drop-append_seam}
use Rattle.std.specs.Io.KnownBytes.{prepend_known}
use Rattle.agg_base.specs.Lines.{GaveAt}
use Rattle.agg_base.proofs.StepLemmas.{prepend-append, prepend-nil}

-- nothing was read
pub gave_nothing : {left : Option (List ℕ)} {read : ℕ} → GaveAt left read left read
gave_nothing {left} {read} = record { given = []; left = sym (prepend-nil left); counted = sym (add-zero read) }

-- the same count in other words
pub gave_as : {old new : Option (List ℕ)} {before after now : ℕ} → GaveAt old before new after → now ≡ after → GaveAt old before new now
gave_as gave same = record { given = gave.given; left = gave.left; counted = same ∙ gave.counted }

-- on by way of a state in the middle
pub gave_then : {old mid new : Option (List ℕ)} {before between after : ℕ} → GaveAt old before mid between → GaveAt mid between new after
    → GaveAt old before new after
gave_then {old} {mid} {new} {before} {between} {after} first second = record {
  given = first.given ++ second.given;
  left = first.left ∙ ap (prepend_known first.given) second.left ∙ sym (prepend-append first.given second.given new);
  counted = omega (arith, first.counted, second.counted, length-append first.given second.given);
}

-- the count never falls
pub gave_more : {old new : Option (List ℕ)} {before after : ℕ} → GaveAt old before new after → before ≤ after
gave_more gave = omega (arith, gave.counted)

left-known : (input given : List ℕ) (left : Option (List ℕ)) → Some input ≡ prepend_known given left → left ≡ Some (drop (length given) input)
left-known input given None is = absurd cc
left-known input given (Some rest) is =
    let all : input ≡ given ++ rest = cc in
    ap Some (sym (ap (drop (length given)) all ∙ drop-append_seam given rest))

-- what is left of an input behind the bytes that were read from its start on
pub left_behind : (input : List ℕ) {old left : Option (List ℕ)} {before read : ℕ} → GaveAt old before left read → old ≡ Some input → before ≡ 0
    → left ≡ Some (drop read input)
left_behind input {old} {left} {before} {read} gave known start =
    let same : length gave.given ≡ read = omega (arith, gave.counted, start) in
    left-known input gave.given left (sym known ∙ gave.left) ∙ ap (λ n. Some (drop n input)) same
