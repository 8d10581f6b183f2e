-- How a reader of lines goes on by a piece of a block, over plain lists.
use Rattle.std.proofs.Common.{◌≡◌, ◌<◌, ◌≤◌, ◌+◌, ◌-◌, ℕ, suc, List, [], ◌∷◌, ◌++◌, Option, Some, None, Err, refl, sym, ap, subst, ◌∙◌, append_assoc, length, take, drop, IfSome, arith}
use Rattle.std.specs.Prelude.{slice_range}
use Rattle.std.specs.Io.KnownBytes.{prepend_known}
use Rattle.std.proofs.lemmas.List.{take_all, drop-take, drop-drop, take-append-drop}
use Rattle.std.proofs.lemmas.List.Edits.{length-between, between_none}
use Rattle.agg_model.specs.Lines.{newline}
use Rattle.agg_base.specs.Cut.{Answers, first_line, next_of}
use Rattle.agg_base.specs.declared.lines.LineFault.{LineFault}
use Rattle.agg_base.proofs.CutLemmas.{take-first_line, drop-first_line}

pub prepend-append : (xs ys : List ℕ) (left : Option (List ℕ)) → prepend_known (xs ++ ys) left ≡ prepend_known xs (prepend_known ys left)
prepend-append xs ys None = refl
prepend-append xs ys (Some rest) = ap Some (append_assoc xs ys rest)

pub prepend-nil : (left : Option (List ℕ)) → prepend_known [] left ≡ left
prepend-nil None = refl
prepend-nil (Some rest) = refl

-- a fault of the front of what is left, whatever follows it
refused_known : (before : ℕ) (line ahead : List ℕ) (left : Option (List ℕ)) (fault : LineFault) → ((rest : List ℕ) → Answers (next_of before (line ++ (ahead ++ rest))) (Err fault)) →
    IfSome (prepend_known line (prepend_known ahead left)) (λ rest. Answers (next_of before rest) (Err fault))
refused_known before line ahead None fault h = tt
refused_known before line ahead (Some rest) fault h = h rest

pub refused_unread : (before now : ℕ) (line seen ahead block : List ℕ) (old left : Option (List ℕ)) (fault : LineFault) →
    now ≡ before → seen ≡ line → block ≡ ahead → prepend_known block left ≡ old →
    ((rest : List ℕ) → Answers (next_of now (seen ++ (ahead ++ rest))) (Err fault)) → IfSome (prepend_known line old) (λ rest. Answers (next_of before rest) (Err fault))
refused_unread before now line seen ahead block old left fault same_place same_line same_block same_left h =
    subst (λ (o : Option (List ℕ)). IfSome (prepend_known line o) (λ rest. Answers (next_of before rest) (Err fault))) same_left
    (subst (λ (t : List ℕ). IfSome (prepend_known line (prepend_known t left)) (λ rest. Answers (next_of before rest) (Err fault))) (sym same_block)
    (refused_known before line ahead left fault
    (λ rest. subst (λ (t : List ℕ). Answers (next_of before (t ++ (ahead ++ rest))) (Err fault)) same_line
    (subst (λ n. Answers (next_of n (seen ++ (ahead ++ rest))) (Err fault)) same_place (h rest)))))

-- what is left of a block after n bytes
pub drop-slice_range : (buffer : List ℕ) (start end n : ℕ) → start + n ≤ end → drop n (slice_range buffer start end) ≡ slice_range buffer (start + n) end
drop-slice_range buffer start end n le =
    let rest = end - (start + n) in
    let split : end - start ≡ n + rest = omega arith in
    ap (λ k. drop n (take k (drop start buffer))) split
    ∙ drop-take n rest (drop start buffer)
    ∙ ap (take rest) (drop-drop n start buffer)

-- the block has a newline: the line ends there
pub ended_piece : (line now ahead after : List ℕ) (left : Option (List ℕ)) → now ≡ line ++ first_line ahead → length (first_line ahead) < length ahead → after ≡ drop (suc (length (first_line ahead))) ahead →
    prepend_known line (prepend_known ahead left) ≡ prepend_known (now ++ newline ∷ []) (prepend_known after left)
ended_piece line now ahead after left is lt rest =
    let front = first_line ahead in
    let whole : ahead ≡ front ++ newline ∷ after =
    sym (take-append-drop (length front) ahead)
    ∙ ap (λ (t : List ℕ). t ++ drop (length front) ahead) (take-first_line ahead)
    ∙ ap (λ (t : List ℕ). front ++ t) (drop-first_line ahead lt ∙ ap (λ (t : List ℕ). newline ∷ t) (sym rest)) in
    let split : (line ++ front) ++ newline ∷ after ≡ (now ++ newline ∷ []) ++ after =
    sym (append_assoc (line ++ front) (newline ∷ []) after) ∙ ap (λ (t : List ℕ). (t ++ newline ∷ []) ++ after) (sym is) in
    sym (prepend-append line ahead left)
    ∙ ap (λ (t : List ℕ). prepend_known t left) (ap (λ (t : List ℕ). line ++ t) whole ∙ sym (append_assoc line front (newline ∷ after)) ∙ split)
    ∙ prepend-append (now ++ newline ∷ []) after left

-- it has none: all of it goes to the line
pub first_line_all : (xs : List ℕ) → length xs ≤ length (first_line xs) → first_line xs ≡ xs
first_line_all xs le = sym (take-first_line xs) ∙ take_all (length (first_line xs)) xs le

pub open_piece : (line now ahead : List ℕ) (left : Option (List ℕ)) → now ≡ line ++ first_line ahead → length ahead ≤ length (first_line ahead) →
    prepend_known now (prepend_known [] left) ≡ prepend_known line (prepend_known ahead left)
open_piece line now ahead left is le =
    ap (prepend_known now) (prepend-nil left)
    ∙ ap (λ (t : List ℕ). prepend_known t left) (is ∙ ap (λ (t : List ℕ). line ++ t) (first_line_all ahead le))
    ∙ prepend-append line ahead left

-- the bytes ahead are as many as the two ends say, where the block is seen as another list
pub length-ahead : (seen buffer : List ℕ) (start end : ℕ) → seen ≡ buffer → end ≤ length buffer → length (slice_range seen start end) ≡ end - start
length-ahead seen buffer start end same le = length-between seen start end (subst (λ (t : List ℕ). end ≤ length t) (sym same) le)

-- after a newline
pub after_piece : (seen buffer : List ℕ) (start end place n : ℕ) → seen ≡ buffer → place ≡ n → start + place + 1 ≤ end → slice_range buffer (start + place + 1) end ≡ drop (suc n) (slice_range seen start end)
after_piece seen buffer start end place n same place_is le =
    sym (
    ap (λ (t : List ℕ). drop (suc n) (slice_range t start end)) same
    ∙ ap (λ k. drop k (slice_range buffer start end)) (let e : suc n ≡ place + 1 = omega arith in e)
    ∙ drop-slice_range buffer start end (place + 1) (omega arith)
    ∙ ap (λ k. slice_range buffer k end) (let e : start + (place + 1) ≡ start + place + 1 = omega arith in e))

-- at the end of the block nothing is ahead
pub nothing_ahead : (buffer : List ℕ) (start end : ℕ) → start ≡ end → slice_range buffer start end ≡ []
nothing_ahead buffer start end e = ap (λ n. slice_range buffer n end) e ∙ between_none buffer end
