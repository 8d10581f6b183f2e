-- What is left to write after one more call, over plain lists.
use Rattle.std.proofs.Common.{◌≡◌, ◌≤◌, ◌+◌, ◌-◌, ℕ, List, ◌++◌, Option, Some, None, refl, sym, ap, ◌∙◌, append_assoc, length, take, drop, arith}
use Rattle.std.specs.Io.KnownBytes.{append_known}
use Rattle.std.proofs.Math.Seq.{take-append-add}
use Rattle.std.proofs.lemmas.List.{take_rest, take-append-drop, length-take-le, length-drop, drop-drop}

append-append : (known : Option (List ℕ)) (xs ys : List ℕ) → append_known (append_known known xs) ys ≡ append_known known (xs ++ ys)
append-append None xs ys = refl
append-append (Some written) xs ys = ap Some (append_assoc written xs ys)

take-add : (bytes : List ℕ) (d n : ℕ) → d ≤ length bytes → take (d + n) bytes ≡ take d bytes ++ take n (drop d bytes)
take-add bytes d n le =
    ap (λ (t : List ℕ). take (d + n) t) (sym (take-append-drop d bytes))
    ∙ ap (λ k. take (k + n) (take d bytes ++ drop d bytes)) (sym (length-take-le d bytes le))
    ∙ take-append-add (take d bytes) (drop d bytes) n

-- n bytes of the rest were taken, and `next` is left
module _ (bytes rest next : List ℕ) (n : ℕ) (within : length rest ≤ length bytes) (is : rest ≡ drop (length bytes - length rest) bytes) (le : n ≤ length rest) (next_is : next ≡ take (length rest - n) (drop n rest)) where
  pub length_next : length next + n ≡ length rest
  length_next = omega (arith, ap length next_is, ap length (take_rest rest n), length-drop n rest)

  pub next_rest : next ≡ drop (length bytes - length next) bytes
  next_rest =
      next_is ∙ take_rest rest n ∙ ap (drop n) is ∙ drop-drop n (length bytes - length rest) bytes
      ∙ ap (λ k. drop k bytes) (let e : length bytes - length rest + n ≡ length bytes - length next = omega (arith, length_next) in e)

  pub next_taken : (first before after : Option (List ℕ)) → before ≡ append_known first (take (length bytes - length rest) bytes) → after ≡ append_known before (take n rest) →
      after ≡ append_known first (take (length bytes - length next) bytes)
  next_taken first before after told more =
      let done = length bytes - length rest in
      more ∙ ap (λ o. append_known o (take n rest)) told
      ∙ append-append first (take done bytes) (take n rest)
      ∙ ap (append_known first) (
      ap (λ (t : List ℕ). take done bytes ++ take n t) is
      ∙ sym (take-add bytes done n (omega arith))
      ∙ ap (λ k. take k bytes) (let e : done + n ≡ length bytes - length next = omega (arith, length_next) in e))
