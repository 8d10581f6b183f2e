use Rattle.std.proofs.Common.{◌≡◌, ◌++◌, ◌∷◌, [], ℕ, Bool, true, List, if◌then◌else◌, length, ◌∙◌, ap, arith, length-append}
use Rattle.std.specs.Result.{is_ok}
use Rattle.packed_texts.specs.Pieces.{AreCut, pieces_from}
use Rattle.packed_texts.proofs.Cutting.{one-more}
use Rattle.packed_texts.proofs.bytes.PackedBytes.push.Goals as goal
use Rattle.packed_texts.proofs.bytes.PackedBytes.push.Goals.{After-push}

-- where there is room, it stands there
pushed : (b : Bool) (old new before : List ℕ) (end size : ℕ) → new ≡ (if b then old ++ end ∷ [] else old) → b ≡ true → old ≡ before → end ≡ size → new ≡ before ++ size ∷ []
pushed b old new before end size is fits same at =
    is ∙ (ap (λ (c : Bool). if c then old ++ end ∷ [] else old) fits ∙ (ap (λ (xs : List ℕ). xs ++ end ∷ []) same ∙ ap (λ (k : ℕ). before ++ k ∷ []) at))

-- the bytes and the ends with one more
more : (c : After-push) → (pieces_from 0 c.extend_from_slice.new.self.items c.push.new.self.items ≡ pieces_from 0 c.self.inside.bytes.items c.self.inside.ends.items ++ c.args.bytes.now ∷ [])
    × AreCut 0 c.push.new.self.items (length c.extend_from_slice.new.self.items)
more c =
    let inside = c.self.inside in
    let put : c.extend_from_slice.new.self.items ≡ inside.bytes.items ++ c.args.bytes.now = c.in_ok-extend_from_slice.ensures.items in
    let size = ap (λ (bs : List ℕ). length bs) put ∙ length-append inside.bytes.items c.args.bytes.now in
    let end : c.in-Ok.end ≡ length c.extend_from_slice.new.self.items = omega (arith, c.in-Ok.ensures, size, c.len.ensures, inside.bytes.ok.0) in
    let ends = pushed (is_ok c.push.result) c.reserve.new.self.items c.push.new.self.items inside.ends.items c.in-Ok.end (length c.extend_from_slice.new.self.items) c.push.ensures.items (c.push.ensures.succeeds (omega (arith, c.in_ok-reserve.ensures.ok))) c.reserve.ensures.items end in
    one-more inside.bytes.items c.extend_from_slice.new.self.items c.args.bytes.now inside.ends.items c.push.new.self.items put ends c.self.invariant

pub invariant_of-self-2 : goal.invariant_of-self-2
invariant_of-self-2 c = (more c).1

pub returns-clause-added : goal.returns-clause-added
returns-clause-added c = (more (goal.at.returns-clause-added c).After-push).0 ∙ ap (λ (ps : List (List ℕ)). ps ++ c.args.bytes.now ∷ []) c.self.view_is
