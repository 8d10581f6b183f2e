use Rattle.std.proofs.Common.{◌≡◌, ℕ, suc, List, length, sum_by, take, sym, ◌∙◌, ap, arith}
use Rattle.packed_texts.proofs.Cutting.{length-is, piece-at}
use Rattle.packed_texts.proofs.bytes.PackedBytes.start.Goals as goal

pub index-requires : goal.index-requires
index-requires c =
    let inside = c.self.inside in
    let found = c.in-Some.ensures in
    omega (arith, found.0, found.1, c.requires, length-is inside.bytes.items inside.ends.items c.args.self.now c.self.view_is, inside.ends.ok.0)

pub returns-in-Some : goal.returns-in-Some
returns-in-Some c =
    let inside = c.self.inside in
    let found = c.in-Some.ensures in
    let is : c.args.place ≡ suc c.in-Some.before = omega (arith, found.0, found.1) in
    let before = piece-at inside.bytes.items inside.ends.items c.args.self.now c.self.view_is c.self.invariant c.in-Some.before c.index.result.now (omega (arith, is, c.requires)) c.index.ensures in
    sym (ap (λ (k : ℕ). sum_by (λ (xs : List ℕ). length xs) (take k c.args.self.now)) is ∙ before.behind)
