use Rattle.std.proofs.Common.{rules, ◌≡◌, [], ◌∷◌, ◌++◌}
use Rattle.document_rows.proofs.Ascending.{moved_over}
use Rattle.document_rows.proofs.lists.map_of.Goals as goal

pub loop-place-preserved-in_ok-insert : goal.loop-place-preserved-in_ok-insert
loop-place-preserved-in_ok-insert g c =
    let popped : c.loop-place.left.items ≡ c.pop.new.self.items ++ (c.in-Some.place, c.in-Some.list) ∷ [] = search rules in
    moved_over c.pop.new.self.items c.loop-place.lists.entries c.loop-place.left.items c.args.ascending.items c.insert.new.self.entries c.in-Some.place c.in-Some.list c.loop-place.invariant c.requires popped
    c.in_ok-insert.ensures.entries

pub loop-place-preserved : goal.loop-place-preserved
loop-place-preserved g c =
    let popped : c.loop-place.left.items ≡ c.pop.new.self.items ++ (c.in-Some.place, c.in-Some.list) ∷ [] = search rules in
    moved_over c.pop.new.self.items c.loop-place.lists.entries c.loop-place.left.items c.args.ascending.items c.insert.new.self.entries c.in-Some.place c.in-Some.list c.loop-place.invariant c.requires popped
    c.in_ok-insert.ensures.entries
