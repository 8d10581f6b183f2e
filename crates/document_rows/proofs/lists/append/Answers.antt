use Rattle.std.proofs.Common.{rules, arith, ◌≡◌, ◌<◌, [], ◌∷◌, ◌++◌, length}
use Rattle.document_rows.proofs.Ascending.{front_ascends, found_here, raised, raised_ascends, none_here, put_behind, behind_ascends}
use Rattle.document_rows.proofs.lists.append.Goals as goal

pub returns-then-is_some_and-clause-room : goal.returns-then-is_some_and-clause-room
returns-then-is_some_and-clause-room g c =
    let none : length c.args.others.now.entries ≡ 0 = search rules in
    let popped : c.args.ascending.now.items ≡ c.pop.new.self.items ++ (c.in-Some.last, c.in-Some.found) ∷ [] = search rules in
    let same : c.in-Some.last ≡ c.args.place = search rules in
    let found = found_here c.args.ascending.now.items c.pop.new.self.items c.args.others.now.entries c.in-Some.last c.args.place c.in-Some.found none popped c.requires.ascends same in
    search (rules, found)

pub returns-then-is_some_and-clause-ascends : goal.returns-then-is_some_and-clause-ascends
returns-then-is_some_and-clause-ascends g c =
    let none : length c.args.others.now.entries ≡ 0 = search rules in
    let popped : c.args.ascending.now.items ≡ c.pop.new.self.items ++ (c.in-Some.last, c.in-Some.found) ∷ [] = search rules in
    front_ascends c.args.ascending.now.items c.pop.new.self.items c.args.others.now.entries c.in-Some.last c.args.place c.in-Some.found none popped c.requires.ascends

pub returns-in_err-push-2-clause-ascends : goal.returns-in_err-push-2-clause-ascends
returns-in_err-push-2-clause-ascends g c =
    let none : length c.args.others.now.entries ≡ 0 = search rules in
    let popped : c.args.ascending.now.items ≡ c.pop.new.self.items ++ (c.in-Some.last, c.in-Some.found) ∷ [] = search rules in
    front_ascends c.args.ascending.now.items c.pop.new.self.items c.args.others.now.entries c.in-Some.last c.args.place c.in-Some.found none popped c.requires.ascends

pub returns-then-last-place-clause-room : goal.returns-then-last-place-clause-room
returns-then-last-place-clause-room g c =
    let none : length c.args.others.now.entries ≡ 0 = search rules in
    let popped : c.args.ascending.now.items ≡ c.pop.new.self.items ++ (c.in-Some.last, c.in-Some.found) ∷ [] = search rules in
    let same : c.in-Some.last ≡ c.args.place = search rules in
    let found = found_here c.args.ascending.now.items c.pop.new.self.items c.args.others.now.entries c.in-Some.last c.args.place c.in-Some.found none popped c.requires.ascends same in
    search (rules, found)

pub returns-then-last-place-clause-added : goal.returns-then-last-place-clause-added
returns-then-last-place-clause-added g c =
    let none : length c.args.others.now.entries ≡ 0 = search rules in
    let popped : c.args.ascending.now.items ≡ c.pop.new.self.items ++ (c.in-Some.last, c.in-Some.found) ∷ [] = search rules in
    let same : c.in-Some.last ≡ c.args.place = search rules in
    let new : c.push-then-last-place-2.new.self.items ≡ c.pop.new.self.items ++ (c.in-Some.last, c.in-Some.found ++ c.args.item ∷ []) ∷ [] = search rules in
    let added = raised c.args.ascending.now.items c.pop.new.self.items c.args.others.now.entries c.in-Some.last c.args.place c.in-Some.found none popped c.requires.ascends same c.args.item c.push-then-last-place-2.new.self.items new in
    search (rules, added)

pub returns-then-last-place-clause-ascends : goal.returns-then-last-place-clause-ascends
returns-then-last-place-clause-ascends g c =
    let none : length c.args.others.now.entries ≡ 0 = search rules in
    let popped : c.args.ascending.now.items ≡ c.pop.new.self.items ++ (c.in-Some.last, c.in-Some.found) ∷ [] = search rules in
    let same : c.in-Some.last ≡ c.args.place = search rules in
    let new : c.push-then-last-place-2.new.self.items ≡ c.pop.new.self.items ++ (c.in-Some.last, c.in-Some.found ++ c.args.item ∷ []) ∷ [] = search rules in
    raised_ascends c.args.ascending.now.items c.pop.new.self.items c.args.others.now.entries c.in-Some.last c.args.place c.in-Some.found none popped c.requires.ascends same c.args.item c.push-then-last-place-2.new.self.items new

pub returns-then-last-place-2-clause-room : goal.returns-then-last-place-2-clause-room
returns-then-last-place-2-clause-room g c =
    let none : length c.args.others.now.entries ≡ 0 = search rules in
    let popped : c.args.ascending.now.items ≡ c.pop.new.self.items ++ (c.in-Some.last, c.in-Some.found) ∷ [] = search rules in
    let below : c.in-Some.last < c.args.place = omega arith in
    let found = none_here c.args.ascending.now.items c.pop.new.self.items c.args.others.now.entries c.in-Some.last c.args.place c.in-Some.found none popped c.requires.ascends below in
    search (rules, found)

pub returns-then-last-place-2-clause-added : goal.returns-then-last-place-2-clause-added
returns-then-last-place-2-clause-added g c =
    let none : length c.args.others.now.entries ≡ 0 = search rules in
    let popped : c.args.ascending.now.items ≡ c.pop.new.self.items ++ (c.in-Some.last, c.in-Some.found) ∷ [] = search rules in
    let below : c.in-Some.last < c.args.place = omega arith in
    let new : c.push-then-last-place-2-2.new.self.items ≡ (c.pop.new.self.items ++ (c.in-Some.last, c.in-Some.found) ∷ []) ++ (c.args.place, c.args.item ∷ []) ∷ [] = search rules in
    let added = put_behind c.args.ascending.now.items c.pop.new.self.items c.args.others.now.entries c.in-Some.last c.args.place c.in-Some.found none popped c.requires.ascends below c.args.item c.push-then-last-place-2-2.new.self.items new in
    search (rules, added)

pub returns-then-last-place-2-clause-ascends : goal.returns-then-last-place-2-clause-ascends
returns-then-last-place-2-clause-ascends g c =
    let none : length c.args.others.now.entries ≡ 0 = search rules in
    let popped : c.args.ascending.now.items ≡ c.pop.new.self.items ++ (c.in-Some.last, c.in-Some.found) ∷ [] = search rules in
    let below : c.in-Some.last < c.args.place = omega arith in
    let new : c.push-then-last-place-2-2.new.self.items ≡ (c.pop.new.self.items ++ (c.in-Some.last, c.in-Some.found) ∷ []) ++ (c.args.place, c.args.item ∷ []) ∷ [] = search rules in
    behind_ascends c.args.ascending.now.items c.pop.new.self.items c.args.others.now.entries c.in-Some.last c.args.place c.in-Some.found none popped c.requires.ascends below c.args.item c.push-then-last-place-2-2.new.self.items new
