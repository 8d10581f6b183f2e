-- A lent value, level by level, and its members one after another.
use Rattle.std.proofs.Common.{◌≡◌, ℕ, List, [], ◌∷◌, ◌++◌, Vec, Global, refl, rules}
use Rattle.std.specs.Borrow.{Bor}
use Rattle.serde_json.specs.Data.{array, object, Members, put}
use Rattle.lent_json.specs.Members.{put_all}
use Rattle.lent_json.specs.View.{view, items_view, members_view}
use Rattle.lent_json.specs.declared.value.Lent.{Lent, Array, Object, the_lemmas}

abbrev pub Entry : Type 0
Entry = Bor (List ℕ) × Lent

pub view-Array : (v : Vec Lent Global) → view (Array v) ≡ array (items_view v.items)
view-Array v = search (rules, the_lemmas)

pub view-Object : (v : Vec Entry Global) → view (Object v) ≡ object (members_view v.items)
view-Object v = search (rules, the_lemmas)

-- one more member of a text
pub put_all_more : (ms : List Entry) (m : Entry) (found : Members) → put_all (members_view (ms ++ m ∷ [])) found ≡ put m.0.now (view m.1) (put_all (members_view ms) found)
put_all_more [] m found = refl
put_all_more (n ∷ ms) m found = put_all_more ms m (put n.0.now (view n.1) found)
