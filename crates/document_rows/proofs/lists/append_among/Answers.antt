use Rattle.std.proofs.Common.{rules, ◌≡◌, sym, ◌∙◌, ap, [], ◌∷◌, ◌++◌, Some, None, unwrap_or}
use Rattle.std.specs.Map.{lookup}
use Rattle.std.specs.BTreeMap.{is_at, insert_entry}
use Rattle.std.specs.BTreeMap.Entry.{entry_value, map_with_value}
use Rattle.std.specs.Ordering.{nat_cmp}
use Rattle.document_rows.specs.Drafts.{with_item}
use Rattle.document_rows.proofs.Items.{item_put}
use Rattle.document_rows.proofs.lists.append_among.Goals as goal

pub returns-in_ok-push-in-Ok-Occupied-clause-added : goal.returns-in_ok-push-in-Ok-Occupied-clause-added
returns-in_ok-push-in-Ok-Occupied-clause-added g c =
    let entries = c.args.lists.now.entries in
    let found : Some c.into_mut-found.result.now ≡ lookup (is_at (nat_cmp c.args.place)) entries =
    sym c.into_mut-found.ensures.value ∙ ap entry_value (sym c.in-Ok-Occupied.field-0-is) ∙ c.in-Ok-Occupied.ensures.value in
    let placed : (map_with_value c.in-Ok-Occupied.field-0 c.push.new.self).entries ≡ with_item c.args.place c.args.item entries =
    c.in-Ok-Occupied.ensures.update.1 c.push.new.self
    ∙ ap (insert_entry nat_cmp entries c.args.place) (c.in_ok-push-in-Ok-Occupied.ensures.ok ∙ ap (λ o. unwrap_or o [] ++ c.args.item ∷ []) found)
    ∙ item_put c.args.place c.args.item entries c.in-Ok-Occupied.ensures.ordered in
    search (rules, placed)

pub returns-in_ok-single-in-Ok-Vacant-clause-added : goal.returns-in_ok-single-in-Ok-Vacant-clause-added
returns-in_ok-single-in-Ok-Vacant-clause-added g c =
    let entries = c.args.lists.now.entries in
    let absent : None ≡ lookup (is_at (nat_cmp c.args.place)) entries = sym (rw c.in-Ok-Vacant.field-0-is at c.in-Ok-Vacant.ensures.found) in
    let placed : (map_with_value c.in-Ok-Vacant.field-0 c.in_ok-single-in-Ok-Vacant.field-0).entries ≡ with_item c.args.place c.args.item entries =
    c.in-Ok-Vacant.ensures.update.1 c.in_ok-single-in-Ok-Vacant.field-0
    ∙ ap (insert_entry nat_cmp entries c.args.place) (c.in_ok-single-in-Ok-Vacant.ensures ∙ ap (λ o. unwrap_or o [] ++ c.args.item ∷ []) absent)
    ∙ item_put c.args.place c.args.item entries c.in-Ok-Vacant.ensures.ordered in
    search (rules, placed)
