use Rattle.std.proofs.Common.{rules, ◌≡◌, sym, ap, ◌∙◌, ◌∷◌}
use Rattle.lent_json.specs.Members.{put_all}
use Rattle.lent_json.specs.View.{members_view}
use Rattle.lent_json.proofs.Ordered.{view_inserted}
use Rattle.lent_json.proofs.members.mapped.Goals as goal

pub loop-name-preserved : goal.loop-name-preserved
loop-name-preserved c =
    let left = c.next.new.self.rest.items in
    let took : c.loop-name.name-iterator.rest.items ≡ (c.in-Some.name, c.in-Some.value) ∷ left = search rules in
    ap (λ es. put_all (members_view left) (members_view es)) c.in_ok-insert.ensures.entries
    ∙ ap (put_all (members_view left)) (view_inserted c.loop-name.by_name.entries c.in-Some.name c.in-Some.value)
    ∙ ap (λ ms. put_all (members_view ms) (members_view c.loop-name.by_name.entries)) (sym took) ∙ c.loop-name.invariant
