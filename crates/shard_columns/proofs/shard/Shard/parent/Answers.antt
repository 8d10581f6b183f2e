use Rattle.std.proofs.Common.{refl, ◌∙◌, ap, arith}
use Rattle.shard_columns.specs.Layout.{context_of}
use Rattle.shard_columns.proofs.Reading.{in-range, context-is}
use Rattle.shard_columns.proofs.Parents.{around, enclosed-nested, enclosed-root}
use Rattle.shard_columns.proofs.shard.Shard.parent.Goals as goal

pub at-requires : goal.at-requires
at-requires c = in-range c.self.inside c.args.self.now c.self.view_is c.self.invariant c.args.row c.requires

pub returns-in-Root-clause-root : goal.returns-in-Root-clause-root
returns-in-Root-clause-root c =
    let context = context-is c.self.inside c.args.self.now c.self.view_is c.self.invariant c.args.row c.at.result c.requires c.at.ensures ∙ ap context_of c.in-Root.is in
    (λ _. context, λ _. refl)

pub returns-in-Root-clause-enclosed : goal.returns-in-Root-clause-enclosed
returns-in-Root-clause-enclosed c = enclosed-root c.self.inside c.args.self.now c.self.view_is c.self.invariant c.args.row c.at.result c.requires c.at.ensures c.in-Root.is

pub returns-in-Nested-clause-root : goal.returns-in-Nested-clause-root
returns-in-Nested-clause-root c =
    let context = context-is c.self.inside c.args.self.now c.self.view_is c.self.invariant c.args.row c.at.result c.requires c.at.ensures ∙ ap context_of c.in-Nested.is in
    (λ e. absurd (cc e), λ zero. absurd (omega (arith, context, zero)))

pub returns-in-Nested-clause-before : goal.returns-in-Nested-clause-before
returns-in-Nested-clause-before c =
    let known = around c.self.inside c.args.self.now c.self.view_is c.self.invariant c.args.row c.at.result c.in-Nested.parent c.in-Nested.path c.in-Nested.number c.requires c.at.ensures c.in-Nested.is in
    known.0

pub returns-in-Nested-clause-beneath : goal.returns-in-Nested-clause-beneath
returns-in-Nested-clause-beneath c =
    let context = context-is c.self.inside c.args.self.now c.self.view_is c.self.invariant c.args.row c.at.result c.requires c.at.ensures ∙ ap context_of c.in-Nested.is in
    let known = around c.self.inside c.args.self.now c.self.view_is c.self.invariant c.args.row c.at.result c.in-Nested.parent c.in-Nested.path c.in-Nested.number c.requires c.at.ensures c.in-Nested.is in
    record { path = c.in-Nested.path; number = c.in-Nested.number; context_is = context; place_is = known.1 }

pub returns-in-Nested-clause-enclosed : goal.returns-in-Nested-clause-enclosed
returns-in-Nested-clause-enclosed c = enclosed-nested c.self.inside c.args.self.now c.self.view_is c.self.invariant c.args.row c.at.result c.in-Nested.parent c.in-Nested.path c.in-Nested.number c.requires c.at.ensures c.in-Nested.is
