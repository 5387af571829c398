use Rattle.std.proofs.Common.{◌≤◌, ◌-◌, ◌∙◌, ap, sym, subst, length, ℕ, List, arith}
use Rattle.std.proofs.lemmas.List.{take_rest}
use Rattle.script_documents.specs.Positions.{position_from, position_of}
use Rattle.script_documents.proofs.Places.{onward}
use Rattle.script_documents.proofs.walk.Walk.position_of.Goals as goal

pub invariant_of-self : goal.invariant_of-self
invariant_of-self c =
    let kept = c.self.invariant in
    let near = c.nearest-from.ensures in
    let behind = c.position_from-position.ensures in
    let fits : List ℕ → Type 0 = λ text. c.args.offset ≤ length text in
    let same = ap (λ text. position_of text c.nearest-from.result.0) (sym c.self.view_is) in
    let rest = ap (position_from c.nearest-from.result.1 (c.args.offset - c.nearest-from.result.0)) (take_rest c.self.inside.text.now c.nearest-from.result.0) in
    let place = behind.place ∙ rest
    ∙ onward c.self.inside.text.now c.nearest-from.result.1 c.nearest-from.result.0 c.args.offset near.order (near.place ∙ same) in
    (kept.0, subst fits (sym c.self.view_is) c.requires, place, omega (arith, behind.line, near.line, near.order), omega (arith, behind.character, near.character, near.order))

pub returns-clause-place : goal.returns-clause-place
returns-clause-place c =
    let near = c.nearest-from.ensures in
    let same = ap (λ text. position_of text c.nearest-from.result.0) (sym c.self.view_is) in
    c.position_from-position.ensures.place
    ∙ ap (position_from c.nearest-from.result.1 (c.args.offset - c.nearest-from.result.0)) (take_rest c.self.inside.text.now c.nearest-from.result.0)
    ∙ onward c.self.inside.text.now c.nearest-from.result.1 c.nearest-from.result.0 c.args.offset near.order (near.place ∙ same)
    ∙ ap (λ text. position_of text c.args.offset) c.self.view_is
