use Rattle.std.proofs.Common.{ℕ, List, Bor, length, arith}
use Rattle.journal_text.specs.Texts.Text.{object_name}
use Rattle.journal_text.proofs.OnTexts.NamingLemmas.{objects-named}
use Rattle.journal_text.proofs.OnTexts.TokenLemmas.{name-found, name-none}
use Rattle.journal_text.proofs.texts.name_tokens.object_at.Goals as goal

abbrev now : Bor (List ℕ) → List ℕ
now r = r.now

pub returns-in_err-word : goal.returns-in_err-word
returns-in_err-word c =
    let plan = c.args.plan.now in
    rw c.from_residual.ensures (λ k rest low gap same.
    c.in_err-word.ensures (object_name plan k) rest ((objects-named plan c.requires).whole k low) gap same)

pub returns-then-object-objects : goal.returns-then-object-objects
returns-then-object-objects c =
    let plan = c.args.plan.now in
    let read = c.in_ok-word.ensures in
    name-found now (object_name plan) (length plan.objects) (objects-named plan c.requires) c.args.text.now c.in_ok-word.word.now
    c.in_ok-word.rest read.0 read.1 read.2 c.object_in-object.result c.object_in-object.ensures (omega arith)

pub returns-else-object-objects : goal.returns-else-object-objects
returns-else-object-objects c =
    let plan = c.args.plan.now in
    let read = c.in_ok-word.ensures in
    name-none now (object_name plan) (length plan.objects) (objects-named plan c.requires) c.args.text.now c.in_ok-word.word.now
    c.in_ok-word.rest read.0 read.1 read.2 c.object_in-object.result c.object_in-object.ensures (omega arith)
