use Rattle.std.proofs.Common.{ℕ, List, Bor, arith}
use Rattle.place_plan.specs.Plans.Places.{graph_at, exception_name}
use Rattle.journal_text.proofs.OnTexts.NamingLemmas.{exceptions-named}
use Rattle.journal_text.proofs.OnTexts.TokenLemmas.{name-found, name-none}
use Rattle.journal_text.proofs.texts.name_tokens.exception_at.Goals as goal

abbrev now : Bor (List ℕ) → List ℕ
now r = r.now

pub returns-in_err-word : goal.returns-in_err-word
returns-in_err-word c =
    let plan = c.args.plan.now in
    rw c.from_residual.ensures (λ k rest low gap same.
    c.in_err-word.ensures (exception_name plan c.args.graph k) rest ((exceptions-named plan c.args.graph c.requires).whole k low) gap same)

pub returns-then-exception-exceptions_of : goal.returns-then-exception-exceptions_of
returns-then-exception-exceptions_of c =
    let plan = c.args.plan.now in
    let read = c.in_ok-word.ensures in
    name-found now (exception_name plan c.args.graph) ((graph_at plan c.args.graph).count) (exceptions-named plan c.args.graph c.requires) c.args.text.now c.in_ok-word.word.now
    c.in_ok-word.rest read.0 read.1 read.2 c.exception_in-exception.result c.exception_in-exception.ensures (omega arith)

pub returns-else-exception-exceptions_of : goal.returns-else-exception-exceptions_of
returns-else-exception-exceptions_of c =
    let plan = c.args.plan.now in
    let read = c.in_ok-word.ensures in
    name-none now (exception_name plan c.args.graph) ((graph_at plan c.args.graph).count) (exceptions-named plan c.args.graph c.requires) c.args.text.now c.in_ok-word.word.now
    c.in_ok-word.rest read.0 read.1 read.2 c.exception_in-exception.result c.exception_in-exception.ensures (omega arith)
