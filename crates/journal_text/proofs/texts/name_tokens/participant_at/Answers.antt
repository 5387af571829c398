use Rattle.std.proofs.Common.{ℕ, List, Bor, length, arith}
use Rattle.journal_text.specs.Texts.Text.{participant_name}
use Rattle.journal_text.proofs.OnTexts.NamingLemmas.{participants-named}
use Rattle.journal_text.proofs.OnTexts.TokenLemmas.{name-found, name-none}
use Rattle.journal_text.proofs.texts.name_tokens.participant_at.Goals as goal

abbrev now : Bor (List ℕ) → List ℕ
now r = r.now

pub returns-in_err-word : goal.returns-in_err-word
returns-in_err-word c =
    let plan = c.args.plan.now in
    rw c.from_residual.ensures (λ k rest low gap same.
    c.in_err-word.ensures (participant_name plan k) rest ((participants-named plan c.requires).whole k low) gap same)

pub returns-then-by-participants : goal.returns-then-by-participants
returns-then-by-participants c =
    let plan = c.args.plan.now in
    let read = c.in_ok-word.ensures in
    name-found now (participant_name plan) (length plan.participants) (participants-named plan c.requires) c.args.text.now c.in_ok-word.word.now
    c.in_ok-word.rest read.0 read.1 read.2 c.participant_in-by.result c.participant_in-by.ensures (omega arith)

pub returns-else-by-participants : goal.returns-else-by-participants
returns-else-by-participants c =
    let plan = c.args.plan.now in
    let read = c.in_ok-word.ensures in
    name-none now (participant_name plan) (length plan.participants) (participants-named plan c.requires) c.args.text.now c.in_ok-word.word.now
    c.in_ok-word.rest read.0 read.1 read.2 c.participant_in-by.result c.participant_in-by.ensures (omega arith)
