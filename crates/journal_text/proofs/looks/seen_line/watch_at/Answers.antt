use Rattle.std.proofs.Common.{ℕ, List, Bor, length, arith}
use Rattle.journal_text.specs.Texts.Text.{object_name, watched_object}
use Rattle.journal_text.proofs.OnTexts.NamingLemmas.{watches-named}
use Rattle.journal_text.proofs.OnTexts.TokenLemmas.{name-found, name-none}
use Rattle.journal_text.proofs.looks.seen_line.watch_at.Goals as goal

abbrev now : Bor (List ℕ) → List ℕ
now r = r.now

pub returns-in_err-word : goal.returns-in_err-word
returns-in_err-word c =
    let plan = c.args.plan.now in
    rw c.from_residual.ensures (λ k rest low gap same.
    c.in_err-word.ensures (object_name plan (watched_object plan k)) rest ((watches-named plan c.requires).whole k low) gap same)

pub returns-then-watch-watches : goal.returns-then-watch-watches
returns-then-watch-watches c =
    let plan = c.args.plan.now in
    let read = c.in_ok-word.ensures in
    name-found now (λ w. object_name plan (watched_object plan w)) (length plan.watches) (watches-named plan c.requires) c.args.text.now c.in_ok-word.word.now
    c.in_ok-word.rest read.0 read.1 read.2 c.watch_in-watch.result c.watch_in-watch.ensures (omega arith)

pub returns-else-watch-watches : goal.returns-else-watch-watches
returns-else-watch-watches c =
    let plan = c.args.plan.now in
    let read = c.in_ok-word.ensures in
    name-none now (λ w. object_name plan (watched_object plan w)) (length plan.watches) (watches-named plan c.requires) c.args.text.now c.in_ok-word.word.now
    c.in_ok-word.rest read.0 read.1 read.2 c.watch_in-watch.result c.watch_in-watch.ensures (omega arith)
