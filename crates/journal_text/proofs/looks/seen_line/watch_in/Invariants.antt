use Rattle.std.proofs.Common.{◌≡◌, ◌-◌, length}
use Rattle.journal_text.specs.Texts.Text.{object_name, watched_object}
use Rattle.journal_text.specs.Texts.Naming.{index_among}
use Rattle.journal_text.proofs.looks.seen_line.watch_in.Given as goal

abbrev pub invariant-loop-watch : goal.invariant-loop-watch
invariant-loop-watch l =
    index_among (λ w. object_name l.plan (watched_object l.plan w)) l.word l.watch (length l.plan.watches - l.watch)
    ≡ index_among (λ w. object_name l.plan (watched_object l.plan w)) l.word 0 (length l.plan.watches)
