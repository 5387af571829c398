use Rattle.std.proofs.Common.{◌∙◌, sym}
use Rattle.caa_bridge.proofs.serving.call.Goals as goal

pub returns-then-asks_for_threads : goal.returns-then-asks_for_threads
returns-then-asks_for_threads g c =
    record { answer = rw (sym c.asks_for_threads.ensures ∙ c.if-asks_for_threads.true) c.top_logged.ensures.answer }

pub returns-else-asks_for_threads : goal.returns-else-asks_for_threads
returns-else-asks_for_threads g c =
    record { answer = rw (sym c.asks_for_threads.ensures ∙ c.if-asks_for_threads.false) c.top_logged_quiet.ensures.answer }
