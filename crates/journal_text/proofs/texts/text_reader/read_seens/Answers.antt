use Rattle.std.proofs.Common.{◌≤◌, ◌<◌, length, sym, subst}
use Rattle.std.proofs.lemmas.List.Elements.{All-push}
use Rattle.journal_text.specs.declared.looks.seens.Seen.{Seen}
use Rattle.journal_text.specs.Watching.Looks.{last_watch}
use Rattle.journal_text.specs.Texts.Text.{seen_line}
use Rattle.journal_text.proofs.OnLooks.LooksLemmas.{InOrderFrom-push}
use Rattle.journal_text.proofs.OnTexts.BadLines.{front-more, last_watch-push}
use Rattle.journal_text.proofs.texts.text_reader.read_seens.Goals as goal

pub loop-seen-preserved : goal.loop-seen-preserved
loop-seen-preserved c =
    let plan = c.args.plan.now in
    let seens = c.loop-seen.seens.items in
    let seen = c.in-Some.seen in
    let rest = c.loop-seen.rest.now in
    let found = c.in-Some.ensures in
    let above : last_watch 0 seens ≤ seen.watch = subst (λ n. n ≤ seen.watch) c.loop-seen.invariant.least found.0.0 in
    record {
      order =
          rw c.in_ok-push.ensures.items
          (InOrderFrom-push 0 seens seen c.loop-seen.invariant.order above found.0.1.ends found.0.1.value);
      fit =
          rw c.in_ok-push.ensures.items
          (All-push (λ (s : Seen). s.watch < length plan.watches) seens seen c.loop-seen.invariant.fit
          found.0.1.watch);
      least = rw c.in_ok-push.ensures.items (sym (last_watch-push 0 seens seen));
      front =
          rw c.in_ok-push.ensures.items
          (front-more (seen_line plan) seens seen c.args.text.now rest c.in-Some.after.now c.loop-seen.invariant.front
          found.1);
    }
