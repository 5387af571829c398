use Rattle.std.proofs.Common.{◌++◌, ◌∷◌, [], refl, arith}
use Rattle.std.proofs.lemmas.List.{length-append}
use Rattle.std.proofs.lemmas.List.Elements.{All-push}
use Rattle.place_plan.specs.RulesOfJournals.WellFormed.{IsWellFormed}
use Rattle.journal_text.specs.Texts.Text.{entry_line}
use Rattle.journal_text.proofs.OnTexts.BadLines.{front-more}
use Rattle.journal_text.proofs.texts.text_reader.read_entries.Goals as goal

pub returns-then-len-limit-clause-stopped : goal.returns-then-len-limit-clause-stopped
returns-then-len-limit-clause-stopped c =
    let plan = c.args.plan.now in
    let entries = c.loop-entry.entries.items in
    let entry = c.in-Some.entry in
    let found = c.in-Some.ensures in (
      refl,
      record {
        entries = entries ++ entry ∷ [];
        rest = c.in-Some.after.now;
        fit = All-push (IsWellFormed plan) entries entry c.loop-entry.invariant.fit found.0;
        many = omega (arith, length-append entries (entry ∷ []), c.len.ensures, c.if-len-limit.true, c.loop-entry.entries.ok.0);
        front =
            front-more (entry_line plan) entries entry c.args.text.now c.loop-entry.rest.now c.in-Some.after.now
            c.loop-entry.invariant.front found.1;
      },
    )

pub loop-entry-preserved : goal.loop-entry-preserved
loop-entry-preserved c =
    let plan = c.args.plan.now in
    let entries = c.loop-entry.entries.items in
    let entry = c.in-Some.entry in
    let found = c.in-Some.ensures in
    record {
      fit = rw c.in_ok-push.ensures.items (All-push (IsWellFormed plan) entries entry c.loop-entry.invariant.fit found.0);
      few =
          rw c.in_ok-push.ensures.items
          (omega (
            arith,
            length-append entries (entry ∷ []),
            c.len.ensures,
            c.if-len-limit.false,
            c.loop-entry.entries.ok.0,
            c.loop-entry.invariant.few,
          ));
      front =
          rw c.in_ok-push.ensures.items
          (front-more (entry_line plan) entries entry c.args.text.now c.loop-entry.rest.now c.in-Some.after.now
          c.loop-entry.invariant.front found.1);
    }
