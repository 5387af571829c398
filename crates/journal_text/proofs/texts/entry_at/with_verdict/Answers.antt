use Rattle.std.proofs.Common.{◌∷◌, ◌++◌, to_z, of_z, w64, refl, sym, ap, ◌∙◌}
use Rattle.caa_base.specs.Written.Lines.{spaced}
use Rattle.caa_base.specs.declared.written.entry.Entry.{Entry}
use Rattle.place_plan.specs.Plans.Places.{interface_of}
use Rattle.place_plan.specs.RulesOfJournals.Roles.{verdict_at}
use Rattle.journal_text.specs.Texts.Text.{verdict_words}
use Rattle.journal_text.proofs.OnTexts.DigitLemmas.{nothing-kept}
use Rattle.journal_text.proofs.OnTexts.EntryLines.{verdict-kept}
use Rattle.journal_text.proofs.OnTexts.FieldTokens.{verdict-shown}
use Rattle.journal_text.proofs.texts.entry_at.with_verdict.Goals as goal

pub returns-in_err-verdict : goal.returns-in_err-verdict
returns-in_err-verdict c = rw c.from_residual.ensures (λ e more fits same.
    let kept = verdict-kept (interface_of c.args.plan.now c.args.maker.place) e e.mark fits.1 refl in
    c.in_err-verdict.ensures (verdict_at e) more kept.0 same)

pub returns : goal.returns
returns c =
    let plan = c.args.plan.now in
    let maker = c.args.maker in
    let read = c.in_ok-verdict.ensures in
    let made : Entry = record {
      kind = maker.kind;
      place = maker.place;
      by = maker.by;
      arg = c.mark-mark.result.1;
      mark = c.mark-mark.result.0;
      value = to_z w64 (of_z w64 maker.value);
    } in
    let shown =
    verdict-shown (interface_of plan maker.place) c.in_ok-verdict.verdict made read.0 (sym c.mark-mark.ensures) (nothing-kept maker.value c.requires.plain.value) in (
      (record { kind = refl; place = refl; by = refl }, shown.0),
      read.1 ∙ ap (λ v. spaced (verdict_words plan maker.place v) ++ 10 ∷ c.in_ok-verdict.text.now) (sym shown.1),
    )
