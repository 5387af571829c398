use Rattle.std.proofs.Common.{◌≡◌, ◌++◌, ℕ, List, [], length, reverse, sym, subst, ap, ◌∙◌, arith, rules}
use Rattle.std.proofs.lemmas.Bool.{both_ways, eq-eqb, eqb-true}
use Rattle.journal_text.specs.Texts.Text.{first_line, closing_lines, text_of}
use Rattle.journal_text.specs.inner.TextSteps.{EntriesRead, SeensRead, RefusesAfter}
use Rattle.journal_text.proofs.OnTexts.ReadingLemmas.{Tells}
use Rattle.journal_text.proofs.OnTexts.BadLines.{bad-first, bad-closing, bad-rest, good, nothing-left}
use Rattle.journal_text.proofs.texts.text_reader.read_text.Goals as goal

pub returns-in_default : goal.returns-in_default
returns-in_default c =
    let bytes = c.args.bytes.now in
    let none : (rest : List ℕ) → bytes ≡ first_line ++ rest → ⊥ = c.in_default.ensures in
    bad-first c.args.plan.now c.args.limit bytes c.refused_after.result none c.refused_after.ensures

pub returns-in_default-after_front : goal.returns-in_default-after_front
returns-in_default-after_front c =
    let plan = c.args.plan.now in
    let bytes = c.args.bytes.now in
    let entries = c.in_ok-entries.entries.items in
    let rest = c.in_ok-entries.text.now in
    let known : Tells plan = record { named = c.requires; small = omega (arith, c.places.ensures) } in
    let begins : bytes ≡ first_line ++ c.in-Some.text.now = c.in-Some.ensures in
    let read : EntriesRead plan c.args.limit c.in-Some.text.now entries rest = c.in_ok-entries.ensures.read in
    let closing : c.push_closing.new.text.items ≡ closing_lines plan (reverse entries) =
    subst (λ es. c.push_closing.new.text.items ≡ closing_lines plan (reverse es)) c.deref.ensures.value (search rules) in
    let none : (z : List ℕ) → rest ≡ closing_lines plan (reverse entries) ++ z → ⊥ =
    subst (λ l. (z : List ℕ) → rest ≡ l ++ z → ⊥) (c.as_slice.ensures.value ∙ closing) c.in_default-after_front.ensures in
    let refused : RefusesAfter bytes (text_of plan entries []) c.refused_after-in_default-after_front.result =
    subst (λ es. RefusesAfter bytes (text_of plan es []) c.refused_after-in_default-after_front.result)
    c.deref-in_default-after_front.ensures.value c.refused_after-in_default-after_front.ensures in
    bad-closing plan c.args.limit bytes c.in-Some.text.now entries rest c.refused_after-in_default-after_front.result
    known begins read none refused

pub returns-then-not-is_empty : goal.returns-then-not-is_empty
returns-then-not-is_empty c =
    let plan = c.args.plan.now in
    let bytes = c.args.bytes.now in
    let entries = c.in_ok-entries.entries.items in
    let rest = c.in_ok-entries.text.now in
    let known : Tells plan = record { named = c.requires; small = omega (arith, c.places.ensures) } in
    let begins : bytes ≡ first_line ++ c.in-Some.text.now = c.in-Some.ensures in
    let read : EntriesRead plan c.args.limit c.in-Some.text.now entries rest = c.in_ok-entries.ensures.read in
    let seens = c.in_ok-seens.seens.items in
    let closing : c.push_closing.new.text.items ≡ closing_lines plan (reverse entries) =
    subst (λ es. c.push_closing.new.text.items ≡ closing_lines plan (reverse es)) c.deref.ensures.value (search rules) in
    let after : rest ≡ closing_lines plan (reverse entries) ++ c.in-Some-after_front.text.now =
    subst (λ l. rest ≡ l ++ c.in-Some-after_front.text.now) (c.as_slice.ensures.value ∙ closing) c.in-Some-after_front.ensures in
    let looks : SeensRead plan c.in-Some-after_front.text.now seens c.in_ok-seens.text.now = c.in_ok-seens.ensures in
    let left : c.in_ok-seens.text.now ≡ [] → ⊥ =
    λ e. both_ways c.is_empty.result c.if-not-is_empty.true
    (c.is_empty.ensures ∙ eq-eqb (length c.in_ok-seens.text.now) 0 (ap length e)) in
    let refused : RefusesAfter bytes (text_of plan entries seens) c.refused_after-then-not-is_empty.result =
    subst (λ es. RefusesAfter bytes (text_of plan es seens) c.refused_after-then-not-is_empty.result)
    c.deref-then-not-is_empty.ensures.value
    (subst (λ ss. RefusesAfter bytes (text_of plan c.deref-then-not-is_empty.result.now ss) c.refused_after-then-not-is_empty.result)
    c.deref-then-not-is_empty-2.ensures.value c.refused_after-then-not-is_empty.ensures) in
    bad-rest plan c.args.limit bytes c.in-Some.text.now entries rest c.in-Some-after_front.text.now seens
    c.in_ok-seens.text.now c.refused_after-then-not-is_empty.result known begins read after looks left refused

pub returns : goal.returns
returns c =
    let plan = c.args.plan.now in
    let bytes = c.args.bytes.now in
    let entries = c.in_ok-entries.entries.items in
    let rest = c.in_ok-entries.text.now in
    let begins : bytes ≡ first_line ++ c.in-Some.text.now = c.in-Some.ensures in
    let read : EntriesRead plan c.args.limit c.in-Some.text.now entries rest = c.in_ok-entries.ensures.read in
    let seens = c.in_ok-seens.seens.items in
    let closing : c.push_closing.new.text.items ≡ closing_lines plan (reverse entries) =
    subst (λ es. c.push_closing.new.text.items ≡ closing_lines plan (reverse es)) c.deref.ensures.value (search rules) in
    let after : rest ≡ closing_lines plan (reverse entries) ++ c.in-Some-after_front.text.now =
    subst (λ l. rest ≡ l ++ c.in-Some-after_front.text.now) (c.as_slice.ensures.value ∙ closing) c.in-Some-after_front.ensures in
    let looks : SeensRead plan c.in-Some-after_front.text.now seens c.in_ok-seens.text.now = c.in_ok-seens.ensures in
    let end : c.in_ok-seens.text.now ≡ [] =
    nothing-left c.in_ok-seens.text.now
    (eqb-true (length c.in_ok-seens.text.now) 0 (sym c.is_empty.ensures ∙ c.if-not-is_empty.false)) in
    rw (c.from_vec.ensures, c.from_vec-2.ensures)
    (good plan c.args.limit bytes c.in-Some.text.now entries rest c.in-Some-after_front.text.now seens
    c.in_ok-seens.text.now begins read after looks end)
