use Rattle.std.proofs.Common.{◌≡◌, true, false, ◌+◌, ◌-◌, drop, get_or, sym, ◌∙◌, arith, to_z, of_z, w64}
use Rattle.std.proofs.lemmas.List.{take_rest}
use Rattle.std.proofs.lemmas.Int.{ints}
use Rattle.place_plan.proofs.OnJournals.LatestValues.{blank, value_given, value_passed, gives}
use Rattle.place_plan.proofs.rules.value.value_at.Goals as goal
use Rattle.place_plan.proofs.rules.value.value_at.Goals.{else-writes-via-then-writes+else-not-is_restored, else-writes-via-else-writes}

pub returns-then-not-is_restored : goal.returns-then-not-is_restored
returns-then-not-is_restored c =
    let i = c.loop-index.index - 1 in
    let es = c.args.entries.now in
    let test : gives c.args.plan.now c.args.object (drop (i + 1) es) (get_or es i blank) ≡ true =
    let kept = sym c.is_restored.ensures ∙ c.if-not-is_restored.true in
    rw (sym c.writes.ensures ∙ c.if-writes.true, ← take_rest es (i + 1), kept) (grind arith) in
    let value = value_given c.args.plan.now c.args.object es i c.loop-index.index blank (omega arith) (omega arith) test in
    let same : to_z w64 (of_z w64 (get_or es i blank).value) ≡ (get_or es i blank).value = omega (arith, ints) in
    same ∙ sym (c.loop-index.invariant ∙ value)

pub loop-index-preserved : goal.loop-index-preserved
loop-index-preserved c =
    let i = c.loop-index.index - 1 in
    let es = c.args.entries.now in
    let test : gives c.args.plan.now c.args.object (drop (i + 1) es) (get_or es i blank) ≡ false =
    elim c.else-writes.branch [
      | else-writes-via-then-writes+else-not-is_restored w ↦
          let undone = sym w.is_restored.ensures ∙ w.if-not-is_restored.false in
          rw (← take_rest es (i + 1), undone) (grind arith)
      | else-writes-via-else-writes w ↦ grind arith
    ] in
    c.loop-index.invariant ∙ value_passed c.args.plan.now c.args.object es i c.loop-index.index blank (omega arith) (omega arith) test
