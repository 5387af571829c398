use Rattle.std.proofs.Common.{◌≡◌, ◌+◌, ◌++◌, ◌∷◌, [], length, sym, ap, ◌∙◌, arith, length-append}
use Rattle.action_script.proofs.OnLines.LineNumbers.{length-numbered_from, numbered_from-push}
use Rattle.action_script.proofs.forms.script.numbered.Goals as goal

pub overflow_cast-number : goal.overflow_cast-number
overflow_cast-number c =
    omega (
      arith,
      c.len.ensures,
      ap length c.loop-form.invariant.are,
      length-numbered_from 1 c.loop-form.yielded,
      ap length c.in-Some.ensures.steps.0,
    )

pub overflow_add-number : goal.overflow_add-number
overflow_add-number c =
    omega (
      arith,
      c.len.ensures,
      ap length c.loop-form.invariant.are,
      length-numbered_from 1 c.loop-form.yielded,
      ap length c.in-Some.ensures.steps.0,
    )

pub loop-form-preserved : goal.loop-form-preserved
loop-form-preserved c =
    let last : c.len.result + 1 ≡ 1 + length c.loop-form.yielded =
    omega (arith, c.len.ensures, ap length c.loop-form.invariant.are, length-numbered_from 1 c.loop-form.yielded) in
    record {
      are =
          c.in_ok-push.ensures.items ∙ ap (λ l. l ++ record { number = c.len.result + 1; form = c.in-Some.form } ∷ [])
          c.loop-form.invariant.are ∙ sym (numbered_from-push 1 c.loop-form.yielded c.in-Some.form (c.len.result + 1) last);
      left =
          omega
          (arith, c.loop-form.invariant.left, length-append c.loop-form.yielded (c.in-Some.form ∷ []), ap length c.in-Some.ensures.steps.0);
    }
