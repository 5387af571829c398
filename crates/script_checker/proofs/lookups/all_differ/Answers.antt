use Rattle.std.proofs.Common.{◌≡◌, ◌++◌, ◌∷◌, [], ℕ, List, false, take, get_or, sym, ap, ◌∙◌}
use Rattle.script_checker.specs.Numbers.{is_among}
use Rattle.script_checker.proofs.NumberTables.{one_more, next_differs}
use Rattle.script_checker.proofs.lookups.all_differ.Goals as goal

pub loop-number-preserved : goal.loop-number-preserved
loop-number-preserved c =
    let list = c.args.list.now in
    let i : ℕ = c.loop-number.number-index in
    let x : ℕ = get_or list i 0 in
    let met = c.loop-number.invariant.0 in
    let fresh : is_among (take i list) x ≡ false = ap (λ names. is_among names x) (sym met) ∙ sym c.if-contains.ensures.found in (
      c.in_ok-push.ensures.added ∙ ap (λ (names : List ℕ). names ++ x ∷ []) met ∙ sym (one_more list i 0 c.loop-number-test.true),
      next_differs list i 0 c.loop-number-test.true fresh c.loop-number.invariant.1,
    )
