use Rattle.std.proofs.Common.{◌≡◌, ℕ, ◌+◌, List, ◌++◌, length, take, drop, length-take, sym, ap, ◌∙◌, arith}
use Rattle.std.proofs.lemmas.Grind.{common_steps}
use Rattle.std.proofs.lemmas.List.{take_at, take-append-drop, drop-drop}
use Rattle.caa_base.proofs.outside.memory.sure_source.SureSource.take.Goals as goal

-- what was copied to the front of a buffer, and then what is left past it
copied_front : (items copied kept : List ℕ) (k n : ℕ) → copied ≡ take n (drop k items) → length copied ≡ n
    → drop k items ≡ take n (copied ++ kept) ++ drop (k + n) items
copied_front items copied kept k n front number =
    sym (take-append-drop n (drop k items))
    ∙ ap (λ l. l ++ drop n (drop k items)) (sym front ∙ sym (take_at copied kept n number))
    ∙ ap (λ l. take n (copied ++ kept) ++ l) (drop-drop n k items)

pub returns-clause-taken : goal.returns-clause-taken
returns-clause-taken c =
    sym c.self.view_is
    ∙ copied_front c.self.inside.bytes.items c.copy_from_slice.new.self _ c.self.inside.read c.min-count.result
    (grind (arith, common_steps, c.copy_from_slice.ensures.after, c.deref.ensures.value))
    (omega (arith, c.copy_from_slice.ensures.len, length-take c.min-count.result c.args.buf.now, c.min-count.ensures))
