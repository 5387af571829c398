use Rattle.std.proofs.Common.{arith, ◌≡◌, ◌-◌, ◌≤◌, ◌++◌, length, take, drop, ℕ, List, decimal, ◌∙◌, ap, refl}
use Rattle.std.proofs.lemmas.Fmt.{length-decimal-le}
use Rattle.std.proofs.lemmas.List.{take-take}
use Rattle.std.proofs.Math.Seq.{take-append_seam}
use Rattle.journal_text.proofs.texts.line_room.put_digits.Goals as goal

-- the first bytes of a piece that begins with ds
begins_with : (n k : ℕ) (all piece ds rest : List ℕ) → piece ≡ take n all → all ≡ ds ++ rest → k ≤ n → length ds ≡ k → take k piece ≡ ds
begins_with n k all piece ds rest piece_is all_is short long = rw (piece_is, take-take k n all short, all_is, ← long, take-append_seam ds rest) refl

pub write_digits-start-requires : goal.write_digits-start-requires
write_digits-start-requires c = (length-decimal-le 20 c.args.number (omega arith) (omega arith) c.ranges.number.fits, omega arith)

pub returns-clause-written : goal.returns-clause-written
returns-clause-written c =
    let w = c.write_digits-start in
    let long : length (decimal c.args.number) ≡ 20 - w.result = omega (arith, w.ensures.start) in
    let chunk : c.in-Some.piece.now ≡ take 20 (drop w.result w.new.buf) = c.in-Some.ensures.cases.same ∙ take-take 20 (40 - w.result) (drop w.result w.new.buf) (omega (arith, w.ensures.start)) in
    let kept : take (20 - w.result) c.in-Some.piece.now ≡ decimal c.args.number =
    begins_with 20 (20 - w.result) (drop w.result w.new.buf) c.in-Some.piece.now (decimal c.args.number) _ chunk w.ensures.written (omega arith) long in
    c.put.ensures.written ∙ ap (λ l. take c.args.at c.args.room.now ++ l) kept
