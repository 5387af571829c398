use Rattle.std.proofs.Common.{arith, ◌≡◌, ◌+◌, ◌≤◌, ◌++◌, length, take, ℕ, List, refl, length-take}
use Rattle.std.proofs.lemmas.List.{take-append-le}
use Rattle.std.proofs.Math.Seq.{take-append-add}
use Rattle.journal_text.proofs.texts.line_room.put.Goals as goal

-- a piece that is put behind a front: what the front and its first bytes are
put_behind : (front piece rest : List ℕ) (at keep : ℕ) → length front ≡ at → keep ≤ length piece → take (at + keep) (front ++ (piece ++ rest)) ≡ front ++ take keep piece
put_behind front piece rest at keep long short = rw (← long, take-append-add front (piece ++ rest) keep, take-append-le keep piece rest short) refl

pub returns-clause-written : goal.returns-clause-written
returns-clause-written g c =
    let same : c.copy_from_slice.new.self ≡ c.args.piece.now = c.copy_from_slice.ensures.after in
    let front : length (take c.args.at c.args.room.now) ≡ c.args.at = grind (arith, length-take) in
    let short : c.args.keep ≤ length c.args.piece.now = grind arith in
    rw same (put_behind (take c.args.at c.args.room.now) c.args.piece.now _ c.args.at c.args.keep front short)
