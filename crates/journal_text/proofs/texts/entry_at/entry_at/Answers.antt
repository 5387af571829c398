use Rattle.std.proofs.Common.{ℕ, List, Bor, ◌<◌, ◌^◌, length, refl, arith}
use Rattle.journal_text.proofs.OnTexts.EntryTokens.{kind-lacks, place-lacks, maker-lacks, rest-read}
use Rattle.journal_text.proofs.texts.entry_at.entry_at.Goals as goal

abbrev now : Bor (List ℕ) → List ℕ
now r = r.now

pub returns-in_err-kind : goal.returns-in_err-kind
returns-in_err-kind c =
    let small : length c.args.plan.now.places < 2 ^ 32 = omega (arith, c.places.ensures) in
    rw c.from_residual.ensures (kind-lacks now c.args.plan.now c.requires small c.args.text.now c.in_err-kind.ensures)

pub returns-in_err-place : goal.returns-in_err-place
returns-in_err-place c =
    let small : length c.args.plan.now.places < 2 ^ 32 = omega (arith, c.places.ensures) in
    rw c.from_residual-in_err-place.ensures
    (place-lacks now c.args.plan.now c.requires small c.args.text.now c.in_ok-kind.kind c.in_ok-kind.text c.in_ok-kind.ensures
    c.in_err-place.ensures)

pub returns-in_err-by : goal.returns-in_err-by
returns-in_err-by c =
    let small : length c.args.plan.now.places < 2 ^ 32 = omega (arith, c.places.ensures) in
    rw c.from_residual-in_err-by.ensures
    (maker-lacks now c.args.plan.now c.requires small c.args.text.now c.in_ok-kind.kind c.in_ok-kind.text c.in_ok-kind.ensures
    c.in_ok-place.place c.in_ok-place.text c.in_ok-place.ensures c.in_err-by.ensures)

pub returns : goal.returns
returns c =
    let small : length c.args.plan.now.places < 2 ^ 32 = omega (arith, c.places.ensures) in
    rest-read now c.args.plan.now c.requires small c.args.text.now c.in_ok-kind.kind c.in_ok-kind.text c.in_ok-kind.ensures
    c.in_ok-place.place c.in_ok-place.text c.in_ok-place.ensures c.in_ok-by.by c.in_ok-by.text c.in_ok-by.ensures _ refl refl refl
    c.with_rest.result c.with_rest.ensures
