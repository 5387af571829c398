use Rattle.std.proofs.Common.{◌≡◌, ◌<◌, ◌∙◌, true, ap, sym, subst, length, get_or, arith}
use Rattle.std.specs.Prelude.{slice_set}
use Rattle.rehearsals.specs.Tallies.{is_same}
use Rattle.rehearsals.specs.inner.Counting.{NoneAmong, bumped}
use Rattle.rehearsals.proofs.Counting.{row_small, set_is_counted, added_is_counted}
use Rattle.rehearsals.proofs.tally.count.Goals as goal

pub bumped-requires : goal.bumped-requires
bumped-requires c =
    let rows = c.args.rows.now.items in
    let d = c.index-row.result.now in
    let here : c.in-Some.index < length rows = subst (λ rs. c.in-Some.index < length rs) c.deref.ensures.value c.in-Some.ensures.within in
    let small = row_small c.args.number rows c.in-Some.index d here c.requires.within in
    let is : d.count ≡ (get_or rows c.in-Some.index d).count = ap (λ r. r.count) c.index-row.ensures in
    let few = c.requires.few in
    omega (arith, small, is, few)

pub returns-in-Some : goal.returns-in-Some
returns-in-Some c =
    let rows = c.args.rows.now.items in
    let d = c.index-row.result.now in
    let same = c.deref.ensures.value in
    let here : c.in-Some.index < length rows = subst (λ rs. c.in-Some.index < length rs) same c.in-Some.ensures.within in
    let before = subst (λ rs. NoneAmong c.in-Some.index rs c.args.fact) same c.in-Some.ensures.before in
    let found = subst (λ rs. is_same c.args.fact (get_or rs c.in-Some.index d).fact ≡ true) same (c.in-Some.ensures.found d) in
    ap (λ r. slice_set rows c.in-Some.index r) (c.bumped.ensures ∙ ap (bumped c.args.number) c.index-row.ensures)
    ∙ set_is_counted rows c.in-Some.index c.args.number c.args.fact d here before found

pub returns-in_ok-push-in-None : goal.returns-in_ok-push-in-None
returns-in_ok-push-in-None c =
    let absent = subst (λ rs. NoneAmong (length rs) rs c.args.fact) c.deref.ensures.value c.in-None.ensures.absent in
    c.in_ok-push-in-None.ensures.items ∙ added_is_counted c.args.rows.now.items c.args.number c.args.fact absent
