use Rattle.std.proofs.Common.{rules, tests, ◌≡◌, ◌==◌, ◌+◌, ◌&&◌, nat_le, length, false, subst, sym, ap, ◌∙◌, arith}
use Rattle.std.specs.List.{slice_split}
use Rattle.std.proofs.lemmas.Bool.{lt-leb, le-leb}
use Rattle.std.proofs.lemmas.List.{length_push}
use Rattle.graph_maker.proofs.Ascending.{IsAscending, all_read, low_next, none_next, number_next, piece_next, pieces_end}
use Rattle.graph_maker.proofs.set_names.are_members.Goals as goal

pub returns-in_default : goal.returns-in_default
returns-in_default c =
    let t =
    piece_next _ _ (λ b. b == 45) c.args.text.now c.loop-word.yielded c.loop-word.yielded_by c.next.ensures.steps
    c.into_iter-word-iterator.ensures.into_iter_gives c.split-word-items.ensures.rest c.split-word-items.ensures.done
    c.split-word-items.ensures.closure (λ x r q k. search (rules, tests)) c.in-Some.word c.in-Some.is in
    low_next c.args.primitives c.args.most (slice_split (λ b. b == 45) c.args.text.now) (length c.loop-word.yielded) c.loop-word.count
    c.loop-word.last c.loop-word.invariant c.in-Some.word.now t.0 t.1 c.in-Some-natural_of.number
    (sym c.natural_of.ensures.value ∙ c.in-Some-natural_of.is) (omega (arith, c.if-number-last.false))

pub returns-in_default-2 : goal.returns-in_default-2
returns-in_default-2 c =
    let t =
    piece_next _ _ (λ b. b == 45) c.args.text.now c.loop-word.yielded c.loop-word.yielded_by c.next.ensures.steps
    c.into_iter-word-iterator.ensures.into_iter_gives c.split-word-items.ensures.rest c.split-word-items.ensures.done
    c.split-word-items.ensures.closure (λ x r q k. search (rules, tests)) c.in-Some.word c.in-Some.is in
    none_next c.args.primitives c.args.most (slice_split (λ b. b == 45) c.args.text.now) (length c.loop-word.yielded) c.loop-word.count
    c.loop-word.last c.loop-word.invariant c.in-Some.word.now t.0 t.1 (sym c.natural_of.ensures.value ∙ c.in_default.is)

pub loop-word-preserved : goal.loop-word-preserved
loop-word-preserved c =
    let t =
    piece_next _ _ (λ b. b == 45) c.args.text.now c.loop-word.yielded c.loop-word.yielded_by c.next.ensures.steps
    c.into_iter-word-iterator.ensures.into_iter_gives c.split-word-items.ensures.rest c.split-word-items.ensures.done
    c.split-word-items.ensures.closure (λ x r q k. search (rules, tests)) c.in-Some.word c.in-Some.is in
    let words = slice_split (λ b. b == 45) c.args.text.now in
    let number = c.in-Some-natural_of.number in
    subst (λ k. IsAscending c.args.primitives words k (c.loop-word.count + 1) number) (sym (length_push c.loop-word.yielded c.in-Some.word))
    (number_next c.args.primitives c.args.most words (length c.loop-word.yielded) c.loop-word.count c.loop-word.last
    c.loop-word.invariant c.in-Some.word.now t.0 t.1 number (sym c.natural_of.ensures.value ∙ c.in-Some-natural_of.is)
    (omega (arith, c.if-number-last.true)) c.in-Some-natural_of.ensures.small)

pub returns-then-count-ge2 : goal.returns-then-count-ge2
returns-then-count-ge2 c =
    let e =
    pieces_end _ _ (λ b. b == 45) c.args.text.now c.loop-word.yielded c.loop-word.yielded_by c.next.ensures.steps
    c.into_iter-word-iterator.ensures.into_iter_gives c.split-word-items.ensures.rest c.split-word-items.ensures.done
    c.split-word-items.ensures.closure (λ x r q k. search (rules, tests)) c.in-None.is in
    let read =
    all_read c.args.primitives c.args.most (slice_split (λ b. b == 45) c.args.text.now) (length c.loop-word.yielded)
    c.loop-word.count c.loop-word.last c.loop-word.invariant e in
    ap (λ k. nat_le c.loop-word.count k) c.from.ensures ∙ ap (λ b. b && nat_le c.loop-word.count c.args.most)
    (sym (le-leb 2 c.loop-word.count (omega (arith, c.if-count-ge2.true)))) ∙ read

pub returns-else-count-ge2 : goal.returns-else-count-ge2
returns-else-count-ge2 c =
    let e =
    pieces_end _ _ (λ b. b == 45) c.args.text.now c.loop-word.yielded c.loop-word.yielded_by c.next.ensures.steps
    c.into_iter-word-iterator.ensures.into_iter_gives c.split-word-items.ensures.rest c.split-word-items.ensures.done
    c.split-word-items.ensures.closure (λ x r q k. search (rules, tests)) c.in-None.is in
    let read =
    all_read c.args.primitives c.args.most (slice_split (λ b. b == 45) c.args.text.now) (length c.loop-word.yielded)
    c.loop-word.count c.loop-word.last c.loop-word.invariant e in
    let few : nat_le 2 c.loop-word.count ≡ false = lt-leb 2 c.loop-word.count (omega (arith, c.if-count-ge2.false)) in
    few ∙ ap (λ b. b && nat_le c.loop-word.count c.args.most) (sym few) ∙ read
