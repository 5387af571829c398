use Rattle.std.proofs.Common.{◌≡◌, ◌++◌, [], ◌∷◌, arith, ap, ap₂, sym, subst, ◌∙◌, codes, decimal, length, take, get_or, to_z, of_z, w64, vec_len, vec_capacity}
use Rattle.std.proofs.lemmas.Int.{ints}
use Rattle.std.proofs.lemmas.List.{take_all}
use Rattle.std.specs.Fmt.{signed_decimal}
use Rattle.caa_base.specs.Written.Lines.{spaced}
use Rattle.line_plant.specs.Lines.{names_and_values, lay_line}
use Rattle.line_plant.proofs.LayingOut.{line_more, numbered, room_for_puts}
use Rattle.line_plant.proofs.lines.make_lay.Goals as goal

pub loop-object-preserved : goal.loop-object-preserved
loop-object-preserved c =
    let names = c.args.names.now in
    let values = c.args.values.now in
    let object = c.loop-object.object in
    let name = c.bytes.result.now in
    let value = to_z w64 (of_z w64 c.first_value.result) in
    let same : value ≡ c.first_value.result = omega (arith, ints) in
    c.in_ok-push_value.ensures
    ∙ ap (λ t. t ++ spaced (signed_decimal value ∷ []))
    (c.in_ok-push_word.ensures ∙ ap (λ t. t ++ spaced (name ∷ [])) c.loop-object.invariant)
    ∙ line_more (codes "lay" ++ spaced (decimal c.args.number ∷ [])) names values object name value (omega (arith, c.requires, c.loop-object-test.true))
    (omega (arith, c.loop-object-test.true))
    (subst (λ n. n ≡ get_or names object n) (sym c.bytes.ensures) c.index-names-object.is)
    (subst (λ v. v ≡ get_or values object v) (sym same) c.first_value.ensures)

pub returns-clause-room : goal.returns-clause-room
returns-clause-room c =
    let names = c.args.names.now in
    let values = c.args.values.now in
    let text = c.reserve.new.self in
    let sized : vec_len text ≡ length text.items = text.ok.0 in
    let object = c.loop-object.object in
    let all_names : take object names ≡ names = take_all object names (omega (arith, c.requires, c.loop-object-test.false)) in
    let all_values : take object values ≡ values = take_all object values (omega (arith, c.loop-object-test.false)) in
    let whole : text.items ≡ lay_line c.args.number names values =
    c.in_ok-reserve.ensures.items ∙ c.in_ok-end_line.ensures
    ∙ ap (λ t. t ++ 10 ∷ []) (c.loop-object.invariant
    ∙ ap₂ (λ ns vs. codes "lay" ++ spaced (decimal c.args.number ∷ []) ++ spaced (names_and_values ns vs)) all_names all_values
    ∙ numbered c.args.number (names_and_values names values)) in
    let long = ap length whole in
    room_for_puts names values (vec_capacity text) c.args.number c.requires (omega (arith, c.in_ok-reserve.ensures.ok, sized, long))
