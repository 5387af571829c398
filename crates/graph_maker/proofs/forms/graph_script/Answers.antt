use Rattle.std.proofs.Common.{◌≡◌, [], length, map, sym, subst, ap, ◌∙◌, arith}
use Rattle.action_script.specs.Forms.Printing.{AreScript}
use Rattle.action_script.specs.Words.NumberedNames.{number_in, with_names}
use Rattle.action_script.proofs.OnWords.NamesCounted.{length-with_names}
use Rattle.graph_maker.specs.MadeScripts.{made_forms}
use Rattle.graph_maker.proofs.Scripted.{are_script}
use Rattle.graph_maker.proofs.forms.graph_script.Goals as goal

pub numbers_of-requires : goal.numbers_of-requires
numbers_of-requires c =
    let words = c.args.words.now in
    let same = ap length (c.deref.ensures.value ∙ c.in_ok-names.ensures) in
    let few = length-with_names [] words in
    let most = c.requires.few in
    omega (arith, same, few, most)

pub of_forms-requires : goal.of_forms-requires
of_forms-requires c =
    let words = c.args.words.now in
    let names = with_names [] words in
    let forms : c.in_ok-forms.forms.items ≡ made_forms (map (number_in names) words) c.args.pairs.now =
    c.in_ok-forms.ensures
    ∙ ap (λ l. made_forms l c.args.pairs.now) (c.deref-2.ensures.value ∙ c.in_ok-numbers.ensures)
    ∙ ap (λ l. made_forms (map (number_in l) words) c.args.pairs.now) (c.deref.ensures.value ∙ c.in_ok-names.ensures) in
    let whole =
    are_script words c.args.pairs.now c.requires.some c.requires.few c.requires.names c.requires.in_range c.requires.few_pairs in
    subst (λ l. AreScript l c.in_ok-forms.forms.items) (sym c.in_ok-names.ensures) (subst (AreScript names) (sym forms) whole)
