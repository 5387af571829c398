use Rattle.std.proofs.Common.{ap, ◌∙◌, sym}
use Rattle.action_script.specs.Words.NumberedNames.{with_name, number_in}
use Rattle.action_script.proofs.OnWords.Numbering.{bytes_of, bytes_of-added, number_in-added}
use Rattle.action_script.proofs.words.names.NameTable.add.Goals as goal

pub returns-clause-added : goal.returns-clause-added
returns-clause-added c =
    ap bytes_of c.in_ok-number.ensures.keys ∙ bytes_of-added c.self.inside.names.keys c.args.name ∙ ap
    (λ names. with_name names c.args.name.now) c.self.view_is

pub returns-clause-number : goal.returns-clause-number
returns-clause-number c =
    c.in_ok-number.ensures.index ∙ number_in-added c.args.name.now c.self.inside.names.keys
    ∙ ap (λ names. number_in names c.args.name.now)
    (sym (ap bytes_of c.in_ok-number.ensures.keys ∙ bytes_of-added c.self.inside.names.keys c.args.name))
