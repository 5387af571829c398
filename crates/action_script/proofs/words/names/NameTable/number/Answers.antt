use Rattle.std.proofs.Common.{sym, ap, ◌∙◌}
use Rattle.action_script.specs.Words.NumberedNames.{number_in}
use Rattle.action_script.proofs.OnWords.Numbering.{number_in-found, number_in-absent}
use Rattle.action_script.proofs.words.names.NameTable.number.Goals as goal

pub returns-in-Some : goal.returns-in-Some
returns-in-Some c =
    record {
      value = number_in-found c.args.name.now c.self.inside.names.keys c.in-Some.number (sym c.in-Some.ensures.index)
          ∙ ap (λ names. number_in names c.args.name.now) c.self.view_is;
    }

pub returns-in-None : goal.returns-in-None
returns-in-None c =
    record {
      value = c.len.ensures.len ∙ number_in-absent c.args.name.now c.self.inside.names.keys c.in-None.ensures.index
          ∙ ap (λ names. number_in names c.args.name.now) c.self.view_is;
    }
