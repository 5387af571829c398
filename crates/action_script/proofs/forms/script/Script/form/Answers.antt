use Rattle.action_script.proofs.OnForms.Named.{form_below, form_sound}
use Rattle.action_script.proofs.forms.script.Script.form.Goals as goal

pub returns-clause-sound : goal.returns-clause-sound
returns-clause-sound c =
    form_sound c.self.inside.lines.items c.self.inside.names.items c.args.self.now c.args.index c.index.result.now c.self.view_is
    c.self.invariant.0 c.requires c.index.ensures

pub returns-clause-named : goal.returns-clause-named
returns-clause-named c =
    form_below c.args.self.now.names c.index.result.now.form
    (form_sound c.self.inside.lines.items c.self.inside.names.items c.args.self.now c.args.index c.index.result.now
    c.self.view_is c.self.invariant.0 c.requires c.index.ensures)
