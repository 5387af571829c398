use Rattle.std.proofs.Common.{◌≤◌, length, List, ℕ, Ok, Err, refl, sym, subst}
use Rattle.caa_base.specs.Written.Limits.{most_script_bytes}
use Rattle.caa_commands.proofs.Answers.{made_text, unmade}
use Rattle.caa_commands.proofs.NotRefused.{reread_accepted}
use Rattle.caa_commands.proofs.graphs.graph_text.Goals as goal

pub returns-in-Ok-clause-text : goal.returns-in-Ok-clause-text
returns-in-Ok-clause-text c =
    let made = c.in-Ok.made in
    let text = c.in_ok-text-in-Ok.text.items in
    let told = c.in_ok-text-in-Ok.ensures in
    let fits : length text ≤ most_script_bytes =
    subst (λ (t : List ℕ). length t ≤ most_script_bytes) (sym told.text) c.in-Ok.ensures.fits in
    record {
      made =
          made_text c.args.most c.args.bytes.now text c.in_ok-script.script made (Ok made) c.in_ok-script.ensures.script
          c.in-Ok.ensures.value refl told.text;
      accepted = reread_accepted text made (told.reads_back fits) c.in-Ok.ensures.declares.accepted;
    }

pub returns-clause-refused : goal.returns-clause-refused
returns-clause-refused c =
    let error = c.in-Err.error in
    let told = c.in_ok-refusal-in-Err.ensures in
    unmade c.args.most c.args.bytes.now c.in_ok-script.script (Err error) error c.in_ok-refusal-in-Err.refusal
    c.in_ok-script.ensures.script c.in-Err.ensures.value refl told.line told.fault
