-- What the gate of a call was told.
use Rattle.std.specs.Prelude.{◌≡◌, ℕ, List, [], Option, Some}
use Rattle.caa_base.specs.declared.written.entry.Entry.{Entry}
use Rattle.role_driver.specs.Handling.{TellsHandlers}
use Rattle.role_driver.specs.Working.{TellsWork}
use Rattle.caa_commands.specs.declared.command.Command.{Command}
use Rattle.caa_commands.specs.declared.command.Command.TheVariants as command

-- the gate was told of each work in the journal, and of each handler that begins there
pub record WasToldAll (was_told : ℕ → ℕ → ℕ → Type 0) (was_handed : ℕ → ℕ → ℕ → Type 0) (journal : List Entry) : Type 0 where
  pub works : TellsWork was_told [] journal
  pub handlers : TellsHandlers was_handed [] journal

-- so it was where the command is `run`
abbrev pub IsToldByRun : Option Command → (ℕ → ℕ → ℕ → Type 0) → (ℕ → ℕ → ℕ → Type 0) → List Entry → Type 0
IsToldByRun asked was_told was_handed journal = asked ≡ Some command.Run → WasToldAll was_told was_handed journal
