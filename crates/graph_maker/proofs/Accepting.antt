-- What is known of a script of primitives that isn't refused.
use Rattle.std.proofs.Common.{◌≡◌, ◌≢◌, ℕ, ◌+◌, ◌⊎◌, inl, inr, Bool, true, false, if◌then◌else◌, List, [], ◌∷◌, length, Option, Some, None, refl, subst}
use Rattle.action_script.specs.declared.forms.form.Form.{Form}
use Rattle.action_script.specs.declared.forms.form.Form.TheVariants as form
use Rattle.action_script.specs.declared.forms.script.Line.{Line}
use Rattle.action_script.specs.Forms.ScriptValue.{Script}
use Rattle.graph_maker.specs.declared.shape.Stage.{Stage}
use Rattle.graph_maker.specs.declared.shape.Stage.TheVariants as stage
use Rattle.graph_maker.specs.declared.made_error.MadeCause.{MadeCause}
use Rattle.graph_maker.specs.declared.made_error.MadeCause.TheVariants as cause
use Rattle.graph_maker.specs.declared.made_error.MadeError.{MadeError}
use Rattle.graph_maker.specs.Refusals.{bad_from, bad_if, bad_line, cause_of, exception_in, has_room, lacking_at, next_stage, primitive_count, refusal_by, refusal_of, refused_from, refused_if}

-- a line that is passed has no cause, and nor has a later one
pub passed_on : (number : ℕ) (later : Option MadeError) (c : Option MadeCause) → refused_if number later c ≡ None
    → (c ≡ None) × (later ≡ None)
passed_on number later None h = (refl, h)
passed_on number later (Some c) h = cc

-- the end comes last
next_live : (s : Stage) (f : Form) (next : Stage) → next_stage s f ≡ Some next → (f ≡ form.End) ⊎ (next ≢ stage.Over)
next_live stage.Graph (form.Graph name) next h = inr (λ e. cc)
next_live stage.First (form.Exception name) next h = inr (λ e. cc)
next_live stage.More (form.Exception name) next h = inr (λ e. cc)
next_live stage.More form.End next h = inl refl
next_live _ _ next h = cc

none_lacking : (s : Stage) (number : ℕ) → lacking_at s number ≡ None → s ≡ stage.Over
none_lacking stage.Over number h = refl
none_lacking stage.Graph number h = cc
none_lacking stage.First number h = cc
none_lacking stage.More number h = cc

module _ (script : Script) (most : ℕ) where
  room_at : (b : Bool) → (if b then None else Some cause.Limit) ≡ None → b ≡ true
  room_at true h = refl
  room_at false h = cc

  room_from : (s : Stage) (passed number : ℕ) (lines : List Line) → s ≢ stage.Over → bad_from s number lines ≡ None
      → refused_from script most passed lines ≡ None → has_room (primitive_count script) most ≡ true
  room_from s passed number [] live bad free = absurd (live (none_lacking s number bad))
  room_from s passed number (line ∷ lines) live bad free =
      by (next_stage s line.form) refl bad (λ next. room_from next (passed + length (exception_in line.form)) (line.number + 1) lines)
    where
      parts : (cause_of script most passed line.form ≡ None)
          × (refused_from script most (passed + length (exception_in line.form)) lines ≡ None)
      parts =
          passed_on line.number (refused_from script most (passed + length (exception_in line.form)) lines)
          (cause_of script most passed line.form) free

      ends : line.form ≡ form.End → has_room (primitive_count script) most ≡ true
      ends e = room_at (has_room (primitive_count script) most) (subst (λ (f : Form). cause_of script most passed f ≡ None) e parts.0)

      by : (n : Option Stage) → next_stage s line.form ≡ n → bad_if line.number (λ next. bad_from next (line.number + 1) lines) n ≡ None
          →
          ((next : Stage) → next ≢ stage.Over → bad_from next (line.number + 1) lines ≡ None
          → refused_from script most (passed + length (exception_in line.form)) lines ≡ None
          → has_room (primitive_count script) most ≡ true)
          → has_room (primitive_count script) most ≡ true
      by None e b rest = cc
      by (Some next) e b rest =
          elim (next_live s line.form next e) [
            | inl ended ↦ ends ended
            | inr more ↦ rest next more b parts.1
          ]

  -- ---- a script that isn't refused

  pub none_bad : refusal_of script most ≡ None → (bad_line script ≡ None) × (refused_from script most 0 script.lines ≡ None)
  none_bad h = by (bad_line script) refl h
    where
      by : (o : Option ℕ) → bad_line script ≡ o → refusal_by (refused_from script most 0 script.lines) o ≡ None
          → (bad_line script ≡ None) × (refused_from script most 0 script.lines ≡ None)
      by None e g = (e, g)
      by (Some number) e g = cc

  -- it is of the shape
  pub not_bad : refusal_of script most ≡ None → bad_line script ≡ None
  not_bad h = (none_bad h).0

  -- its graph has room for the sets
  pub room : refusal_of script most ≡ None → has_room (primitive_count script) most ≡ true
  room h = let p = none_bad h in room_from stage.Graph 0 1 script.lines (λ e. cc) p.0 p.1
