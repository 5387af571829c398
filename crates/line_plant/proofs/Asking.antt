-- What an answer that isn't `well` comes to.
use Rattle.std.proofs.Common.{◌≡◌, ◌⊎◌, inl, inr, List, ℕ, subst}
use Rattle.caa_base.specs.declared.outside.source.Source.{Ghosts as SourceGhosts}
use Rattle.caa_base.specs.declared.outside.sink.Sink.{Ghosts as SinkGhosts}
use Rattle.line_plant.specs.declared.hearing.Answer.{Answer}
use Rattle.line_plant.specs.declared.hearing.Answer.TheVariants as answer
use Rattle.line_plant.specs.declared.wire.Wire.{Wire}
use Rattle.line_plant.specs.Wires.{AskCame}
use Rattle.line_plant.specs.Devices.{WasNotDone}

-- the answer is a refusal, or lost
pub was_not_done : {S K : Type 0} (sources : SourceGhosts S) (sinks : SinkGhosts K) (before after : Wire S K) (text : List ℕ) (a : Answer)
    → AskCame sources sinks before after text a → (a ≡ answer.Failed) ⊎ (a ≡ answer.Lost) → WasNotDone sources sinks before after text
was_not_done sources sinks before after text a came (inl is) = inl (subst (AskCame sources sinks before after text) is came)
was_not_done sources sinks before after text a came (inr is) = inr (subst (AskCame sources sinks before after text) is came)
