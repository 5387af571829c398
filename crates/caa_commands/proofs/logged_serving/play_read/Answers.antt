use Rattle.std.proofs.Common.{Err, refl, sym, subst, ◌∙◌, inl, inr}
use Rattle.caa_base.specs.Outside.Counts.{CountsFault}
use Rattle.caa_base.specs.Outside.Reading.{is_fault, TookUntil}
use Rattle.caa_base.specs.declared.outside.reading.ReadError.{ReadError}
use Rattle.caa_base.specs.declared.outside.reading.ReadError.TheVariants as error
use Rattle.caa_commands.specs.OutsideUse.{SourceUse, source_use}
use Rattle.caa_commands.specs.Calls.{HasStopped}
use Rattle.caa_commands.specs.inner.Parts.{threaded_command}
use Rattle.caa_commands.proofs.CommandParts.{threaded_reads, threaded_most}
use Rattle.caa_commands.proofs.logged_serving.play_read.Goals as goal

-- a reading that failed has come to no end
stopped : (source : SourceUse) (e : ReadError) → CountsFault (is_fault {T = ReadError} (Err e)) source.faults_before source.faults_after
    → HasStopped source e
stopped source error.Fault count = count
stopped source error.TooLong count = count
stopped source error.OutOfMemory count = count

pub returns-in-Err-clause-came : goal.returns-in-Err-clause-came
returns-in-Err-clause-came g c =
    let source = source_use g.S.Source c.args.source.now c.read_all.new.source in
    inr (inr (inl (record {
      command = threaded_command c.args.command;
      given = refl;
      reads = threaded_reads c.args.command;
      error = c.in-Err.error;
      finding = c.unplayed.ensures.finding ∙ c.unread.ensures;
      taken = subst (λ most. TookUntil source.left_before source.left_after most c.in-Err.error) (sym (threaded_most c.args.command)) c.in-Err.ensures.taken;
      cause = stopped source c.in-Err.error c.in-Err.ensures.count;
      idle = c.unplayed.ensures.idle;
    })))
