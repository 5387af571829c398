use Rattle.caa_c.proofs.Compiling.{planned_of, refused_of}
use Rattle.caa_c.proofs.opening.plan_of.Goals as goal

pub returns-in-Ok-clause-planned : goal.returns-in-Ok-clause-planned
returns-in-Ok-clause-planned c = planned_of c.in-Ok.ensures

pub returns-in_default : goal.returns-in_default
returns-in_default c = record {
  planned = tt;
  refused = (c.in_default.not-OutOfMemory, refused_of c.in-Err.ensures c.in_default.not-OutOfMemory);
}
