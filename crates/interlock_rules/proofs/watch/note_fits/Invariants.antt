use Rattle.std.proofs.Common.{◌≡◌, ℕ, ◌<◌, ◌≤◌, false, length, slice_index_or}
use Rattle.interlock_rules.specs.inner.Watched.{fit_after, no_part}
use Rattle.interlock_rules.proofs.watch.note_fits.Given as goal

abbrev pub invariant-loop-index : goal.invariant-loop-index
invariant-loop-index l = record {
  count : length l.fits.items ≡ length l.parts;
  done : (k : ℕ) → k < l.index
      → slice_index_or l.fits.items k false ≡ fit_after (slice_index_or l.parts k no_part) l.entry (slice_index_or l.initial.fits.items k false);
  rest : (k : ℕ) → l.index ≤ k → slice_index_or l.fits.items k false ≡ slice_index_or l.initial.fits.items k false;
}
