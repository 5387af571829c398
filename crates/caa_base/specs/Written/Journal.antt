-- What a journal is seen as.
use Rattle.std.specs.Prelude.{ℕ, List}
use Rattle.caa_base.specs.declared.written.entry.Entry.{Entry}

-- the entries, the oldest first, and how many it has memory for
pub record Entries : Type 0 where
  pub entries : List Entry
  pub room : ℕ
