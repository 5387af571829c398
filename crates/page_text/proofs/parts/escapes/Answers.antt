use Rattle.std.proofs.Common.{◌<◌, arith}
use Rattle.std.proofs.lemmas.List.Elements.{All-from_get_or}
use Rattle.page_text.proofs.Harmless.{bytes_are_harmless}
use Rattle.page_text.proofs.parts.escapes.Goals as goal

pub returns : goal.returns
returns c = bytes_are_harmless c.args.bytes.now (All-from_get_or (λ b. b < 256) c.args.bytes.now 0 (λ i h. let fits = c.type_inv.bytes i in omega (arith, fits)))
