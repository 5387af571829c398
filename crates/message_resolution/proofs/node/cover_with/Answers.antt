use Rattle.std.proofs.Common.{ℕ, List, ◌∷◌, Option, Some, None, All, ◌<◌, sym, subst}
use Rattle.cover_table.specs.Cover.{IsLeastCover}
use Rattle.cover_table.proofs.Orders.{least_cons}
use Rattle.core_words.specs.Joining.{as_list}
use Rattle.message_resolution.specs.Members.Nodes.{IsCoverOf}
use Rattle.message_resolution.proofs.node.cover_with.Goals as goal

pub returns : goal.returns
returns c = λ xs in_range is. by_cover c.args.cover xs in_range is c.joined.ensures where
  by_cover : (cover : Option ℕ) (xs : List ℕ) → All (λ x. x < c.args.graph.now.count) xs → IsCoverOf c.args.graph.now xs cover
      → IsLeastCover c.args.graph.now (c.args.exception ∷ as_list cover) c.joined.result
      → IsLeastCover c.args.graph.now (c.args.exception ∷ xs) c.joined.result
  by_cover None xs in_range none least =
      subst (λ ys. IsLeastCover c.args.graph.now (c.args.exception ∷ ys) c.joined.result) (sym none) least
  by_cover (Some y) xs in_range before both =
      least_cons c.args.graph.now c.args.exception xs y c.joined.result c.is_sound.ensures.sound.is_order in_range before both
